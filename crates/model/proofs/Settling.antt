-- What a call settles ?R of the procedure called to: the same in check and in a frame of the caller, read with the frame's set; and a set that a frame may hold.
use Prim.Native.Nat.{ℕ, zero, suc, ◌*◌, ◌/◌, ◌%◌}
use mathlib.Core.Path.{◌≡◌, refl, ap, ap₂, sym, subst, ◌∙◌}
use mathlib.Core.Bool.{Bool, true, false, false≢true, cond}
use mathlib.Core.List.{List, [], ◌∷◌, ◌++◌, map, map-append}
use native.Mathlib.Omega.{arith}
use lib.Dec.{eqb}
use borrow.Author.Tests.{eqb-true, eqb-false, eq-eqb, ne_eqb}
use Rattle.model.specs.Rights.{Rights, within, has, open_right, store_right, less_open}
use Rattle.model.specs.Qualified.{Qual, integer, array, declared, generic, rights, element, same, alike}
use Rattle.model.specs.Refusal.{span}
use Rattle.model.specs.Generic.{Bound, no_bound, at_least, bound_base, least, own, instance, read, uses, only, settles, settlings, first_or, settled, all_same, is_settled, is_enough}
use Rattle.model.proofs.Verdicts.{both_true}
use Rattle.model.proofs.Rights.{within_trans}
use Rattle.model.proofs.Order.{same_sound, same_refl}
use Rattle.model.proofs.Read.{Good, read_read, read_element, rights_up}

-- ---- Open left out

less_shut : (r : Rights) → has open_right (less_open r) ≡ false
unfolding has less_open
less_shut r = ne_eqb (2 * (r / 2) / 1 % 2) 1 (λ h. omega arith)

less_less : (r : Rights) → less_open (less_open r) ≡ less_open r
unfolding less_open
less_less r = omega arith

less_same : (r : Rights) → has open_right r ≡ false → less_open r ≡ r
unfolding has less_open
less_same r h = let n = eqb-false (r / 1 % 2) 1 h in omega arith

-- ---- Found by the actuals

only_map : (f : Qual → Qual) (t : Bool) (q p : Qual) → q ≡ f p → only t q ≡ map f (only t p)
unfolding only
only_map f true q p e = ap (λ (x : Qual). x ∷ []) e
only_map f false q p e = refl

span_map : (f : Qual → Qual) (h k : ℕ → List Qual) → ((j : ℕ) → h j ≡ map f (k j)) → (i n : ℕ) → span h i n ≡ map f (span k i n)
unfolding span
span_map f h k e i zero = refl
span_map f h k e i (suc n) = ap₂ {C = List Qual} (λ (xs ys : List Qual). xs ++ ys) (e i) (span_map f h k e (suc i) n) ∙ sym (map-append f (k i) (span k (suc i) n))

-- ρ is what ?R of the caller stands for: itself in check, its base with a set in a frame
module _ (b : Bound) (ρ : Qual) (plain : element ρ ≡ integer) (name : (t : ℕ) (l : Rights) → settles (generic t l) ρ ≡ only (eqb (bound_base b) t) ρ) where
  settles_read : (n q : Qual) → settles n (read ρ q) ≡ map (read ρ) (settles n (read (own b) q))
  unfolding settles read own
  settles_read integer q = refl
  settles_read (declared t r) q = refl
  settles_read (array r e) q =
      rw (read_element ρ plain q, read_element (own b) (unfold element in refl) q) (settles_read e (element q))
  settles_read (generic t l) integer = refl
  settles_read (generic t l) (array s f) = refl
  settles_read (generic t l) (declared u r) = only_map (read ρ) (eqb u t) (declared u (less_open r)) (declared u (less_open r)) refl
  settles_read (generic t l) (generic u m) = name t l ∙ only_map (read ρ) (eqb (bound_base b) t) ρ (own b) refl

  settlings_read :
      (n : ℕ) (need actual : ℕ → Qual) → settlings n need (λ j. read ρ (actual j)) ≡ map (read ρ) (settlings n need (λ j. read (own b) (actual j)))
  unfolding settlings
  settlings_read n need actual =
      span_map (read ρ) (λ j. settles (need j) (read ρ (actual j))) (λ j. settles (need j) (read (own b) (actual j))) (λ j. settles_read (need j) (actual j)) 0 n

-- ---- Settled by a call

settled_map : (ρ : Qual) (c : Bound) (found : List Qual) → settled c (map (read ρ) found) ≡ read ρ (settled c found)
unfolding settled first_or read instance
settled_map ρ no_bound found = refl
settled_map ρ (at_least t l) [] = refl
settled_map ρ (at_least t l) (q ∷ qs) = refl

all_same_map : (f : Qual → Qual) (p : Qual) (found : List Qual) → all_same p found ≡ true → all_same (f p) (map f found) ≡ true
unfolding all_same
all_same_map f p [] h = refl
all_same_map f p (q ∷ qs) h =
    let x = both_true (same p q) (all_same p qs) h in
    rw (sym (same_sound p q x.0), same_refl (f p)) (all_same_map f p qs x.1)

is_settled_map : (ρ : Qual) (c : Bound) (used : Bool) (found : List Qual) → is_settled c used found ≡ true → is_settled c used (map (read ρ) found) ≡ true
unfolding is_settled
is_settled_map ρ no_bound used found h = refl
is_settled_map ρ (at_least t l) used found h =
    let x = both_true used (all_same (settled (at_least t l) found) found) h in
    rw (x.0, settled_map ρ (at_least t l) found) (all_same_map (read ρ) (settled (at_least t l) found) found x.1)

-- a frame finds nothing but sets of the base of the rights name, open left out: each is its own `set_of`
abbrev set_of : Bound → Qual → Qual
set_of c q = instance c (less_open (rights q))

only_set : (c : Bound) (u : ℕ) (r : Rights) (t : Bool) → eqb u (bound_base c) ≡ t → only t (declared u (less_open r)) ≡ map (set_of c) (only t (declared u (less_open r)))
unfolding only instance rights
only_set c u r true e = rw (eqb-true u (bound_base c) e, less_less r)
only_set c u r false e = refl

first_set : (c : Bound) (found : List Qual) → found ≡ map (set_of c) found → settled c found ≡ instance c (rights (settled c found))
unfolding settled first_or instance rights
first_set no_bound found h = refl
first_set (at_least t l) [] h = refl
first_set (at_least t l) (q ∷ qs) h = let c = at_least t l in let e : q ≡ set_of c q = cc in e ∙ ap (instance c) (sym (ap rights e))

first_shut : (c : Bound) (found : List Qual) → found ≡ map (set_of c) found → has open_right (least c) ≡ false → has open_right (rights (settled c found)) ≡ false
unfolding settled first_or instance rights least
first_shut no_bound found h k = k
first_shut (at_least t l) [] h k = k
first_shut (at_least t l) (q ∷ qs) h k = let e : q ≡ set_of (at_least t l) q = cc in rw (ap rights e) (less_shut (rights q))

-- what the actuals of a call of a procedure with bound c, n formals and these needs settle in a frame with set z of a procedure with bound b
module _ (b : Bound) (z : Rights) (c : Bound) (n : ℕ) (need actual : ℕ → Qual) where
  abbrev pub frame_finds : List Qual
  frame_finds = settlings n (λ j. read (own c) (need j)) (λ j. read (instance b z) (actual j))

  set_frame : (m q : Qual) → settles (read (own c) m) (read (instance b z) q) ≡ map (set_of c) (settles (read (own c) m) (read (instance b z) q))
  unfolding settles read own instance
  set_frame integer q = refl
  set_frame (declared t r) q = refl
  set_frame (array r e) q =
      subst (λ (x : Qual). settles (read (own c) e) x ≡ map (set_of c) (settles (read (own c) e) x)) (sym (read_element (instance b z) (unfold element in refl) q))
      (set_frame e (element q))
  set_frame (generic t l) integer = refl
  set_frame (generic t l) (array s f) = refl
  set_frame (generic t l) (declared u r) = only_set c u r (eqb u (bound_base c)) refl
  set_frame (generic t l) (generic u m) = only_set c (bound_base b) z (eqb (bound_base b) (bound_base c)) refl

  sets_frame : frame_finds ≡ map (set_of c) frame_finds
  unfolding settlings
  sets_frame =
      let found : ℕ → List Qual = λ j. settles (read (own c) (need j)) (read (instance b z) (actual j)) in
      span_map (set_of c) found found (λ j. set_frame (need j) (actual j)) 0 n

  -- whatever set the frame holds, the call settles ?R to a set of its base
  pub settled_instance : settled c frame_finds ≡ instance c (rights (settled c frame_finds))
  settled_instance = first_set c frame_finds sets_frame

-- such a call, from a frame whose set is good
module _ (b : Bound) (z : Rights) (good : Good b z) (c : Bound) (n : ℕ) (need actual : ℕ → Qual) where
  abbrev by_check : List Qual
  by_check = settlings n (λ j. read (own c) (need j)) (λ j. read (own b) (actual j))

  abbrev pub by_frame : List Qual
  by_frame = frame_finds b z c n need actual

  found_check : by_check ≡ map (read (own b)) by_check
  found_check = settlings_read b (own b) (unfold own element in refl) (λ t l. unfold own settles in refl) n (λ j. read (own c) (need j)) actual

  found_frame : by_frame ≡ map (read (instance b z)) by_check
  found_frame = settlings_read b (instance b z) (unfold instance element in refl) name n (λ j. read (own c) (need j)) actual
    where
      name : (t : ℕ) (l : Rights) → settles (generic t l) (instance b z) ≡ only (eqb (bound_base b) t) (instance b z)
      name t l = unfold instance settles in (rw (less_same z good.shut))

  settled_check : read (own b) (settled c by_check) ≡ settled c by_check
  settled_check = sym (ap (settled c) found_check ∙ settled_map (own b) c by_check)

  settled_frame : settled c by_frame ≡ read (instance b z) (settled c by_check)
  settled_frame = ap (settled c) found_frame ∙ settled_map (instance b z) c by_check

  pub is_settled_frame : (used : Bool) → is_settled c used by_check ≡ true → is_settled c used by_frame ≡ true
  is_settled_frame used h = rw found_frame (is_settled_map (instance b z) c used by_check h)

  pub is_enough_frame : is_enough c by_check ≡ true → is_enough c by_frame ≡ true
  unfolding is_enough
  is_enough_frame h =
      rw settled_frame
      (within_trans (least c) (rights (settled c by_check)) (rights (read (instance b z) (settled c by_check))) h
      (subst (λ (q : Qual). within (rights q) (rights (read (instance b z) (settled c by_check))) ≡ true) settled_check (rights_up b z good (settled c by_check))))

  -- the set that the frame called holds
  abbrev pub set_called : Rights
  set_called = rights (settled c by_frame)

  frame_called : read (instance b z) (settled c by_check) ≡ instance c set_called
  frame_called = sym settled_frame ∙ settled_instance b z c n need actual

  pub good_called : has open_right (least c) ≡ false → is_enough c by_frame ≡ true → Good c set_called
  unfolding is_enough
  good_called k h = record { enough = h; shut = first_shut c by_frame (sets_frame b z c n need actual) k }

  -- a type of the procedure called, read with what the call settles: in check, and in a frame of the caller
  abbrev pub at_call : Qual → Qual
  at_call q = read (settled c by_check) (read (own c) q)

  pub call_check : (q : Qual) → read (own b) (at_call q) ≡ at_call q
  call_check q = read_read (own b) (settled c by_check) (read (own c) q) ∙ ap (λ (ρ : Qual). read ρ (read (own c) q)) settled_check

  pub call_frame : (q : Qual) → read (instance b z) (at_call q) ≡ read (instance c set_called) q
  call_frame q =
      read_read (instance b z) (settled c by_check) (read (own c) q) ∙ read_read (read (instance b z) (settled c by_check)) (own c) q
      ∙ ap (λ (ρ : Qual). read ρ q) (unfold read own in frame_called)

-- ---- "another shape or base, a caller's ?R's too, settles nothing and is 8 .. in that actual's movement"

-- what ?R of a procedure with this bound may be read as: a set of its base, or a caller's ?R of that base
pub data Reads (b : Bound) : Qual → Type 0 where
  a_set : (r : Rights) → Reads b (instance b r)
  a_name : (l : Rights) → Reads b (generic (bound_base b) l)

abbrev pub Found : List Qual → Type 0
Found [] = ⊥
Found (q ∷ qs) = Unit {0}

module _ (b : Bound) where
  only_found : (t u : ℕ) (q : Qual) → u ≡ t → Found (only (eqb u t) q)
  unfolding only
  only_found t u q e = rw (eq-eqb u t e) tt

  -- a type that uses ?R, read so, settles it
  read_settles : {ρ : Qual} → Reads b ρ → (n : Qual) → uses n ≡ true → Found (settles (read (own b) n) (read ρ n))
  unfolding uses settles read own instance element
  read_settles h integer u = absurd (false≢true u)
  read_settles h (declared t r) u = absurd (false≢true u)
  read_settles h (array r e) u = read_settles h e u
  read_settles (a_set r) (generic t l) u = only_found (bound_base b) (bound_base b) _ refl
  read_settles (a_name m) (generic t l) u = only_found (bound_base b) (bound_base b) _ refl

  -- a movement of an actual into a need that uses ?R is alike only if the actual settles it
  pub alike_settles : {ρ : Qual} → Reads b ρ → (n q : Qual) → uses n ≡ true → alike q (read ρ n) ≡ true → Found (settles (read (own b) n) q)
  unfolding uses settles read own instance element alike
  alike_settles h integer q u a = absurd (false≢true u)
  alike_settles h (declared t r) q u a = absurd (false≢true u)
  alike_settles {ρ} h (array r e) (array s f) u a =
      either_settles (has store_right r) (λ x. rw (same_sound f (read ρ e) x) (read_settles h e u)) (λ x. alike_settles h e f u (both_true (alike f (read ρ e)) _ x).0) a
    where
      either_settles : (t : Bool) {x y : Bool} {A : Type 0} → (x ≡ true → A) → (y ≡ true → A) → cond t x y ≡ true → A
      either_settles true p q k = p k
      either_settles false p q k = q k
  alike_settles h (array r e) integer u a = absurd (false≢true a)
  alike_settles h (array r e) (declared t s) u a = absurd (false≢true a)
  alike_settles h (array r e) (generic t s) u a = absurd (false≢true a)
  alike_settles (a_set r) (generic t l) (declared v s) u a = only_found (bound_base b) v _ (eqb-true v (bound_base b) a)
  alike_settles (a_set r) (generic t l) (generic v s) u a = only_found (bound_base b) v _ (eqb-true v (bound_base b) a)
  alike_settles (a_set r) (generic t l) integer u a = absurd (false≢true a)
  alike_settles (a_set r) (generic t l) (array s f) u a = absurd (false≢true a)
  alike_settles (a_name m) (generic t l) (declared v s) u a = only_found (bound_base b) v _ (eqb-true v (bound_base b) a)
  alike_settles (a_name m) (generic t l) (generic v s) u a = only_found (bound_base b) v _ (eqb-true v (bound_base b) (both_true (eqb v (bound_base b)) (eqb s m) a).0)
  alike_settles (a_name m) (generic t l) integer u a = absurd (false≢true a)
  alike_settles (a_name m) (generic t l) (array s f) u a = absurd (false≢true a)
