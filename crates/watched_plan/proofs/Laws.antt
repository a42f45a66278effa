-- The watched machine's plans, by what the words that an instruction reads are known to be.
use Rattle.std.proofs.Common.{◌≡◌, ℕ, ◌+◌, ◌%◌, ◌^◌, ◌<◌, Bool, true, false, cond, ◌&&◌, ◌||◌, eqb, ltb, ◌⊎◌, List, get_or, sym, refl, ap, ◌∙◌, inl, inr, mod-lt, arith, pow_pos, eq-eqb, eqb-true, Result, Ok, Err}
use native.Mathlib.Nat.{div-eq_of_lt}
use mathlib.Core.Bool.{false≢true}
use lib.Bits.{and_mask}
use borrow.Author.Tests.{eqb-false}
use Rattle.model.specs.declared.Halt.{Halt}
use Rattle.model.specs.declared.Halt.TheVariants.{Blank, PastEnd, WrongKind, MissingRight}
use Rattle.model.specs.Rights.{Rights, within, has, none_above, record_rights, fetch_right, store_right, size_right, open_right}
use Rattle.model.specs.Qualified.{Qual, integer, array, declared, generic, rights, element, is_integer, is_array}
use Rattle.model.specs.Outcome.{blank, past_end, wrong_kind, missing_right, Res, ok, stop, stuck, ◌>>=◌, ◌>>◌, ensure}
use Rattle.model.specs.Generic.{read}
use Rattle.model.specs.Program.{Program}
use Rattle.model.specs.Rules.{owned_by}
use Rattle.model.specs.Modes.{watched, Kind, array_kind, record_kind, amiss, demand, licence, is_of, fits, bind, bind_element}
use Rattle.model.specs.Machine.{Value, word, Cell, empty, filled, Head, View, Effect, write, held, as_integer, array_head_of, record_head_of, array_at, record_at, read_in, declared_as, moved, give, gives, integers, one_integer, slot_there, plan, plan_fetch, plan_store, plan_size, plan_get, plan_set}
use Rattle.model.proofs.Verdicts.{both_true}
use Rattle.model.proofs.Order.{elements_refl}
use Rattle.model.proofs.Rights.{within_refl, within_all}
use Rattle.sheet.specs.Layout.{inner_at, slot_of}
use Rattle.sheet.specs.Meaning.{qual_of, program_of}
use Rattle.index.specs.Types.{qual_in, named_as, type_in}
use Rattle.index.specs.Indexed.{Ready}
use Rattle.index.specs.Scope.{inner_as}
use Rattle.index.specs.declared.procedures.Scope.{Scope}
use Rattle.index.proofs.Reading.{type_integer, type_array, type_read, inner_read, slot_read, inner_type, slot_type}
use Rattle.words.specs.Word.{tag, low, payload, size_of, info_of as kind-number, cell, slot_in, as_head}
use Rattle.words.specs.Sees.{head_size, Sees}
use Rattle.words.specs.Answer.{read_filled}
use Rattle.words.specs.Answers.{MovedOk, InObject, StoredOk, halted, number_as, given, moved_to, stored}
use Rattle.words.specs.declared.Stored.{Stored}
use Rattle.words.proofs.Laws.{told_blank, told_filled, blank_word, slot_array, slot_record}
use Rattle.binding.specs.Binds.{InScope, Heads, moved_cell}
use Rattle.binding.proofs.Views.{ValueOf, integer_in, object_in, value_word, CellOf, blank_in, cell_word, HeadOf, array_in, record_in, no_head_in, head_word}
use Rattle.binding.proofs.Laws.{bound, bound_misfit, halted_then}
use Rattle.watched_plan.specs.Spots.{pair_as, element_in, element_as, slot_as, SpotOk, storing, made, index_of, element_at, slot_of_record, slot_at, size_for}
use Rattle.watched_plan.specs.declared.Spot.{Spot}
use Rattle.model.specs.declared.Operation.TheVariants as Op

-- the type of variable a, by its number in the index, as the scope reads it
module _ (s : List ℕ) (p : Scope) (a : ℕ) {t : List ℕ} {q : ℕ} (ready : Ready s t) (is : q ≡ inner_at s p.start a) where
  pub type_in_lem : type_in t p.name q ≡ inner_as s p a
  type_in_lem = ap (type_in t p.name) is ∙ inner_type ready p a

  -- an integer, an array: not by ?R
  pub integer_in_type : is_integer (qual_in t q) ≡ is_integer (inner_as s p a)
  integer_in_type = sym (type_integer t p.name q) ∙ ap is_integer type_in_lem

  pub array_in_type : is_array (qual_in t q) ≡ is_array (inner_as s p a)
  array_in_type = sym (type_array t p.name q) ∙ ap is_array type_in_lem

  pub declared_type : (v : View watched) → InScope s v p → declared_as watched (program_of s) v a ≡ type_in t p.name q
  declared_type v in_scope = sym (type_in_lem ∙ inner_read in_scope a)

-- the element of that type, by the number that stands for it
pub declared_element : (s : List ℕ) (v : View watched) (p : Scope) {t : List ℕ} → Ready s t → InScope s v p → (a e : ℕ)
    → read (named_as p.name) (qual_of s e) ≡ element (inner_as s p a) → element (declared_as watched (program_of s) v a) ≡ type_in t p.name e
declared_element s v p ready in_scope a e means = sym (type_read ready p.name e ∙ means ∙ ap element (inner_read in_scope a))

-- the type of a slot of the owner's, in the same way
pub slot_declared : (s : List ℕ) (v : View watched) {p : Scope} {t : List ℕ} {q : ℕ} → Ready s t → InScope s v p → (o k : ℕ) → q ≡ slot_of s o k
    → read_in watched (program_of s) v v.procedure v.set_held ((program_of s).slot o k) ≡ type_in t p.name q
slot_declared s v {p} {t} ready in_scope o k is = sym (ap (type_in t p.name) is ∙ slot_type ready p o k ∙ slot_read in_scope o k)

-- ---- one test after another

bind_assoc : {A B C : Type 0} (r : Res A) (f : A → Res B) (k : B → Res C) → ((r >>= f) >>= k) ≡ (r >>= λ a. f a >>= k)
unfolding ◌>>=◌
bind_assoc (ok a) f k = refl
bind_assoc (stop s) f k = refl
bind_assoc stuck f k = refl

then_assoc : {A B C : Type 0} (r : Res A) (t : Res B) (k : B → Res C) → ((r >> t) >>= k) ≡ (r >> (t >>= k))
unfolding ◌>>=◌ ◌>>◌
then_assoc (ok a) t k = refl
then_assoc (stop s) t k = refl
then_assoc stuck t k = refl

bind_ok : {A B : Type 0} (a : A) (f : A → Res B) → (ok a >>= f) ≡ f a
unfolding ◌>>=◌
bind_ok a f = refl

-- ---- variables by their words

-- a filled cell, by its word
pub data Found (q : ℕ → Qual) (y : ℕ) : Cell watched → Type 0 where
  found : (x : Value) (m : ℕ) → slot_in watched q y ≡ cell (filled x m) → Found q y (filled x m)

found_word : (q : ℕ → Qual) (w : ℕ) (c : Cell watched) → (w ≡ 0 → ⊥) → slot_in watched q w ≡ cell c → Found q w c
found_word q w c not0 e = by c (cell_word q w c e) e
  where
    by : (d : Cell watched) → CellOf w d → slot_in watched q w ≡ cell d → Found q w d
    by empty (blank_in z) k = absurd (not0 z)
    by (filled x m) r k = found x m k

module _ {q : ℕ → Qual} {v : View watched} {f h : List ℕ} (s : Sees watched q v f h) {x w : ℕ} (at : w ≡ get_or f x 0) where
  pub zero_seen : w ≡ 0 → v.variable x ≡ empty
  zero_seen = blank_word watched q w (ap (slot_in watched q) at ∙ s.variable x)

  word_seen : (w ≡ 0 → ⊥) → Found q w (v.variable x)
  word_seen not0 = found_word q w (v.variable x) not0 (ap (slot_in watched q) at ∙ s.variable x)

-- an integer's word is not blank
tagged : (w : ℕ) → tag w ≡ 1 → w ≡ 0 → ⊥
unfolding tag
tagged w t z = omega arith

pub word_found : {q : ℕ → Qual} {v : View watched} {f h : List ℕ} (s : Sees watched q v f h) {x w y : ℕ} → w ≡ get_or f x 0 → (y ≡ w) × (w ≡ 0 → ⊥) → Found q y (v.variable x)
word_found {q} {v} s {x} {w} {y} at k = found_word q y (v.variable x) (λ z. k.1 (sym k.0 ∙ z)) (ap (slot_in watched q) (k.0 ∙ at) ∙ s.variable x)

module _ {q : ℕ → Qual} {v : View watched} {f h : List ℕ} (s : Sees watched q v f h) {x w : ℕ} {r : Result ℕ Halt} (at : w ≡ get_or f x 0) (is : r ≡ read_filled w) where
  pub blank_seen : {k : Halt} → r ≡ Err k → (k ≡ Blank) × (v.variable x ≡ empty)
  blank_seen told = let k = told_blank is told in (k.0, zero_seen s at k.1)

  pub filled_seen : {y : ℕ} → r ≡ Ok y → Found q y (v.variable x)
  filled_seen told = word_found s at (told_filled is told)

-- ---- integers

module _ (q : ℕ → Qual) (w : ℕ) {x : Value} {m : ℕ} (e : slot_in watched q w ≡ cell (filled x m)) where
  pub integer_is : {n : ℕ} → n ≡ low w → tag w ≡ 1 → number_as watched (Ok n) ≡ as_integer watched x
  unfolding number_as as_integer
  integer_is {n} is t = by (value_word q w x m e)
    where
      by : {y : Value} {k : ℕ} → ValueOf w y k → ok n ≡ as_integer watched y
      by (integer_in i) = rw is
      by (object_in i) = absurd (omega arith)

  pub no_integer : (tag w ≡ 1 → ⊥) → number_as watched (Err WrongKind) ≡ as_integer watched x
  unfolding number_as halted as_integer amiss
  no_integer not1 = by (value_word q w x m e)
    where
      by : {y : Value} {k : ℕ} → ValueOf w y k → stop wrong_kind ≡ as_integer watched y
      by (integer_in i) = absurd (not1 i)
      by (object_in i) = refl

module _ (g : Program) (v : View watched) (b : ℕ) where
  pub one_blank : v.variable b ≡ empty → number_as watched (Err Blank) ≡ one_integer watched g v b
  unfolding one_integer number_as halted held ◌>>=◌
  one_blank e = rw e

  pub one_found : {q : ℕ → Qual} {y : ℕ} (n : Result ℕ Halt) → Found q y (v.variable b)
      → ((x : Value) (m : ℕ) → slot_in watched q y ≡ cell (filled x m) → number_as watched n ≡ as_integer watched x)
      → number_as watched n ≡ one_integer watched g v b
  unfolding one_integer held ◌>>=◌
  one_found {q} {y} n here is = by here
    where
      by : {c : Cell watched} → Found q y c → number_as watched n ≡ (held c >>= λ x. as_integer watched x.0)
      by (found x m e) = is x m e

-- by the word that a variable has
module _ {q : ℕ → Qual} {v : View watched} {f h : List ℕ} (s : Sees watched q v f h) (g : Program) (b : ℕ) {w : ℕ} {t : Bool} (at : w ≡ get_or f b 0) (is : t ≡ eqb (tag w) 1) where
  pub one_word : {n : ℕ} → n ≡ low w → t ≡ true → number_as watched (Ok n) ≡ one_integer watched g v b
  one_word n told = one_found g v b _ (word_seen s at (tagged w (eqb-true _ 1 (sym is ∙ told)))) (λ x m e. integer_is q w e n (eqb-true _ 1 (sym is ∙ told)))

  pub no_word : {k : Halt} → t ≡ false → k ≡ cond (eqb w 0) Blank WrongKind → number_as watched (Err k) ≡ one_integer watched g v b
  no_word {k} told why = go (eqb w 0) refl
    where
      go : (z : Bool) → eqb w 0 ≡ z → number_as watched (Err k) ≡ one_integer watched g v b
      go true e = rw (why, e) (one_blank g v b (zero_seen s at (eqb-true w 0 e)))
      go false e = rw (why, e) (one_found g v b (Err WrongKind) (word_seen s at (eqb-false w 0 e)) (λ x m k. no_integer q w k (eqb-false _ 1 (sym is ∙ told))))

-- the two that an instruction reads, b before c
module _ (g : Program) (v : View watched) (b c : ℕ) where
  pub first_blank : v.variable b ≡ empty → pair_as (Err Blank) ≡ integers watched g v b c
  unfolding integers pair_as halted held ◌>>=◌
  first_blank e = rw e

  abbrev both : Cell watched → Cell watched → Res (ℕ × ℕ)
  both d e = do
    x ← held d
    y ← held e
    i ← as_integer watched x.0
    j ← as_integer watched y.0
    ok (i, j)

  pub second_blank : {q : ℕ → Qual} {x : ℕ} → Found q x (v.variable b) → v.variable c ≡ empty → pair_as (Err Blank) ≡ integers watched g v b c
  unfolding integers pair_as halted held ◌>>=◌
  second_blank {q} {x} here e = rw e (by here)
    where
      by : {d : Cell watched} → Found q x d → stop blank ≡ both d empty
      by (found z m k) = refl

  module _ {q : ℕ → Qual} {x y : ℕ} {t u : Bool} (one : Found q x (v.variable b)) (two : Found q y (v.variable c)) (tx : t ≡ eqb (tag x) 1) (ty : u ≡ eqb (tag y) 1) where
    pub two_words : {m n : ℕ} → m ≡ low x → n ≡ low y → t && u ≡ true → pair_as (Ok (m, n)) ≡ integers watched g v b c
    unfolding integers pair_as held as_integer ◌>>=◌
    two_words {m} {n} is_m is-n told = by one two
      where
        tests : (tag x ≡ 1) × (tag y ≡ 1)
        tests = let k = both_true t u told in (eqb-true _ 1 (sym tx ∙ k.0), eqb-true _ 1 (sym ty ∙ k.1))

        inner : {z w : Value} {k l : ℕ} → ValueOf x z k → ValueOf y w l → ◌≡◌ {A = Res (ℕ × ℕ)} (ok (m, n)) (as_integer watched z >>= λ i. as_integer watched w >>= λ j. ok (i, j))
        inner (integer_in i) (integer_in j) = rw (is_m, is-n)
        inner (object_in i) r = let k = tests.0 in absurd (omega arith)
        inner (integer_in i) (object_in j) = let k = tests.1 in absurd (omega arith)

        by : {d e : Cell watched} → Found q x d → Found q y e → ok (m, n) ≡ both d e
        by (found z k a) (found w l b) = inner (value_word q x z k a) (value_word q y w l b)

    pub not_two_words : t && u ≡ false → pair_as (Err WrongKind) ≡ integers watched g v b c
    unfolding integers pair_as halted held as_integer amiss ◌>>=◌
    not_two_words told = by one two
      where
        inner : {z w : Value} {k l : ℕ} → ValueOf x z k → ValueOf y w l → ◌≡◌ {A = Res (ℕ × ℕ)} (stop wrong_kind) (as_integer watched z >>= λ i. as_integer watched w >>= λ j. ok (i, j))
        inner (integer_in i) (integer_in j) = absurd (false≢true (sym (rw (tx, ty, i, j) at told)))
        inner (object_in i) r = refl
        inner (integer_in i) (object_in j) = refl

        by : {d e : Cell watched} → Found q x d → Found q y e → stop wrong_kind ≡ both d e
        by (found z k a) (found w l b) = inner (value_word q x z k a) (value_word q y w l b)

-- by the words that they have
module _ {q : ℕ → Qual} {v : View watched} {f h : List ℕ} (s : Sees watched q v f h) (g : Program) (b c : ℕ) {x y : ℕ} {t u : Bool}
    (at_b : x ≡ get_or f b 0) (at_c : y ≡ get_or f c 0) (tx : t ≡ eqb (tag x) 1) (ty : u ≡ eqb (tag y) 1) where
  pub both_words : {m n : ℕ} → m ≡ low x → n ≡ low y → t && u ≡ true → pair_as (Ok (m, n)) ≡ integers watched g v b c
  both_words m n told =
      let k = both_true t u told in
      two_words g v b c (word_seen s at_b (tagged x (eqb-true _ 1 (sym tx ∙ k.0)))) (word_seen s at_c (tagged y (eqb-true _ 1 (sym ty ∙ k.1)))) tx ty m n told

  pub no_words : {n : Halt} → t && u ≡ false → n ≡ cond (eqb x 0 || eqb y 0) Blank WrongKind → pair_as (Err n) ≡ integers watched g v b c
  no_words {n} told why = go (eqb x 0) refl (eqb y 0) refl
    where
      go : (i : Bool) → eqb x 0 ≡ i → (j : Bool) → eqb y 0 ≡ j → pair_as (Err n) ≡ integers watched g v b c
      go true e j k = rw (why, e) (first_blank g v b c (zero_seen s at_b (eqb-true x 0 e)))
      go false e true k = rw (why, e, k) (second_blank g v b c (word_seen s at_b (eqb-false x 0 e)) (zero_seen s at_c (eqb-true y 0 k)))
      go false e false k = rw (why, e, k) (not_two_words g v b c (word_seen s at_b (eqb-false x 0 e)) (word_seen s at_c (eqb-false y 0 k)) tx ty told)

-- ---- rights

above_none : (n : ℕ) (a : Rights) → within a (record_rights n) ≡ true → none_above n a ≡ true
unfolding within none_above record_rights
above_none n a h =
    let e : a % 2 ^ (n + 1) ≡ a = sym (and_mask a (n + 1)) ∙ eqb-true _ a h in
    let l : a < 2 ^ (n + 1) = rw e at (mod-lt a (pow_pos (n + 1))) in
    eq-eqb _ 0 (div-eq_of_lt l)

-- ---- an integer on its way into a variable

no_rights : (q : Qual) → is_integer q ≡ true → rights q ≡ 0
unfolding is_integer rights
no_rights integer e = refl
no_rights (array r f) e = absurd (false≢true e)
no_rights (declared t r) e = absurd (false≢true e)
no_rights (generic t l) e = absurd (false≢true e)

module _ (g : Program) (v : View watched) (a n : ℕ) {q : Qual} (is : declared_as watched g v a ≡ q) where
  pub gives_integer : is_integer q ≡ true → given watched a (Ok n) ≡ gives watched g v a n
  unfolding given gives give fits ◌>>=◌
  gives_integer e =
      let enough : within (rights q) 0 ≡ true = rw (no_rights q e) (within_refl 0) in
      let here : moved watched g v q (filled (word n) 0) ≡ ok (filled (word n) 0) = bound g v q (word n) 0 e enough ∙ rw (no_rights q e) in
      rw (is, here)

  pub gives_misfit : is_integer q ≡ false → given watched a (Err WrongKind) ≡ gives watched g v a n
  unfolding given halted amiss gives give fits ◌>>=◌
  gives_misfit e = rw (is, bound_misfit g v q (word n) 0 e)

-- an instruction that computes one from two
module _ (g : Program) (v : View watched) (a b c : ℕ) (op : ℕ → ℕ → ℕ) {r : Result (ℕ × ℕ) Halt} (is : pair_as r ≡ integers watched g v b c) where
  pub computed : {p : ℕ × ℕ} {k : ℕ} (x : Result ℕ Halt) → r ≡ Ok p → k ≡ op p.0 p.1 → given watched a x ≡ gives watched g v a k
      → given watched a x ≡ (integers watched g v b c >>= λ p. gives watched g v a (op p.0 p.1))
  unfolding pair_as ◌>>=◌
  computed x told same e = e ∙ rw (same, sym is, told)

  pub not_computed : {k : Halt} → r ≡ Err k → given watched a (Err k) ≡ (integers watched g v b c >>= λ p. gives watched g v a (op p.0 p.1))
  unfolding pair_as given
  not_computed {k} told = rw (sym is, told) (sym (halted_then k _))

-- ---- moving a cell

pub moved_into : (q : ℕ → Qual) (a : ℕ) (r : Result ℕ Halt) → moved_to watched q a r ≡ (moved_cell q r >>= λ d. ok (write a d))
unfolding moved_to moved_cell ◌>>=◌
moved_into q a (Ok w) = refl
moved_into q a (Err k) = sym (halted_then k _)

pub bind_plan : (q : ℕ → Qual) (g : Program) (v : View watched) (a b : ℕ) (r : Result ℕ Halt) {t : Qual}
    → declared_as watched g v a ≡ t → moved_cell q r ≡ moved watched g v t (v.variable b) → moved_to watched q a r ≡ plan watched g v (Op.Bind a b)
unfolding plan
bind_plan q g v a b r is e = moved_into q a r ∙ rw (e, is)

-- ---- the head at a name, by its word

module _ (q : ℕ → Qual) (v : View watched) (h : List ℕ) (x : ℕ) {o w : ℕ} (heads : Heads q v h)
    (name : o ≡ payload x) (at : w ≡ get_or h o 0) where
  head_seen : as_head (slot_in watched q w) ≡ v.head (payload x)
  head_seen = ap (λ (z : ℕ). as_head (slot_in watched q z)) (at ∙ ap (λ (z : ℕ). get_or h z 0) name) ∙ heads (payload x)

-- a cell below the size in the head is one of the object's
inside_head : (h : List ℕ) (o w i : ℕ) → w ≡ get_or h o 0 → (tag w ≡ 3) ⊎ (tag w ≡ 4) → i < size_of w → InObject h o i
inside_head h o w i at (inl t) below = record { size = size_of w; head = λ m q. rw (sym at, slot_array m q w t); below = below }
inside_head h o w i at (inr t) below = record { size = size_of w; head = λ m q. rw (sym at, slot_record m q w t); below = below }

-- the three tests of the code
three_true : (a b c : Bool) → (a && b) && c ≡ true → (a ≡ true) × (b ≡ true) × (c ≡ true)
three_true a b c e =
    let k = both_true (a && b) c e in
    let l = both_true a b k.0 in
    (l.0, l.1, k.1)

pub inside_array : (h : List ℕ) (o w i : ℕ) {n : ℕ} (a c : Bool) {t : Bool} → w ≡ get_or h o 0 → t ≡ eqb (tag w) 3 → (a && t) && c ≡ true → n ≡ size_of w → i < n → InObject h o i
inside_array h o w i a c {t} at is holds size below =
    inside_head h o w i at (inl (eqb-true _ 3 (sym is ∙ (three_true a t c holds).1))) (rw size at below)

pub inside_record : (h : List ℕ) (o w i : ℕ) {n : ℕ} (a c : Bool) {t : Bool} → w ≡ get_or h o 0 → t ≡ eqb (tag w) 4 → (a && t) && c ≡ true → n ≡ size_of w → i < n → InObject h o i
inside_record h o w i a c {t} at is holds size below =
    inside_head h o w i at (inr (eqb-true _ 4 (sym is ∙ (three_true a t c holds).1))) (rw size at below)

-- ---- an array's element

module _ (g : Program) (v : View watched) (q : ℕ → Qual) (right x y w : ℕ) where
  index_amiss : {z u : Value} {m n : ℕ} {d : Head watched} → ValueOf x z m → ValueOf y u n → HeadOf q w d → d ≡ v.head (payload x)
      → (eqb (tag x) 2 && eqb (tag w) 3) && eqb (tag y) 1 ≡ false → stop wrong_kind ≡ index_of g v right z m u
  unfolding index_of array_at array_head_of as_integer amiss ◌>>=◌
  index_amiss (integer_in i) r k e fails = refl
  index_amiss (object_in i) r (record_in t) e fails = rw (sym e)
  index_amiss (object_in i) r (no_head_in a b) e fails = rw (sym e)
  index_amiss (object_in i) (object_in j) (array_in t) e fails = rw (sym e)
  index_amiss (object_in i) (integer_in j) (array_in t) e fails = absurd (false≢true (sym (rw (i, t, j) at fails)))

  index_there : {z u : Value} {m n : ℕ} {d : Head watched} → ValueOf x z m → ValueOf y u n → HeadOf q w d → d ≡ v.head (payload x)
      → (tag x ≡ 2) × (tag w ≡ 3) × (tag y ≡ 1)
      → (ensure missing_right (has right (low x)) >> (ensure past_end (ltb (low y) (size_of w)) >> ok (payload x, element_in q w, low y))) ≡ index_of g v right z m u
  unfolding index_of array_at array_head_of as_integer licence ◌>>=◌
  index_there (object_in i) (integer_in j) (array_in t) e tags = rw (sym e)
  index_there (integer_in i) r k e tags = let l = tags.0 in absurd (omega arith)
  index_there (object_in i) (object_in j) k e tags = let l = tags.2 in absurd (omega arith)
  index_there (object_in i) (integer_in j) (record_in t) e tags = let l = tags.1 in absurd (omega arith)
  index_there (object_in i) (integer_in j) (no_head_in a b) e tags = absurd (a tags.1)

module _ (g : Program) (v : View watched) (q : ℕ → Qual) (h : List ℕ) (right x y : ℕ) {o w : ℕ} {z u : Value} {m n : ℕ} {tx th ty : Bool}
    (heads : Heads q v h)
    (first : slot_in watched q x ≡ cell (filled z m)) (second : slot_in watched q y ≡ cell (filled u n))
    (name : o ≡ payload x) (at : w ≡ get_or h o 0)
    (t-x : tx ≡ eqb (tag x) 2) (t-h : th ≡ eqb (tag w) 3) (t-y : ty ≡ eqb (tag y) 1) where
  pub index_misfit : (tx && th) && ty ≡ false → element_as q h (Err WrongKind) ≡ index_of g v right z m u
  unfolding element_as halted amiss
  index_misfit fails =
      index_amiss g v q right x y w (value_word q x z m first) (value_word q y u n second) (head_word q w) (head_seen q v h x heads name at) (rw (t-x, t-h, t-y) at fails)

  index_is : (tx && th) && ty ≡ true
      → (ensure missing_right (has right (low x)) >> (ensure past_end (ltb (low y) (size_of w)) >> ok (payload x, element_in q w, low y))) ≡ index_of g v right z m u
  index_is holds =
      let k = three_true tx th ty holds in
      index_there g v q right x y w (value_word q x z m first) (value_word q y u n second) (head_word q w) (head_seen q v h x heads name at)
      (eqb-true _ 2 (sym t-x ∙ k.0), eqb-true _ 3 (sym t-h ∙ k.1), eqb-true _ 1 (sym t-y ∙ k.2))

  module _ {l : ℕ} {b : Bool} (holds : (tx && th) && ty ≡ true) (is-l : l ≡ low x) (is_b : b ≡ has right l) where
    pub index_without : b ≡ false → element_as q h (Err MissingRight) ≡ index_of g v right z m u
    unfolding element_as halted ensure ◌>>◌
    index_without fails =
        let e : has right (low x) ≡ false = ap (has right) (sym is-l) ∙ sym is_b ∙ fails in
        (rw e at (index_is holds))

    pub index_past : {i k : ℕ} → b ≡ true → i ≡ low y → k ≡ size_of w → ltb i k ≡ false → element_as q h (Err PastEnd) ≡ index_of g v right z m u
    unfolding element_as halted ensure ◌>>◌
    index_past {i} {k} licensed is-i is-k past =
        let e : has right (low x) ≡ true = ap (has right) (sym is-l) ∙ sym is_b ∙ licensed in
        let p : ltb (low y) (size_of w) ≡ false = rw (is-i, is-k) at past in
        (rw (e, p) at (index_is holds))

    pub index_at : {i k : ℕ} → b ≡ true → i ≡ low y → k ≡ size_of w → ltb i k ≡ true → element_as q h (Ok (record { object = o; cell = i })) ≡ index_of g v right z m u
    unfolding element_as ensure ◌>>◌
    index_at {i} {k} licensed is-i is-k below =
        let e : has right (low x) ≡ true = ap (has right) (sym is-l) ∙ sym is_b ∙ licensed in
        let p : ltb (low y) (size_of w) ≡ true = rw (is-i, is-k) at below in
        rw (sym at, name, is-i) (rw (e, p) at (index_is holds))

-- of the cells of two variables
module _ (g : Program) (v : View watched) (q : ℕ → Qual) (h : List ℕ) (right b c : ℕ) where
  pub element_blank : v.variable b ≡ empty → element_as q h (Err Blank) ≡ element_at g v right b c
  unfolding element_as halted element_at held ◌>>=◌
  element_blank e = rw e

  pub element_blank_index : {x : ℕ} → Found q x (v.variable b) → v.variable c ≡ empty → element_as q h (Err Blank) ≡ element_at g v right b c
  unfolding element_as halted element_at held ◌>>=◌
  element_blank_index {x} here e = rw e (by here)
    where
      by : {d : Cell watched} → Found q x d → ◌≡◌ {A = Res (ℕ × Qual × ℕ)} (stop blank) (held d >>= λ x. held {m = watched} empty >>= λ y. index_of g v right x.0 x.1 y.0)
      by (found z m k) = refl

  pub element_found : {x y : ℕ} (r : Result Spot Halt) → Found q x (v.variable b) → Found q y (v.variable c)
      → ((z u : Value) (m n : ℕ) → slot_in watched q x ≡ cell (filled z m) → slot_in watched q y ≡ cell (filled u n) → element_as q h r ≡ index_of g v right z m u)
      → element_as q h r ≡ element_at g v right b c
  unfolding element_at held ◌>>=◌
  element_found {x} {y} r one two is = by one two
    where
      by : {d e : Cell watched} → Found q x d → Found q y e
          → element_as q h r ≡ (held d >>= λ x. held e >>= λ y. index_of g v right x.0 x.1 y.0)
      by (found z m k) (found u n l) = is z u m n k l

-- ---- fetch and store: an element, and what comes after it

-- bound to the element of the array variable's type, then to a's
abbrev fetched : Program → View watched → (e q : Qual) → Cell watched → Res (Cell watched)
fetched g v e q c = moved watched g v e c >>= λ d. moved watched g v q d

fetch_plan : (g : Program) (v : View watched) (a b c : ℕ)
    → plan watched g v (Op.Fetch a b c)
    ≡ (element_at g v fetch_right b c >>= λ p. fetched g v (element (declared_as watched g v b)) (declared_as watched g v a) (v.cell p.0 p.2) >>= λ d. ok (write a d))
unfolding plan plan_fetch element_at index_of
fetch_plan g v a b c = sym (simp (bind_assoc, then_assoc, bind_ok))

store_plan : (g : Program) (v : View watched) (a b c : ℕ)
    → plan watched g v (Op.Store a b c)
    ≡ (element_at g v store_right a b >>= λ p. storing p.0 p.2 (moved watched g v p.1 (v.variable c)))
unfolding plan plan_store element_at index_of storing moved bind_element
store_plan g v a b c = sym (simp (bind_assoc, then_assoc, bind_ok))

-- the cell of an object that is there, by its word
cell_seen : (q : ℕ → Qual) (v : View watched) (f h : List ℕ) (o i w : ℕ)
    → Sees watched q v f h → InObject h o i → w ≡ get_or h (o + 1 + i) 0 → slot_in watched q w ≡ cell (v.cell o i)
cell_seen q v f h o i w s here at =
    ap (slot_in watched q) at ∙ s.cell o i here.size (ap head_size (sym (s.head o)) ∙ here.head watched q) here.below

pub inside_spot : {h : List ℕ} {p : Result Spot Halt} {at : Spot} → p ≡ Ok at → SpotOk h p → InObject h at.object at.cell
inside_spot told here = rw told at here

module _ (q : ℕ → Qual) (g : Program) (v : View watched) (f h : List ℕ) (a b c : ℕ) {p : Result Spot Halt} (is : element_as q h p ≡ element_at g v fetch_right b c) where
  pub fetch_at : (r : Result ℕ Halt) {spot : Spot} {w : ℕ} {t u : Qual} → p ≡ Ok spot → SpotOk h p → Sees watched q v f h
      → declared_as watched g v a ≡ t → element (declared_as watched g v b) ≡ u → w ≡ get_or h (spot.object + 1 + spot.cell) 0
      → ((d : Cell watched) → slot_in watched q w ≡ cell d → moved_cell q r ≡ fetched g v u t d)
      → moved_to watched q a r ≡ plan watched g v (Op.Fetch a b c)
  unfolding element_as ◌>>=◌
  fetch_at r {spot} {w} told here s dec dec-b at rest =
      let o = spot.object in
      let i = spot.cell in
      let there : element_at g v fetch_right b c ≡ ok (o, element_in q (get_or h o 0), i) = sym is ∙ ap (element_as q h) told in
      moved_into q a r
      ∙ ap (λ (m : Res (Cell watched)). m >>= λ d. ok (write a d)) (rest _ (cell_seen q v f h o i w s (inside_spot told here) at))
      ∙ sym (fetch_plan g v a b c ∙ rw (there, dec, dec-b))

  pub fetch_halt : {k : Halt} → p ≡ Err k → moved_to watched q a (Err k) ≡ plan watched g v (Op.Fetch a b c)
  unfolding element_as moved_to
  fetch_halt {k} told =
      let spot : element_at g v fetch_right b c ≡ halted watched k = sym is ∙ ap (element_as q h) told in
      sym (fetch_plan g v a b c ∙ rw spot (halted_then k _))

module _ (q : ℕ → Qual) (g : Program) (v : View watched) (h : List ℕ) (a b c : ℕ) {p : Result Spot Halt} (is : element_as q h p ≡ element_at g v store_right a b) where
  pub store_at : (r : Result Stored Halt) (m : Result ℕ Halt) {spot : Spot} {w : ℕ} {t : Qual} → p ≡ Ok spot → stored watched q r ≡ storing spot.object spot.cell (moved_cell q m)
      → w ≡ get_or h spot.object 0 → t ≡ element_in q w
      → moved_cell q m ≡ moved watched g v t (v.variable c)
      → stored watched q r ≡ plan watched g v (Op.Store a b c)
  unfolding element_as ◌>>=◌
  store_at r m {spot} {w} {t} told stores at is-element moves =
      let o = spot.object in
      let i = spot.cell in
      let there : element_at g v store_right a b ≡ ok (o, element_in q (get_or h o 0), i) = sym is ∙ ap (element_as q h) told in
      let same : t ≡ element_in q (get_or h o 0) = is-element ∙ ap (λ (z : ℕ). element_in q z) at in
      stores ∙ ap (storing o i) (moves ∙ ap (λ (t : Qual). moved watched g v t (v.variable c)) same) ∙ sym (store_plan g v a b c ∙ rw there)

  pub store_halt : {k : Halt} → p ≡ Err k → stored watched q (Err k) ≡ plan watched g v (Op.Store a b c)
  unfolding element_as stored
  store_halt {k} told =
      let spot : element_at g v store_right a b ≡ halted watched k = sym is ∙ ap (element_as q h) told in
      sym (store_plan g v a b c ∙ rw spot (halted_then k _))

-- ---- a record's slot

module _ (g : Program) (v : View watched) (q : ℕ → Qual) (t j x w : ℕ) where
  slot_amiss : {z : Value} {m : ℕ} {d : Head watched} → ValueOf x z m → HeadOf q w d → d ≡ v.head (payload x)
      → (eqb (tag x) 2 && eqb (tag w) 4) && eqb (kind-number w) t ≡ false → stop wrong_kind ≡ slot_of_record g v t j z m
  unfolding slot_of_record record_at record_head_of is_of ensure amiss ◌>>=◌ ◌>>◌
  slot_amiss (integer_in i) k e fails = refl
  slot_amiss (object_in i) (array_in n) e fails = rw (sym e)
  slot_amiss (object_in i) (no_head_in a b) e fails = rw (sym e)
  slot_amiss (object_in i) (record_in n) e fails = rw (sym e, rw (i, n) at fails)

  slot_there_is : {z : Value} {m : ℕ} {d : Head watched} → ValueOf x z m → HeadOf q w d → d ≡ v.head (payload x)
      → (tag x ≡ 2) × (tag w ≡ 4) × (eqb (kind-number w) t ≡ true)
      → (ensure missing_right (has open_right (low x)) >> (slot_there watched g v (ltb j (size_of w)) >> ok (payload x, j))) ≡ slot_of_record g v t j z m
  unfolding slot_of_record record_at record_head_of is_of licence ensure ◌>>=◌ ◌>>◌
  slot_there_is (object_in i) (record_in n) e tags = rw (sym e, tags.2)
  slot_there_is (integer_in i) k e tags = let l = tags.0 in absurd (omega arith)
  slot_there_is (object_in i) (array_in n) e tags = let l = tags.1 in absurd (omega arith)
  slot_there_is (object_in i) (no_head_in a b) e tags = absurd (b tags.1)

module _ (g : Program) (v : View watched) (q : ℕ → Qual) (h : List ℕ) (t j x : ℕ) {o w : ℕ} {z : Value} {m u : ℕ} {tx th : Bool}
    (heads : Heads q v h) (first : slot_in watched q x ≡ cell (filled z m))
    (name : o ≡ payload x) (at : w ≡ get_or h o 0)
    (t-x : tx ≡ eqb (tag x) 2) (t-h : th ≡ eqb (tag w) 4) (kind : u ≡ kind-number w) where
  pub slot_misfit : (tx && th) && eqb u t ≡ false → slot_as (Err WrongKind) ≡ slot_of_record g v t j z m
  unfolding slot_as halted amiss
  slot_misfit fails =
      slot_amiss g v q t j x w (value_word q x z m first) (head_word q w) (head_seen q v h x heads name at) (rw (t-x, t-h, kind) at fails)

  slot_is : (tx && th) && eqb u t ≡ true
      → (ensure missing_right (has open_right (low x)) >> (slot_there watched g v (ltb j (size_of w)) >> ok (payload x, j))) ≡ slot_of_record g v t j z m
  slot_is holds =
      let k = three_true tx th (eqb u t) holds in
      slot_there_is g v q t j x w (value_word q x z m first) (head_word q w) (head_seen q v h x heads name at)
      (eqb-true _ 2 (sym t-x ∙ k.0), eqb-true _ 4 (sym t-h ∙ k.1), rw kind at k.2)

  module _ {l : ℕ} {b : Bool} (holds : (tx && th) && eqb u t ≡ true) (is-l : l ≡ low x) (is_b : b ≡ has open_right l) where
    pub slot_without : b ≡ false → slot_as (Err MissingRight) ≡ slot_of_record g v t j z m
    unfolding slot_as halted ensure ◌>>◌
    slot_without fails =
        let e : has open_right (low x) ≡ false = ap (has open_right) (sym is-l) ∙ sym is_b ∙ fails in
        (rw e at (slot_is holds))

    pub slot_past : {i k : ℕ} → b ≡ true → i ≡ j → k ≡ size_of w → ltb i k ≡ false → slot_as (Err WrongKind) ≡ slot_of_record g v t j z m
    unfolding slot_as halted amiss ensure slot_there ◌>>◌
    slot_past licensed is-i is-k past =
        let e : has open_right (low x) ≡ true = ap (has open_right) (sym is-l) ∙ sym is_b ∙ licensed in
        let p : ltb j (size_of w) ≡ false = rw (is-i, is-k) at past in
        (rw (e, p) at (slot_is holds))

    pub slot_there_at : {i k : ℕ} → b ≡ true → i ≡ j → k ≡ size_of w → ltb i k ≡ true → slot_as (Ok (record { object = o; cell = i })) ≡ slot_of_record g v t j z m
    unfolding slot_as ensure slot_there ◌>>◌
    slot_there_at licensed is-i is-k below =
        let e : has open_right (low x) ≡ true = ap (has open_right) (sym is-l) ∙ sym is_b ∙ licensed in
        let p : ltb j (size_of w) ≡ true = rw (is-i, is-k) at below in
        rw (name, is-i) (rw (e, p) at (slot_is holds))

-- of the cell of a variable
module _ (g : Program) (v : View watched) (t j b : ℕ) where
  pub slot_blank : v.variable b ≡ empty → slot_as (Err Blank) ≡ slot_at g v t j b
  unfolding slot_as halted slot_at held ◌>>=◌
  slot_blank e = rw e

  pub slot_found : {q : ℕ → Qual} {x : ℕ} (r : Result Spot Halt) → Found q x (v.variable b)
      → ((z : Value) (m : ℕ) → slot_in watched q x ≡ cell (filled z m) → slot_as r ≡ slot_of_record g v t j z m)
      → slot_as r ≡ slot_at g v t j b
  unfolding slot_at held ◌>>=◌
  slot_found {q} {x} r here is = by here
    where
      by : {d : Cell watched} → Found q x d → slot_as r ≡ (held d >>= λ x. slot_of_record g v t j x.0 x.1)
      by (found z m k) = is z m k

-- ---- get and set slot

get_plan : (g : Program) (v : View watched) (a b k : ℕ)
    → plan watched g v (Op.GetSlot a b k)
    ≡ (slot_at g v (g.owner v.procedure) k b >>= λ p. moved watched g v (declared_as watched g v a) (v.cell p.0 p.1) >>= λ d. ok (write a d))
unfolding plan plan_get slot_at slot_of_record
get_plan g v a b k = sym (simp (bind_assoc, then_assoc, bind_ok))

set_plan : (g : Program) (v : View watched) (a b k : ℕ)
    → plan watched g v (Op.SetSlot a b k)
    ≡ (slot_at g v (g.owner v.procedure) k a >>= λ p. storing p.0 p.1 (moved watched g v (read_in watched g v v.procedure v.set_held (g.slot (g.owner v.procedure) k)) (v.variable b)))
unfolding plan plan_set slot_at slot_of_record storing
set_plan g v a b k = sym (simp (bind_assoc, then_assoc, bind_ok))

module _ (q : ℕ → Qual) (g : Program) (v : View watched) (f h : List ℕ) (a b k : ℕ) {p : Result Spot Halt} {owner : ℕ}
    (own : g.owner v.procedure ≡ owner) (is : slot_as p ≡ slot_at g v owner k b) where
  pub get_at : (r : Result ℕ Halt) {spot : Spot} {w : ℕ} {t : Qual} → p ≡ Ok spot → SpotOk h p → Sees watched q v f h
      → declared_as watched g v a ≡ t → w ≡ get_or h (spot.object + 1 + spot.cell) 0
      → ((d : Cell watched) → slot_in watched q w ≡ cell d → moved_cell q r ≡ moved watched g v t d)
      → moved_to watched q a r ≡ plan watched g v (Op.GetSlot a b k)
  unfolding slot_as ◌>>=◌
  get_at r {spot} {w} told here s dec at rest =
      let o = spot.object in
      let i = spot.cell in
      let there : slot_at g v (g.owner v.procedure) k b ≡ ok (o, i) = rw own (sym is ∙ ap slot_as told) in
      moved_into q a r
      ∙ ap (λ (m : Res (Cell watched)). m >>= λ d. ok (write a d)) (rest _ (cell_seen q v f h o i w s (inside_spot told here) at))
      ∙ sym (get_plan g v a b k ∙ rw (there, dec))

  pub get_halt : {n : Halt} → p ≡ Err n → moved_to watched q a (Err n) ≡ plan watched g v (Op.GetSlot a b k)
  unfolding slot_as moved_to
  get_halt {n} told =
      let spot : slot_at g v (g.owner v.procedure) k b ≡ halted watched n = rw own (sym is ∙ ap slot_as told) in
      sym (get_plan g v a b k ∙ rw spot (halted_then n _))

module _ (q : ℕ → Qual) (g : Program) (v : View watched) (a b k : ℕ) {p : Result Spot Halt} {owner : ℕ}
    (own : g.owner v.procedure ≡ owner) (is : slot_as p ≡ slot_at g v owner k a) where
  pub set_at : (r : Result Stored Halt) (m : Result ℕ Halt) {spot : Spot} {t : Qual} → p ≡ Ok spot → stored watched q r ≡ storing spot.object spot.cell (moved_cell q m)
      → read_in watched g v v.procedure v.set_held (g.slot owner k) ≡ t
      → moved_cell q m ≡ moved watched g v t (v.variable b)
      → stored watched q r ≡ plan watched g v (Op.SetSlot a b k)
  unfolding slot_as ◌>>=◌
  set_at r m {spot} told stores is-slot moves =
      let o = spot.object in
      let i = spot.cell in
      let there : slot_at g v (g.owner v.procedure) k a ≡ ok (o, i) = rw own (sym is ∙ ap slot_as told) in
      stores ∙ ap (storing o i) moves ∙ sym (set_plan g v a b k ∙ rw (there, own, is-slot))

  pub set_halt : {n : Halt} → p ≡ Err n → stored watched q (Err n) ≡ plan watched g v (Op.SetSlot a b k)
  unfolding slot_as stored
  set_halt {n} told =
      let spot : slot_at g v (g.owner v.procedure) k a ≡ halted watched n = rw own (sym is ∙ ap slot_as told) in
      sym (set_plan g v a b k ∙ rw spot (halted_then n _))

-- what is bound, stored to a cell
pub stored_to : (q : ℕ → Qual) (o i : ℕ) {m : Result ℕ Halt} {w : ℕ} → m ≡ Ok w → stored watched q (Ok (record { object = o; cell = i; word = w })) ≡ storing o i (moved_cell q m)
unfolding stored storing moved_cell ◌>>=◌
stored_to q o i told = rw told

pub stored_halt : (q : ℕ → Qual) (o i : ℕ) {m : Result ℕ Halt} {k : Halt} → m ≡ Err k → stored watched q (Err k) ≡ storing o i (moved_cell q m)
unfolding stored storing moved_cell
stored_halt q o i {k = k} told = rw told (sym (halted_then k _))

pub stored_ok : (h : List ℕ) {o i : ℕ} {m : Result ℕ Halt} {w : ℕ} → m ≡ Ok w → InObject h o i → MovedOk m → StoredOk h (Ok (record { object = o; cell = i; word = w }))
stored_ok h told here fine = (rw told at fine, here)

-- ---- the size of an array

module _ (g : Program) (v : View watched) (q : ℕ → Qual) (a x w : ℕ) where
  abbrev sizing : Cell watched → Res (Effect watched)
  sizing d = do
    y ← held d
    o ← array_at watched g v y.0
    licence watched size_right y.1
    gives watched g v a o.2

  size_amiss : {d : Cell watched} {k : Head watched} → Found q x d → HeadOf q w k → k ≡ v.head (payload x)
      → eqb (tag x) 2 && eqb (tag w) 3 ≡ false → stop wrong_kind ≡ sizing d
  unfolding held array_at array_head_of amiss ◌>>=◌
  size_amiss (found z m first) k e fails = by (value_word q x z m first) k e
    where
      by : {y : Value} {n : ℕ} {l : Head watched} → ValueOf x y n → HeadOf q w l → l ≡ v.head (payload x) → stop wrong_kind ≡ sizing (filled y n)
      by (integer_in i) k e = refl
      by (object_in i) (record_in t) e = rw (sym e)
      by (object_in i) (no_head_in c d) e = rw (sym e)
      by (object_in i) (array_in t) e = absurd (false≢true (sym (rw (i, t) at fails)))

  size_there : {d : Cell watched} {k : Head watched} → Found q x d → HeadOf q w k → k ≡ v.head (payload x)
      → (tag x ≡ 2) × (tag w ≡ 3) → (ensure missing_right (has size_right (low x)) >> gives watched g v a (size_of w)) ≡ sizing d
  unfolding held array_at array_head_of licence ◌>>=◌
  size_there (found z m first) k e tags = by (value_word q x z m first) k e
    where
      by : {y : Value} {n : ℕ} {l : Head watched} → ValueOf x y n → HeadOf q w l → l ≡ v.head (payload x)
          → (ensure missing_right (has size_right (low x)) >> gives watched g v a (size_of w)) ≡ sizing (filled y n)
      by (object_in i) (array_in t) e = rw (sym e)
      by (integer_in i) k e = let l = tags.0 in absurd (omega arith)
      by (object_in i) (record_in t) e = let l = tags.1 in absurd (omega arith)
      by (object_in i) (no_head_in c d) e = absurd (c tags.1)

pub size_blank : (g : Program) (v : View watched) (a b : ℕ) → v.variable b ≡ empty → given watched a (Err Blank) ≡ plan watched g v (Op.Size a b)
unfolding given halted plan plan_size held ◌>>=◌
size_blank g v a b e = rw e

module _ (g : Program) (v : View watched) (q : ℕ → Qual) (h : List ℕ) (a b x : ℕ) {o w : ℕ} {tx th : Bool}
    (heads : Heads q v h) (here : Found q x (v.variable b))
    (name : o ≡ payload x) (at : w ≡ get_or h o 0) (t-x : tx ≡ eqb (tag x) 2) (t-h : th ≡ eqb (tag w) 3) where
  pub size_misfit : tx && th ≡ false → given watched a (Err WrongKind) ≡ plan watched g v (Op.Size a b)
  unfolding given halted amiss plan plan_size gives
  size_misfit fails = size_amiss g v q a x w here (head_word q w) (head_seen q v h x heads name at) (rw (t-x, t-h) at fails)

  size_is : tx && th ≡ true → (ensure missing_right (has size_right (low x)) >> gives watched g v a (size_of w)) ≡ plan watched g v (Op.Size a b)
  unfolding plan plan_size gives
  size_is holds =
      let k = both_true tx th holds in
      size_there g v q a x w here (head_word q w) (head_seen q v h x heads name at) (eqb-true _ 2 (sym t-x ∙ k.0), eqb-true _ 3 (sym t-h ∙ k.1))

  module _ {l : ℕ} {c : Bool} (holds : tx && th ≡ true) (is-l : l ≡ low x) (is_c : c ≡ has size_right l) where
    pub size_without : c ≡ false → given watched a (Err MissingRight) ≡ plan watched g v (Op.Size a b)
    unfolding given halted ensure ◌>>◌
    size_without fails =
        let e : has size_right (low x) ≡ false = ap (has size_right) (sym is-l) ∙ sym is_c ∙ fails in
        (rw e at (size_is holds))

    pub size_given : (r : Result ℕ Halt) {n : ℕ} → c ≡ true → n ≡ size_of w → given watched a r ≡ gives watched g v a n → given watched a r ≡ plan watched g v (Op.Size a b)
    unfolding ensure ◌>>◌
    size_given r licensed is-n gave =
        let e : has size_right (low x) ≡ true = ap (has size_right) (sym is-l) ∙ sym is_c ∙ licensed in
        gave ∙ ap (gives watched g v a) is-n ∙ (rw e at (size_is holds))

-- ---- new objects

module _ (g : Program) (v : View watched) (b : ℕ) (q : Qual) {n : Result ℕ Halt} (is : number_as watched n ≡ one_integer watched g v b) where
  pub size_halts : {k : Halt} → n ≡ Err k → number_as watched (Err k) ≡ size_for g v q b
  unfolding number_as size_for
  size_halts {k} told = rw (sym is, told) (sym (halted_then k _))

  pub size_asked : {k : ℕ} {t : Bool} → n ≡ Ok k → t ≡ is_array q → t ≡ true → number_as watched (Ok k) ≡ size_for g v q b
  unfolding number_as size_for demand ensure ◌>>=◌ ◌>>◌
  size_asked told kind fits_array = rw (sym is, told, sym kind ∙ fits_array)

  pub size_refused : {k : ℕ} {t : Bool} → n ≡ Ok k → t ≡ is_array q → t ≡ false → number_as watched (Err WrongKind) ≡ size_for g v q b
  unfolding number_as halted amiss size_for demand ensure ◌>>=◌ ◌>>◌
  size_refused told kind misfits = rw (sym is, told, sym kind ∙ misfits)

module _ (q : Qual) (k : Kind watched) (r : Rights) where
  pub made_required : {t : Bool} {e : Result (Unit {0}) Halt} → fits q k ≡ true → t ≡ within (rights q) r → e ≡ cond t (Ok tt) (Err MissingRight)
      → made q e ≡ bind watched q k r
  unfolding made halted bind ensure ◌>>◌
  made_required {t} fit is asked = rw (asked, fit, sym is) (by t)
    where
      by : (b : Bool) → made q (cond b (Ok tt) (Err MissingRight)) ≡ (ensure missing_right b >> ok (rights q))
      by true = refl
      by false = refl

  pub made_misfit : fits q k ≡ false → made q (Err WrongKind) ≡ bind watched q k r
  unfolding made halted amiss bind ensure ◌>>◌
  made_misfit misfit = rw misfit

-- a new record is of the owner's type
pub record_fits : (o : ℕ) (q : Qual) {t u : Bool} → t ≡ owned_by o q → t ≡ u → fits q (record_kind o) ≡ u
unfolding fits owned_by
record_fits o q is told = sym is ∙ told

-- a new array has its type's element
pub array_fits : (q : Qual) {t u : Bool} → t ≡ is_array q → t ≡ u → fits q (array_kind (element q)) ≡ u
unfolding fits
array_fits q {t} {u} is told = rw (sym is ∙ told, elements_refl (has store_right (rights q)) (element q)) (both_of u)
  where
    both_of : (u : Bool) → u && true ≡ u
    both_of true = refl
    both_of false = refl

-- no right above n is all that it takes to be within all rights of a type
pub within_named : (n : ℕ) (a : Rights) {t u : Bool} → t ≡ none_above n a → t ≡ u → within a (record_rights n) ≡ u
within_named n a is told = same_test (within a (record_rights n)) (none_above n a) (above_none n a) (within_all n a) ∙ sym is ∙ told
  where
    same_test : (b c : Bool) → (b ≡ true → c ≡ true) → (c ≡ true → b ≡ true) → b ≡ c
    same_test true c f g = sym (f refl)
    same_test false true f g = absurd (false≢true (g refl))
    same_test false false f g = refl
