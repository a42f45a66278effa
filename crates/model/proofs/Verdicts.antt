-- Laws of lists of tests: two lists one after another, the loop over a span, and what an accepted list says of its parts.
use Prim.Native.Nat.{ℕ, zero, suc, ◌+◌, ◌-◌, ◌<◌}
use mathlib.Core.Path.{◌≡◌, refl, sym, ap, ◌∙◌}
use mathlib.Core.Bool.{Bool, true, false, not, ◌&&◌, ◌||◌, cond}
use mathlib.Core.Logic.{◌⊎◌, inl, inr}
use mathlib.Core.List.{List, [], ◌∷◌, ◌++◌}
use Rattle.std.proofs.Common.{append_assoc}
use native.Mathlib.Omega.{arith}
use native.Mathlib.Nat.{zero-add}
use Rattle.std.specs.Prelude.{Result, Ok, Err}
use Rattle.model.specs.Refusal.{Reason, Refusal, Verdict, Accepted, refused_at, Test, test, Tests, tests, failure, refuse, verdict, span, each, all_from}

-- ---- one list after another

-- the first where it refuses, else the second
abbrev pub and_then : {E : Type 0} → Result (Unit {0}) E → Result (Unit {0}) E → Result (Unit {0}) E
and_then (Ok u) v = v
and_then (Err e) v = Err e

refuse_then : (f : Result (Unit {0}) Reason) (at : ℕ) (v w : Verdict) → refuse f at (and_then v w) ≡ and_then (refuse f at v) w
unfolding refuse
refuse_then (Ok u) at v w = refl
refuse_then (Err r) at v w = refl

pub verdict_append : (xs ys : List Tests) → verdict (xs ++ ys) ≡ and_then (verdict xs) (verdict ys)
unfolding verdict
verdict_append [] ys = refl
verdict_append (tests at ts ∷ xs) ys =
    ap (refuse (failure ts) at) (verdict_append xs ys) ∙ refuse_then (failure ts) at (verdict xs) (verdict ys)

cond_then : {E : Type 0} (b : Bool) (r : E) (f g : Result (Unit {0}) E) → cond b (and_then f g) (Err r) ≡ and_then (cond b f (Err r)) g
cond_then true r f g = refl
cond_then false r f g = refl

pub failure_append : (xs ys : List Test) → failure (xs ++ ys) ≡ and_then (failure xs) (failure ys)
unfolding failure
failure_append [] ys = refl
failure_append (test r b ∷ xs) ys =
    ap (λ (f : Result (Unit {0}) Reason). cond b f (Err r)) (failure_append xs ys) ∙ cond_then b r (failure xs) (failure ys)

module _ {E : Type 0} where
  pub accepted_left : (v w : Result (Unit {0}) E) → and_then v w ≡ Ok tt → v ≡ Ok tt
  accepted_left (Ok u) w h = refl
  accepted_left (Err e) w h = h

  pub not_accepted : (e : E) → ◌≡◌ {A = Result (Unit {0}) E} (Err e) (Ok tt) → ⊥
  not_accepted e h = let z : ◌≡◌ {A = ℕ} 0 1 = ap no_error h in omega arith
    where
      no_error : Result (Unit {0}) E → ℕ
      no_error (Ok u) = 1
      no_error (Err e) = 0

  pub accepted_right : (v w : Result (Unit {0}) E) → and_then v w ≡ Ok tt → w ≡ Ok tt
  accepted_right (Ok u) w h = h
  accepted_right (Err e) w h = absurd (not_accepted e h)

-- the two halves of an accepted list
module _ (xs ys : List Tests) where
  pub left_accepted : verdict (xs ++ ys) ≡ Accepted → verdict xs ≡ Accepted
  left_accepted h = accepted_left (verdict xs) (verdict ys) (sym (verdict_append xs ys) ∙ h)

  pub right_accepted : verdict (xs ++ ys) ≡ Accepted → verdict ys ≡ Accepted
  right_accepted h = accepted_right (verdict xs) (verdict ys) (sym (verdict_append xs ys) ∙ h)

  -- a pass that is followed by another: it refused, or it accepted and the other says the rest
  pub first_refuses : {e : Refusal} → Err e ≡ verdict xs → Err e ≡ verdict (xs ++ ys)
  first_refuses h = rw (verdict_append xs ys, ← h) refl

  pub second_says : {v : Verdict} → Ok tt ≡ verdict xs → v ≡ verdict ys → v ≡ verdict (xs ++ ys)
  second_says h k = rw (verdict_append xs ys, ← h) k

-- ---- the loop over a span: what was passed, and the first refusal
pub span_append : {A : Type 0} (f : ℕ → List A) (i m k : ℕ) → span f i (m + k) ≡ span f i m ++ span f (i + m) k
unfolding span
span_append f i zero k = let e : i + 0 ≡ i = omega arith in let d : 0 + k ≡ k = omega arith in rw (e, d) refl
span_append f i (suc m) k =
    let e : i + suc m ≡ suc i + m = omega arith in
    let g : suc m + k ≡ suc (m + k) = omega arith in
    rw (e, g) (ap (λ (xs : List _). f i ++ xs) (span_append f (suc i) m k) ∙ sym (append_assoc (f i) (span f (suc i) m) (span f (suc i + m) k)))

module _ {A E : Type 0} (says : List A → Result (Unit {0}) E) (nothing : says [] ≡ Ok tt)
    (joined : (xs ys : List A) → says (xs ++ ys) ≡ and_then (says xs) (says ys)) (f : ℕ → List A)
  where
    from_here : (i m : ℕ) → says (span f 0 i) ≡ Ok tt → says (span f 0 (i + suc m)) ≡ and_then (says (f i)) (says (span f (suc i) m))
    unfolding span
    from_here i m p =
        ap says (rw zero-add at (span_append f 0 i (suc m)))
        ∙ joined (span f 0 i) (span f i (suc m))
        ∙ ap (λ (v : Result (Unit {0}) E). and_then v (says (span f i (suc m)))) p
        ∙ joined (f i) (span f (suc i) m)

    one_more : (i : ℕ) → says (span f 0 i) ≡ Ok tt → Ok tt ≡ says (f i) → says (span f 0 (i + 1)) ≡ Ok tt
    unfolding span
    one_more i p h = from_here i 0 p ∙ ap (λ (v : Result (Unit {0}) E). and_then v (says [])) (sym h) ∙ nothing

    refused_here : (i n : ℕ) (e : E) → i < n → says (span f 0 i) ≡ Ok tt → Err e ≡ says (f i) → Err e ≡ says (span f 0 n)
    refused_here i n e l p h =
        let d : n ≡ i + suc (n - suc i) = omega arith in
        sym (ap (λ (k : ℕ). says (span f 0 k)) d ∙ from_here i (n - suc i) p ∙ ap (λ (v : Result (Unit {0}) E). and_then v (says (span f (suc i) (n - suc i)))) (sym h))

    each_of : (n i : ℕ) → says (span f i n) ≡ Ok tt → (k : ℕ) → k < n → says (f (i + k)) ≡ Ok tt
    unfolding span
    each_of zero i h k l = absurd (omega arith)
    each_of (suc n) i h zero l =
        let e : i + 0 ≡ i = omega arith in
        rw e (accepted_left (says (f i)) (says (span f (suc i) n)) (sym (joined (f i) (span f (suc i) n)) ∙ h))
    each_of (suc n) i h (suc k) l =
        let e : i + suc k ≡ suc i + k = omega arith in
        rw e (each_of n (suc i) (accepted_right (says (f i)) (says (span f (suc i) n)) (sym (joined (f i) (span f (suc i) n)) ∙ h)) k (omega arith))

-- of records
module _ (f : ℕ → List Tests) where
  pub pass_start : verdict (span f 0 0) ≡ Ok tt
  unfolding verdict span
  pass_start = refl

  pub pass_more : (i : ℕ) → verdict (span f 0 i) ≡ Ok tt → Ok tt ≡ verdict (f i) → verdict (span f 0 (i + 1)) ≡ Ok tt
  unfolding verdict
  pass_more = one_more verdict refl verdict_append f

  pub pass_refuses : (i n : ℕ) (e : Refusal) → i < n → verdict (span f 0 i) ≡ Ok tt → Err e ≡ verdict (f i) → Err e ≡ verdict (span f 0 n)
  unfolding verdict
  pass_refuses = refused_here verdict refl verdict_append f

  pub accepted_span : (n i : ℕ) → verdict (span f i n) ≡ Accepted → (k : ℕ) → k < n → verdict (f (i + k)) ≡ Accepted
  unfolding verdict
  accepted_span = each_of verdict refl verdict_append f

-- of the tests of one
module _ (f : ℕ → List Test) where
  pub test_start : failure (span f 0 0) ≡ Ok tt
  unfolding failure span
  test_start = refl

  pub test_more : (i : ℕ) → failure (span f 0 i) ≡ Ok tt → Ok tt ≡ failure (f i) → failure (span f 0 (i + 1)) ≡ Ok tt
  unfolding failure
  test_more = one_more failure refl failure_append f

  pub test_refuses : (i n : ℕ) (e : Reason) → i < n → failure (span f 0 i) ≡ Ok tt → Err e ≡ failure (f i) → Err e ≡ failure (span f 0 n)
  unfolding failure
  test_refuses = refused_here failure refl failure_append f

  pub passed_span : (n i : ℕ) → failure (span f i n) ≡ Ok tt → (k : ℕ) → k < n → failure (f (i + k)) ≡ Ok tt
  unfolding failure
  passed_span = each_of failure refl failure_append f

pub each_accepted : (f : ℕ → List Tests) (n : ℕ) → verdict (each n f) ≡ Accepted → (k : ℕ) → k < n → verdict (f k) ≡ Accepted
each_accepted f n h k l = let e : 0 + k ≡ k = omega arith in rw e at (accepted_span f n 0 h k l)

-- what the proofs of the passes cite: a loop over the records of one kind, one over the tests of a record, and one pass after another
pub ruleset each_pass = (pass_start, pass_more, pass_refuses)

pub ruleset each_test = (test_start, test_more, test_refuses)

pub ruleset pass_by_pass = (first_refuses, second_says)

-- ---- what an accepted list says of each test
pub accepted_tests : (at : ℕ) (ts : List Test) → verdict (tests at ts ∷ []) ≡ Accepted → failure ts ≡ Ok tt
unfolding verdict refuse
accepted_tests at ts h = go (failure ts) h
  where
    go : (f : Result (Unit {0}) Reason) → refuse f at Accepted ≡ Accepted → f ≡ Ok tt
    go (Ok u) h = refl
    go (Err r) h = absurd (not_accepted (refused_at r at) h)

pub passed_test : (r : Reason) (b : Bool) (ts : List Test) → failure (test r b ∷ ts) ≡ Ok tt → (b ≡ true) × (failure ts ≡ Ok tt)
unfolding failure
passed_test r true ts h = (refl, h)
passed_test r false ts h = absurd (not_accepted r h)

pub both_true : (a b : Bool) → a && b ≡ true → (a ≡ true) × (b ≡ true)
both_true true b h = (refl, h)
both_true false b h = absurd (let z : ◌≡◌ {A = ℕ} 0 1 = cc in omega arith)

pub either_true : (a b : Bool) → a || b ≡ true → (a ≡ true) ⊎ (b ≡ true)
either_true true b h = inl refl
either_true false b h = inr h

pub implied : (a b : Bool) → not a || b ≡ true → a ≡ true → b ≡ true
implied a b h e = rw e at h

-- tests that all hold, one by one
abbrev pub Held : List Bool → Type 0
Held [] = Unit
Held (t ∷ ts) = (t ≡ true) × Held ts

pub all_held : (b : Bool) (ts : List Bool) → all_from b ts ≡ true → (b ≡ true) × Held ts
unfolding all_from
all_held b [] h = (h, tt)
all_held b (t ∷ ts) h =
    let m = all_held (b && t) ts h in
    let n = both_true b t m.0 in
    (n.0, (n.1, m.1))
