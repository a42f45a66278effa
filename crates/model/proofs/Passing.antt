-- A pass over records, seen from where it stands: what is left to say is the verdict of the records from here on. `each_pass` of Verdicts says what the loops
-- themselves keep, that what was passed is accepted, and `passing` leads from there to here.
use Prim.Native.Nat.{ℕ, zero, suc, ◌+◌, ◌-◌, ◌<◌, ◌≤◌}
use mathlib.Core.Path.{◌≡◌, sym, ap, ◌∙◌}
use mathlib.Core.List.{List, [], ◌++◌}
use native.Mathlib.Omega.{arith}
use native.Mathlib.Numerals.{add-one}
use native.Mathlib.Nat.{zero-add}
use Rattle.std.specs.Prelude.{Ok, Err}
use Rattle.model.specs.Refusal.{Refusal, Verdict, Accepted, Tests, verdict, span}
use Rattle.model.proofs.Verdicts.{and_then, verdict_append, span_append}

module _ {A : Type 0} (f : ℕ → List A) where
  span_more : (i m : ℕ) → 0 < m → span f i m ≡ f i ++ span f (i + 1) (m - 1)
  unfolding span
  span_more i zero h = absurd (let z : 0 < 0 = h in omega arith)
  span_more i (suc m) h = let e : suc m - 1 ≡ m = omega arith in simp (add-one, e)

  pub span_step : (i n : ℕ) → i < n → span f i (n - i) ≡ f i ++ span f (i + 1) (n - (i + 1))
  span_step i n h =
      let p : 0 < n - i = omega arith in
      let d : n - i - 1 ≡ n - (i + 1) = omega arith in
      span_more i (n - i) p ∙ rw d

  pub span_end : (i n : ℕ) → n ≤ i → span f i (n - i) ≡ []
  unfolding span
  span_end i n h = let e : n - i ≡ 0 = omega arith in rw e

abbrev pub Passing : (ℕ → List Tests) → ℕ → ℕ → Type 0
Passing f n i = (i ≤ n) × (verdict (span f 0 n) ≡ verdict (span f i (n - i)))

module _ (f : ℕ → List Tests) (n : ℕ) where
  pub pass_start : Passing f n 0
  pass_start = let e : n - 0 ≡ n = omega arith in (omega arith, rw e)

  module _ (i : ℕ) (p : Passing f n i) where
    at_step : i < n → verdict (span f i (n - i)) ≡ and_then (verdict (f i)) (verdict (span f (i + 1) (n - (i + 1))))
    at_step h = ap verdict (span_step f i n h) ∙ verdict_append (f i) (span f (i + 1) (n - (i + 1)))

    pub pass_next : i < n → (v : Verdict) → v ≡ verdict (f i) → v ≡ Accepted → Passing f n (i + 1)
    pass_next h v e a =
        let q : verdict (f i) ≡ Ok tt = sym e ∙ a in
        (omega arith, p.1 ∙ at_step h ∙ ap (λ (u : Verdict). and_then u (verdict (span f (i + 1) (n - (i + 1))))) q)

    pub pass_stop : i < n → (v : Verdict) (r : Refusal) → v ≡ verdict (f i) → v ≡ Err r → v ≡ verdict (span f 0 n)
    pass_stop h v r e a =
        let q : verdict (f i) ≡ Err r = sym e ∙ a in
        a ∙ sym (p.1 ∙ at_step h ∙ ap (λ (u : Verdict). and_then u (verdict (span f (i + 1) (n - (i + 1))))) q)

    pub pass_end : n ≤ i → Accepted ≡ verdict (span f 0 n)
    unfolding verdict
    pass_end h = let e : span f i (n - i) ≡ [] = span_end f i n h in sym (p.1 ∙ ap verdict e)

  -- where what was passed is accepted
  pub passing : (i : ℕ) → i ≤ n → verdict (span f 0 i) ≡ Accepted → Passing f n i
  passing i h a =
      let d : i + (n - i) ≡ n = omega arith in (
        h,
        ap (λ (k : ℕ). verdict (span f 0 k)) (sym d)
            ∙ ap verdict (rw zero-add at (span_append f 0 i (n - i)))
            ∙ verdict_append (span f 0 i) (span f i (n - i))
            ∙ ap (λ (u : Verdict). and_then u (verdict (span f i (n - i)))) a,
      )
