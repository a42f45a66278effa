-- The loop over the slot bytes: one more holds, or one does not.
use Prim.Native.Nat.{ℕ, zero, suc, ◌+◌, ◌<◌}
use mathlib.Core.Path.{◌≡◌, refl}
use mathlib.Core.Bool.{Bool, true, false, ◌&&◌}
use native.Mathlib.Omega.{arith}
use native.Mathlib.Numerals.{add-one}
use lib.Dec.{ltb}
use borrow.Author.Tests.{ltb-true, ltb-false}
use Rattle.limits.specs.Scale.{all_below}

and_false : (b : Bool) → b && false ≡ false
and_false true = refl
and_false false = refl

module _ (f : ℕ → Bool) where
  pub all_more : (n : ℕ) → all_below n f ≡ true → f n ≡ true → all_below (n + 1) f ≡ true
  all_more n h e = rw (add-one, h, e)

  pub all_fails : (n i : ℕ) → i < n → f i ≡ false → all_below n f ≡ false
  all_fails zero i l e = absurd (omega arith)
  all_fails (suc n) i l e = go (ltb i n) refl (λ k. all_fails n i k e)
    where
      go : (b : Bool) → ltb i n ≡ b → (i < n → all_below n f ≡ false) → all_below n f && f n ≡ false
      go true k h = rw (h (ltb-true i n k))
      go false k h = let d : n ≡ i = omega (arith, ltb-false i n k) in rw (d, e, and_false)
