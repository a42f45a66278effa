use native.Mathlib.Omega.{arith}
use mathlib.Core.Path.{◌≡◌, refl, sym, ap, subst, ◌∙◌}
use mathlib.Core.Bool.{true, false}
use Prim.Native.Nat.{zero, suc}
use lib.IntN.{ℤ, pos, negsuc, nat_abs}
use lib.Dec.{T}
use lib.Signed.{lt_z, non_neg}
use mir.Syntax.{w64}
use mir.Val.{to_z, of_z}
use mir.Facts.{to_z-of_z}
use borrow.Author.Tests.{ltb-true, ltb-false}
use Rattle.checker.specs.declared.calls.Answer.TheVariants.{Moved}
use Rattle.checker.specs.Calls.{failed, meant}
use Rattle.checker.proofs.calls.meant.Goals as goal

-- the test `got > 0`, on the number that the machine reads back from got's bits
positive : (z : ℤ) → lt_z (pos 0) z ≡ true → T (non_neg z)
positive (pos n) e = tt
positive (negsuc n) e = subst T (sym e) tt

moved : (z error : ℤ) → lt_z (pos 0) z ≡ true → Moved (nat_abs z) ≡ meant z error
unfolding meant
moved (pos zero) error e = absurd (let some = ltb-true 0 0 e in omega arith)
moved (pos (suc n)) error e = refl
moved (negsuc n) error e = absurd (positive (negsuc n) e)

negative : (z error : ℤ) → lt_z (pos 0) z ≡ false → (of_z w64 z ≡ 0 → ⊥) → failed error ≡ meant z error
unfolding meant
negative (pos zero) error e other = absurd (other refl)
negative (pos (suc n)) error e other = absurd (let none = ltb-false 0 (suc n) e in omega arith)
negative (negsuc n) error e other = refl

pub returns-then-got-gt0 : goal.returns-then-got-gt0
returns-then-got-gt0 c =
    moved (to_z w64 (of_z w64 c.args.got)) c.args.error c.if-got-gt0.true ∙ ap (λ (z : ℤ). meant z c.args.error) (to_z-of_z c.ranges.got)

pub returns-then-got-eq0 : goal.returns-then-got-eq0
unfolding meant
returns-then-got-eq0 c = ap (λ (z : ℤ). meant z c.args.error) (sym (ap (to_z w64) c.if-got-eq0.true) ∙ to_z-of_z c.ranges.got)

pub returns-else-got-eq0 : goal.returns-else-got-eq0
returns-else-got-eq0 c =
    let got : to_z w64 (of_z w64 c.args.got) ≡ c.args.got = to_z-of_z c.ranges.got in
    c.failed.ensures
    ∙ ap failed (to_z-of_z c.ranges.error)
    ∙ negative c.args.got c.args.error (sym (ap (lt_z (pos 0)) got) ∙ c.if-got-gt0.false) c.if-got-eq0.false
