use mathlib.Core.Path.{◌≡◌, refl, sym, ap, ◌∙◌}
use lib.IntN.{ℤ, pos, negsuc}
use mir.Syntax.{w32}
use mir.Val.{to_z, of_z}
use mir.Facts.{to_z-of_z}
use borrow.Author.Tests.{ne_eqb}
use Rattle.checker.specs.declared.calls.Answer.TheVariants.{Failed}
use Rattle.checker.specs.Calls.{failed}
use Rattle.checker.proofs.calls.failed.Goals as goal

-- an error of neither number
other : (error : ℤ) → (of_z w32 error ≡ 4 → ⊥) → (of_z w32 error ≡ 11 → ⊥) → Failed ≡ failed error
unfolding failed
other (pos n) four eleven = rw (ne_eqb n 4 four, ne_eqb n 11 eleven)
other (negsuc n) four eleven = refl

pub returns-then-error-eq-EINTR : goal.returns-then-error-eq-EINTR
unfolding failed
returns-then-error-eq-EINTR c = ap failed (sym (ap (to_z w32) c.if-error-eq-EINTR.true) ∙ to_z-of_z c.ranges.error)

pub returns-then-error-eq-EAGAIN : goal.returns-then-error-eq-EAGAIN
unfolding failed
returns-then-error-eq-EAGAIN c = ap failed (sym (ap (to_z w32) c.if-error-eq-EAGAIN.true) ∙ to_z-of_z c.ranges.error)

pub returns-else-error-eq-EAGAIN : goal.returns-else-error-eq-EAGAIN
returns-else-error-eq-EAGAIN c = other c.args.error c.if-error-eq-EINTR.false c.if-error-eq-EAGAIN.false
