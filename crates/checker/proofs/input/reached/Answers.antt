use Rattle.std.proofs.Common.{eq-eqb, ne_eqb}
use Rattle.checker.specs.Input.{reached}
use Rattle.checker.proofs.input.reached.Goals as goal

pub returns-then-n-size : goal.returns-then-n-size
unfolding reached
returns-then-n-size c = rw (eq-eqb _ _ c.if-n-size.true)

pub returns-else-n-size : goal.returns-else-n-size
unfolding reached
returns-else-n-size c = rw (ne_eqb _ _ c.if-n-size.false)
