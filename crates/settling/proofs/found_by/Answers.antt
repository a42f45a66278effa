-- The invariant: what was found is what the actuals before j settle.
use Rattle.settling.proofs.Actuals.{found_start, found_more}
use Rattle.settling.proofs.found_by.Goals as goal

pub loop-j-init : goal.loop-j-init
loop-j-init c = found_start _ _ _

pub loop-j-preserved : goal.loop-j-preserved
loop-j-preserved c = found_more _ _ _ _ _ _ c.actual_settles.ensures (c.found_with-x.ensures _ _ _ c.loop-j.invariant)
