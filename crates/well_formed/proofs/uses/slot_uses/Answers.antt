use Prim.Native.Nat.{◌+◌, ◌*◌}
use Rattle.std.proofs.Common.{arith}
use Rattle.model.proofs.Verdicts.{pass_more, pass_refuses}
use Rattle.well_formed.proofs.Told.{slots_here}
use Rattle.well_formed.proofs.uses.slot_uses.Goals as goal

pub returns-in_err-record_verdict : goal.returns-in_err-record_verdict
returns-in_err-record_verdict c =
    let here = slots_here c.args.s.bytes.now c.loop-i.i (6 + 12 * c.from.result) (omega arith) in
    grind (arith, pass_refuses, here)

pub loop-i-preserved : goal.loop-i-preserved
loop-i-preserved c =
    let here = slots_here c.args.s.bytes.now c.loop-i.i (6 + 12 * c.from.result) (omega arith) in
    grind (arith, pass_more, here)
