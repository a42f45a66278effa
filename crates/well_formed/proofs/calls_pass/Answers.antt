use Prim.Native.Nat.{◌+◌, ◌*◌}
use Rattle.std.proofs.Common.{arith}
use Rattle.model.proofs.Verdicts.{pass_refuses}
use Rattle.sheet.specs.Layout.{variables_field, instructions_at}
use Rattle.well_formed.proofs.Told.{call_told}
use Rattle.well_formed.proofs.calls_pass.Goals as goal

pub returns-in_err-record_verdict : goal.returns-in_err-record_verdict
unfolding variables_field instructions_at
returns-in_err-record_verdict c =
    let here = call_told c.args.s.bytes.now c.byte-vars.result c.args.start c.loop-i.i (c.instruction_from-first.result + 8 * c.from.result) _ c.instruction_from-first.ensures.value (omega arith) in
    grind (arith, pass_refuses, here)
