-- Each record is tested by what was read of its procedure, which is what the definition reads.
use mathlib.Core.Path.{ap, ◌∙◌}
use Rattle.std.proofs.Common.{arith}
use Rattle.model.specs.Refusal.{verdict}
use Rattle.model.proofs.Verdicts.{pass_refuses}
use Rattle.sheet.specs.Layout.{instruction_from}
use Rattle.form.proofs.Laws.{instruction_counted, instruction_here}
use Rattle.limits.specs.declared.Limits.{Limits}
use Rattle.layout.proofs.instructions_pass.Goals as goal

pub returns-in_err-instruction_record : goal.returns-in_err-instruction_record
returns-in_err-instruction_record c =
    let a = c.args in
    let read = c.limits_at-l.ensures in
    let at = instruction_counted _ _ _ c.loop-i.i c.instruction_from-first.ensures.value ∙ ap (λ (x : Limits). instruction_from a.start x.variables c.loop-i.i) read in
    let here = ap verdict (instruction_here _ _ _ _ _ _ read at) in
    grind (arith, pass_refuses, here)
