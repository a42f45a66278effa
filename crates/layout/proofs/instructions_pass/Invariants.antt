use mathlib.Core.Path.{◌≡◌}
use Rattle.model.specs.Refusal.{Accepted, verdict, span}
use Rattle.form.specs.WellFormed.{instruction_tests}
use Rattle.layout.proofs.instructions_pass.Given as goal

abbrev pub invariant-loop-i : goal.invariant-loop-i
invariant-loop-i l = verdict (span (instruction_tests l.s l.pr l.start) 0 l.i) ≡ Accepted
