use mathlib.Core.Path.{◌≡◌}
use Rattle.model.specs.Refusal.{Accepted, verdict, span}
use Rattle.form.specs.WellFormed.{variable_tests}
use Rattle.layout.proofs.variables_pass.Given as goal

abbrev pub invariant-loop-x : goal.invariant-loop-x
invariant-loop-x l = verdict (span (variable_tests l.s l.pr l.start) 0 l.x) ≡ Accepted
