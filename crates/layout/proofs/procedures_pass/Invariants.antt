use mathlib.Core.Path.{◌≡◌}
use Rattle.model.specs.Refusal.{Accepted, verdict, span}
use Rattle.form.specs.WellFormed.{procedure_tests}
use Rattle.layout.proofs.procedures_pass.Given as goal

abbrev pub invariant-loop-p : goal.invariant-loop-p
invariant-loop-p l = verdict (span (procedure_tests l.s.bytes.now) 0 l.p) ≡ Accepted
