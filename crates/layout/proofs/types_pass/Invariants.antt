use mathlib.Core.Path.{◌≡◌}
use Rattle.model.specs.Refusal.{Accepted, verdict, span}
use Rattle.form.specs.WellFormed.{type_tests}
use Rattle.layout.proofs.types_pass.Given as goal

abbrev pub invariant-loop-i : goal.invariant-loop-i
invariant-loop-i l = verdict (span (type_tests l.e.bytes.now) 0 l.i) ≡ Accepted
