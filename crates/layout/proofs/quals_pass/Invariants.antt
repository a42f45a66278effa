use mathlib.Core.Path.{◌≡◌}
use Rattle.model.specs.Refusal.{Accepted, verdict, span}
use Rattle.form.specs.WellFormed.{qual_tests}
use Rattle.layout.proofs.quals_pass.Given as goal

abbrev pub invariant-loop-j : goal.invariant-loop-j
invariant-loop-j l = verdict (span (qual_tests l.e.bytes.now) 0 l.j) ≡ Accepted
