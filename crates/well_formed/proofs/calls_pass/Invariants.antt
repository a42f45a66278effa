use mathlib.Core.Path.{◌≡◌}
use Rattle.model.specs.Refusal.{Accepted, verdict, span}
use Rattle.form.specs.WellFormed.{call_tests}
use Rattle.well_formed.proofs.calls_pass.Given as goal

abbrev pub invariant-loop-i : goal.invariant-loop-i
invariant-loop-i l = verdict (span (call_tests l.s.bytes.now l.vars l.start) 0 l.i) ≡ Accepted
