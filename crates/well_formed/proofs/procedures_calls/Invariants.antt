use mathlib.Core.Path.{◌≡◌}
use Rattle.model.specs.Refusal.{Accepted, verdict, span}
use Rattle.form.specs.WellFormed.{procedure_calls}
use Rattle.well_formed.proofs.procedures_calls.Given as goal

abbrev pub invariant-loop-p : goal.invariant-loop-p
invariant-loop-p l = verdict (span (procedure_calls l.s.bytes.now) 0 l.p) ≡ Accepted
