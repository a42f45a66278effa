use mathlib.Core.Path.{◌≡◌}
use Rattle.model.specs.Refusal.{Accepted, verdict, span}
use Rattle.form.specs.WellFormed.{variable_uses}
use Rattle.well_formed.proofs.uses.variable_uses.Given as goal

abbrev pub invariant-loop-x : goal.invariant-loop-x
invariant-loop-x l = verdict (span (variable_uses l.s.bytes.now l.bounded l.start) 0 l.x) ≡ Accepted
