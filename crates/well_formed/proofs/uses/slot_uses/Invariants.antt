use mathlib.Core.Path.{◌≡◌}
use Rattle.model.specs.Refusal.{Accepted, verdict, span}
use Rattle.form.specs.WellFormed.{slot_uses}
use Rattle.well_formed.proofs.uses.slot_uses.Given as goal

abbrev pub invariant-loop-i : goal.invariant-loop-i
invariant-loop-i l = verdict (span (slot_uses l.s.bytes.now) 0 l.i) ≡ Accepted
