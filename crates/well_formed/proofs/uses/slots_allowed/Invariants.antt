use mathlib.Core.Path.{◌≡◌}
use Rattle.std.specs.Prelude.{Ok}
use Rattle.model.specs.Refusal.{failure, span}
use Rattle.well_formed.proofs.Told.{slot_test}
use Rattle.well_formed.proofs.uses.slots_allowed.Given as goal

abbrev pub invariant-loop-k : goal.invariant-loop-k
invariant-loop-k l = failure (span (slot_test l.s.bytes.now l.at) 0 l.k) ≡ Ok tt
