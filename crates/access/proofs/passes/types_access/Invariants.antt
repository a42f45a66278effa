use mathlib.Core.Path.{◌≡◌}
use Rattle.std.specs.Prelude.{Ok}
use Rattle.model.specs.Refusal.{verdict, span}
use Rattle.model.specs.Rules.{type_rules}
use Rattle.sheet.specs.Meaning.{program_of, place_of}
use Rattle.access.proofs.passes.types_access.Given as goal

abbrev pub invariant-loop-i : goal.invariant-loop-i
invariant-loop-i l = verdict (span (type_rules (place_of l.s.bytes.now) (program_of l.s.bytes.now)) 0 l.i) ≡ Ok tt
