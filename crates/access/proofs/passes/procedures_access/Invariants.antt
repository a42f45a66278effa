use mathlib.Core.Path.{◌≡◌}
use Rattle.std.specs.Prelude.{Ok}
use Rattle.model.specs.Refusal.{verdict, span}
use Rattle.model.specs.Rules.{procedure_rules}
use Rattle.sheet.specs.Meaning.{program_of, place_of}
use Rattle.access.proofs.passes.procedures_access.Given as goal

abbrev pub invariant-loop-p : goal.invariant-loop-p
invariant-loop-p l = verdict (span (procedure_rules (place_of l.s.bytes.now) (program_of l.s.bytes.now)) 0 l.p) ≡ Ok tt
