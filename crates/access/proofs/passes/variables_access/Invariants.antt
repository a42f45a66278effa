use mathlib.Core.Path.{◌≡◌}
use Rattle.std.specs.Prelude.{Ok}
use Rattle.model.specs.Refusal.{verdict, span}
use Rattle.model.specs.Rules.{variable_rules}
use Rattle.sheet.specs.Meaning.{program_of, place_of}
use Rattle.access.proofs.passes.variables_access.Given as goal

abbrev pub invariant-loop-x : goal.invariant-loop-x
invariant-loop-x l = verdict (span (variable_rules (place_of l.s.bytes.now) (program_of l.s.bytes.now) l.p) 0 l.x) ≡ Ok tt
