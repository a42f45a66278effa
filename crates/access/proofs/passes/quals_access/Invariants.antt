use mathlib.Core.Path.{◌≡◌}
use Rattle.std.specs.Prelude.{Ok}
use Rattle.model.specs.Refusal.{verdict, span}
use Rattle.model.specs.Rules.{qual_rules}
use Rattle.sheet.specs.Meaning.{program_of, place_of}
use Rattle.access.proofs.passes.quals_access.Given as goal

abbrev pub invariant-loop-j : goal.invariant-loop-j
invariant-loop-j l = verdict (span (qual_rules (place_of l.s.bytes.now) (program_of l.s.bytes.now)) 0 l.j) ≡ Ok tt
