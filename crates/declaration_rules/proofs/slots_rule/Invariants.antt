use Prim.Native.Nat.{◌+◌}
use mathlib.Core.Path.{◌≡◌}
use Rattle.std.specs.Prelude.{Ok}
use Rattle.model.specs.Refusal.{failure, span}
use Rattle.model.specs.Rules.{closed_rule}
use Rattle.sheet.specs.Bytes.{byte_at}
use Rattle.sheet.specs.Meaning.{qual_of}
use Rattle.declaration_rules.proofs.slots_rule.Given as goal

abbrev pub invariant-loop-k : goal.invariant-loop-k
invariant-loop-k l = let s = l.s.bytes.now in failure (span (λ j. closed_rule (qual_of s (byte_at s l.at (4 + j)))) 0 l.k) ≡ Ok tt
