use Prim.Native.Nat.{◌+◌}
use mathlib.Core.Path.{◌≡◌}
use Rattle.std.specs.Prelude.{Ok}
use Rattle.model.specs.Refusal.{failure, span}
use Rattle.model.specs.Rules.{moves}
use Rattle.index.specs.Scope.{inner_as, need_as}
use Rattle.call_rules.proofs.actuals_rule.Given as goal

abbrev pub invariant-loop-j : goal.invariant-loop-j
invariant-loop-j l = let s = l.s.bytes.now in failure (span (λ j. moves (inner_as s l.p (l.b + j)) (need_as s l.to j)) 0 l.j) ≡ Ok tt
