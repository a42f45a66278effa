use Prim.Native.Nat.{◌+◌}
use Rattle.index.specs.Types.{named_as}
use Rattle.index.specs.Scope.{inner_as, need_as}
use Rattle.settling.specs.Settles.{least_name}
use Rattle.settling.proofs.Actuals.{FoundBefore}
use Rattle.settling.proofs.found_by.Given as goal

abbrev pub invariant-loop-j : goal.invariant-loop-j
invariant-loop-j l = FoundBefore (need_as l.s.bytes.now l.to) (λ k. inner_as l.s.bytes.now l.c (l.b + k)) (named_as (least_name l.to.name)) l.j l.x
