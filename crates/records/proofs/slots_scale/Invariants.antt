use Prim.Native.Nat.{◌+◌}
use mathlib.Core.Path.{◌≡◌}
use mathlib.Core.Bool.{true}
use lib.Dec.{ltb}
use Rattle.sheet.specs.Bytes.{byte_at}
use Rattle.limits.specs.Scale.{all_below, below_or_none}
use Rattle.records.proofs.slots_scale.Given as goal

abbrev pub invariant-loop-k : goal.invariant-loop-k
invariant-loop-k l = all_below l.k (λ k. below_or_none l.q (ltb k l.n) (byte_at l.s l.at (4 + k))) ≡ true
