use Prim.Native.Nat.{ℕ, ◌+◌, ◌<◌}
use mathlib.Core.Path.{◌≡◌}
use lib.ListN.{length, get_or, drop}
use lib.Seq.{paste}
use Rattle.frames.proofs.copy_filled.Given as goal

abbrev pub invariant-loop-j : goal.invariant-loop-j
invariant-loop-j l =
    (l.memory ≡ paste l.initial.memory l.to (drop l.from l.initial.memory) l.j)
    × (length l.memory ≡ length l.initial.memory)
    × ((i : ℕ) → i < l.j → get_or l.initial.memory (l.from + i) 0 ≡ 0 → ⊥)
