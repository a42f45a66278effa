use Prim.Native.Nat.{ℕ, ◌-◌}
use mathlib.Core.Path.{◌≡◌}
use lib.ListN.{length}
use Rattle.model.specs.Rights.{Rights}
use Rattle.binding.specs.Binds.{FrameScope}
use Rattle.watched_calls.specs.Calls.{Bound}
use Rattle.watched_calls.proofs.bind_actuals.Given as goal

abbrev pub invariant-loop-j : goal.invariant-loop-j
invariant-loop-j l =
    (length l.memory ≡ length l.initial.memory)
    × ((k : ℕ) (z : Rights) → FrameScope l.s.bytes.now k z l.c → Bound l.s.bytes.now l.initial.memory l.memory l.r k l.b z l.at l.j (l.f - l.j))
