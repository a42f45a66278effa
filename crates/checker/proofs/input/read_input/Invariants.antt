use Rattle.std.proofs.Common.{◌≡◌, ◌≤◌, length}
use Rattle.checker.proofs.input.read_input.Given as goal

abbrev pub invariant-loop : goal.invariant-loop
invariant-loop g l = (length l.buffer ≡ length l.initial.buffer) × (l.done ≤ length l.buffer)
