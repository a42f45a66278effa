use Prim.Native.Nat.{◌-◌, ◌≤◌}
use lib.ListN.{length}
use Rattle.run_by_frames.proofs.Turn.{Kept}
use Rattle.run_by_frames.proofs.run.run_until.Given as goal

abbrev pub invariant-loop-q : goal.invariant-loop-q
invariant-loop-q g l =
    (l.r.steps ≤ l.until) × Kept g.M.Machine.mode l.s.sheet.bytes.now l.input l.until (length l.initial.memory) l.initial.memory l.initial.output l.initial.r l.memory l.output l.r

abbrev pub decreases-loop-q : goal.decreases-loop-q
decreases-loop-q g l = l.until - l.r.steps
