use Prim.Native.Nat.{◌-◌, ◌≤◌}
use mathlib.Core.Path.{◌≡◌}
use lib.ListN.{length}
use Rattle.run_by_frames.specs.Turn.{ScopeFor}
use Rattle.run_by_frames.proofs.Turn.{Kept, kept_with}
use Rattle.run_by_frames.proofs.run.run_frame.Given as goal

abbrev pub invariant-loop-r : goal.invariant-loop-r
invariant-loop-r g l =
    (l.initial.r.steps ≤ l.r.steps)
    × ((l.r.steps ≤ l.until)
    × ((l.r ≡ kept_with l.initial.r l.r) × (Kept g.M.Machine.mode l.s.sheet.bytes.now l.input l.until (length l.initial.memory) l.initial.memory l.initial.output l.initial.r l.memory l.output l.r × ScopeFor g.M.Machine.mode l.s.sheet.bytes.now l.memory l.r l.p)))

abbrev pub decreases-loop-r : goal.decreases-loop-r
decreases-loop-r g l = l.until - l.r.steps
