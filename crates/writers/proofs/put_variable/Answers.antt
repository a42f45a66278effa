-- The part that is lent has as many words as the frame has variables, and the variable is one of them.
use Prim.Native.Nat.{◌-◌, ◌≤◌}
use mathlib.Core.Path.{◌≡◌}
use native.Mathlib.Omega.{arith}
use borrow.Rule.Slice.PartMut.{set_mid_at}
use lib.ListN.{length, take, drop, length-drop}
use lib.Seq.{length-take-le}
use Rattle.writers.specs.Memory.{variables_in}
use Rattle.writers.proofs.put_variable.Goals as goal

pub returns : goal.returns
returns c =
    let s = c.args in
    let words = s.memory.now in
    let n : c.frame_end-end.result - s.r.base ≡ variables_in s.r = omega arith in
    let fits : variables_in s.r ≤ length (drop s.r.base words) = rw length-drop (omega arith) in
    let size : length (take (variables_in s.r) (drop s.r.base words)) ≡ variables_in s.r = length-take-le _ _ fits in
    rw n (set_mid_at s.r.base (variables_in s.r) s.a words s.w (omega arith))
