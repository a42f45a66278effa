-- The word behind the running frame's variables tells what the call of the frame that waits keeps.
use mathlib.Core.Path.{refl}
use Rattle.frames.proofs.Returning.{keeps_in}
use Rattle.frames.proofs.kept_in.Goals as goal

pub returns : goal.returns
returns c =
    let args = c.args in
    let frame-end = c.frame_end-end in
    let back_kept = c.back_kept in
    keeps_in args.memory.now args.r _ _ _ frame-end.ensures refl back_kept.ensures
