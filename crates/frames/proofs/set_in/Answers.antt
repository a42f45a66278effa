-- The word behind the running frame's variables has its set.
use Rattle.frames.proofs.Returning.{sets_in}
use Rattle.frames.proofs.set_in.Goals as goal

pub returns : goal.returns
returns c =
    let args = c.args in
    let frame-end = c.frame_end-end in
    let read = c.read in
    let low_of = c.low_of in
    sets_in args.memory.now args.r _ _ _ frame-end.ensures read.ensures low_of.ensures
