-- Cleared, then two words written: the words of the frame that the definition opens, with the variables that stood there, before those that were there.
use Rattle.frames.proofs.Opening.{opens}
use Rattle.frames.proofs.open.Goals as goal

pub returns : goal.returns
returns c =
    let args = c.args in
    λ m. opens m args.memory.now _ args.r args.a args.w args.set args.v args.f _ c.requires.sane c.requires.v_bound.1 c.requires.f_le_v
    c.clear.ensures (c.back_of.ensures m)
