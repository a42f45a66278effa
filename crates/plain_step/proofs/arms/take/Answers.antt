-- The next input word is that which the state has left.
use Rattle.model.specs.Modes.{plain}
use Rattle.sheet.specs.Meaning.{program_of}
use Rattle.frames.proofs.Performs.{performs_take}
use Rattle.plain_step.proofs.Laws.{exactly, takes}
use Rattle.plain_step.proofs.arms.take.Goals as goal

pub returns : goal.returns
returns c =
    let args = c.args in
    λ s out. performs_take plain s args.input.now _ _ out out args.r _ args.a (λ d. c.take_input.ensures plain d out) (λ v R e. exactly (takes (program_of s) v args.a _ e))
