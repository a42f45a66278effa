-- The number is the instruction's own.
use Rattle.model.specs.Modes.{plain}
use Rattle.sheet.specs.Meaning.{program_of}
use Rattle.std.proofs.Common.{Ok}
use Rattle.words.specs.Answers.{given}
use Rattle.frames.proofs.Performs.{performs_seeing}
use Rattle.plain_step.proofs.Laws.{exactly, sets}
use Rattle.plain_step.proofs.arms.set.Goals as goal

pub returns : goal.returns
returns c =
    let args = c.args in
    λ s input out. performs_seeing plain s input _ _ out out args.r _ _ (λ q. given plain args.a (Ok args.k)) (λ d. c.give_number.ensures plain d out) (λ v R S. exactly (sets (program_of s) v args.a args.k))
