-- The integer is that of the variable, and the free output words are those of the view.
use Rattle.model.specs.Modes.{plain}
use Rattle.sheet.specs.Meaning.{qual_of, program_of}
use Rattle.frames.proofs.Performs.{sees_parts, performs_put_in}
use Rattle.plain_step.proofs.arms.put.Goals as goal

pub returns : goal.returns
returns c =
    λ s input. performs_put_in plain s input _ _ _ _ c.args.r _ c.args.a _ (λ d. c.put_output.ensures plain d _)
    (λ v S. c.integer_at-n.ensures (qual_of s) (program_of s) v _ (sees_parts plain (qual_of s) v c.args.memory.now c.args.r c.parts.ensures.frame c.parts.ensures.objects S))
