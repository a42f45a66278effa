-- The integer is that of the variable.
use Rattle.model.specs.Modes.{plain}
use Rattle.sheet.specs.Meaning.{qual_of, program_of}
use Rattle.frames.proofs.Performs.{sees_parts, performs_jump_in}
use Rattle.plain_step.proofs.arms.jump_zero.Goals as goal

pub returns : goal.returns
returns c =
    λ s input out. performs_jump_in plain s input _ _ out out c.args.r _ c.args.a _ c.args.k (λ d. c.jump.ensures plain d _ out)
    (λ v S. c.integer_at.ensures (qual_of s) (program_of s) v _ (sees_parts plain (qual_of s) v c.args.memory.now c.args.r c.parts.ensures.frame c.parts.ensures.objects S))
