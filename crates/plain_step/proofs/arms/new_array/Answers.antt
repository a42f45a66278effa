-- The integer is that of the variable, and the free units are those of the view.
use Rattle.model.specs.Modes.{plain}
use Rattle.sheet.specs.Meaning.{qual_of, program_of}
use Rattle.frames.proofs.Performs.{sees_parts}
use Rattle.plain_step.proofs.Laws.{performs_array}
use Rattle.plain_step.proofs.arms.new_array.Goals as goal

pub returns : goal.returns
returns c =
    λ s input out. performs_array s input _ _ out out c.args.r _ c.args.a c.args.b _ (λ d. c.give_array.ensures d out)
    (λ v S. c.integer_at-n.ensures (qual_of s) (program_of s) v _ (sees_parts plain (qual_of s) v c.args.memory.now c.args.r c.parts.ensures.frame c.parts.ensures.objects S))
