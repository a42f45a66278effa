-- The integer is that of the variable.
use Rattle.model.specs.Modes.{watched}
use Rattle.model.specs.Machine.{one_integer}
use Rattle.sheet.specs.Meaning.{qual_of, program_of}
use Rattle.frames.proofs.Performs.{always, sees_parts, performs_jump_in}
use Rattle.watched_values.proofs.jump_zero.Goals as goal

pub returns : goal.returns
returns c =
    let a = c.args in
    λ s input out. performs_jump_in watched s input _ _ out out a.r _ a.a _ a.k (λ d. c.jump.ensures watched d _ out)
    (λ v S. always (one_integer watched (program_of s) v a.a) _ (c.integer_in.ensures (qual_of s) (program_of s) v _ (sees_parts watched (qual_of s) v a.memory.now a.r c.parts.ensures.frame c.parts.ensures.objects S)))
