-- The integer is that of the variable, and the free output words are those of the view.
use Rattle.model.specs.Modes.{watched}
use Rattle.model.specs.Machine.{one_integer}
use Rattle.sheet.specs.Meaning.{qual_of, program_of}
use Rattle.frames.proofs.Performs.{always, sees_parts, performs_put_in}
use Rattle.watched_values.proofs.put.Goals as goal

pub returns : goal.returns
returns c =
    let a = c.args in
    λ s input. performs_put_in watched s input _ _ _ _ a.r _ a.a _ (λ d. c.put_output.ensures watched d _)
    (λ v S. always (one_integer watched (program_of s) v a.a) _ (c.integer_in-n.ensures (qual_of s) (program_of s) v _ (sees_parts watched (qual_of s) v a.memory.now a.r c.parts.ensures.frame c.parts.ensures.objects S)))
