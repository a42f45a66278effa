-- The words read are those of the variable and of the head; the size is in the head's word.
use Rattle.std.proofs.lemmas.Result.{err_from_is_err_and}
use Rattle.std.proofs.Common.{sym}
use Rattle.model.specs.Machine.{plan}
use Rattle.words.specs.Answers.{given, halted}
use Rattle.plain_plan.proofs.Laws.{due, stuck_or, blank_there, filled_there, size_blank, size_filled}
use Rattle.plain_plan.proofs.array_size_of.Goals as goal

pub returns-in_err-x : goal.returns-in_err-x
unfolding plan given halted
returns-in_err-x c =
    let p = err_from_is_err_and c.from_residual.result c.from_residual.ensures.1 in
    λ q g v a s.
    let z = blank_there s c.word_at.ensures c.filled.ensures c.in_err-x.was in
    rw (p.1, p.2, z.0) (due (size_blank g v a _ z.1) sym)

pub returns : goal.returns
unfolding plan given
returns c =
    λ q g v a s. stuck_or (size_filled g v a _ s (filled_there s c.word_at.ensures c.filled.ensures c.in_ok-x.was) c.name_of.ensures c.read.ensures c.size_of.ensures) sym
