-- The word written is a cell's where MovedOk says so; a stop is the answer's own.
use Rattle.std.proofs.lemmas.Result.{err_from_is_err_and}
use Rattle.sheet.specs.Meaning.{qual_of}
use Rattle.words.specs.Word.{slot_in}
use Rattle.words.specs.Answers.{moved_to}
use Rattle.writers.proofs.Effects.{puts, does_write, does_halt}
use Rattle.writers.proofs.give_moved.Goals as goal

pub returns-in_err-w : goal.returns-in_err-w
unfolding moved_to
returns-in_err-w c =
    let p = err_from_is_err_and c.from_residual.result c.from_residual.ensures.1 in
    λ m g out fine. rw (p.1, p.2, c.in_err-w.was) (does_halt m g _ out c.args.r _)

pub returns : goal.returns
unfolding moved_to
returns c =
    let s = c.args in
    λ m g out fine. rw (c.at_next.ensures, c.in_ok-w.was)
    (does_write m g _ _ out s.r s.a _
    (puts (slot_in m (qual_of g.sheet)) _ _ s.r s.a _ _ c.requires.sane c.requires.a_bound ((rw c.in_ok-w.was at fine) m (qual_of g.sheet)) c.put_variable.ensures))
