-- The word written is an integer's cell, so that the frame's variables are those with that integer; a stop is the number's own.
use Rattle.std.proofs.lemmas.Result.{err_from_is_err_and}
use Rattle.model.specs.Machine.{word, filled}
use Rattle.model.specs.Modes.{carried}
use Rattle.sheet.specs.Meaning.{qual_of}
use Rattle.words.specs.Word.{slot_in}
use Rattle.words.specs.Answers.{given}
use Rattle.writers.proofs.Effects.{puts, does_write, does_halt}
use Rattle.writers.proofs.give_number.Goals as goal

pub returns-in_err-x : goal.returns-in_err-x
unfolding given
returns-in_err-x c =
    let p = err_from_is_err_and c.from_residual.result c.from_residual.ensures.1 in
    λ m g out. rw (p.1, p.2, c.in_err-x.was) (does_halt m g _ out c.args.r _)

pub returns : goal.returns
unfolding given
returns c =
    let s = c.args in
    λ m g out. rw (c.at_next.ensures, c.in_ok-x.was)
    (does_write m g _ _ out s.r s.a (filled (word _) (carried m 0))
    (puts (slot_in m (qual_of g.sheet)) _ _ s.r s.a _ _ c.requires.sane c.requires.a_bound (c.integer_word.ensures m (qual_of g.sheet)) c.put_variable.ensures))
