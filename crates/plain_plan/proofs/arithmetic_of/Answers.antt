-- The words read are those of the variables: blanks stop, of integers the operation is made, and of objects nothing is claimed.
use Rattle.std.proofs.lemmas.Result.{err_from_is_err_and}
use Rattle.std.proofs.Common.{sym, ◌∙◌}
use Rattle.model.specs.Modes.{plain}
use Rattle.words.specs.Answers.{given, halted}
use Rattle.plain_plan.proofs.Laws.{due, stuck_or, blank_there, filled_there, first_blank, second_blank, computed}
use Rattle.plain_plan.proofs.arithmetic_of.Goals as goal

pub returns-in_err-x : goal.returns-in_err-x
unfolding given halted
returns-in_err-x g c =
    let r = err_from_is_err_and c.from_residual.result c.from_residual.ensures.1 in
    λ q p v h a s.
    let z = blank_there s c.word_at.ensures c.filled.ensures c.in_err-x.was in
    rw (r.1, r.2, z.0) (due (g.met.A.Arithmetic.planned plain p v a _ _ ∙ first_blank p v a _ _ g.A.Arithmetic.of z.1) sym)

pub returns-in_err-y : goal.returns-in_err-y
unfolding given halted
returns-in_err-y g c =
    let r = err_from_is_err_and c.from_residual-in_err-y.result c.from_residual-in_err-y.ensures.1 in
    λ q p v h a s.
    let z = blank_there s c.word_at-2.ensures c.filled-2.ensures c.in_err-y.was in
    rw (r.1, r.2, z.0) (due (g.met.A.Arithmetic.planned plain p v a _ _ ∙ second_blank p v a _ _ g.A.Arithmetic.of (filled_there s c.word_at.ensures c.filled.ensures c.in_ok-x.was) z.1) sym)

pub returns : goal.returns
unfolding given
returns g c =
    λ q p v h a s.
    rw (g.met.A.Arithmetic.planned plain p v a c.args.b c.args.c)
    (stuck_or
    (computed p v a _ _ g.A.Arithmetic.of
    (filled_there s c.word_at.ensures c.filled.ensures c.in_ok-x.was)
    (filled_there s c.word_at-2.ensures c.filled-2.ensures c.in_ok-y.was)
    (rw (← c.low_of.ensures, ← c.low_of-2.ensures) c.apply.ensures))
    sym)
