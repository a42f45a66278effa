-- The head that StoredOk tells of is an object's, so that the word written is a cell of it.
use Rattle.std.proofs.lemmas.Result.{err_from_is_err_and}
use mathlib.Core.Path.{ap}
use mathlib.Core.List.{◌++◌}
use lib.ListN.{drop}
use Rattle.sheet.specs.Meaning.{qual_of}
use Rattle.words.specs.Answers.{stored}
use Rattle.writers.proofs.Effects.{does_store, does_halt}
use Rattle.writers.proofs.store_cell.Goals as goal

pub returns-in_err-s : goal.returns-in_err-s
unfolding stored
returns-in_err-s c =
    let p = err_from_is_err_and c.from_residual.result c.from_residual.ensures.1 in
    λ m g out fine. rw (p.1, p.2, c.in_err-s.was) (does_halt m g _ out c.args.r _)

pub returns : goal.returns
unfolding stored
returns c =
    let s = c.args in
    λ m g out ok.
    let fine = rw c.in_ok-s.was at ok in
    rw (c.at_next.ensures, c.in_ok-s.was)
    (does_store m g _ _ out s.r _ _ _ _ (fine.0 m (qual_of g.sheet)) fine.1 (ap (λ l. l ++ drop s.r.used s.memory.now) c.write.ensures))
