-- What was bound is a cell, of which `bind_word` ensures the rest; a stop stays what it is.
use mathlib.Core.Path.{sym, ap, ◌∙◌}
use Rattle.model.specs.Modes.{watched}
use Rattle.index.specs.Types.{qual_in, type_in}
use Rattle.binding.specs.Binds.{moved_cell}
use Rattle.binding.proofs.Laws.{exit_is, moved_ok_to, twice_to, twice_same, twice_halt}
use Rattle.binding.proofs.bind_through.Goals as goal

pub returns-in_err-x : goal.returns-in_err-x
returns-in_err-x c =
    let qual = qual_in c.args.index.now in
    rw (exit_is c.from_residual.ensures.1)
    (record {
      fine = tt;
      moves = λ g v d heads e. twice_halt qual g v _ _ d _ (ap (moved_cell qual) (sym c.in_err-x.was) ∙ c.bind_word.ensures.moves g v d heads e);
    })

pub returns-then-e-q : goal.returns-then-e-q
returns-then-e-q c =
    let a = c.args in
    let qual = qual_in a.index.now in
    record {
      fine = moved_ok_to c.in_ok-x.was c.bind_word.ensures.fine;
      moves = λ g v d heads e. twice_same qual g v _ _ d _ (ap (type_in a.index.now a.name) c.if-e-q.true) (ap (moved_cell qual) (sym c.in_ok-x.was) ∙ c.bind_word.ensures.moves g v d heads e);
    }

pub returns : goal.returns
returns c =
    let bound = c.bind_word.ensures in
    let again = c.bind_word-2.ensures in
    let qual = qual_in c.args.index.now in
    record {
      fine = again.fine;
      moves = λ g v d heads e. twice_to qual g v _ _ d _ _ (ap (moved_cell qual) (sym c.in_ok-x.was) ∙ bound.moves g v d heads e) (again.moves g v _ heads (moved_ok_to c.in_ok-x.was bound.fine watched qual));
    }
