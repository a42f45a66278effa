-- The word of the procedure gives its scope and its bound; both are the program's.
use Rattle.index.proofs.Ready.{of_sheet}
use Rattle.index.proofs.Reading.{placed_word}
use Rattle.instruction_rules.proofs.Laws.{called_as}
use Rattle.settling.proofs.Actuals.{bound_here}
use Rattle.instruction_rules.proofs.called_rule.Goals as goal

pub returns : goal.returns
returns c =
    let a = c.args in
    let w = rw (← c.procedure_in-w.ensures) at ((of_sheet a.s).procedures a.k c.requires.k_bound.0) in
    let scope = c.own_scope-to.ensures a.k (placed_word w) c.requires.k_bound.1 in
    rw (← called_as scope) (c.call_rule.ensures _ (bound_here scope (c.is_bounded_in.ensures _ a.k (placed_word w))))
