-- The loop over the slots: those before the present one have passed. The bound is the byte read.
use mathlib.Core.Path.{sym, ◌∙◌}
use Rattle.std.proofs.lemmas.Result.{err_from_is_err_and}
use Rattle.model.proofs.Verdicts.{test_more, test_refuses}
use Rattle.index.proofs.Ready.{of_sheet}
use Rattle.declaration_rules.proofs.slots_rule.Goals as goal

pub returns-in_err-closed_rule : goal.returns-in_err-closed_rule
returns-in_err-closed_rule c =
    let e = rw (c.byte.ensures, c.from.ensures, (of_sheet c.args.s).types _) at c.closed_rule.ensures in
    let p = err_from_is_err_and c.from_residual.result c.from_residual.ensures.1 in
    rw (p.1, p.2, ← c.byte-slots.ensures)
    (test_refuses _ _ _ _ c.loop-k-test.true c.loop-k.invariant (sym c.in_err-closed_rule.was ∙ e))

pub loop-k-preserved : goal.loop-k-preserved
loop-k-preserved c =
    let e = rw (c.byte.ensures, c.from.ensures, (of_sheet c.args.s).types _) at c.closed_rule.ensures in
    test_more _ _ c.loop-k.invariant (sym c.in_ok-closed_rule.was ∙ e)
