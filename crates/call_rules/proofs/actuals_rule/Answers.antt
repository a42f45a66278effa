-- The first actual that does not move is the refusal.
use mathlib.Core.Path.{sym, ◌∙◌}
use Rattle.std.proofs.lemmas.Result.{err_from_is_err_and}
use Rattle.model.proofs.Verdicts.{test_refuses}
use Rattle.sheet.specs.Layout.{formals_at}
use Rattle.call_rules.proofs.actuals_rule.Goals as goal

pub returns-in_err-actual_rule : goal.returns-in_err-actual_rule
unfolding formals_at
returns-in_err-actual_rule c =
    let p = err_from_is_err_and c.from_residual.result c.from_residual.ensures.1 in
    rw (p.1, p.2, ← c.field-formals.ensures)
    (test_refuses _ _ _ _ c.loop-j-test.true c.loop-j.invariant (sym c.in_err-actual_rule.was ∙ c.actual_rule.ensures))
