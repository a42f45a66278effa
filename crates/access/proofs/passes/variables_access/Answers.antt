-- The first record that is refused is the refusal; the bound is the byte read.
use mathlib.Core.Path.{sym, ◌∙◌}
use Rattle.std.proofs.lemmas.Result.{err_from_is_err_and}
use Rattle.model.proofs.Verdicts.{pass_refuses}
use Rattle.sheet.specs.Layout.{variables_field}
use Rattle.access.proofs.passes.variables_access.Goals as goal

pub returns-in_err-variable_access : goal.returns-in_err-variable_access
unfolding variables_field
returns-in_err-variable_access c =
    let n = rw c.requires.own_scope.head at c.field-n.ensures in
    let p = err_from_is_err_and c.from_residual.result c.from_residual.ensures.1 in
    rw (p.1, p.2, ← n) (pass_refuses _ _ _ _ c.loop-x-test.true c.loop-x.invariant (sym c.in_err-variable_access.was ∙ c.variable_access.ensures))
