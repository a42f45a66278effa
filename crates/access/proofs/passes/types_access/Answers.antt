-- The first record that is refused is the refusal.
use mathlib.Core.Path.{sym, ◌∙◌}
use Rattle.std.proofs.lemmas.Result.{err_from_is_err_and}
use Rattle.model.proofs.Verdicts.{pass_refuses}
use Rattle.access.proofs.passes.types_access.Goals as goal

pub returns-in_err-type_access : goal.returns-in_err-type_access
returns-in_err-type_access c =
    let p = err_from_is_err_and c.from_residual.result c.from_residual.ensures.1 in
    rw (p.1, p.2) (pass_refuses _ _ _ _ c.loop-i-test.true c.loop-i.invariant (sym c.in_err-type_access.was ∙ c.type_access.ensures))
