-- A new array fits its own declared type; its rights are tested as in the definition.
use Rattle.std.proofs.Common.{ap, ◌∙◌}
use Rattle.model.specs.Qualified.{rights}
use Rattle.index.proofs.Ready.{of_sheet}
use Rattle.binding.proofs.Laws.{passed, refused, exit_is}
use Rattle.watched_plan.proofs.Laws.{type_in_lem, array_in_type, made_required, made_misfit, array_fits}
use Rattle.watched_plan.proofs.array_made_as.Goals as goal

pub returns-in_err-require : goal.returns-in_err-require
returns-in_err-require c =
    let s = c.args.s in
    let k = refused _ _ c.require.ensures c.in_err-require.was in
    rw (exit_is c.from_residual.ensures.1, k.0)
    (made_misfit _ _ _ (array_fits _ (c.is_array.ensures ∙ array_in_type s.bytes.now c.args.p c.args.a (of_sheet s) c.inner_of-q.ensures) k.1))

pub returns : goal.returns
returns c =
    let s = c.args.s in
    let type = type_in_lem s.bytes.now c.args.p c.args.a (of_sheet s) c.inner_of-q.ensures in
    let kind = array_in_type s.bytes.now c.args.p c.args.a (of_sheet s) c.inner_of-q.ensures in
    made_required _ _ _ (array_fits _ (c.is_array.ensures ∙ kind) (passed _ _ c.require.ensures c.in_ok-require.was))
    (rw (c.rights_as-rights.ensures ∙ ap rights type) at c.is_within.ensures)
    c.require-2.ensures
