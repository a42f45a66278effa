-- The test of the kind is that of the definition; no right above the named ones is within all rights.
use Rattle.std.proofs.Common.{sym, refl}
use Rattle.sheet.specs.Layout.{owner_at, named_of}
use Rattle.index.proofs.Ready.{of_sheet}
use Rattle.binding.proofs.Laws.{passed, refused, exit_is}
use Rattle.watched_plan.proofs.Laws.{type_in_lem, made_required, made_misfit, record_fits, within_named}
use Rattle.watched_plan.proofs.record_made_as.Goals as goal

pub returns-in_err-require : goal.returns-in_err-require
unfolding owner_at
returns-in_err-require c =
    let s = c.args.s in
    let k = refused _ _ c.require.ensures c.in_err-require.was in
    let type = type_in_lem s.bytes.now c.args.p c.args.a (of_sheet s) c.inner_of-q.ensures in
    rw (exit_is c.from_residual.ensures.1, k.0)
    (made_misfit _ _ _ (rw (sym type, sym c.field-owner.ensures) (record_fits _ _ c.is_owned.ensures k.1)))

pub returns : goal.returns
unfolding owner_at named_of
returns c =
    let s = c.args.s in
    let type = type_in_lem s.bytes.now c.args.p c.args.a (of_sheet s) c.inner_of-q.ensures in
    made_required _ _ _ (rw (sym type, sym c.field-owner.ensures) (record_fits _ _ c.is_owned.ensures (passed _ _ c.require.ensures c.in_ok-require.was)))
    (sym (rw (sym type, sym c.field-owner.ensures, sym c.type_at.ensures, sym c.byte-named.ensures, sym c.rights_as-rights.ensures) (within_named _ _ c.has_none_above.ensures refl)))
    c.require-2.ensures
