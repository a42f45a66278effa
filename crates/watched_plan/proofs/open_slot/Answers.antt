-- The test of tags and type is that of the kind; then open and the slot, in the definition's order.
use Rattle.std.proofs.Common.{eqb, ltb-true}
use Rattle.binding.proofs.Laws.{passed, refused, exit_is}
use Rattle.watched_plan.proofs.Laws.{slot_misfit, slot_without, slot_past, slot_there_at, inside_record}
use Rattle.watched_plan.proofs.open_slot.Goals as goal

pub returns-in_err-require : goal.returns-in_err-require
returns-in_err-require c =
    let a = c.args in
    let k = refused _ _ c.require.ensures c.in_err-require.was in
    rw (exit_is c.from_residual.ensures.1, k.0)
    (record {
      inside = tt;
      finds = λ q g v z m heads first. slot_misfit g v q a.h.now a.t a.k a.x heads first c.name_of-object.ensures c.read-head.ensures c.is_object_word.ensures c.is_record_head.ensures c.kind_in.ensures k.1;
    })

pub returns-in_err-require-2 : goal.returns-in_err-require-2
returns-in_err-require-2 c =
    let a = c.args in
    let kinds = passed _ _ c.require.ensures c.in_ok-require.was in
    let k = refused _ _ c.require-2.ensures c.in_err-require-2.was in
    rw (exit_is c.from_residual-in_err-require-2.ensures.1, k.0)
    (record {
      inside = tt;
      finds = λ q g v z m heads first. slot_without g v q a.h.now a.t a.k a.x heads first c.name_of-object.ensures c.read-head.ensures c.is_object_word.ensures c.is_record_head.ensures c.kind_in.ensures kinds c.low_of.ensures c.has_right.ensures k.1;
    })

pub returns-in_err-require-3 : goal.returns-in_err-require-3
returns-in_err-require-3 c =
    let a = c.args in
    let kinds = passed _ _ c.require.ensures c.in_ok-require.was in
    let licensed = passed _ _ c.require-2.ensures c.in_ok-require-2.was in
    let k = refused _ _ c.require-3.ensures c.in_err-require-3.was in
    rw (exit_is c.from_residual-in_err-require-3.ensures.1, k.0)
    (record {
      inside = tt;
      finds = λ q g v z m heads first. slot_past g v q a.h.now a.t a.k a.x heads first c.name_of-object.ensures c.read-head.ensures c.is_object_word.ensures c.is_record_head.ensures c.kind_in.ensures kinds c.low_of.ensures c.has_right.ensures licensed c.from-cell.ensures c.size_of.ensures k.1;
    })

pub returns : goal.returns
returns c =
    let a = c.args in
    let kinds = passed _ _ c.require.ensures c.in_ok-require.was in
    let licensed = passed _ _ c.require-2.ensures c.in_ok-require-2.was in
    let below = passed _ _ c.require-3.ensures c.in_ok-require-3.was in
    record {
      inside = inside_record a.h.now _ _ _ c.is_object_word.result (eqb c.kind_in.result a.t) c.read-head.ensures c.is_record_head.ensures kinds c.size_of.ensures (ltb-true _ _ below);
      finds = λ q g v z m heads first. slot_there_at g v q a.h.now a.t a.k a.x heads first c.name_of-object.ensures c.read-head.ensures c.is_object_word.ensures c.is_record_head.ensures c.kind_in.ensures kinds c.low_of.ensures c.has_right.ensures licensed c.from-cell.ensures c.size_of.ensures below;
    }
