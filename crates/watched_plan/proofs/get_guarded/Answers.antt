-- The slot found is a cell of the record, of which `bind_word` ensures the rest; a stop stays what it is.
use Rattle.std.proofs.Common.{sym}
use Rattle.sheet.specs.Layout.{owner_at}
use Rattle.sheet.specs.Meaning.{program_of}
use Rattle.index.proofs.Ready.{of_sheet}
use Rattle.binding.proofs.Laws.{exit_is, word_of_sheet}
use Rattle.watched_plan.proofs.Laws.{declared_type, get_at, get_halt}
use Rattle.watched_plan.proofs.get_guarded.Goals as goal

pub returns-in_err-at : goal.returns-in_err-at
unfolding owner_at
returns-in_err-at c =
    let a = c.args in
    rw (exit_is c.from_residual.ensures.1)
    (tt, λ v at S. get_halt _ (program_of a.s.bytes.now) v a.v.frame.now a.v.objects.now _ _ _ (rw (sym at.head, sym c.field.ensures)) (c.slot_spot.ensures.finds _ _ v S) c.in_err-at.was)

pub returns : goal.returns
unfolding owner_at
returns c =
    let a = c.args in
    let s = a.s in
    let bound = word_of_sheet (of_sheet s) c.bind_word.ensures in (
      bound.fine,
      λ v at S. get_at _ (program_of s.bytes.now) v a.v.frame.now a.v.objects.now _ _ _ (rw (sym at.head, sym c.field.ensures)) (c.slot_spot.ensures.finds _ _ v S) _ c.in_ok-at.was c.slot_spot.ensures.inside S
          (declared_type s.bytes.now a.p _ (of_sheet s) c.inner_of.ensures v at) c.word_in-w.ensures (λ d. bound.moves _ v d S.head),
    )
