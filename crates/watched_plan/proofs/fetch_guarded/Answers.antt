-- The element found is a cell of the array, of which `bind_through` ensures the rest; a stop stays what it is.
use Rattle.sheet.specs.Meaning.{program_of}
use Rattle.index.proofs.Ready.{of_sheet}
use Rattle.binding.proofs.Laws.{exit_is, twice_of_sheet}
use Rattle.watched_plan.proofs.Laws.{declared_type, declared_element, fetch_at, fetch_halt}
use Rattle.watched_plan.proofs.fetch_guarded.Goals as goal

pub returns-in_err-at : goal.returns-in_err-at
returns-in_err-at c =
    let a = c.args in
    rw (exit_is c.from_residual.ensures.1)
    (tt, λ v at S. fetch_halt _ (program_of a.s.bytes.now) v a.v.frame.now a.v.objects.now _ _ _ (c.element_spot.ensures.finds _ _ v S) c.in_err-at.was)

pub returns : goal.returns
returns c =
    let a = c.args in
    let s = a.s in
    let bound = twice_of_sheet (of_sheet s) c.bind_through.ensures in (
      bound.fine,
      λ v at S. fetch_at _ (program_of s.bytes.now) v a.v.frame.now a.v.objects.now _ _ _ (c.element_spot.ensures.finds _ _ v S) _ c.in_ok-at.was c.element_spot.ensures.inside S
          (declared_type s.bytes.now a.p _ (of_sheet s) c.inner_of-q.ensures v at)
          (declared_element s.bytes.now v a.p (of_sheet s) at a.b _ c.declared_element.ensures)
          c.word_in-w.ensures (λ d. bound.moves _ v d S.head),
    )
