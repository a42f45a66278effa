-- What `bind_word` ensures of the variable's cell, bound to the slot's type, is stored to the slot found.
use Rattle.std.proofs.Common.{sym, ap, ◌∙◌}
use Rattle.model.specs.Modes.{watched}
use Rattle.sheet.specs.Layout.{owner_at}
use Rattle.sheet.specs.Meaning.{qual_of, program_of}
use Rattle.index.proofs.Ready.{of_sheet}
use Rattle.words.specs.Word.{slot_in}
use Rattle.binding.proofs.Laws.{exit_is, word_of_sheet}
use Rattle.watched_plan.proofs.Laws.{slot_declared, inside_spot, set_at, set_halt, stored_to, stored_halt, stored_ok}
use Rattle.watched_plan.proofs.set_slot_guarded.Goals as goal

pub returns-in_err-at : goal.returns-in_err-at
unfolding owner_at
returns-in_err-at c =
    rw (exit_is c.from_residual.ensures.1)
    (tt, λ v at S. set_halt _ (program_of c.args.s.bytes.now) v _ _ _ (rw (sym at.head, sym c.field-owner.ensures)) (c.slot_spot.ensures.finds _ _ v S) c.in_err-at.was)

pub returns-in_err-word : goal.returns-in_err-word
unfolding owner_at
returns-in_err-word c =
    let s = c.args.s in
    let bound = word_of_sheet (of_sheet s) c.bind_word.ensures in
    rw (exit_is c.from_residual-in_err-word.ensures.1) (
      tt,
      λ v at S. set_at _ (program_of s.bytes.now) v _ _ _ (rw (sym at.head, sym c.field-owner.ensures)) (c.slot_spot.ensures.finds _ _ v S) _ _ c.in_ok-at.was (stored_halt _ _ _ c.in_err-word.was)
          (slot_declared s.bytes.now v (of_sheet s) at _ _ c.slot_of-q.ensures)
          (bound.moves _ v _ S.head (ap (slot_in watched (qual_of s.bytes.now)) c.word_at.ensures ∙ S.variable _)),
    )

pub returns : goal.returns
unfolding owner_at
returns c =
    let s = c.args.s in
    let bound = word_of_sheet (of_sheet s) c.bind_word.ensures in (
      stored_ok _ c.in_ok-word.was (inside_spot c.in_ok-at.was c.slot_spot.ensures.inside) bound.fine,
      λ v at S. set_at _ (program_of s.bytes.now) v _ _ _ (rw (sym at.head, sym c.field-owner.ensures)) (c.slot_spot.ensures.finds _ _ v S) _ _ c.in_ok-at.was (stored_to _ _ _ c.in_ok-word.was)
          (slot_declared s.bytes.now v (of_sheet s) at _ _ c.slot_of-q.ensures)
          (bound.moves _ v _ S.head (ap (slot_in watched (qual_of s.bytes.now)) c.word_at.ensures ∙ S.variable _)),
    )
