-- What `bind_word` ensures of the variable's cell, bound to the array's element, is stored to the element found.
use Rattle.std.proofs.Common.{ap, ◌∙◌}
use Rattle.model.specs.Modes.{watched}
use Rattle.sheet.specs.Meaning.{qual_of, program_of}
use Rattle.index.proofs.Reading.{type_read}
use Rattle.words.specs.Word.{slot_in}
use Rattle.binding.proofs.Laws.{exit_is, word_of_sheet}
use Rattle.watched_plan.proofs.Laws.{inside_spot, store_at, store_halt, stored_to, stored_halt, stored_ok}
use Rattle.watched_plan.proofs.store_guarded.Goals as goal

pub returns-in_err-at : goal.returns-in_err-at
returns-in_err-at c =
    rw (exit_is c.from_residual.ensures.1)
    (λ s ready. (tt, λ v S. store_halt _ (program_of s) v c.args.v.objects.now _ _ _ (c.element_spot.ensures.finds _ _ v S) c.in_err-at.was))

pub returns-in_err-word : goal.returns-in_err-word
returns-in_err-word c =
    rw (exit_is c.from_residual-in_err-word.ensures.1)
    (λ s ready. (
      tt,
      λ v S. store_at _ (program_of s) v c.args.v.objects.now _ _ _ (c.element_spot.ensures.finds _ _ v S) _ _ c.in_ok-at.was (stored_halt _ _ _ c.in_err-word.was) c.read-head.ensures
          (type_read ready _ _ ∙ rw (c.object_name.ensures, c.kind_in.ensures))
          ((word_of_sheet ready c.bind_word.ensures).moves _ v _ S.head (ap (slot_in watched (qual_of s)) c.word_at-w.ensures ∙ S.variable _)),
    ))

pub returns : goal.returns
returns c =
    λ s ready. (
      stored_ok _ c.in_ok-word.was (inside_spot c.in_ok-at.was c.element_spot.ensures.inside) c.bind_word.ensures.fine,
      λ v S. store_at _ (program_of s) v c.args.v.objects.now _ _ _ (c.element_spot.ensures.finds _ _ v S) _ _ c.in_ok-at.was (stored_to _ _ _ c.in_ok-word.was) c.read-head.ensures
          (type_read ready _ _ ∙ rw (c.object_name.ensures, c.kind_in.ensures))
          ((word_of_sheet ready c.bind_word.ensures).moves _ v _ S.head (ap (slot_in watched (qual_of s)) c.word_at-w.ensures ∙ S.variable _)),
    )
