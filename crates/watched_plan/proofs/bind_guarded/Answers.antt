-- What `bind_word` ensures of the variable's cell.
use Rattle.std.proofs.Common.{ap, ◌∙◌}
use Rattle.model.specs.Modes.{watched}
use Rattle.sheet.specs.Meaning.{qual_of, program_of}
use Rattle.index.proofs.Ready.{of_sheet}
use Rattle.words.specs.Word.{slot_in}
use Rattle.binding.proofs.Laws.{word_of_sheet}
use Rattle.watched_plan.proofs.Laws.{declared_type, bind_plan}
use Rattle.watched_plan.proofs.bind_guarded.Goals as goal

pub returns : goal.returns
returns c =
    let s = c.args.s in
    let bound = word_of_sheet (of_sheet s) c.bind_word.ensures in (
      bound.fine,
      λ v at S. bind_plan _ (program_of s.bytes.now) v _ _ _ (declared_type s.bytes.now c.args.p _ (of_sheet s) c.inner_of-q.ensures v at)
          (bound.moves _ v _ S.head (ap (slot_in watched (qual_of s.bytes.now)) c.word_at.ensures ∙ S.variable _)),
    )
