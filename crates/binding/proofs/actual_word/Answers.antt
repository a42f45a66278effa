-- What was bound to need is a filled cell, of which `raise_filled` ensures the rest; a stop stays what it is.
use mathlib.Core.Path.{sym, ap, ◌∙◌}
use Rattle.sheet.specs.Meaning.{qual_of, program_of}
use Rattle.index.proofs.Ready.{of_sheet}
use Rattle.binding.specs.Binds.{moved_cell}
use Rattle.binding.proofs.Laws.{exit_is, word_of_sheet, raises_of_sheet, actual_to, actual_same, actual_halt, moved_ok_to}
use Rattle.binding.proofs.actual_word.Goals as goal

pub returns-in_err-x : goal.returns-in_err-x
returns-in_err-x c =
    let s = c.args.s in
    let bound = word_of_sheet (of_sheet s) c.bind_word.ensures in
    rw (exit_is c.from_residual.ensures.1)
    (record {
      fine = tt;
      moves = λ v k b z heads at e. actual_halt v k b z c.args.j (of_sheet s) at c.need_of-need.ensures _ (ap (moved_cell (qual_of s.bytes.now)) (sym c.in_err-x.was) ∙ bound.moves (program_of s.bytes.now) v _ heads e);
    })

pub returns-then-need-inner : goal.returns-then-need-inner
returns-then-need-inner c =
    let s = c.args.s in
    let bound = word_of_sheet (of_sheet s) c.bind_word.ensures in
    let fine = moved_ok_to c.in_ok-x.was bound.fine in
    record {
      fine = fine;
      moves = λ v k b z heads at e. actual_same v k b z c.args.j (of_sheet s) at c.need_of-need.ensures _ c.inner_of-inner.ensures fine (ap (moved_cell (qual_of s.bytes.now)) (sym c.in_ok-x.was) ∙ bound.moves (program_of s.bytes.now) v _ heads e) c.if-need-inner.true;
    }

pub returns : goal.returns
returns c =
    let s = c.args.s in
    let bound = word_of_sheet (of_sheet s) c.bind_word.ensures in
    let raising = raises_of_sheet (of_sheet s) c.raise_filled.ensures in
    record {
      fine = raising.fine;
      moves = λ v k b z heads at e. actual_to v k b z c.args.j (of_sheet s) at c.need_of-need.ensures _ c.inner_of-inner.ensures (moved_ok_to c.in_ok-x.was bound.fine) (ap (moved_cell (qual_of s.bytes.now)) (sym c.in_ok-x.was) ∙ bound.moves (program_of s.bytes.now) v _ heads e) _ c.field.ensures (λ y m. raising.moves v y m heads);
    }
