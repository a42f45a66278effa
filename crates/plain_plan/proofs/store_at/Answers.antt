-- The words read are those of the variables and of the head; below the size, the cell stored to is one of the array's.
use Rattle.std.proofs.lemmas.Result.{err_from_is_err_and}
use Rattle.std.proofs.Common.{sym, ◌∙◌}
use Rattle.model.specs.Rights.{store_right}
use Rattle.model.specs.Modes.{plain}
use Rattle.model.specs.Machine.{plan, plan_store}
use Rattle.words.specs.Answers.{stored, halted}
use Rattle.words.proofs.Laws.{is_cell}
use Rattle.plain_plan.proofs.Laws.{due, stuck_or, blank_there, filled_there, element_blank, element_blank_index, element_past, element_at, storing, storing_blank, storing_filled, inside}
use Rattle.plain_plan.proofs.store_at.Goals as goal

pub returns-in_err-x : goal.returns-in_err-x
unfolding plan plan_store stored halted
returns-in_err-x c =
    let args = c.args in
    let p = err_from_is_err_and c.from_residual.result c.from_residual.ensures.1 in
    λ q g v s.
    let z = blank_there s c.word_at.ensures c.filled.ensures c.in_err-x.was in
    rw (p.1, p.2, z.0) (due (element_blank g v store_right _ _ (λ o i. storing g v args.c o.0 i) z.1) (λ e. (tt, sym e)))

pub returns-in_err-y : goal.returns-in_err-y
unfolding plan plan_store stored halted
returns-in_err-y c =
    let args = c.args in
    let p = err_from_is_err_and c.from_residual-in_err-y.result c.from_residual-in_err-y.ensures.1 in
    λ q g v s.
    let z = blank_there s c.word_at-2.ensures c.filled-2.ensures c.in_err-y.was in
    rw (p.1, p.2, z.0) (due (element_blank_index g v store_right _ _ (λ o i. storing g v args.c o.0 i) (filled_there s c.word_at.ensures c.filled.ensures c.in_ok-x.was) z.1) (λ e. (tt, sym e)))

pub returns-then-size_of-cell : goal.returns-then-size_of-cell
unfolding plan plan_store stored halted
returns-then-size_of-cell c =
    let args = c.args in
    λ q g v s.
    stuck_or (element_past g v store_right _ _ (λ o i. storing g v args.c o.0 i) s (filled_there s c.word_at.ensures c.filled.ensures c.in_ok-x.was) (filled_there s c.word_at-2.ensures c.filled-2.ensures c.in_ok-y.was)
    c.name_of-object.ensures c.low_of-cell.ensures c.read.ensures c.size_of.ensures c.if-size_of-cell.true)
    (λ e. (tt, sym e))

pub returns-in_err-word : goal.returns-in_err-word
unfolding plan plan_store stored halted
returns-in_err-word c =
    let args = c.args in
    let p = err_from_is_err_and c.from_residual-in_err-word.result c.from_residual-in_err-word.ensures.1 in
    λ q g v s.
    let z = blank_there s c.word_at-3.ensures c.filled-3.ensures c.in_err-word.was in
    rw (p.1, p.2, z.0) (stuck_or (element_at g v store_right _ _ (λ o i. storing g v args.c o.0 i) s (filled_there s c.word_at.ensures c.filled.ensures c.in_ok-x.was) (filled_there s c.word_at-2.ensures c.filled-2.ensures c.in_ok-y.was)
    c.name_of-object.ensures c.low_of-cell.ensures c.read.ensures c.size_of.ensures c.if-size_of-cell.false)
    (λ e. (tt, sym (e.1 ∙ storing_blank g v _ _ _ z.1))))

pub returns : goal.returns
unfolding plan plan_store stored
returns c =
    let args = c.args in
    λ q g v s.
    stuck_or (element_at g v store_right _ _ (λ o i. storing g v args.c o.0 i) s (filled_there s c.word_at.ensures c.filled.ensures c.in_ok-x.was) (filled_there s c.word_at-2.ensures c.filled-2.ensures c.in_ok-y.was)
    c.name_of-object.ensures c.low_of-cell.ensures c.read.ensures c.size_of.ensures c.if-size_of-cell.false)
    (λ e.
    let W = filled_there s c.word_at-3.ensures c.filled-3.ensures c.in_ok-word.was in
    ((is_cell plain q _ W.slot, inside q v _ _ s _ _ _ e.0 c.if-size_of-cell.false), sym (e.1 ∙ storing_filled g v _ _ _ W)))
