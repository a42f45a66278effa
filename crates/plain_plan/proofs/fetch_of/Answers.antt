-- The words read are those of the variables and of the head; below the size, the word moved is that of the array's cell.
use Rattle.std.proofs.lemmas.Result.{err_from_is_err_and}
use Rattle.std.proofs.Common.{sym, ◌∙◌}
use Rattle.model.specs.Rights.{fetch_right}
use Rattle.model.specs.Modes.{plain}
use Rattle.model.specs.Machine.{plan, plan_fetch, declared_as}
use Rattle.words.specs.Answers.{moved_to, halted}
use Rattle.plain_plan.proofs.Laws.{due, stuck_or, blank_there, filled_there, element_blank, element_blank_index, element_past, element_at, fetching, fetching_once, moved_is}
use Rattle.plain_plan.proofs.fetch_of.Goals as goal

pub returns-in_err-x : goal.returns-in_err-x
unfolding plan plan_fetch moved_to halted
returns-in_err-x c =
    let p = err_from_is_err_and c.from_residual.result c.from_residual.ensures.1 in
    λ q g v a s.
    let z = blank_there s c.word_at.ensures c.filled.ensures c.in_err-x.was in
    rw (p.1, p.2, z.0) (due (element_blank g v fetch_right _ _ (fetching g v a _) z.1) (λ e. (tt, sym e)))

pub returns-in_err-y : goal.returns-in_err-y
unfolding plan plan_fetch moved_to halted
returns-in_err-y c =
    let p = err_from_is_err_and c.from_residual-in_err-y.result c.from_residual-in_err-y.ensures.1 in
    λ q g v a s.
    let z = blank_there s c.word_at-2.ensures c.filled-2.ensures c.in_err-y.was in
    rw (p.1, p.2, z.0) (due (element_blank_index g v fetch_right _ _ (fetching g v a _) (filled_there s c.word_at.ensures c.filled.ensures c.in_ok-x.was) z.1) (λ e. (tt, sym e)))

pub returns-then-i-size_of : goal.returns-then-i-size_of
unfolding plan plan_fetch
returns-then-i-size_of c =
    let below = c.if-i-size_of.true in
    λ q g v a s.
    stuck_or
    (element_at g v fetch_right _ _ (fetching g v a _) s (filled_there s c.word_at.ensures c.filled.ensures c.in_ok-x.was) (filled_there s c.word_at-2.ensures c.filled-2.ensures c.in_ok-y.was)
    c.name_of-o.ensures c.low_of-i.ensures c.read.ensures c.size_of.ensures below)
    (λ e. moved_is q g v (declared_as plain g v a) a (s.cell _ _ _ e.0 below) c.read-then-i-size_of.ensures c.filled-then-i-size_of.ensures (e.1 ∙ fetching_once g v _ _ a _))

pub returns-else-i-size_of : goal.returns-else-i-size_of
unfolding plan plan_fetch moved_to halted
returns-else-i-size_of c =
    λ q g v a s.
    stuck_or
    (element_past g v fetch_right _ _ (fetching g v a _) s (filled_there s c.word_at.ensures c.filled.ensures c.in_ok-x.was) (filled_there s c.word_at-2.ensures c.filled-2.ensures c.in_ok-y.was)
    c.name_of-o.ensures c.low_of-i.ensures c.read.ensures c.size_of.ensures c.if-i-size_of.false)
    (λ e. (tt, sym e))
