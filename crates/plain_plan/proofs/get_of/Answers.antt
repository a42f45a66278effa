-- The word read is that of the variable; the word moved is that of the record's slot, or the definition is stuck.
use Rattle.std.proofs.lemmas.Result.{err_from_is_err_and}
use Rattle.std.proofs.Common.{sym}
use Rattle.model.specs.Rights.{open_right}
use Rattle.model.specs.Modes.{plain}
use Rattle.model.specs.Machine.{plan, plan_get, declared_as}
use Rattle.words.specs.Answers.{moved_to, halted}
use Rattle.plain_plan.proofs.Laws.{due, stuck_or, blank_there, filled_there, slot_blank, slot_filled, getting, moved_is}
use Rattle.plain_plan.proofs.get_of.Goals as goal

pub returns-in_err-x : goal.returns-in_err-x
unfolding plan plan_get moved_to halted
returns-in_err-x c =
    let p = err_from_is_err_and c.from_residual.result c.from_residual.ensures.1 in
    λ q g v a s.
    let z = blank_there s c.word_at.ensures c.filled.ensures c.in_err-x.was in
    rw (p.1, p.2, z.0) (due (slot_blank g v open_right (g.owner v.procedure) _ _ (getting g v a c.args.k) z.1) (λ e. (tt, sym e)))

pub returns : goal.returns
unfolding plan plan_get
returns c =
    λ q g v a s.
    stuck_or (slot_filled g v open_right (g.owner v.procedure) _ _ (getting g v a c.args.k) (filled_there s c.word_at.ensures c.filled.ensures c.in_ok-x.was) c.name_of.ensures)
    (λ there. moved_is q g v (declared_as plain g v a) a (s.cell _ _ _ there.head there.below) c.read.ensures c.filled-2.ensures there.is)
