-- The words read are those of the variables; the slot set is one of the record's, or the definition is stuck.
use Rattle.std.proofs.lemmas.Result.{err_from_is_err_and}
use Rattle.std.proofs.Common.{sym, refl, ◌∙◌}
use Rattle.model.specs.Rights.{open_right}
use Rattle.model.specs.Modes.{plain}
use Rattle.model.specs.Machine.{read_in, plan, plan_set}
use Rattle.words.specs.Answers.{stored, halted}
use Rattle.words.proofs.Laws.{is_cell}
use Rattle.plain_plan.proofs.Laws.{due, stuck_or, blank_there, filled_there, slot_blank, slot_filled, setting, setting_blank, setting_filled, inside}
use Rattle.plain_plan.proofs.set_at.Goals as goal

pub returns-in_err-x : goal.returns-in_err-x
unfolding plan plan_set stored halted
returns-in_err-x c =
    let args = c.args in
    let p = err_from_is_err_and c.from_residual.result c.from_residual.ensures.1 in
    λ q g v h s.
    let z = blank_there s c.word_at.ensures c.filled.ensures c.in_err-x.was in
    rw (p.1, p.2, z.0) (due (slot_blank g v open_right (g.owner v.procedure) _ args.k (λ o. setting g v (read_in plain g v v.procedure v.set_held (g.slot (g.owner v.procedure) args.k)) args.b o.0 args.k) z.1) (λ e. (tt, sym e)))

pub returns-in_err-word : goal.returns-in_err-word
unfolding plan plan_set stored halted
returns-in_err-word c =
    let args = c.args in
    let p = err_from_is_err_and c.from_residual-in_err-word.result c.from_residual-in_err-word.ensures.1 in
    λ q g v h s.
    let z = blank_there s c.word_at-2.ensures c.filled-2.ensures c.in_err-word.was in
    rw (p.1, p.2, z.0) (stuck_or (slot_filled g v open_right (g.owner v.procedure) _ args.k (λ o. setting g v (read_in plain g v v.procedure v.set_held (g.slot (g.owner v.procedure) args.k)) args.b o.0 args.k) (filled_there s c.word_at.ensures c.filled.ensures c.in_ok-x.was) refl) (λ there. (tt, sym (there.is ∙ setting_blank g v _ _ _ _ z.1))))

pub returns : goal.returns
unfolding plan plan_set stored
returns c =
    let args = c.args in
    λ q g v h s.
    stuck_or (slot_filled g v open_right (g.owner v.procedure) _ args.k (λ o. setting g v (read_in plain g v v.procedure v.set_held (g.slot (g.owner v.procedure) args.k)) args.b o.0 args.k) (filled_there s c.word_at.ensures c.filled.ensures c.in_ok-x.was) c.name_of-object.ensures)
    (λ there.
    let W = filled_there s c.word_at-2.ensures c.filled-2.ensures c.in_ok-word.was in
    ((is_cell plain q _ W.slot, inside q v _ _ s _ _ _ there.head there.below), sym (there.is ∙ setting_filled g v _ _ _ _ W)))
