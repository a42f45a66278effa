-- What check refuses is refused; an accepted sheet is never stuck, by condition 3.
use mathlib.Core.Path.{sym, ap, ◌∙◌}
use Rattle.run.specs.Run.{answer, end}
use Rattle.run.proofs.Laws.{never_stuck}
use Rattle.run.proofs.run.Goals as goal

pub run_lent-requires : goal.run_lent-requires
unfolding end
run_lent-requires c =
    let accepted = rw (sym (ap (λ (b : _). b.now) c.in-Ok.ensures.1.0)) at c.in-Ok.ensures.0 in
    λ h. never_stuck _ accepted _ h _ c.args.output.now (λ k. (c.type_inv.input k).fits) _

pub returns-in-Err : goal.returns-in-Err
unfolding answer
returns-in-Err c =
    let refuses = rw (ap (λ (b : _). b.now) c.new.ensures.0) at c.in-Err.ensures in
    rw (refuses, c.from.ensures)

pub returns-in-Ok : goal.returns-in-Ok
unfolding answer
returns-in-Ok c =
    let given = ap (λ (b : _). b.now) c.new.ensures.0 in
    let bytes = ap (λ (b : _). b.now) (c.in-Ok.ensures.1.0 ∙ c.new.ensures.0) in
    let accepts = rw given at c.in-Ok.ensures.0 in
    rw accepts (rw bytes at c.run_lent.ensures)
