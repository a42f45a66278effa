-- What is not well-formed is refused; the watched machine is never stuck.
use mathlib.Core.Path.{ap, ◌∙◌}
use Rattle.model.proofs.AnyProgram.{watched_not_stuck}
use Rattle.run.specs.Run.{answer, end}
use Rattle.run.proofs.watch.Goals as goal

pub run_lent-requires : goal.run_lent-requires
unfolding end
run_lent-requires c = λ h. watched_not_stuck _ _ _ _ _

pub returns-in-Err : goal.returns-in-Err
unfolding answer
returns-in-Err c =
    let refuses = rw (ap (λ (b : _). b.now) c.new.ensures.0) at c.in-Err.ensures in
    rw (refuses, c.from.ensures)

pub returns-in-Ok : goal.returns-in-Ok
unfolding answer
returns-in-Ok c =
    let given = ap (λ (b : _). b.now) c.new.ensures.0 in
    let bytes = ap (λ (b : _). b.now) (c.in-Ok.ensures.1.0 ∙ c.new.ensures.0) in
    let accepts = rw given at c.in-Ok.ensures.0 in
    rw accepts (rw bytes at c.run_lent.ensures)
