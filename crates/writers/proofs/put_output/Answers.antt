-- The word at the count of words put is written where there is one, and it comes after those put.
use Rattle.std.proofs.lemmas.Result.{err_from_is_err_and}
use Rattle.model.specs.declared.Halt.TheVariants.{OutputFull}
use Rattle.writers.proofs.Effects.{does_put, does_stop, does_halt}
use Rattle.writers.proofs.Planned.{put_there, put_full, put_halt}
use Rattle.writers.proofs.put_output.Goals as goal

pub returns-in_err-x : goal.returns-in_err-x
returns-in_err-x c =
    let p = err_from_is_err_and c.from_residual.result c.from_residual.ensures.1 in
    λ m g words. rw (p.1, p.2, c.in_err-x.was, put_halt) (does_halt m g words _ c.args.r _)

pub returns-then-output-at : goal.returns-then-output-at
returns-then-output-at c =
    λ m g words. rw (c.in_ok-x.was, put_full m _ _ _ c.if-output-at.true)
    (does_stop m g words _ c.args.r OutputFull)

pub returns : goal.returns
returns c =
    λ m g words. rw (c.in_ok-x.was, put_there m _ _ _ c.if-output-at.false)
    (does_put m g words _ c.args.r _ c.if-output-at.false)
