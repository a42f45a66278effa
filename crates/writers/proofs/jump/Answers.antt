-- The words are as they were; the next instruction is k for zero and the following one for any other integer.
use Rattle.std.proofs.lemmas.Result.{err_from_is_err_and}
use Rattle.writers.proofs.Effects.{does_jump, does_skip, does_halt}
use Rattle.writers.proofs.Planned.{jumped_zero, jumped_other, jumped_halt}
use Rattle.writers.proofs.jump.Goals as goal

pub returns-in_err-x : goal.returns-in_err-x
returns-in_err-x c =
    let p = err_from_is_err_and c.from_residual.result c.from_residual.ensures.1 in
    λ m g words out. rw (p.1, p.2, c.in_err-x.was, jumped_halt) (does_halt m g words out c.args.r _)

pub returns-then-x-eq0 : goal.returns-then-x-eq0
returns-then-x-eq0 c =
    λ m g words out. rw (c.at_next.ensures, c.in_ok-x.was, jumped_zero m _ _ c.if-x-eq0.true)
    (does_jump m g words out c.args.r c.args.k)

pub returns : goal.returns
returns c =
    λ m g words out. rw (c.at_next-2.ensures, c.in_ok-x.was, jumped_other m _ _ c.if-x-eq0.false)
    (does_skip m g words out c.args.r)
