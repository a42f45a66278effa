-- Main's return, a result that is dropped, and one that is kept and is not there.
use native.Mathlib.Omega.{arith}
use borrow.Author.Tests.{eqb-true, eqb-false}
use mathlib.Core.Option.{none}
use Rattle.model.specs.Modes.{watched}
use Rattle.binding.proofs.Laws.{passed, refused, exit_is}
use Rattle.frames.proofs.Returning.{returns_over, returns_dropped}
use Rattle.watched_calls.proofs.Returning.{returns_lacking}
use Rattle.watched_calls.proofs.resume_without.Goals as goal

pub returns-then-memory-frame_end : goal.returns-then-memory-frame_end
returns-then-memory-frame_end c =
    λ s. returns_over watched s c.args.memory.now c.args.r none (omega (arith, c.if-memory-frame_end.true, c.frame_end.ensures))

pub returns-in_err-require : goal.returns-in_err-require
returns-in_err-require c =
    let k = refused _ _ c.require.ensures c.in_err-require.was in
    rw (exit_is c.from_residual.ensures.1, k.0)
    (λ s. returns_lacking s c.args.memory.now c.args.r c.kept_in.result (omega (arith, c.if-memory-frame_end.false, c.frame_end.ensures)) (c.kept_in.ensures watched) (eqb-false _ _ k.1))

pub returns : goal.returns
returns c =
    let dropped = eqb-true _ _ (passed _ _ c.require.ensures c.in_ok-require.was) in
    λ s. returns_dropped watched s c.args.memory.now c.args.r c.kept_in.result (omega (arith, c.if-memory-frame_end.false, c.frame_end.ensures)) (c.kept_in.ensures watched) c.waiting.result (c.waiting.ensures.waits watched) dropped none
