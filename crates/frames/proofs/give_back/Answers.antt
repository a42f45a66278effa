-- What is handed over is the word of a filled cell, or nothing.
use Rattle.model.specs.Modes.{plain}
use Rattle.frames.proofs.Returning.{gives_blank, gives_over, gives_dropped, gives_kept}
use native.Mathlib.Omega.{arith}
use Rattle.frames.proofs.give_back.Goals as goal

pub returns-then-a-ne255 : goal.returns-then-a-ne255
returns-then-a-ne255 c =
    let args = c.args in
    λ s. gives_blank s args.memory.now args.r args.a _ _ c.frame_end-end.ensures c.read-w.ensures c.if-w-eq0.true c.if-a-ne255.true

pub returns-then-memory-end : goal.returns-then-memory-end
returns-then-memory-end c =
    let args = c.args in
    λ s. gives_over s args.memory.now args.r args.a _ _ c.frame_end-end.ensures c.read-w.ensures c.else-w-eq0.either (omega (arith, c.if-memory-end.true, c.frame_end-end.ensures))

pub returns-then-kept : goal.returns-then-kept
returns-then-kept c =
    let args = c.args in
    λ s. gives_kept s args.memory.now args.r args.a _ _ c.frame_end-end.ensures c.read-w.ensures c.else-w-eq0.either _ _ (omega (arith, c.if-memory-end.false, c.frame_end-end.ensures)) (c.waiting-back.ensures.waits plain) (c.kept_in-kept.ensures plain) c.if-kept.true _ (c.keep.ensures plain)

pub returns-else-kept : goal.returns-else-kept
returns-else-kept c =
    let args = c.args in
    λ s. gives_dropped s args.memory.now args.r args.a _ _ c.frame_end-end.ensures c.read-w.ensures c.else-w-eq0.either _ _ (omega (arith, c.if-memory-end.false, c.frame_end-end.ensures)) (c.waiting-back.ensures.waits plain) (c.kept_in-kept.ensures plain) c.if-kept.false
