-- Main's return, a result that is dropped, and one that is bound to the variable that keeps it.
use native.Mathlib.Omega.{arith}
use mathlib.Core.Path.{ap, ◌∙◌}
use Rattle.model.specs.Modes.{watched}
use Rattle.index.specs.Types.{type_in}
use Rattle.index.proofs.Reading.{inner_type}
use Rattle.index.proofs.Ready.{of_sheet}
use Rattle.binding.proofs.Laws.{exit_is, word_of_sheet}
use Rattle.frames.proofs.Called.{loaded}
use Rattle.frames.proofs.Returning.{returns_over, returns_dropped}
use Rattle.watched_calls.proofs.Laws.{scope_here}
use Rattle.watched_calls.proofs.Returning.{returns_kept, returns_refused}
use Rattle.watched_calls.proofs.resume_with.Goals as goal

pub returns-then-memory-frame_end : goal.returns-then-memory-frame_end
returns-then-memory-frame_end c =
    returns_over watched c.args.s.sheet.bytes.now c.args.memory.now c.args.r _ (omega (arith, c.if-memory-frame_end.true, c.frame_end.ensures))

pub returns-then-kept : goal.returns-then-kept
returns-then-kept c =
    returns_dropped watched c.args.s.sheet.bytes.now c.args.memory.now c.args.r c.kept_in-kept.result (omega (arith, c.if-memory-frame_end.false, c.frame_end.ensures)) (c.kept_in-kept.ensures watched) c.waiting-back.result (c.waiting-back.ensures.waits watched) c.if-kept.true _

pub returns-in_err-x : goal.returns-in_err-x
returns-in_err-x c =
    let a = c.args in
    let sheet = a.s.sheet in
    let ready = of_sheet sheet in
    let bound = rw (ap (type_in sheet.index.now c.frame_scope-c.result.name) c.inner_of-q.ensures ∙ inner_type ready c.frame_scope-c.result c.kept_in-kept.result, c.parts.ensures.objects) at (word_of_sheet ready c.bind_word.ensures) in
    rw (exit_is c.from_residual.ensures.1)
    (returns_refused sheet.bytes.now a.memory.now a.r c.kept_in-kept.result (omega (arith, c.if-memory-frame_end.false, c.frame_end.ensures)) (c.kept_in-kept.ensures watched) c.if-kept.false c.waiting-back.result (c.waiting-back.ensures.waits watched) _ c.set_in.ensures (scope_here c.waiting-back.result _ (loaded a.s) c.frame_scope-c.ensures c.set_in.ensures) a.w c.requires.cell c.bind_word.result bound c.in_err-x.was)

pub returns : goal.returns
returns c =
    let a = c.args in
    let sheet = a.s.sheet in
    let ready = of_sheet sheet in
    let bound = rw (ap (type_in sheet.index.now c.frame_scope-c.result.name) c.inner_of-q.ensures ∙ inner_type ready c.frame_scope-c.result c.kept_in-kept.result, c.parts.ensures.objects) at (word_of_sheet ready c.bind_word.ensures) in
    returns_kept sheet.bytes.now a.memory.now a.r c.kept_in-kept.result (omega (arith, c.if-memory-frame_end.false, c.frame_end.ensures)) (c.kept_in-kept.ensures watched) c.if-kept.false c.waiting-back.result (c.waiting-back.ensures.waits watched) _ c.set_in.ensures (scope_here c.waiting-back.result _ (loaded a.s) c.frame_scope-c.ensures c.set_in.ensures) a.w c.requires.cell c.bind_word.result bound c.in_ok-x.was c.keep.new.memory (c.keep.ensures watched)
