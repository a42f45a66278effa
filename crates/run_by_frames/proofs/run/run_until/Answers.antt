-- Every run that stood where the registers did stands where they do; the run of each frame takes it on, to rest or to the end.
use mathlib.Core.Path.{sym, ap, ◌∙◌}
use lib.ListN.{drop}
use Rattle.run_by_frames.proofs.Turn.{begun_kept, begins, enters_frame, rests, ends_run}
use native.Mathlib.Omega.{arith}
use Rattle.run_by_frames.proofs.run.run_until.Goals as goal

pub loop-q-init : goal.loop-q-init
loop-q-init g c = (c.requires.begun.soon, λ d G. G)

pub run_frame-requires : goal.run_frame-requires
run_frame-requires g c =
    record { code_of = c.instructions_of-code.ensures ∙ ap (λ n. drop n c.args.s.sheet.bytes.now) c.first_in.ensures; begun = begins c.loop-q.invariant.1 c.requires.begun c.loop-q.invariant.0 }

pub loop-q-smaller : goal.loop-q-smaller
loop-q-smaller g c =
    let a = enters_frame c.loop-q.invariant.1 _ _ _ c.run_frame.ensures _ c.in-Enter.is c.requires.begun in let l = a.0 in let h = a.1.0 in omega arith

pub loop-q-preserved : goal.loop-q-preserved
loop-q-preserved g c =
    (enters_frame c.loop-q.invariant.1 _ _ _ c.run_frame.ensures _ c.in-Enter.is c.requires.begun).1

pub shape_of-memory-in-Rest : goal.shape_of-memory-in-Rest
shape_of-memory-in-Rest g c =
    c.run_frame.auto.memory ∙ (begun_kept c.loop-q.invariant.1 c.requires.begun).long

pub shape_of-output-in-Rest : goal.shape_of-output-in-Rest
shape_of-output-in-Rest g c =
    c.run_frame.auto.output ∙ (begun_kept c.loop-q.invariant.1 c.requires.begun).put_long ∙ sym c.requires.begun.going.put_long

pub returns-in-Rest : goal.returns-in-Rest
returns-in-Rest g c =
    rests c.loop-q.invariant.1 _ _ _ c.run_frame.ensures _ c.in-Rest.is

pub shape_of-memory-in-End : goal.shape_of-memory-in-End
shape_of-memory-in-End g c =
    c.run_frame.auto.memory ∙ (begun_kept c.loop-q.invariant.1 c.requires.begun).long

pub shape_of-output-in-End : goal.shape_of-output-in-End
shape_of-output-in-End g c =
    c.run_frame.auto.output ∙ (begun_kept c.loop-q.invariant.1 c.requires.begun).put_long ∙ sym c.requires.begun.going.put_long

pub returns-in-End : goal.returns-in-End
returns-in-End g c =
    ends_run c.loop-q.invariant.1 _ _ _ c.run_frame.ensures _ c.in-End.is
