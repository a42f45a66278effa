-- 18 first, then what the result asks for.
use mathlib.Core.Path.{sym, ap, ◌∙◌}
use Rattle.model.specs.Modes.{watched}
use Rattle.sheet.specs.Layout.{result_at}
use Rattle.sheet.specs.Meaning.{qual_of}
use Rattle.words.specs.Word.{slot_in}
use Rattle.frames.proofs.Performs.{sees_parts}
use Rattle.binding.proofs.Laws.{passed, refused, allowed, denied, exit_is}
use Rattle.watched_calls.proofs.Returning.{hands_nothing, hands_too_little, hands_too_much, hands_word, hands_halt}
use Rattle.watched_calls.proofs.handed_by.Goals as goal

pub returns-in_err-require : goal.returns-in_err-require
unfolding result_at
returns-in_err-require c =
    let a = c.args in
    let k = refused _ _ c.require.ensures c.in_err-require.was in
    rw (exit_is c.from_residual.ensures.1, k.0)
    (tt, λ v at S. hands_too_little a.s.bytes.now v a.p.head a.a (sym at.head) c.field-none.ensures c.if-a-eq255.true k.1)

pub returns-then-a-eq255 : goal.returns-then-a-eq255
unfolding result_at
returns-then-a-eq255 c =
    let a = c.args in
    (tt, λ v at S. hands_nothing a.s.bytes.now v a.p.head a.a (sym at.head) c.field-none.ensures c.if-a-eq255.true (passed _ _ c.require.ensures c.in_ok-require.was))

pub returns-in_err-require-2 : goal.returns-in_err-require-2
unfolding result_at
returns-in_err-require-2 c =
    let a = c.args in
    let k = refused _ _ c.require-2.ensures c.in_err-require-2.was in
    rw (exit_is c.from_residual-in_err-require-2.ensures.1, k.0)
    (tt, λ v at S. hands_too_much a.s.bytes.now v a.p.head a.a (sym at.head) c.field-none.ensures c.if-a-eq255.false (allowed _ k.1))

pub returns-in_err-x : goal.returns-in_err-x
unfolding result_at
returns-in_err-x c =
    let a = c.args in
    let s = a.s.bytes.now in
    let some = denied _ (passed _ _ c.require-2.ensures c.in_ok-require-2.was) in
    rw (exit_is c.from_residual-in_err-x.ensures.1) (
      tt,
      λ v at S.
          let T = sees_parts watched (qual_of s) v a.memory.now a.r c.parts-v.ensures.frame c.parts-v.ensures.objects S in
          hands_halt s v a.p.head a.a (sym at.head) c.field-none.ensures c.if-a-eq255.false some c.result_word.result (c.result_word.ensures.moves v a.a T.head at (ap (slot_in watched (qual_of s)) c.read.ensures ∙ T.variable _)) c.in_err-x.was,
    )

pub returns : goal.returns
unfolding result_at
returns c =
    let a = c.args in
    let s = a.s.bytes.now in
    let some = denied _ (passed _ _ c.require-2.ensures c.in_ok-require-2.was) in (
      rw c.in_ok-x.was at c.result_word.ensures.fine,
      λ v at S.
          let T = sees_parts watched (qual_of s) v a.memory.now a.r c.parts-v.ensures.frame c.parts-v.ensures.objects S in
          hands_word s v a.p.head a.a (sym at.head) c.field-none.ensures c.if-a-eq255.false some c.result_word.result (c.result_word.ensures.moves v a.a T.head at (ap (slot_in watched (qual_of s)) c.read.ensures ∙ T.variable _)) c.in_ok-x.was,
    )
