-- After j turns the first j words are copied, and none of them is blank; a word not yet copied lies above those written.
use Prim.Native.Nat.{◌+◌}
use native.Mathlib.Omega.{arith}
use mathlib.Core.Path.{◌≡◌, refl, sym, ap, ◌∙◌}
use mathlib.Core.List.{append_assoc}
use lib.ListN.{get_or, take, drop, length-set}
use lib.Seq.{paste, paste-zero}
use borrow.Author.Count.{below_more}
use Rattle.std.proofs.lemmas.Result.{err_from_is_err_and}
use Rattle.words.proofs.Laws.{told_blank, told_filled}
use Rattle.frames.proofs.Copied.{copied_word, copied_next}
use Rattle.frames.proofs.copy_filled.Goals as goal

pub loop-j-init : goal.loop-j-init
loop-j-init c =
    let args = c.args in
    (paste-zero args.memory.now args.to (drop args.from args.memory.now), refl, λ i h. absurd (omega arith))

pub returns-in_err-w : goal.returns-in_err-w
returns-in_err-w c =
    let args = c.args in
    let loop = c.loop-j in
    let d = args.memory.now in
    let p = err_from_is_err_and c.from_residual.result c.from_residual.ensures.1 in
    let blank = told_blank c.filled.ensures c.in_err-w.was in
    let word = ap (λ l. get_or l (args.from + loop.j) 0) loop.invariant.0 ∙ copied_word d args.from args.to args.n loop.j c.requires.n_bound.0 c.requires.n_bound.1 c.requires.n_in_bounds c.loop-j-test.true in
    rw p.1 (
      loop.j,
      c.loop-j-test.true,
      loop.invariant.0 ∙ append_assoc (take args.to d) (take loop.j (drop args.from d)) (drop (args.to + loop.j) d),
      sym word ∙ blank.1,
      p.2 ∙ blank.0,
    )

pub loop-j-preserved : goal.loop-j-preserved
loop-j-preserved c =
    let args = c.args in
    let loop = c.loop-j in
    let d = args.memory.now in
    let told = told_filled c.filled.ensures c.in_ok-w.was in
    let word = ap (λ l. get_or l (args.from + loop.j) 0) loop.invariant.0 ∙ copied_word d args.from args.to args.n loop.j c.requires.n_bound.0 c.requires.n_bound.1 c.requires.n_in_bounds c.loop-j-test.true in (
      rw (told.0, loop.invariant.0) (copied_next d args.from args.to args.n loop.j c.requires.n_bound.0 c.requires.n_bound.1 c.requires.n_in_bounds c.loop-j-test.true),
      simp length-set loop.invariant.1,
      below_more (λ i. get_or d (args.from + i) 0 ≡ 0 → ⊥) loop.j loop.invariant.2 (λ z. told.1 (word ∙ z)),
    )

pub returns : goal.returns
returns c =
    let args = c.args in
    let loop = c.loop-j in
    let d = args.memory.now in
    let turn = c.loop-j.auto.j-end in
    let e : loop.j ≡ args.n = omega arith in (
      loop.invariant.0
          ∙ ap (paste d args.to (drop args.from d)) e
          ∙ append_assoc (take args.to d) (take args.n (drop args.from d)) (drop (args.to + args.n) d),
      λ i h. loop.invariant.2 i (omega arith),
    )
