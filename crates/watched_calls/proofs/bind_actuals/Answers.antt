-- After j turns the first j actuals stand at the place; a word that is written there changes nothing that the next one reads.
use Prim.Native.Nat.{◌+◌, ◌-◌, ◌<◌}
use native.Mathlib.Omega.{arith}
use mathlib.Core.Path.{◌≡◌, refl}
use lib.ListN.{length-set}
use Rattle.binding.proofs.Laws.{exit_is}
use Rattle.watched_calls.proofs.Calling.{bound_none, bound_more, bound_stop}
use Rattle.watched_calls.proofs.bind_actuals.Goals as goal

pub loop-j-init : goal.loop-j-init
loop-j-init c =
    let a = c.args in
    let e : a.f - 0 ≡ a.f = omega arith in
    (refl, λ k z at. rw e (bound_none a.s.bytes.now a.memory.now a.r k a.b z a.at a.f))

pub returns-in_err-w : goal.returns-in_err-w
returns-in_err-w c =
    let a = c.args in
    let loop = c.loop-j in
    let turn : loop.j < a.f = c.loop-j-test.true in
    let e : loop.j + (a.f - loop.j) ≡ a.f = omega arith in
    rw (exit_is c.from_residual.ensures.1)
    (λ p z at.
    let B = loop.invariant.1 p z at in
    (B.gap, λ v S. rw e at (bound_stop B c.actual_in.result (a.f - (loop.j + 1)) (omega arith) (λ u T. c.actual_in.ensures.1 u p z at T) c.in_err-w.was v S)))

pub loop-j-preserved : goal.loop-j-preserved
loop-j-preserved c =
    let a = c.args in
    let loop = c.loop-j in
    let turn : loop.j < a.f = c.loop-j-test.true in
    let low = c.requires.used_le_at.0 in
    let room = c.requires.used_le_at.1 in
    let frame = c.requires.sane.frame in (
      simp length-set loop.invariant.0,
      λ k z at. bound_more (loop.invariant.1 k z at) c.actual_in.result (a.f - (loop.j + 1)) (omega arith) (λ u T. c.actual_in.ensures.1 u k z at T) c.in_ok-w.was (rw c.in_ok-w.was at c.actual_in.ensures.0) (omega arith) (omega arith) (omega arith),
    )
