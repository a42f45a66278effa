-- From 31 on, no bit of a 32-bit set is above n.
use Prim.Native.Nat.{◌+◌, ◌^◌, ◌≤◌, ◌<◌}
use mathlib.Core.Path.{refl, sym}
use native.Mathlib.Nat.{lt_of_lt_of_le, div-eq_of_lt}
use native.Mathlib.Omega.{arith}
use lib.Pow.{pow_mono}
use borrow.Author.Tests.{eq-eqb}
use Rattle.model.specs.Rights.{none_above}
use Rattle.rights.proofs.has_none_above.Goals as goal

pub returns-then-n-lt31 : goal.returns-then-n-lt31
unfolding none_above
returns-then-n-lt31 c = refl

pub returns : goal.returns
unfolding none_above
returns c =
    let a = c.args in
    let h : 32 ≤ a.n + 1 = omega arith in
    let l : a.held < 2 ^ (a.n + 1) = lt_of_lt_of_le c.ranges.held.fits (pow_mono h) in
    sym (eq-eqb _ 0 (div-eq_of_lt l))
