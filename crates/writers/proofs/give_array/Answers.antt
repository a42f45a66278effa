-- The test is that of the definition: an array of x cells takes x + 1 units.
use Rattle.std.proofs.lemmas.Result.{err_from_is_err_and}
use Prim.Native.Nat.{◌+◌, ◌≤◌}
use Rattle.model.specs.declared.Halt.TheVariants.{MemoryFull}
use Rattle.model.specs.Modes.{plain}
use Rattle.sheet.specs.Meaning.{qual_of}
use Rattle.writers.proofs.Effects.{does_array, does_stop, does_halt}
use Rattle.writers.proofs.Planned.{array_plain, array_full, array_halt}
use native.Mathlib.Omega.{arith}
use Rattle.writers.proofs.give_array.Goals as goal

pub returns-in_err-x : goal.returns-in_err-x
returns-in_err-x c =
    let p = err_from_is_err_and c.from_residual.result c.from_residual.ensures.1 in
    λ g out q. rw (p.1, p.2, c.in_err-x.was, array_halt) (does_halt plain g _ out c.args.r _)

pub returns-then-r-x : goal.returns-then-r-x
returns-then-r-x c =
    λ g out q. rw (c.in_ok-x.was, array_full plain _ _ _ q c.if-r-x.true) (does_stop plain g _ out c.args.r MemoryFull)

pub returns : goal.returns
returns c =
    let s = c.args in
    λ g out q.
    let room : s.r.used + (c.in_ok-x.x + 1) ≤ s.r.base = omega arith in
    rw (c.allot.ensures.value, c.in_ok-x.was, array_plain _ _ _ q c.if-r-x.false)
    (does_array plain g _ _ out s.r s.a _ _ _ tt room (c.object_word-name.ensures plain (qual_of g.sheet)) (c.allot.ensures.allotted plain (qual_of g.sheet)) tt (c.array_word.ensures plain (qual_of g.sheet)))
