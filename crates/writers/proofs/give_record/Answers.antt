-- The test is that of the definition: a record takes one unit more than it has slots.
use Prim.Native.Nat.{◌+◌, ◌≤◌}
use Rattle.model.specs.declared.Halt.TheVariants.{MemoryFull}
use Rattle.model.specs.Modes.{plain}
use Rattle.sheet.specs.Meaning.{qual_of}
use Rattle.writers.proofs.Effects.{does_record, does_stop}
use Rattle.writers.proofs.Planned.{record_plain, record_full}
use native.Mathlib.Omega.{arith}
use Rattle.writers.proofs.give_record.Goals as goal

pub returns-then-r-n : goal.returns-then-r-n
returns-then-r-n c =
    λ g out q t named. rw (record_full plain _ _ q t named _ c.if-r-n.true) (does_stop plain g _ out c.args.r MemoryFull)

pub returns : goal.returns
returns c =
    let s = c.args in
    λ g out q t named.
    let room : s.r.used + (s.slots + 1) ≤ s.r.base = omega arith in
    rw (c.allot.ensures.value, record_plain _ _ q t named _ c.if-r-n.false)
    (does_record plain g _ _ out s.r s.a _ _ _ tt room (c.object_word-name.ensures plain (qual_of g.sheet)) (c.allot.ensures.allotted plain (qual_of g.sheet)) tt (c.record_word.ensures plain (qual_of g.sheet)))
