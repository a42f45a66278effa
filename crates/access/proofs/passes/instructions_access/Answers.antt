-- The place of each instruction, from that of the first one.
use native.Mathlib.Omega.{arith}
use Rattle.sheet.specs.Layout.{instructions_at}
use Rattle.access.specs.Inner.Callees.{CalleesAt}
use Rattle.access.proofs.Places.{instruction_place}
use Rattle.access.proofs.passes.instructions_access.Goals as goal

pub instruction_access-requires : goal.instruction_access-requires
unfolding CalleesAt instructions_at
instruction_access-requires c =
    let n = rw c.requires.own_scope.head at c.word-n.ensures in
    let at = instruction_place c.requires.own_scope c.field.result c.instruction_from-first.result c.loop-i.i c.field.ensures c.instruction_from-first.ensures.value in
    record {
      own_scope = c.requires.own_scope;
      at_value = rw c.from.ensures at;
      callee_there = rw (c.from.ensures, at) (c.requires.callees_at c.loop-i.i (omega (arith, c.loop-i-test.true, n)));
    }
