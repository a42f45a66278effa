use native.Mathlib.Omega.{arith}
use mathlib.Core.Path.{◌≡◌, sym, subst}
use Prim.Native.Nat.{ℕ, ◌+◌, ◌-◌, ◌≤◌}
use mathlib.Core.List.{List}
use lib.ListN.{length, drop, length-drop, length-take}
use borrow.Rule.Slice.PartMut.{mid_of}
use Rattle.checker.specs.declared.input.Input.{Input}
use Rattle.checker.specs.Input.{Held}
use Rattle.checker.proofs.Room.{room, held}
use Rattle.checker.proofs.input.read_once.Goals as goal

-- what is free of the buffer ends where the buffer does
free : (buffer part : List ℕ) (done : ℕ) → done ≤ length buffer → length part ≡ length (mid_of done (length buffer - done) buffer) → done + length part ≤ length buffer
free buffer part done h e = omega (arith, length-take (length buffer - done) (drop done buffer), length-drop done buffer)

pub after-requires : goal.after-requires
after-requires g c =
    let read = c.read-outcome in
    room (length c.args.buffer.now) c.args.done _ _ _ (free c.args.buffer.now _ c.args.done c.requires read.auto.buf) read.ensures.bound c.answered-answer.ensures

pub returns-clause-held : goal.returns-clause-held
returns-clause-held g c =
    let read = c.read-outcome in
    subst (λ (i : Input). Held c.args.done (length c.args.buffer.now) i) (sym c.after.ensures)
    (held (length c.args.buffer.now) c.args.done _ (room (length c.args.buffer.now) c.args.done _ _ _ (free c.args.buffer.now _ c.args.done c.requires read.auto.buf) read.ensures.bound c.answered-answer.ensures))
