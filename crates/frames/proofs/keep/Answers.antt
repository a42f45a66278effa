-- A variable of the frame is written at its place; past the variables nothing is written, as `set` changes nothing there.
use mathlib.Core.Path.{refl}
use Rattle.frames.proofs.Returning.{keeps, keeps_none}
use native.Mathlib.Omega.{arith}
use Rattle.frames.proofs.keep.Goals as goal

pub returns-then-a-variables_in : goal.returns-then-a-variables_in
returns-then-a-variables_in c =
    let args = c.args in
    λ m. keeps m args.memory.now _ args.b args.a args.w (omega (arith, c.if-a-variables_in.true, c.variables_in.ensures)) c.write.ensures

pub returns-else-a-variables_in : goal.returns-else-a-variables_in
returns-else-a-variables_in c =
    let args = c.args in
    λ m. keeps_none m args.memory.now _ args.b args.a args.w (omega (arith, c.if-a-variables_in.false, c.variables_in.ensures)) refl
