-- A state inside its program: each live frame stands at an instruction of a procedure of the program.
use Rattle.std.specs.Prelude.{ℕ, ◌<◌, List, [], ◌∷◌}
use Rattle.model.specs.Program.{Program}
use Rattle.model.specs.Modes.{Mode, SettledSet}
use Rattle.model.specs.Machine.{Cell, Frame, frame, State, state}

-- a frame of procedure p with instruction i next
pub record At (g : Program) (p i : ℕ) : Type 0 where
  pub procedure : p < g.procedures
  pub instruction : i < g.instructions p

-- the frames that wait
pub data Waiting {m : Mode} (g : Program) : List (Frame m) → Type 0 where
  bottom : Waiting g []
  waits : {p i : ℕ} {z : SettledSet m} {vs : List (Cell m)} {fs : List (Frame m)} → At g p i → Waiting g fs → Waiting g (frame p i z vs ∷ fs)

abbrev pub Inside : {m : Mode} → Program → State m → Type 0
Inside g (state (frame p i z vs) fs os input out) = At g p i × Waiting g fs
