-- What the code's answers ask for: for each case of an answer the effect, or its stop.
use Rattle.std.specs.Prelude.{ℕ, ◌<◌, ◌≡◌, List, Result, Ok, Err}
use Rattle.std.proofs.Math.Option.{some}
use Rattle.model.specs.declared.Halt.{Halt}
use Rattle.model.specs.declared.Halt.TheVariants.{Blank, PastEnd, InputEnded, OutputFull, MemoryFull, WrongKind, MissingRight}
use Rattle.model.specs.Outcome.{blank, past_end, input_ended, output_full, memory_full, missing_right, Res, ok, stop, stuck, ◌>>=◌}
use Rattle.model.specs.Qualified.{Qual}
use Rattle.model.specs.Program.{Program}
use Rattle.model.specs.Modes.{Mode, carried, amiss}
use Rattle.model.specs.Machine.{word, Cell, filled, View, Effect, write, store, moved}
use Rattle.words.specs.Word.{cell, slot_in, as_cell}
use Rattle.words.specs.Sees.{head_size, heads_in}
use Rattle.words.specs.declared.Stored.{Stored}

-- a step's stop; where a value has not the kind due the plain machine is stuck
unfoldable pub halted : {A : Type 0} → Mode → Halt → Res A
halted m Blank = stop blank
halted m PastEnd = stop past_end
halted m InputEnded = stop input_ended
halted m OutputFull = stop output_full
halted m MemoryFull = stop memory_full
halted m WrongKind = amiss m
halted m MissingRight = stop missing_right

-- an integer, or why there is none
unfoldable pub number_as : Mode → Result ℕ Halt → Res ℕ
number_as m (Ok n) = ok n
number_as m (Err k) = halted m k

-- variable a becomes that integer
unfoldable pub given : (m : Mode) → ℕ → Result ℕ Halt → Res (Effect m)
given m a (Ok n) = ok (write a (filled (word n) (carried m 0)))
given m a (Err k) = halted m k

-- a cell moved into variable a, as the definition has it
abbrev pub moving : (m : Mode) → (g : Program) → (v : View m) → Qual → ℕ → Cell m → Res (Effect m)
moving m g v q a c = moved m g v q c >>= λ d. ok (write a d)

-- variable a becomes the cell of a word
unfoldable pub moved_to : (m : Mode) → (ℕ → Qual) → ℕ → Result ℕ Halt → Res (Effect m)
moved_to m qual a (Ok w) = ok (write a (as_cell (slot_in m qual w)))
moved_to m qual a (Err k) = halted m k

-- cell i of an object becomes the cell of a word
unfoldable pub stored : (m : Mode) → (ℕ → Qual) → Result Stored Halt → Res (Effect m)
stored m qual (Ok s) = ok (store s.object s.cell (as_cell (slot_in m qual s.word)))
stored m qual (Err k) = halted m k

-- a word is a cell's: no head's and no frame's, in either machine
abbrev pub IsCell : ℕ → Type 0
IsCell w = (m : Mode) (qual : ℕ → Qual) → slot_in m qual w ≡ cell (as_cell (slot_in m qual w))

-- a word that is moved is a cell's
abbrev pub MovedOk : Result ℕ Halt → Type 0
MovedOk (Ok w) = IsCell w
MovedOk (Err k) = Unit {0}

-- a cell that is stored to is one of an object's, in the objects' part h of the memory
pub record InObject (h : List ℕ) (o i : ℕ) : Type 0 where
  pub size : ℕ
  pub head : (m : Mode) (qual : ℕ → Qual) → head_size (heads_in m qual h o) ≡ some size
  pub below : i < size

abbrev pub StoredOk : List ℕ → Result Stored Halt → Type 0
StoredOk h (Ok s) = IsCell s.word × InObject h s.object s.cell
StoredOk h (Err k) = Unit {0}

-- what is said of an answer where the definition is not stuck; where it is, nothing: of an accepted program condition 3 says that it never is
abbrev pub UnlessStuck : {A : Type 0} → Res A → Type 0 → Type 0
UnlessStuck (ok a) P = P
UnlessStuck (stop x) P = P
UnlessStuck stuck P = Unit {0}
