-- What it is for the words of the memory, the registers and the output to stand for a state of a machine.
-- Objects fill the memory from its start, in the order in which they were made; frames from its end, main's last. A frame is its variables, then two
-- words that tell of the frame that waits for it: where to go back, beside which stands the frame's own set, and its procedure. Nothing is said of the words
-- between objects and frames.
use Rattle.std.specs.Prelude.{ℕ, pred, ◌+◌, ◌≤◌, ◌<◌, ◌≡◌, List, [], ◌∷◌, ◌++◌, map, length, take, drop}
use Rattle.std.proofs.Math.Option.{Option, none, some}
use Rattle.model.specs.Qualified.{Qual}
use Rattle.model.specs.Modes.{Mode, SettledSet, settled_set}
use Rattle.model.specs.Machine.{Cell, empty, Object, cells_of, head_of, Frame, frame, kept, State, state, View}
use Rattle.model.specs.Run.{written}
use Rattle.model.specs.declared.Operation.{Operation}
use Rattle.sheet.specs.Layout.{procedures_of, variables_field, bound_size, procedure_at, instruction_at}
use Rattle.sheet.specs.Decode.{operation_at}
use Rattle.sheet.specs.Meaning.{qual_of}
use Rattle.words.specs.Word.{Slot, cell, head, back, procedure, slot_in, number_of, variables_of, bound_of, first_of, IsProcedure}
use Rattle.words.specs.Sees.{Sees}
use Rattle.writers.specs.declared.Registers.{Registers}

-- what a run is given and does not change
pub record Given : Type 0 where
  pub sheet : List ℕ
  pub input : List ℕ
  -- the output's words before the run
  pub output : List ℕ

unfoldable pub flat_objects : {m : Mode} → List (Object m) → List (Slot m)
flat_objects [] = []
flat_objects (o ∷ os) = head (head_of (some o)) ∷ (map cell (cells_of o) ++ flat_objects os)

-- the variable that an operation keeps, as a byte: 255 for none
abbrev pub byte_of : Option ℕ → ℕ
byte_of none = 255
byte_of (some a) = a

abbrev pub kept_byte : Operation → ℕ
kept_byte op = byte_of (kept op)

-- the word that tells where a frame goes back, which waits behind the call before its next instruction; z is the set of the frame above it
abbrev pub back_to : {m : Mode} → (sheet : List ℕ) → (p next : ℕ) → (z : SettledSet m) → Slot m
back_to s p i z = back i (kept_byte (operation_at s (instruction_at s p (pred i)))) z

abbrev pub procedure_slot : {m : Mode} → (sheet : List ℕ) → (p variables : ℕ) → Slot m
procedure_slot s p v = procedure p v (instruction_at s p 0) (bound_size s p (procedure_at s p))

-- what follows the variables of a frame with set z, where these frames wait; where none does, two blank words
unfoldable pub flat_frames : {m : Mode} → (sheet : List ℕ) → (z : SettledSet m) → List (Frame m) → List (Slot m)
flat_frames s z [] = cell empty ∷ (cell empty ∷ [])
flat_frames s z (frame p i y vs ∷ fs) = back_to s p i z ∷ (procedure_slot s p (length vs) ∷ (map cell vs ++ flat_frames s y fs))

-- a frame of a procedure of the sheet has its variables
pub record Sound {m : Mode} (s : List ℕ) (p : ℕ) (vs : List (Cell m)) : Type 0 where
  pub procedure : p < procedures_of s
  pub variables : length vs ≡ variables_field s (procedure_at s p)

-- the frames that wait for one with set z; main's has none, so that nothing is written of it
unfoldable pub AllSound : {m : Mode} → List ℕ → (z : SettledSet m) → List (Frame m) → Type 0
AllSound {m} s z [] = z ≡ settled_set m 0
AllSound s z (frame p i y vs ∷ fs) = Sound s p vs × AllSound s y fs

-- what the word of the running procedure says: its number, its count of variables, where its instructions start
abbrev pub number_in : Registers → ℕ
number_in r = number_of r.procedure

abbrev pub variables_in : Registers → ℕ
variables_in r = variables_of r.procedure

abbrev pub first_in : Registers → ℕ
first_in r = first_of r.procedure

-- bounds that keep every place in the memory
pub record Sane (n : ℕ) (r : Registers) : Type 0 where
  pub room : r.used ≤ r.base
  pub frame : r.base + (variables_in r + 2) ≤ n
  pub small : n ≤ 65536

-- the two parts of the memory that an instruction reads: the objects, and the running frame's variables
abbrev pub object_part : Registers → List ℕ → List ℕ
object_part r words = take r.used words

abbrev pub frame_part : Registers → List ℕ → List ℕ
frame_part r words = take (variables_in r) (drop r.base words)

-- a view sees the words of the memory
abbrev pub SeesIn : (m : Mode) → (qual : ℕ → Qual) → View m → (words : List ℕ) → Registers → Type 0
SeesIn m qual v words r = Sees m qual v (frame_part r words) (object_part r words)

-- the words differ only in the gap between the objects and the frames
pub record GapOnly (words words' : List ℕ) (r : Registers) : Type 0 where
  pub long : length words' ≡ length words
  pub objects : object_part r words' ≡ object_part r words
  pub frames : drop r.base words' ≡ drop r.base words

-- the words seen by a machine: an element's number stands for its type in the sheet
abbrev pub slots : (m : Mode) → Given → List ℕ → List (Slot m)
slots m c words = map (slot_in m (qual_of c.sheet)) words

module _ (m : Mode) (c : Given) (words output : List ℕ) (r : Registers) where
  -- the parts of a state
  pub record Stands (p i : ℕ) (z : SettledSet m) (vs : List (Cell m)) (fs : List (Frame m)) (os : List (Object m)) (input put : List ℕ) : Type 0 where
    pub is_procedure : IsProcedure r.procedure
    pub procedure : number_in r ≡ p
    pub next : r.next ≡ i
    pub first : first_in r ≡ instruction_at c.sheet p 0
    pub bound : bound_of r.procedure ≡ bound_size c.sheet p (procedure_at c.sheet p)
    pub variables : variables_in r ≡ length vs
    pub sane : Sane (length words) r
    pub running : Sound c.sheet p vs
    pub waiting : AllSound c.sheet z fs
    pub objects : take r.used (slots m c words) ≡ flat_objects os
    pub frames : drop r.base (slots m c words) ≡ map cell vs ++ flat_frames c.sheet z fs
    pub input_left : input ≡ drop r.taken c.input
    pub put_words : r.put ≡ length put
    pub output_is : output ≡ written c.output put
    pub put_fits : length put ≤ length c.output

  abbrev pub StandsFor : State m → Type 0
  StandsFor (state (frame p i z vs) fs os input put) = Stands p i z vs fs os input put
