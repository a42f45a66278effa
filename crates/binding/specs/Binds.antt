-- What the code of the watched machine's bindings answers, in the definition's words: `qual` gives the type of a number, h is the objects' part of the memory.
use Rattle.std.specs.Prelude.{ℕ, ◌+◌, ◌≡◌, Bool, List, Result, Ok, Err}
use Rattle.std.proofs.Math.Option.{Option, some}
use Rattle.model.specs.declared.Halt.{Halt}
use Rattle.model.specs.Rights.{Rights}
use Rattle.model.specs.Qualified.{Qual}
use Rattle.model.specs.Generic.{instance}
use Rattle.model.specs.Program.{Program}
use Rattle.model.specs.Outcome.{Res, ok, ◌>>=◌}
use Rattle.model.specs.Modes.{watched, Kind, is_record_of, raise}
use Rattle.model.specs.Machine.{Value, Cell, filled, View, kind_of_head, kind_at, moved, actual, handed}
use Rattle.sheet.specs.Meaning.{qual_of, program_of}
use Rattle.index.specs.Scope.{bound_of_procedure, ScopeOf}
use Rattle.index.specs.declared.procedures.Scope.{Scope}
use Rattle.words.specs.Word.{cell, slot_in, as_cell, as_head}
use Rattle.words.specs.Sees.{heads_in}
use Rattle.words.specs.Answers.{halted, MovedOk}

-- what the object of a head is
abbrev pub kind_in : (ℕ → Qual) → ℕ → Kind watched
kind_in qual w = kind_of_head (as_head (slot_in watched qual w))

-- the heads of the objects that a view sees stand in the words h
abbrev pub Heads : (ℕ → Qual) → View watched → List ℕ → Type 0
Heads qual v h = (a : ℕ) → heads_in watched qual h a ≡ v.head a

-- the cell of a word that is moved, or the stop
unfoldable pub moved_cell : (ℕ → Qual) → Result ℕ Halt → Res (Cell watched)
moved_cell qual (Ok w) = ok (as_cell (slot_in watched qual w))
moved_cell qual (Err k) = halted watched k

-- the same as the value that a return hands over
unfoldable pub handed_cell : (ℕ → Qual) → Result ℕ Halt → Res (Option (Cell watched))
handed_cell qual (Ok w) = ok (some (as_cell (slot_in watched qual w)))
handed_cell qual (Err k) = halted watched k

-- a value with the rights that it carries after it was raised to `inner`, read as another, by the owner
unfoldable pub raised : (owner : ℕ) → (inner as_read : Qual) → Kind watched → Value → Rights → Res (Cell watched)
raised o inner q k x r = raise watched o inner q k r >>= λ t. ok (filled x t)

-- a filled cell holds a record of the owner's type
abbrev pub OwnRecord : List ℕ → (owner w : ℕ) → Bool → Type 0
OwnRecord h o w r =
    (qual : ℕ → Qual) (x : Value) (m : ℕ) → slot_in watched qual w ≡ cell (filled x m) → r ≡ is_record_of o (kind_at (heads_in watched qual h) x)

-- ---- The scope in which a frame reads its types: what ?R stands for there has the frame's set

-- a frame of procedure p with set z
abbrev pub FrameScope : (s : List ℕ) → (p : ℕ) → (z : Rights) → Scope → Type 0
FrameScope s p z c = ScopeOf s p (instance (bound_of_procedure s p) z) c

-- the running frame
abbrev pub InScope : (s : List ℕ) → View watched → Scope → Type 0
InScope s v c = FrameScope s v.procedure v.set_held c

-- ---- An answer is a cell's word, and means what the definition gives in every view that sees these heads

-- the word of a filled cell, bound to a type
pub record BindsFilled (qual : ℕ → Qual) (h : List ℕ) (q : Qual) (w : ℕ) (r : Result ℕ Halt) : Type 0 where
  pub fine : MovedOk r
  pub moves : (g : Program) (v : View watched) (x : Value) (m : ℕ) → Heads qual v h → slot_in watched qual w ≡ cell (filled x m)
      → moved_cell qual r ≡ moved watched g v q (filled x m)

-- the word of any cell
pub record BindsWord (qual : ℕ → Qual) (h : List ℕ) (q : Qual) (w : ℕ) (r : Result ℕ Halt) : Type 0 where
  pub fine : MovedOk r
  pub moves : (g : Program) (v : View watched) (c : Cell watched) → Heads qual v h → slot_in watched qual w ≡ cell c
      → moved_cell qual r ≡ moved watched g v q c

-- the word of any cell, bound to one type and then to another
pub record BindsTwice (qual : ℕ → Qual) (h : List ℕ) (e q : Qual) (w : ℕ) (r : Result ℕ Halt) : Type 0 where
  pub fine : MovedOk r
  pub moves : (g : Program) (v : View watched) (c : Cell watched) → Heads qual v h → slot_in watched qual w ≡ cell c
      → moved_cell qual r ≡ (moved watched g v e c >>= λ d. moved watched g v q d)

-- the word of a filled cell, raised to type `inner`, read as another, by the owner
pub record Raises (qual : ℕ → Qual) (h : List ℕ) (owner : ℕ) (inner as_read : Qual) (w : ℕ) (r : Result ℕ Halt) : Type 0 where
  pub fine : MovedOk r
  pub moves : (v : View watched) (x : Value) (m : ℕ) → Heads qual v h → slot_in watched qual w ≡ cell (filled x m)
      → moved_cell qual r ≡ raised owner inner as_read (kind_at v.head x) x m

-- the word of variable b + j, as actual j of a call with variables from b on, of a procedure whose frame has scope c
pub record BindsActual (s h : List ℕ) (c : Scope) (j w : ℕ) (r : Result ℕ Halt) : Type 0 where
  pub fine : MovedOk r
  pub moves : (v : View watched) (k b : ℕ) (z : Rights) → Heads (qual_of s) v h → FrameScope s k z c → slot_in watched (qual_of s) w ≡ cell (v.variable (b + j))
      → moved_cell (qual_of s) r ≡ actual watched (program_of s) v k b z j

-- the word of variable a, as what a return of it from the frame of scope c hands over
pub record BindsResult (s h : List ℕ) (c : Scope) (w : ℕ) (r : Result ℕ Halt) : Type 0 where
  pub fine : MovedOk r
  pub moves : (v : View watched) (a : ℕ) → Heads (qual_of s) v h → InScope s v c → slot_in watched (qual_of s) w ≡ cell (v.variable a)
      → handed_cell (qual_of s) r ≡ handed watched (program_of s) v (some a)
