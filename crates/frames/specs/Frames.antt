-- What it is to copy words, to open a frame, to find the one that waits and to keep a word in it; the last three in either machine: in each the words
-- stand for the state with it.
use Rattle.std.specs.Prelude.{ℕ, suc, pred, ◌+◌, ◌-◌, ◌<◌, ◌≡◌, List, ◌∷◌, ◌++◌, map, get_or, take, drop, set, replicate, Result, Ok, Err}
use Rattle.model.specs.declared.Halt.{Halt}
use Rattle.model.specs.declared.Halt.TheVariants.{Blank}
use Rattle.model.specs.Modes.{Mode, SettledSet, settled_set}
use Rattle.model.specs.Machine.{Cell, empty, Object, Frame, frame}
use Rattle.model.specs.declared.Operation.TheVariants.{Call}
use Rattle.sheet.specs.Layout.{procedures_of, formals_at, instruction_at, procedure_at}
use Rattle.sheet.specs.Decode.{operation_at}
use Rattle.sheet.specs.Meaning.{qual_of}
use Rattle.words.specs.Word.{cell, slot_in, variables_of}
use Rattle.index.specs.Indexed.{ProcedureWord}
use Rattle.writers.specs.declared.Registers.{Registers}
use Rattle.writers.specs.Memory.{Given, kept_byte, variables_in, slots, Stands}
use Rattle.frames.specs.Fetch.{place_in}

-- the words with n of them copied to another place
abbrev pub copied : (words : List ℕ) → (from to n : ℕ) → List ℕ
copied words from to n = take to words ++ (take n (drop from words) ++ drop (to + n) words)

-- n words were copied and none of them is blank; or those before the first that is, which stops the call
abbrev pub Copies : (words words' : List ℕ) → (from to n : ℕ) → Result (Unit {0}) Halt → Type 0
Copies words words' from to n (Ok u) = (words' ≡ copied words from to n) × ((j : ℕ) → j < n → get_or words (from + j) 0 ≡ 0 → ⊥)
Copies words words' from to n (Err k) =
    (j : ℕ) × (j < n) × (words' ≡ copied words from to j) × (get_or words (from + j) 0 ≡ 0) × (k ≡ Blank)

-- what a call of procedure k with variables from b on, which keeps variable a, leans on: the instruction of the sheet that the registers name, a
-- procedure of it, and variables that the running frame has
pub record Callable (s : List ℕ) (r : Registers) (a b k : ℕ) : Type 0 where
  pub here : operation_at s (place_in r) ≡ Call a b k
  pub next : r.next < 1000
  pub procedure : k < procedures_of s
  pub actuals : (j : ℕ) → j < formals_at s (procedure_at s k) → b + j < variables_in r

-- a frame of the procedure of a word was opened below the running one, whose call keeps variable a: it has a set, the f cells whose words stood at its
-- place, and then blank ones
abbrev pub Opened : (m : Mode) → (words words' : List ℕ) → (r q : Registers) → (a w held v f : ℕ) → Type 0
Opened m words words' r q a w held v f =
    (c : Given) (k p i : ℕ) (z : SettledSet m) (vs cs : List (Cell m)) (fs : List (Frame m)) (os : List (Object m)) (input put out : List ℕ) →
    Stands m c words out r p i z vs fs os input put →
    a ≡ kept_byte (operation_at c.sheet (instruction_at c.sheet p i)) →
    k < procedures_of c.sheet → ProcedureWord c.sheet k w → v ≡ variables_of w →
    slots m c (take f (drop (r.base - (v + 2)) words)) ≡ map cell cs →
    Stands m c words' out q k 0 (settled_set m held) (cs ++ replicate (v - f) empty) (frame p (suc i) z vs ∷ fs) os input put

-- b is what the registers r become when the frame that waits runs on
abbrev pub Waits : (m : Mode) → (words : List ℕ) → (r b : Registers) → Type 0
Waits m words r b =
    (c : Given) (p i q k : ℕ) (z y : SettledSet m) (vs us : List (Cell m)) (fs : List (Frame m)) (os : List (Object m)) (input put out : List ℕ) →
    Stands m c words out r p i z vs (frame q k y us ∷ fs) os input put → Stands m c words out b q k y us fs os input put

-- a is the variable that its call keeps; 255 is none
abbrev pub KeptIn : (m : Mode) → (words : List ℕ) → Registers → ℕ → Type 0
KeptIn m words r a =
    (c : Given) (p i q k : ℕ) (z y : SettledSet m) (vs us : List (Cell m)) (fs : List (Frame m)) (os : List (Object m)) (input put out : List ℕ) →
    Stands m c words out r p i z vs (frame q k y us ∷ fs) os input put →
    a ≡ kept_byte (operation_at c.sheet (instruction_at c.sheet q (pred k)))

-- z is the set of the running frame
abbrev pub SetIn : (m : Mode) → (words : List ℕ) → Registers → SettledSet m → Type 0
SetIn m words r z =
    (c : Given) (p i : ℕ) (y : SettledSet m) (vs : List (Cell m)) (fs : List (Frame m)) (os : List (Object m)) (input put out : List ℕ) →
    Stands m c words out r p i y vs fs os input put → z ≡ y

-- variable a of the running frame became the cell of a word; its next instruction is the same
abbrev pub Keeps : (m : Mode) → (words words' : List ℕ) → Registers → (a w : ℕ) → Type 0
Keeps m words words' b a w =
    (c : Given) (p i : ℕ) (z : SettledSet m) (vs : List (Cell m)) (fs : List (Frame m)) (os : List (Object m)) (input put out : List ℕ) (d : Cell m) →
    slot_in m (qual_of c.sheet) w ≡ cell d →
    Stands m c words out b p i z vs fs os input put → Stands m c words' out b p i z (set vs a d) fs os input put
