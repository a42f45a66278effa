-- What an instruction sees of a state (`View`), read off words: the variables' part of the memory, f, and the objects' part, h.
use Rattle.std.specs.Prelude.{ℕ, ◌+◌, ◌<◌, ◌≡◌, List, get_or}
use Rattle.std.proofs.Math.Option.{Option, none, some}
use Rattle.model.specs.Qualified.{Qual}
use Rattle.model.specs.Modes.{Mode}
use Rattle.model.specs.Machine.{Head, array_head, record_head, no_head, View}
use Rattle.words.specs.Word.{cell, slot_in, as_head}

abbrev pub head_size : {m : Mode} → Head m → Option ℕ
head_size (array_head e n) = some n
head_size (record_head t n) = some n
head_size no_head = none

-- `qual` gives the type of an element's number; the plain machine keeps no types, so that there it is of no account
module _ (m : Mode) (qual : ℕ → Qual) where
  abbrev pub heads_in : List ℕ → ℕ → Head m
  heads_in h a = as_head (slot_in m qual (get_or h a 0))

  -- each variable, the head at each name, and each cell of an object that is there
  pub record Sees (v : View m) (f h : List ℕ) : Type 0 where
    pub variable : (x : ℕ) → slot_in m qual (get_or f x 0) ≡ cell (v.variable x)
    pub head : (a : ℕ) → heads_in h a ≡ v.head a
    pub cell : (a i n : ℕ) → head_size (v.head a) ≡ some n → i < n → slot_in m qual (get_or h (a + 1 + i) 0) ≡ cell (v.cell a i)
