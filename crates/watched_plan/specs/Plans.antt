-- What an instruction asks for, against its plan: in every view that sees the words f of the running frame, which reads its types in scope p, and h of the
-- objects.
use Rattle.std.specs.Prelude.{◌≡◌, ℕ, List, Result}
use Rattle.model.specs.declared.Halt.{Halt}
use Rattle.model.specs.Outcome.{Res}
use Rattle.model.specs.Modes.{watched}
use Rattle.model.specs.Machine.{View, Effect, plan}
use Rattle.model.specs.declared.Operation.{Operation}
use Rattle.sheet.specs.Meaning.{qual_of, program_of}
use Rattle.index.specs.declared.procedures.Scope.{Scope}
use Rattle.words.specs.Sees.{Sees}
use Rattle.words.specs.Answers.{MovedOk, StoredOk, given, moved_to, stored}
use Rattle.words.specs.declared.Stored.{Stored}
use Rattle.binding.specs.Binds.{InScope}

module _ (s : List ℕ) (p : Scope) (f h : List ℕ) where
  abbrev pub Plans : Operation → Res (Effect watched) → Type 0
  Plans op e = (v : View watched) → InScope s v p → Sees watched (qual_of s) v f h → e ≡ plan watched (program_of s) v op

  -- it gives variable a this integer
  abbrev pub PlansNumber : Operation → (a : ℕ) → Result ℕ Halt → Type 0
  PlansNumber op a n = Plans op (given watched a n)

  -- it moves this word, a cell's, into variable a
  abbrev pub PlansMoved : Operation → (a : ℕ) → Result ℕ Halt → Type 0
  PlansMoved op a m = MovedOk m × Plans op (moved_to watched (qual_of s) a m)

  -- it stores this word in a cell of an object
  abbrev pub PlansStored : Operation → Result Stored Halt → Type 0
  PlansStored op m = StoredOk h m × Plans op (stored watched (qual_of s) m)

-- a store reads no type of the frame: the array has its element
abbrev pub PlansStore : (s f h : List ℕ) → Operation → Result Stored Halt → Type 0
PlansStore s f h op m =
    StoredOk h m × ((v : View watched) → Sees watched (qual_of s) v f h → stored watched (qual_of s) m ≡ plan watched (program_of s) v op)
