-- What a new object asks for, and what is done for an operation.
use Rattle.std.specs.Prelude.{ℕ, ◌-◌, ◌≡◌, List, Result}
use Rattle.model.specs.declared.Halt.{Halt}
use Rattle.model.specs.Outcome.{Res}
use Rattle.model.specs.Modes.{watched}
use Rattle.model.specs.Machine.{Effect}
use Rattle.sheet.specs.Layout.{owner_at, named_of}
use Rattle.index.specs.Scope.{inner_as}
use Rattle.index.specs.declared.procedures.Scope.{Scope}
use Rattle.writers.specs.declared.Registers.{Registers}
use Rattle.writers.specs.Memory.{Given}
use Rattle.writers.specs.Steps.{Stepped, Does, array_effect, record_effect}

-- a new array of n cells, or a new record of the owner's type with n slots, for variable a of the frame of scope p
abbrev pub array_for : (s : List ℕ) → Scope → Registers → (a : ℕ) → Result ℕ Halt → Res (Effect watched)
array_for s p r a n = array_effect watched (r.base - r.used) a (inner_as s p a) n

abbrev pub record_for : (s : List ℕ) → Scope → Registers → (a n : ℕ) → Res (Effect watched)
record_for s p r a n = record_effect watched (r.base - r.used) a (inner_as s p a) (owner_at s p.head) (named_of s (owner_at s p.head)) n

-- an effect that leaves the output as it is, in every run of the sheet
abbrev pub DoesInside : (s words words' : List ℕ) → Registers → Stepped → Res (Effect watched) → Type 0
DoesInside s words words' r o e = (c : Given) (out : List ℕ) → c.sheet ≡ s → Does watched c words words' out out r o e
