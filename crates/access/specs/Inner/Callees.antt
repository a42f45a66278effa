-- What the access rules lean on: the procedure that an instruction calls is one of the sheet's, and a rights name has a declared type.
use Rattle.std.specs.Prelude.{ℕ, ◌<◌, List}
use Rattle.model.specs.Generic.{own}
use Rattle.model.specs.Rules.{callee}
use Rattle.model.specs.declared.Operation.{Operation}
use Rattle.sheet.specs.Layout.{procedures_of, instructions_at, procedure_at, instruction_at}
use Rattle.sheet.specs.Decode.{operation_at}
use Rattle.index.specs.Scope.{bound_of_procedure, Bounded, ScopeOf}
use Rattle.index.specs.declared.procedures.Scope.{Scope}

-- the scope of procedure p, in which it reads ?R itself
abbrev pub OwnScope : List ℕ → (p : ℕ) → Scope → Type 0
OwnScope s p c = ScopeOf s p (own (bound_of_procedure s p)) c

pub record CalleeThere (s : List ℕ) (op : Operation) : Type 0 where
  pub there : callee op < procedures_of s
  pub bounded : Bounded s (callee op)

-- every instruction of procedure p
unfoldable pub CalleesAt : List ℕ → (p : ℕ) → Type 0
CalleesAt s p = (i : ℕ) → i < instructions_at s (procedure_at s p) → CalleeThere s (operation_at s (instruction_at s p i))

pub record Callees (s : List ℕ) : Type 0 where
  pub bounded : (p : ℕ) → p < procedures_of s → Bounded s p
  pub each : (p : ℕ) → p < procedures_of s → CalleesAt s p
