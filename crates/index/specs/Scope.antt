-- A procedure as types are read in it: where its records stand, and what ?R is (document 02, S-1).
use Rattle.std.specs.Prelude.{ℕ, ◌<◌, ◌≤◌, ◌≡◌, List}
use Rattle.std.proofs.Math.Option.{Option}
use Rattle.model.specs.Qualified.{Qual}
use Rattle.model.specs.Generic.{Bound, bound_base, read, read_result}
use Rattle.sheet.specs.Layout.{procedure_at, start_at}
use Rattle.sheet.specs.Meaning.{slot_in_sheet, inner_in, need_in, result_in, bound_in_sheet}
use Rattle.index.specs.Types.{named_as}
use Rattle.index.specs.declared.procedures.Scope.{Scope}

-- the bound of procedure p, and its base, a declared type of the sheet
abbrev pub bound_of_procedure : List ℕ → (p : ℕ) → Bound
bound_of_procedure s p = bound_in_sheet s p (procedure_at s p)

pub record Bounded (s : List ℕ) (p : ℕ) : Type 0 where
  pub declared : 2 ≤ bound_base (bound_of_procedure s p)
  pub small : bound_base (bound_of_procedure s p) < 34

-- a scope of procedure p, where ?R is read as ρ
pub record ScopeOf (s : List ℕ) (p : ℕ) (ρ : Qual) (c : Scope) : Type 0 where
  pub head : c.head ≡ procedure_at s p
  pub start : c.start ≡ start_at s p
  pub name : named_as c.name ≡ ρ

-- the types of its variables, of its needs, of slots and of its result, as they are read in it
unfoldable pub inner_as : List ℕ → Scope → ℕ → Qual
inner_as s c x = read (named_as c.name) (inner_in s c.start x)

unfoldable pub need_as : List ℕ → Scope → ℕ → Qual
need_as s c j = read (named_as c.name) (need_in s c.start j)

unfoldable pub slot_as_read : List ℕ → Scope → (t k : ℕ) → Qual
slot_as_read s c t k = read (named_as c.name) (slot_in_sheet s t k)

unfoldable pub result_as : List ℕ → Scope → Option Qual
result_as s c = read_result (named_as c.name) (result_in s c.head)
