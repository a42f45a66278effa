-- A program (document 01: worksheet) as the rules and the machines read it: functions of numbers, and no bytes.
use Rattle.std.specs.Prelude.{ℕ}
use Rattle.std.proofs.Math.Option.{Option}
use Rattle.model.specs.Qualified.{Qual}
use Rattle.model.specs.Generic.{Bound}
use Rattle.model.specs.declared.Operation.{Operation}

pub record Program : Type 0 where
  -- declared types are numbered from 2; qualified types from 0
  pub types : ℕ
  pub quals : ℕ
  pub qual : ℕ → Qual
  -- the named rights, beside open, and the slots of a declared type
  pub named : ℕ → ℕ
  pub slots : ℕ → ℕ
  pub slot : ℕ → ℕ → Qual
  -- procedures: the owner's type (0 none), formals, variables, the bound of its rights name, result, instructions; types as their records have them, unread
  pub procedures : ℕ
  pub owner : ℕ → ℕ
  pub formals : ℕ → ℕ
  pub variables : ℕ → ℕ
  pub bound : ℕ → Bound
  pub result : ℕ → Option Qual
  pub inner : ℕ → ℕ → Qual
  pub need : ℕ → ℕ → Qual
  pub instructions : ℕ → ℕ
  pub operation : ℕ → ℕ → Operation

-- the records that an access rule refuses; the byte at which one starts is not the program's to say
pub data Record : Type 0 where
  -- the TY of declared type t
  type_record : (t : ℕ) → Record
  qual_record : (j : ℕ) → Record
  procedure_record : (p : ℕ) → Record
  variable_record : (p x : ℕ) → Record
  instruction_record : (p i : ℕ) → Record
