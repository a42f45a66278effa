-- The program that a sheet's bytes mean, and where its records stand. It is total: where a well-formed sheet has no such number, the value is of no account.
use Rattle.std.specs.Prelude.{ℕ, zero, suc, List, cond, eqb, ltb}
use Rattle.std.proofs.Math.Option.{Option, none, some}
use Rattle.model.specs.Rights.{Rights}
use Rattle.model.specs.Qualified.{Qual, integer, array, declared, generic}
use Rattle.model.specs.Generic.{Bound, no_bound, at_least}
use Rattle.model.specs.Program.{Program, Record, type_record, qual_record, procedure_record, variable_record, instruction_record}
use Rattle.sheet.specs.Layout.{types_of, quals_of, procedures_of, type_at, named_of, slots_of, slot_of, qual_at, base_of, rights_field, element_field, owner_at, formals_at, variables_field, result_at, instructions_at, bound_base_at, least_at, is_bounded, variable_at, inner_at, need_at, procedure_at, start_at, instruction_at}
use Rattle.sheet.specs.Decode.{operation_at}

-- S-1: "A QT of base 255, rights 0, element 255 stands for ?R"
unfoldable pub nominal : (base : ℕ) → Rights → Qual
nominal t r = cond (eqb t 255) (generic 255 0) (declared t r)

-- "Types 0 and 1 are integer and tray"
unfoldable pub shaped : (base : ℕ) → Rights → Qual → Qual
shaped zero r e = integer
shaped (suc zero) r e = array r e
shaped (suc (suc t)) r e = nominal (suc (suc t)) r

-- the base of QT j, read as an integer where the sheet has no QT j
unfoldable pub base_in : List ℕ → ℕ → ℕ
base_in s j = cond (ltb j (quals_of s)) (base_of s j) 0

-- "Element: for a tray, a QT number below its own; else 255", which no QT has
unfoldable pub element_in_sheet : List ℕ → ℕ → ℕ
element_in_sheet s j = cond (ltb (element_field s j) j) (element_field s j) 255

-- the qualified type of QT j, read at most n levels deep; its element's number is below its own, so j + 1 levels are enough
unfoldable pub tree : List ℕ → ℕ → ℕ → Qual
tree s zero j = integer
tree s (suc n) j = shaped (base_in s j) (rights_field s j) (tree s n (element_in_sheet s j))

unfoldable pub qual_of : List ℕ → ℕ → Qual
qual_of s j = tree s (suc j) j

-- the types of slot k of type t, and of variable x of a procedure whose VRs start at `start`
unfoldable pub slot_in_sheet : List ℕ → (t k : ℕ) → Qual
slot_in_sheet s t k = qual_of s (slot_of s t k)

unfoldable pub inner_in : List ℕ → (start x : ℕ) → Qual
inner_in s start x = qual_of s (inner_at s start x)

unfoldable pub need_in : List ℕ → (start x : ℕ) → Qual
need_in s start x = qual_of s (need_at s start x)

-- "result (QT number or 255 none)"
unfoldable pub result_in : List ℕ → ℕ → Option Qual
result_in s pr = cond (eqb (result_at s pr) 255) none (some (qual_of s (result_at s pr)))

-- what procedure p, at `pr`, declares of its rights name
unfoldable pub bound_in_sheet : List ℕ → (p pr : ℕ) → Bound
bound_in_sheet s p pr = cond (is_bounded s p pr) (at_least (bound_base_at s pr) (least_at s pr)) no_bound

abbrev pub program_of : List ℕ → Program
program_of s =
    record {
      types = types_of s;
      quals = quals_of s;
      qual = qual_of s;
      named = named_of s;
      slots = slots_of s;
      slot = slot_in_sheet s;
      procedures = procedures_of s;
      owner = λ p. owner_at s (procedure_at s p);
      formals = λ p. formals_at s (procedure_at s p);
      variables = λ p. variables_field s (procedure_at s p);
      bound = λ p. bound_in_sheet s p (procedure_at s p);
      result = λ p. result_in s (procedure_at s p);
      inner = λ p. inner_in s (start_at s p);
      need = λ p. need_in s (start_at s p);
      instructions = λ p. instructions_at s (procedure_at s p);
      operation = λ p i. operation_at s (instruction_at s p i);
    }

-- "with the byte at which the record starts"
abbrev pub place_of : List ℕ → Record → ℕ
place_of s (type_record t) = type_at t
place_of s (qual_record j) = qual_at s j
place_of s (procedure_record p) = procedure_at s p
place_of s (variable_record p x) = variable_at (start_at s p) x
place_of s (instruction_record p i) = instruction_at s p i
