-- The places of the records of types and of instructions, where the passes read.
use Prim.Native.Nat.{ℕ, ◌+◌, ◌*◌}
use mathlib.Core.Path.{◌≡◌, ap, ap₂, ◌∙◌}
use mathlib.Core.List.{List, [], ◌∷◌}
use native.Mathlib.Omega.{arith}
use Rattle.model.specs.Qualified.{element}
use Rattle.model.specs.Refusal.{Accepted, Tests, tests, failure, refuse, verdict, each}
use Rattle.model.specs.Rules.{closed_rule, type_rules, qual_rules}
use Rattle.sheet.specs.Bytes.{byte_at}
use Rattle.sheet.specs.Layout.{qual_at, type_at, slots_of, slot_of, variable_at, variables_field, instruction_from, instruction_at}
use Rattle.sheet.specs.Meaning.{qual_of, slot_in_sheet, program_of, place_of}
use Rattle.index.specs.Types.{qual_in}
use Rattle.index.specs.declared.sheets.Sheet.{Sheet}
use Rattle.index.specs.declared.procedures.Scope.{Scope}
use Rattle.index.proofs.Ready.{of_sheet}
use Rattle.access.specs.Inner.Callees.{OwnScope}

-- TY number i is that of type 2 + i, which stands at 6 + 12 * i
type_place : (i : ℕ) → type_at (2 + i) ≡ 6 + 12 * i
unfolding type_at
type_place i = omega arith

abbrev type_rules_at : List ℕ → ℕ → List Tests
type_rules_at s at = tests at (each (byte_at s at 3) (λ k. closed_rule (qual_of s (byte_at s at (4 + k))))) ∷ []

pub type_verdict : (s : List ℕ) (i : ℕ) → verdict (type_rules (place_of s) (program_of s) i)
    ≡ refuse (failure (each (byte_at s (6 + 12 * i) 3) (λ k. closed_rule (qual_of s (byte_at s (6 + 12 * i) (4 + k)))))) (6 + 12 * i) Accepted
unfolding verdict type_rules slots_of slot_in_sheet slot_of
type_verdict s i = ap (λ (at : ℕ). verdict (type_rules_at s at)) (type_place i)

-- a type of the index is the sheet's
pub qual_verdict : (s : Sheet) (j : ℕ) → verdict (qual_rules (place_of s.bytes.now) (program_of s.bytes.now) j)
    ≡ refuse (failure (closed_rule (element (qual_in s.index.now j)))) (qual_at s.bytes.now j) Accepted
unfolding verdict qual_rules
qual_verdict s j = rw (of_sheet s).types

-- an instruction from the place of the first one
instruction_after : (start v first i : ℕ) → first ≡ instruction_from start v 0 → first + 8 * i ≡ instruction_from start v i
unfolding instruction_from variable_at
instruction_after start v first i e = omega arith

pub instruction_place : {s : List ℕ} {p : ℕ} {c : Scope} → OwnScope s p c → (v first i : ℕ) → v ≡ byte_at s c.head 4 → first ≡ instruction_from c.start v 0
    → first + 8 * i ≡ instruction_at s p i
unfolding instruction_at variables_field
instruction_place {s} {p} {c} scope v first i e f =
    instruction_after c.start v first i f ∙ ap₂ (λ (x y : ℕ). instruction_from x y i) scope.start (e ∙ ap (λ (h : ℕ). byte_at s h 4) scope.head)
