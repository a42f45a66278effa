-- Refusals 1 to 5 are given with these numbers and no other.
use Prim.Native.Nat.{ℕ, ◌+◌}
use mathlib.Core.Path.{◌≡◌, refl}
use mathlib.Core.Bool.{Bool, true, false, not, cond}
use mathlib.Core.List.{List, [], ◌∷◌, ◌++◌}
use lib.Dec.{eqb}
use Rattle.model.specs.Refusal.{between, Test, test, tests, each}
use Rattle.model.specs.declared.Reason.TheVariants.{Torn, StrayMark, OffScale}
use Rattle.model.specs.Generic.{uses}
use Rattle.model.proofs.Numbers.{in_range, all_in_range, range_span, all_append, all_each, all_one}
use Rattle.sheet.specs.Layout.{types_of, quals_of, procedures_of, type_at, slots_of, variables_field, instructions_at, is_bounded, start_from, instruction_from, code_at, procedure_at}
use Rattle.sheet.specs.Meaning.{slot_in_sheet}
use Rattle.form.specs.WellFormed.{length_tests, record_tests, header_tests, type_tests, qual_tests, head_tests, bound_tests, variable_tests, instruction_tests_at, instruction_tests, procedure_tests_at, procedure_tests, leftover_tests, layout_tests, call_tests_at, call_tests, slot_uses, head_uses, variable_uses, procedure_calls_at, procedure_calls, calls_tests, form_tests}

abbrev pub form_number : ℕ → Bool
form_number n = between 1 5 n

bound_range : (s : List ℕ) (p pr : ℕ) → all_in_range form_number (bound_tests s p pr) ≡ true
unfolding bound_tests record_tests
bound_range s p pr = due (is_bounded s p pr) _ _ _
  where
    due : (b t u v : Bool) → all_in_range form_number (cond b (tests (pr + 8) (test Torn t ∷ test StrayMark u ∷ test OffScale v ∷ []) ∷ []) []) ≡ true
    due true t u v = refl
    due false t u v = refl

procedure_range : (s : List ℕ) (p : ℕ) → all_in_range form_number (procedure_tests s p) ≡ true
unfolding procedure_tests procedure_tests_at head_tests variable_tests instruction_tests instruction_tests_at record_tests
procedure_range s p =
    let pr = procedure_at s p in
    let start = start_from s p pr in
    let variables = each (variables_field s pr) (variable_tests s pr start) in
    let instructions = each (instructions_at s pr) (instruction_tests s pr start) in
    all_append form_number (head_tests s p pr) (bound_tests s p pr ++ (variables ++ instructions)) refl
    (all_append form_number (bound_tests s p pr) (variables ++ instructions) (bound_range s p pr)
    (all_append form_number variables instructions
    (all_each form_number (variable_tests s pr start) (λ x. refl) (variables_field s pr))
    (all_each form_number (instruction_tests s pr start) (λ i. refl) (instructions_at s pr))))

layout_range : (s : List ℕ) → all_in_range form_number (layout_tests s) ≡ true
unfolding layout_tests header_tests type_tests qual_tests leftover_tests record_tests
layout_range s =
    let last = leftover_tests s (procedure_at s (procedures_of s)) in
    let procedures = each (procedures_of s) (procedure_tests s) in
    let quals = each (quals_of s) (qual_tests s) in
    let types = each (types_of s) (type_tests s) in
    all_append form_number (header_tests s) (types ++ (quals ++ (procedures ++ last))) refl
    (all_append form_number types (quals ++ (procedures ++ last)) (all_each form_number (type_tests s) (λ i. refl) (types_of s))
    (all_append form_number quals (procedures ++ last) (all_each form_number (qual_tests s) (λ j. refl) (quals_of s))
    (all_append form_number procedures last (all_each form_number (procedure_tests s) (procedure_range s) (procedures_of s)) refl)))

call_range : (s : List ℕ) (v start i : ℕ) → all_in_range form_number (call_tests s v start i) ≡ true
unfolding call_tests call_tests_at
call_range s v start i =
    let at = instruction_from start v i in
    all_one form_number at (call_tests_at s v at) (asked (eqb (code_at s at) 16) _ _)
  where
    asked : (b t u : Bool) → in_range form_number (cond b (test OffScale t ∷ test OffScale u ∷ []) []) ≡ true
    asked true t u = refl
    asked false t u = refl

slot_range : (s : List ℕ) (i : ℕ) → all_in_range form_number (slot_uses s i) ≡ true
unfolding slot_uses
slot_range s i =
    let slot : ℕ → List Test = (λ k. test OffScale (not (uses (slot_in_sheet s (2 + i) k))) ∷ []) in
    all_one form_number (type_at (2 + i)) (each (slots_of s (2 + i)) slot) (range_span form_number slot (λ k. refl) 0 (slots_of s (2 + i)))

procedure_calls_range : (s : List ℕ) (p : ℕ) → all_in_range form_number (procedure_calls s p) ≡ true
unfolding procedure_calls procedure_calls_at head_uses variable_uses
procedure_calls_range s p =
    let pr = procedure_at s p in
    let start = start_from s p pr in
    let v = variables_field s pr in
    let variables = each v (variable_uses s (is_bounded s p pr) start) in
    let calls = each (instructions_at s pr) (call_tests s v start) in
    all_append form_number (head_uses s p pr) (variables ++ calls) refl
    (all_append form_number variables calls
    (all_each form_number (variable_uses s (is_bounded s p pr) start) (λ x. refl) v)
    (all_each form_number (call_tests s v start) (call_range s v start) (instructions_at s pr)))

calls_range : (s : List ℕ) → all_in_range form_number (calls_tests s) ≡ true
unfolding calls_tests
calls_range s =
    all_append form_number (each (types_of s) (slot_uses s)) (each (procedures_of s) (procedure_calls s))
    (all_each form_number (slot_uses s) (slot_range s) (types_of s))
    (all_each form_number (procedure_calls s) (procedure_calls_range s) (procedures_of s))

pub form_range : (s : List ℕ) → all_in_range form_number (form_tests s) ≡ true
unfolding form_tests length_tests
form_range s = all_append form_number (length_tests s) (layout_tests s ++ calls_tests s) refl (all_append form_number (layout_tests s) (calls_tests s) (layout_range s) (calls_range s))
