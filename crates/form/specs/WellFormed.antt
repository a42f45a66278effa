-- Refusals 1 to 5 in their order (document 01): "1; then record by record 2, 3, 4, 5 in field order; leftover bytes 2;
-- then, call by call, the 5s that wait for the procedure called"; document 02, S-1: "in the pass for calls, which goes record by record".
use Rattle.std.specs.Prelude.{ℕ, ◌+◌, List, [], ◌∷◌, ◌++◌, Bool, false, not, ◌||◌, cond, length, leb, ltb, eqb}
use Rattle.std.proofs.Math.Option.{Option, none, some}
use Rattle.model.specs.Refusal.{Test, test, Tests, tests, each}
use Rattle.model.specs.declared.Reason.TheVariants.{Overlong, Torn, StrayMark, BadEdition, OffScale}
use Rattle.model.specs.Qualified.{Qual}
use Rattle.model.specs.Generic.{uses}
use Rattle.sheet.specs.Bytes.{byte_at, whole_at, Mark, marked_at}
use Rattle.sheet.specs.Layout.{hd_mark, ty_mark, qt_mark, pr_mark, gn_mark, vr_mark, in_mark, hd_size, ty_size, qt_size, pr_size, gn_size, vr_size, in_size, most_named, edition_of, edition_in, types_of, quals_of, procedures_of, type_at, named_of, slots_of, slot_of, qual_at, base_of, rights_field, element_field, owner_at, formals_at, variables_field, result_at, instructions_at, bound_at, bound_base_at, least_at, is_bounded, start_from, variable_at, inner_at, need_at, instruction_from, code_at, k_at, procedure_at}
use Rattle.sheet.specs.Decode.{fields_at}
use Rattle.sheet.specs.Meaning.{slot_in_sheet, inner_in, need_in, result_in}
use Rattle.limits.specs.declared.Limits.{Limits}
use Rattle.limits.specs.Scale.{header_scale, type_scale, qual_scale, bound_scale, procedure_scale, variable_scale, instruction_scale, actuals_scale}

-- 1: "more than 32,768 bytes"
unfoldable pub length_tests : List ℕ → List Tests
length_tests s = tests 0 (test Overlong (leb (length s) 32768) ∷ []) ∷ []

-- a record of a size, under its mark, within its limits: 2 torn, 3 stray mark, 5 off scale
unfoldable pub record_tests : List ℕ → (at size : ℕ) → Mark → Bool → List Tests
record_tests s at size m scale =
    tests at (test Torn (whole_at s at size) ∷ test StrayMark (marked_at s at m) ∷ test OffScale scale ∷ []) ∷ []

-- HD; S-5: "Refusal 4 then means neither 1 nor 2."
unfoldable pub header_tests : List ℕ → List Tests
header_tests s =
    tests 0 (
    test Torn (whole_at s 0 hd_size) ∷
    test StrayMark (marked_at s 0 hd_mark) ∷
    test BadEdition (eqb (edition_of s) 1 || eqb (edition_of s) 2) ∷
    test OffScale (header_scale (types_of s) (quals_of s) (procedures_of s)) ∷
    [])
    ∷ []

-- TY number i, of type 2 + i
unfoldable pub type_tests : List ℕ → ℕ → List Tests
type_tests s i =
    record_tests s (type_at (2 + i)) ty_size ty_mark
    (type_scale (most_named (edition_in s)) (quals_of s) (named_of s (2 + i)) (slots_of s (2 + i)) (slot_of s (2 + i)))

-- QT number j
unfoldable pub qual_tests : List ℕ → ℕ → List Tests
qual_tests s j =
    record_tests s (qual_at s j) (qt_size (edition_in s)) qt_mark
    (qual_scale (types_of s) (named_of s (base_of s j)) j (base_of s j) (rights_field s j) (element_field s j))

-- PR number p, at `pr`
unfoldable pub head_tests : List ℕ → (p pr : ℕ) → List Tests
head_tests s p pr =
    record_tests s pr pr_size pr_mark
    (procedure_scale (types_of s) (quals_of s) p (owner_at s pr) (formals_at s pr) (variables_field s pr) (result_at s pr) (instructions_at s pr))

-- GN of procedure p, at `pr`, where one is due
unfoldable pub bound_tests : List ℕ → (p pr : ℕ) → List Tests
bound_tests s p pr =
    cond (is_bounded s p pr)
    (record_tests s (bound_at pr) (gn_size (edition_in s)) gn_mark
    (bound_scale (types_of s) (named_of s (bound_base_at s pr)) (bound_base_at s pr) (least_at s pr)))
    []

-- VR number x of the procedure at `pr`, whose VRs start at `start`
unfoldable pub variable_tests : List ℕ → (pr start x : ℕ) → List Tests
variable_tests s pr start x =
    record_tests s (variable_at start x) vr_size vr_mark
    (variable_scale (quals_of s) (formals_at s pr) x (inner_at s start x) (need_at s start x))

-- what the limits of the INs of the procedure at `pr` depend on
abbrev pub limits_at : List ℕ → ℕ → Limits
limits_at s pr =
    record { variables = variables_field s pr; instructions = instructions_at s pr; owner = owner_at s pr; slots = slots_of s (owner_at s pr) }

-- IN number i, at `at`, in a procedure of such limits
unfoldable pub instruction_tests_at : List ℕ → Limits → (i at : ℕ) → List Tests
instruction_tests_at s l i at = record_tests s at in_size in_mark (instruction_scale l (fields_at s at) i)

unfoldable pub instruction_tests : List ℕ → (pr start i : ℕ) → List Tests
instruction_tests s pr start i = instruction_tests_at s (limits_at s pr) i (instruction_from start (variables_field s pr) i)

-- procedure p, at `pr`: its PR, GN, VRs, INs
unfoldable pub procedure_tests_at : List ℕ → (p pr : ℕ) → List Tests
procedure_tests_at s p pr =
    head_tests s p pr
    ++ (bound_tests s p pr
    ++ (each (variables_field s pr) (variable_tests s pr (start_from s p pr))
    ++ each (instructions_at s pr) (instruction_tests s pr (start_from s p pr))))

unfoldable pub procedure_tests : List ℕ → ℕ → List Tests
procedure_tests s p = procedure_tests_at s p (procedure_at s p)

-- "the first leftover byte where bytes are left over": none is left after the last record, which ends at `end`
unfoldable pub leftover_tests : List ℕ → ℕ → List Tests
leftover_tests s end = tests end (test Torn (eqb end (length s)) ∷ []) ∷ []

unfoldable pub layout_tests : List ℕ → List Tests
layout_tests s =
    header_tests s
    ++ (each (types_of s) (type_tests s)
    ++ (each (quals_of s) (qual_tests s)
    ++ (each (procedures_of s) (procedure_tests s)
    ++ leftover_tests s (procedure_at s (procedures_of s)))))

-- "call by call": "k<p, then b"; an IN that is no call is asked nothing
unfoldable pub call_tests_at : List ℕ → (v at : ℕ) → List Test
call_tests_at s v at =
    cond (eqb (code_at s at) 16)
    (test OffScale (ltb (k_at s at) (procedures_of s))
    ∷ test OffScale (actuals_scale (formals_at s (procedure_at s (k_at s at))) (byte_at s at 4) v)
    ∷ [])
    []

unfoldable pub call_tests : List ℕ → (v start i : ℕ) → List Tests
call_tests s v start i = tests (instruction_from start v i) (call_tests_at s v (instruction_from start v i)) ∷ []

-- S-1: ?R "Used (itself or as an element) in a slot or without a GN .. is 5 at the TY, PR or VR, in the pass for calls"; a QT that no record names is no fault
unfoldable pub slot_uses : List ℕ → ℕ → List Tests
slot_uses s i = tests (type_at (2 + i)) (each (slots_of s (2 + i)) (λ k. test OffScale (not (uses (slot_in_sheet s (2 + i) k))) ∷ [])) ∷ []

unfoldable pub result_uses : Option Qual → Bool
result_uses none = false
result_uses (some q) = uses q

unfoldable pub head_uses : List ℕ → (p pr : ℕ) → List Tests
head_uses s p pr = tests pr (test OffScale (is_bounded s p pr || not (result_uses (result_in s pr))) ∷ []) ∷ []

unfoldable pub variable_uses : List ℕ → (bounded : Bool) → (start x : ℕ) → List Tests
variable_uses s bounded start x =
    tests (variable_at start x) (test OffScale (bounded || not (uses (inner_in s start x) || uses (need_in s start x))) ∷ []) ∷ []

-- procedure p, at `pr`, in the pass for calls: its PR, its VRs, its calls
unfoldable pub procedure_calls_at : List ℕ → (p pr : ℕ) → List Tests
procedure_calls_at s p pr =
    head_uses s p pr
    ++ (each (variables_field s pr) (variable_uses s (is_bounded s p pr) (start_from s p pr))
    ++ each (instructions_at s pr) (call_tests s (variables_field s pr) (start_from s p pr)))

unfoldable pub procedure_calls : List ℕ → ℕ → List Tests
procedure_calls s p = procedure_calls_at s p (procedure_at s p)

unfoldable pub calls_tests : List ℕ → List Tests
calls_tests s = each (types_of s) (slot_uses s) ++ each (procedures_of s) (procedure_calls s)

-- a sheet is well-formed when none of 1 to 5 is given
unfoldable pub form_tests : List ℕ → List Tests
form_tests s = length_tests s ++ (layout_tests s ++ calls_tests s)
