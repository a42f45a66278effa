-- Document 01, "Bytes of a worksheet", and document 02, S-1 and S-5: where each record and each of its fields stands.
-- "Order: HD, all TY, all QT, then for each procedure its PR, VRs, INs."; "by a GN record after its PR"
use Rattle.std.specs.Prelude.{ℕ, zero, suc, ◌+◌, ◌*◌, ◌-◌, List, Bool, ◌&&◌, cond, ltb, eqb}
use Rattle.sheet.specs.Bytes.{byte_at, number_at, word_at, Mark, mark, marked_at}

-- "Each record starts with a two-byte ASCII mark": its two letters
abbrev pub hd_mark : Mark
hd_mark = mark 72 68

abbrev pub ty_mark : Mark
ty_mark = mark 84 89

abbrev pub qt_mark : Mark
qt_mark = mark 81 84

abbrev pub pr_mark : Mark
pr_mark = mark 80 82

abbrev pub gn_mark : Mark
gn_mark = mark 71 78

abbrev pub vr_mark : Mark
vr_mark = mark 86 82

abbrev pub in_mark : Mark
in_mark = mark 73 78

-- ---- all that the edition decides
-- S-5: "four rights bytes in QT and GN"; two in edition 1
unfoldable pub rights_size : (edition : ℕ) → ℕ
rights_size e = cond (eqb e 2) 4 2

-- "so these take 8 and 7 bytes"
abbrev pub qt_size : (edition : ℕ) → ℕ
qt_size e = 4 + rights_size e

abbrev pub gn_size : (edition : ℕ) → ℕ
gn_size e = 3 + rights_size e

-- "Edition 2 has n 0..31", edition 1 "0..15": right 0, open, and n named ones fill the bits
abbrev pub most_named : (edition : ℕ) → ℕ
most_named e = 8 * rights_size e - 1

-- ---- the other sizes, in bytes
abbrev pub hd_size : ℕ
hd_size = 6

abbrev pub ty_size : ℕ
ty_size = 12

abbrev pub pr_size : ℕ
pr_size = 8

abbrev pub vr_size : ℕ
vr_size = 4

abbrev pub in_size : ℕ
in_size = 8

-- HD: edition, types t, qualified types q, procedures p
unfoldable pub edition_of : List ℕ → ℕ
edition_of s = byte_at s 0 2

-- the edition by which the records are read: 2 where an HD at the start says so, else 1; another edition is refused (4)
unfoldable pub edition_in : List ℕ → ℕ
edition_in s = cond (eqb (edition_of s) 2 && marked_at s 0 hd_mark) 2 1

unfoldable pub types_of : List ℕ → ℕ
types_of s = byte_at s 0 3

unfoldable pub quals_of : List ℕ → ℕ
quals_of s = byte_at s 0 4

unfoldable pub procedures_of : List ℕ → ℕ
procedures_of s = byte_at s 0 5

-- TY: "the first TY is type 2"; named rights, slots, eight slot bytes
unfoldable pub type_at : ℕ → ℕ
type_at t = hd_size + ty_size * (t - 2)

unfoldable pub named_of : List ℕ → ℕ → ℕ
named_of s t = byte_at s (type_at t) 2

unfoldable pub slots_of : List ℕ → ℕ → ℕ
slots_of s t = byte_at s (type_at t) 3

unfoldable pub slot_of : List ℕ → ℕ → ℕ → ℕ
slot_of s t k = byte_at s (type_at t) (4 + k)

-- the rights in the QT or the GN at `at`, after its base
unfoldable pub rights_at : List ℕ → ℕ → ℕ
rights_at s at = number_at s at 3 (rights_size (edition_in s))

-- QT: base, rights, element
unfoldable pub qual_at : List ℕ → ℕ → ℕ
qual_at s j = hd_size + ty_size * types_of s + qt_size (edition_in s) * j

unfoldable pub base_of : List ℕ → ℕ → ℕ
base_of s j = byte_at s (qual_at s j) 2

unfoldable pub rights_field : List ℕ → ℕ → ℕ
rights_field s j = rights_at s (qual_at s j)

unfoldable pub element_field : List ℕ → ℕ → ℕ
element_field s j = byte_at s (qual_at s j) (3 + rights_size (edition_in s))

-- PR at `pr`: owner, formals, variables, result, instructions
unfoldable pub owner_at : List ℕ → ℕ → ℕ
owner_at s pr = byte_at s pr 2

unfoldable pub formals_at : List ℕ → ℕ → ℕ
formals_at s pr = byte_at s pr 3

unfoldable pub variables_field : List ℕ → ℕ → ℕ
variables_field s pr = byte_at s pr 4

unfoldable pub result_at : List ℕ → ℕ → ℕ
result_at s pr = byte_at s pr 5

unfoldable pub instructions_at : List ℕ → ℕ → ℕ
instructions_at s pr = word_at s pr 6

-- GN, after the PR at `pr`: base, least set
abbrev pub bound_at : ℕ → ℕ
bound_at pr = pr + pr_size

unfoldable pub bound_base_at : List ℕ → ℕ → ℕ
bound_base_at s pr = byte_at s (bound_at pr) 2

unfoldable pub least_at : List ℕ → ℕ → ℕ
least_at s pr = rights_at s (bound_at pr)

-- "A procedure but main may declare one": a GN is due exactly where its mark stands after the PR, at `pr`, of another procedure than 0
unfoldable pub is_bounded : List ℕ → (p pr : ℕ) → Bool
is_bounded s p pr = ltb 0 p && marked_at s (bound_at pr) gn_mark

-- the bytes of that GN, 0 where there is none
unfoldable pub bound_size : List ℕ → (p pr : ℕ) → ℕ
bound_size s p pr = cond (is_bounded s p pr) (gn_size (edition_in s)) 0

-- where the VRs of procedure p, whose PR stands at `pr`, start
unfoldable pub start_from : List ℕ → (p pr : ℕ) → ℕ
start_from s p pr = pr + pr_size + bound_size s p pr

-- VR x of a procedure whose VRs start at `start`: inner, need
unfoldable pub variable_at : (start x : ℕ) → ℕ
variable_at start x = start + vr_size * x

unfoldable pub inner_at : List ℕ → (start x : ℕ) → ℕ
inner_at s start x = byte_at s (variable_at start x) 2

unfoldable pub need_at : List ℕ → (start x : ℕ) → ℕ
need_at s start x = byte_at s (variable_at start x) 3

-- IN i of a procedure with v variables: code, a, b, c, k
unfoldable pub instruction_from : (start v i : ℕ) → ℕ
instruction_from start v i = variable_at start v + in_size * i

unfoldable pub code_at : List ℕ → ℕ → ℕ
code_at s at = byte_at s at 2

unfoldable pub k_at : List ℕ → ℕ → ℕ
k_at s at = word_at s at 6

-- procedure p: after the QTs, and after the INs of those before it
unfoldable pub procedure_at : List ℕ → ℕ → ℕ
procedure_at s zero = qual_at s (quals_of s)
procedure_at s (suc p) =
    instruction_from (start_from s p (procedure_at s p)) (variables_field s (procedure_at s p)) (instructions_at s (procedure_at s p))

-- where its VRs start, and where its IN i stands
unfoldable pub start_at : List ℕ → (p : ℕ) → ℕ
start_at s p = start_from s p (procedure_at s p)

unfoldable pub instruction_at : List ℕ → (p i : ℕ) → ℕ
instruction_at s p i = instruction_from (start_at s p) (variables_field s (procedure_at s p)) i
