-- Document 01, "Bytes of a worksheet" and "Instructions", and document 02, S-1 and S-5: the limits of each record's fields, as rules on plain numbers. 5 where one is
-- exceeded.
-- t, q and p are the header's counts of types, qualified types and procedures.
use Rattle.std.specs.Prelude.{ℕ, zero, suc, ◌+◌, List, [], ◌∷◌, ◌++◌, Bool, true, false, not, ◌&&◌, ◌||◌, cond, ltb, leb, eqb}
use Rattle.std.proofs.Math.Option.{Option, none, some}
use Rattle.model.specs.Rights.{within, has, none_above, open_right, array_rights}
use Rattle.model.specs.Refusal.{all}
use Rattle.sheet.specs.Instructions.{Operand, variable, variable_or_none, first_actual, unused, Constant, any_number, instruction_number, slot_number, procedure_number, no_number, Home, anywhere, owned, Line, line, line_of}
use Rattle.sheet.specs.declared.fields.Fields.{Fields}
use Rattle.limits.specs.declared.Limits.{Limits}

-- f holds of each number below n
abbrev pub all_below : ℕ → (ℕ → Bool) → Bool
all_below zero f = true
all_below (suc n) f = all_below n f && f n

-- where it is due a number below n, else 255
unfoldable pub below_or_none : ℕ → Bool → ℕ → Bool
below_or_none n due x = cond due (ltb x n) (eqb x 255)

-- HD: "types t 0..32, qualified types q 0..64, procedures p 1..64"
unfoldable pub header_scale : (t q p : ℕ) → Bool
header_scale t q p = all (leb t 32 ∷ leb q 64 ∷ leb 1 p ∷ leb p 64 ∷ [])

-- TY: "named rights n 0..15, slots s 0..8, eight slot bytes: a QT number below q for the first s, else 255"; S-5: "Edition 2 has n 0..31": `most` is the
-- edition's largest n
unfoldable pub type_scale : (most q n s : ℕ) → (slot : ℕ → ℕ) → Bool
type_scale most q n s slot = all (leb n most ∷ leb s 8 ∷ all_below 8 (λ k. below_or_none q (ltb k s) (slot k)) ∷ [])

-- QT: "Integer: rights 0. Tray: bits 1 fetch, 2 store, 3 size only. Declared type: bits 0..n"; `named` is that type's n
unfoldable pub rights_scale : (named base rights : ℕ) → Bool
rights_scale named base rights =
    cond (eqb base 0) (eqb rights 0) (cond (eqb base 1) (within rights array_rights) (none_above named rights))

-- QT number j: "base below t+2, rights, element byte. Element: for a tray, a QT number below its own; else 255."; S-1: "A QT of base 255, rights 0,
-- element 255 stands for ?R"
unfoldable pub qual_scale : (t named j base rights element : ℕ) → Bool
qual_scale t named j base rights element =
    cond (eqb base 255) (eqb rights 0 && eqb element 255)
    (all (ltb base (t + 2) ∷ rights_scale named base rights ∷ below_or_none j (eqb base 1) element ∷ []))

-- PR number i: "owner (0 none, or 2..t+1), formals f 0..8, variables v f..32, result (QT number or 255 none), instructions n 1..1000.
-- Procedure 0 is main: owner 0, f 0, result 255."
unfoldable pub procedure_scale : (t q i owner f v result n : ℕ) → Bool
procedure_scale t q i owner f v result n =
    all (
    (eqb owner 0 || (leb 2 owner && ltb owner (t + 2))) ∷
    leb f 8 ∷
    leb f v ∷
    leb v 32 ∷
    (eqb result 255 || ltb result q) ∷
    leb 1 n ∷
    leb n 1000 ∷
    (not (eqb i 0) || (eqb owner 0 && eqb f 0 && eqb result 255)) ∷
    [])

-- GN: "base (a declared type), least set (named rights)"; `named` is that type's n, and open is no named right
unfoldable pub bound_scale : (t named base least : ℕ) → Bool
bound_scale t named base least = all (leb 2 base ∷ ltb base (t + 2) ∷ none_above named least ∷ not (has open_right least) ∷ [])

-- VR number x of a procedure with f formals: "inner QT, need QT (255 unless a formal). Formals come first."
unfoldable pub variable_scale : (q f x inner need : ℕ) → Bool
variable_scale q f x inner need = all (ltb inner q ∷ below_or_none q (ltb x f) need ∷ [])

-- ---- IN, by the table of instructions. What waits for the procedure called is not limited here.
-- "a variable named is below v. Unused a, b, c are 255"
unfoldable pub operand_limits : (v : ℕ) → Operand → ℕ → List Bool
operand_limits v variable x = ltb x v ∷ []
operand_limits v variable_or_none x = (ltb x v || eqb x 255) ∷ []
operand_limits v first_actual x = []
operand_limits v unused x = eqb x 255 ∷ []

-- "(k<n)"; "14 and 15 need k below its slots"; "unused k is 0"
unfoldable pub constant_limits : (n slots : ℕ) → Constant → ℕ → List Bool
constant_limits n slots any_number k = []
constant_limits n slots instruction_number k = ltb k n ∷ []
constant_limits n slots slot_number k = ltb k slots ∷ []
constant_limits n slots procedure_number k = []
constant_limits n slots no_number k = eqb k 0 ∷ []

-- "Codes 13 to 15 need an owner"
unfoldable pub home_limits : (owner : ℕ) → Home → List Bool
home_limits owner anywhere = []
home_limits owner owned = leb 2 owner ∷ []

-- `limits` is what they depend on: the procedure's variables, instructions and owner, and that owner's slots
unfoldable pub line_limits : (limits : Limits) → Fields → Line → List Bool
line_limits l f (line code operation a b c k home) =
    operand_limits l.variables a f.a
    ++ (operand_limits l.variables b f.b
    ++ (operand_limits l.variables c f.c
    ++ (constant_limits l.instructions l.slots k f.k
    ++ home_limits l.owner home)))

-- "Codes are 1..17"
unfoldable pub line_scale : Limits → Fields → Option Line → Bool
line_scale l f none = false
line_scale l f (some found) = all (line_limits l f found)

-- IN number i: "The last IN of a procedure is a return."
unfoldable pub instruction_scale : Limits → Fields → (i : ℕ) → Bool
instruction_scale l f i = line_scale l f (line_of f.code) && (not (eqb (i + 1) l.instructions) || eqb f.code 17)

-- ---- a call of a procedure with f formals: "b (255 exactly if f is 0, else b to b+f−1 all below v)"
unfoldable pub actuals_scale : (f b v : ℕ) → Bool
actuals_scale f b v = cond (eqb f 0) (eqb b 255) (leb (b + f) v)
