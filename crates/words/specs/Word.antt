-- A 64-bit word of the memory (document 01: bench): a cell, the head of an object, or one of the two words between a frame and the one that waits for it.
-- The first of these has the set of the frame above it (S-1), which the plain machine writes as 0 and never reads; the second is the word of the waiting
-- frame's procedure, which the index of a sheet has ready.
--
--   bits 32..34, the tag   bits 0..31, the low half              bits 35..63, the payload
--   1  an integer          its number                            0
--   2  an object           the rights carried with it            its name
--   3  an array's head     the set that ?R of its element has    35..50 size, 51..58 element, 59..63 the base that it has, less 2
--   4  a record's head     0                                     35..50 size, 51..58 type, 59..63 0
--   5  where to go back    the set of the frame above            35..42 the variable that its call keeps (255 none), 43..48 0,
--                                                                49..63 its next instruction
--   6  a procedure         where its instructions start          35..42 its count of variables, 43..48 its number, 49..56 its count of formals,
--                                                                57..59 the bytes of its GN (0 none), 60..63 0 today: S-13, which sheet
--
-- The word 0 is a blank cell, and nothing else is. Any other tag is read as 6, which alone is written.
use Rattle.std.specs.Prelude.{ℕ, ◌+◌, ◌*◌, ◌/◌, ◌%◌, ◌^◌, ◌≡◌, Bool, not, ◌||◌, cond, eqb}
use Rattle.model.specs.Qualified.{Qual, declared}
use Rattle.model.specs.Generic.{read}
use Rattle.model.specs.Modes.{Mode, SettledSet, settled_set, carried, element_info, type_info}
use Rattle.model.specs.Machine.{word, object, Cell, empty, filled, Head, array_head, record_head, no_head}

unfoldable pub low : ℕ → ℕ
low w = w % 2 ^ 32

unfoldable pub tag : ℕ → ℕ
tag w = w / 2 ^ 32 % 8

unfoldable pub payload : ℕ → ℕ
payload w = w / 2 ^ 35

-- a word's parts put together
unfoldable pub pack : (tag payload low : ℕ) → ℕ
pack t p l = (p * 8 + t) * 2 ^ 32 + l

abbrev pub size_of : ℕ → ℕ
size_of w = payload w % 2 ^ 16

abbrev pub info_of : ℕ → ℕ
info_of w = payload w / 2 ^ 16 % 2 ^ 8

abbrev pub settled_base : ℕ → ℕ
settled_base w = 2 + payload w / 2 ^ 24 % 2 ^ 5

abbrev pub back_kept : ℕ → ℕ
back_kept w = payload w % 2 ^ 8

abbrev pub back_next : ℕ → ℕ
back_next w = payload w / 2 ^ 14

abbrev pub variables_of : ℕ → ℕ
variables_of w = payload w % 2 ^ 8

abbrev pub number_of : ℕ → ℕ
number_of w = payload w / 2 ^ 8 % 2 ^ 6

abbrev pub formals_of : ℕ → ℕ
formals_of w = payload w / 2 ^ 14 % 2 ^ 8

abbrev pub bound_of : ℕ → ℕ
bound_of w = payload w / 2 ^ 22 % 2 ^ 3

abbrev pub first_of : ℕ → ℕ
first_of w = low w

-- the word of a procedure
abbrev pub procedure_word : (number variables formals bound first : ℕ) → ℕ
procedure_word p v f g i = pack 6 (((g * 2 ^ 8 + f) * 2 ^ 6 + p) * 2 ^ 8 + v) i

-- one word of the memory; `qual` gives the type of an element's number
pub data Slot (m : Mode) : Type 0 where
  cell : Cell m → Slot m
  head : Head m → Slot m
  back : (next kept : ℕ) → SettledSet m → Slot m
  procedure : (number variables first bound : ℕ) → Slot m

unfoldable pub slot_in : (m : Mode) → (qual : ℕ → Qual) → ℕ → Slot m
slot_in m qual w =
    cond (eqb w 0) (cell empty)
    (cond (eqb (tag w) 1) (cell (filled (word (low w)) (carried m 0)))
    (cond (eqb (tag w) 2) (cell (filled (object (payload w)) (carried m (low w))))
    (cond (eqb (tag w) 3) (head (array_head (element_info m (read (declared (settled_base w) (low w)) (qual (info_of w)))) (size_of w)))
    (cond (eqb (tag w) 4) (head (record_head (type_info m (info_of w)) (size_of w)))
    (cond (eqb (tag w) 5) (back (back_next w) (back_kept w) (settled_set m (low w)))
    (procedure (number_of w) (variables_of w) (first_of w) (bound_of w)))))))

-- a word that is a procedure's, in both machines
abbrev pub IsProcedure : ℕ → Type 0
IsProcedure w = (m : Mode) (qual : ℕ → Qual) → slot_in m qual w ≡ procedure (number_of w) (variables_of w) (first_of w) (bound_of w)

-- the same of the word alone: it is no other's. That has one proof at most, as a ghost field's fact must
abbrev pub no_other : ℕ → Bool
no_other w = not (eqb w 0 || eqb (tag w) 1 || eqb (tag w) 2 || eqb (tag w) 3 || eqb (tag w) 4 || eqb (tag w) 5)

-- a slot read as a cell, as a head
abbrev pub as_cell : {m : Mode} → Slot m → Cell m
as_cell (cell c) = c
as_cell (head h) = empty
as_cell (back i a z) = empty
as_cell (procedure p v f g) = empty

abbrev pub as_head : {m : Mode} → Slot m → Head m
as_head (cell c) = no_head
as_head (head h) = h
as_head (back i a z) = no_head
as_head (procedure p v f g) = no_head
