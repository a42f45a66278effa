-- Well-formed sheets that check refuses, and on which the machines do what condition 3 excludes, so that its (a) and (c) are seen to exclude something.
-- "It is stuck where an integer is due and an object found, or the reverse; a tray is due and a record found, or the reverse; a record has no such slot;
-- or a kept result has no value." Bytes in decimal, one record a line; 255 is none or unused.
use Rattle.std.specs.Prelude.{ℕ, ◌≡◌, List, [], ◌∷◌}
use Rattle.model.specs.Outcome.{done, wrong_kind, missing_right}
use Rattle.model.specs.Modes.{plain, watched}
use Rattle.model.specs.Refusal.{Accepted, Refused, verdict}
use Rattle.model.specs.declared.Reason.{Reason}
use Rattle.model.specs.declared.Reason.TheVariants.{TypeMismatch, InsufficientRights, Unsettled, ShortSet}
use Rattle.model.specs.Run.{End, stopped, stuck_at, run}
use Rattle.sheet.specs.Meaning.{program_of}
use Rattle.form.specs.WellFormed.{form_tests}
use Rattle.checking.specs.Check.{check}

-- a sheet that watch runs and that check refuses for a reason at a place, and how each machine ends on it, in 20 words of memory, with nothing to read and
-- no word of output
pub record Parts (sheet : List ℕ) (reason : Reason) (place : ℕ) (by_plain by_watched : End) : Type 0 where
  pub well_formed : verdict (form_tests sheet) ≡ Accepted
  pub refused : check sheet ≡ Refused reason place
  pub on_plain : run plain (program_of sheet) 20 0 [] 100 ≡ by_plain
  pub on_watched : run watched (program_of sheet) 20 0 [] 100 ≡ by_watched

-- ---- an integer is due and an object found
unfoldable pub array_put : List ℕ
array_put =
    72 ∷ 68 ∷ 1 ∷ 0 ∷ 2 ∷ 1 ∷
    81 ∷ 84 ∷ 0 ∷ 0 ∷ 0 ∷ 255 ∷  -- QT 0: integer
    81 ∷ 84 ∷ 1 ∷ 0 ∷ 0 ∷ 0 ∷  -- QT 1: array[integer]{}
    80 ∷ 82 ∷ 0 ∷ 0 ∷ 2 ∷ 255 ∷ 4 ∷ 0 ∷
    86 ∷ 82 ∷ 0 ∷ 255 ∷  -- VR 0: count
    86 ∷ 82 ∷ 1 ∷ 255 ∷  -- VR 1: cells
    73 ∷ 78 ∷ 1 ∷ 0 ∷ 255 ∷ 255 ∷ 0 ∷ 0 ∷  -- IN 0: count := 0
    73 ∷ 78 ∷ 9 ∷ 1 ∷ 0 ∷ 255 ∷ 0 ∷ 0 ∷  -- IN 1: cells ← new array of size count
    73 ∷ 78 ∷ 8 ∷ 1 ∷ 255 ∷ 255 ∷ 0 ∷ 0 ∷  -- IN 2: put cells
    73 ∷ 78 ∷ 17 ∷ 255 ∷ 255 ∷ 255 ∷ 0 ∷ 0 ∷
    []

abbrev pub ArrayPut : Type 0
ArrayPut = Parts array_put TypeMismatch 50 (stuck_at 2 [] 0 2) (stopped wrong_kind 2 [] 0 2)

-- ---- "or the reverse"
unfoldable pub integer_sized : List ℕ
integer_sized =
    72 ∷ 68 ∷ 1 ∷ 0 ∷ 1 ∷ 1 ∷
    81 ∷ 84 ∷ 0 ∷ 0 ∷ 0 ∷ 255 ∷  -- QT 0: integer
    80 ∷ 82 ∷ 0 ∷ 0 ∷ 1 ∷ 255 ∷ 3 ∷ 0 ∷
    86 ∷ 82 ∷ 0 ∷ 255 ∷  -- VR 0: count
    73 ∷ 78 ∷ 1 ∷ 0 ∷ 255 ∷ 255 ∷ 0 ∷ 0 ∷  -- IN 0: count := 0
    73 ∷ 78 ∷ 12 ∷ 0 ∷ 0 ∷ 255 ∷ 0 ∷ 0 ∷  -- IN 1: count ← size of count
    73 ∷ 78 ∷ 17 ∷ 255 ∷ 255 ∷ 255 ∷ 0 ∷ 0 ∷
    []

abbrev pub IntegerSized : Type 0
IntegerSized = Parts integer_sized TypeMismatch 32 (stuck_at 1 [] 0 1) (stopped wrong_kind 1 [] 0 1)

-- ---- an array is due and a record found
unfoldable pub record_sized : List ℕ
record_sized =
    72 ∷ 68 ∷ 1 ∷ 1 ∷ 2 ∷ 2 ∷
    84 ∷ 89 ∷ 0 ∷ 0 ∷ 255 ∷ 255 ∷ 255 ∷ 255 ∷ 255 ∷ 255 ∷ 255 ∷ 255 ∷  -- TY type 2: no slot
    81 ∷ 84 ∷ 0 ∷ 0 ∷ 0 ∷ 255 ∷  -- QT 0: integer
    81 ∷ 84 ∷ 2 ∷ 0 ∷ 0 ∷ 255 ∷  -- QT 1: type 2{}
    80 ∷ 82 ∷ 0 ∷ 0 ∷ 2 ∷ 255 ∷ 3 ∷ 0 ∷
    86 ∷ 82 ∷ 1 ∷ 255 ∷  -- VR 0: made
    86 ∷ 82 ∷ 0 ∷ 255 ∷  -- VR 1: count
    73 ∷ 78 ∷ 16 ∷ 0 ∷ 255 ∷ 255 ∷ 1 ∷ 0 ∷  -- IN 0: made ← procedure 1 ()
    73 ∷ 78 ∷ 12 ∷ 1 ∷ 0 ∷ 255 ∷ 0 ∷ 0 ∷  -- IN 1: count ← size of made
    73 ∷ 78 ∷ 17 ∷ 255 ∷ 255 ∷ 255 ∷ 0 ∷ 0 ∷
    80 ∷ 82 ∷ 2 ∷ 0 ∷ 1 ∷ 1 ∷ 2 ∷ 0 ∷  -- procedure 1, of type 2: a new record
    86 ∷ 82 ∷ 1 ∷ 255 ∷
    73 ∷ 78 ∷ 13 ∷ 0 ∷ 255 ∷ 255 ∷ 0 ∷ 0 ∷
    73 ∷ 78 ∷ 17 ∷ 0 ∷ 255 ∷ 255 ∷ 0 ∷ 0 ∷
    []

abbrev pub RecordSized : Type 0
RecordSized = Parts record_sized TypeMismatch 54 (stuck_at 3 [] 0 1) (stopped wrong_kind 3 [] 0 1)

-- ---- "or the reverse"
unfoldable pub array_opened : List ℕ
array_opened =
    72 ∷ 68 ∷ 1 ∷ 1 ∷ 2 ∷ 2 ∷
    84 ∷ 89 ∷ 0 ∷ 1 ∷ 0 ∷ 255 ∷ 255 ∷ 255 ∷ 255 ∷ 255 ∷ 255 ∷ 255 ∷  -- TY type 2: one slot, an integer
    81 ∷ 84 ∷ 0 ∷ 0 ∷ 0 ∷ 255 ∷  -- QT 0: integer
    81 ∷ 84 ∷ 1 ∷ 0 ∷ 0 ∷ 0 ∷  -- QT 1: array[integer]{}
    80 ∷ 82 ∷ 0 ∷ 0 ∷ 0 ∷ 255 ∷ 2 ∷ 0 ∷
    73 ∷ 78 ∷ 16 ∷ 255 ∷ 255 ∷ 255 ∷ 1 ∷ 0 ∷  -- IN 0: procedure 1 ()
    73 ∷ 78 ∷ 17 ∷ 255 ∷ 255 ∷ 255 ∷ 0 ∷ 0 ∷
    80 ∷ 82 ∷ 2 ∷ 0 ∷ 2 ∷ 255 ∷ 4 ∷ 0 ∷  -- procedure 1, of type 2
    86 ∷ 82 ∷ 0 ∷ 255 ∷  -- VR 0: count
    86 ∷ 82 ∷ 1 ∷ 255 ∷  -- VR 1: cells
    73 ∷ 78 ∷ 1 ∷ 0 ∷ 255 ∷ 255 ∷ 0 ∷ 0 ∷  -- IN 0: count := 0
    73 ∷ 78 ∷ 9 ∷ 1 ∷ 0 ∷ 255 ∷ 0 ∷ 0 ∷  -- IN 1: cells ← new array of size count
    73 ∷ 78 ∷ 14 ∷ 0 ∷ 1 ∷ 255 ∷ 0 ∷ 0 ∷  -- IN 2: count ← slot 0 of cells
    73 ∷ 78 ∷ 17 ∷ 255 ∷ 255 ∷ 255 ∷ 0 ∷ 0 ∷
    []

abbrev pub ArrayOpened : Type 0
ArrayOpened = Parts array_opened TypeMismatch 86 (stuck_at 3 [] 1 2) (stopped wrong_kind 3 [] 1 2)

-- ---- a record has no such slot: one of type 2, which has none, in a procedure of type 3, which has one
unfoldable pub stranger_opened : List ℕ
stranger_opened =
    72 ∷ 68 ∷ 1 ∷ 2 ∷ 2 ∷ 3 ∷
    84 ∷ 89 ∷ 0 ∷ 0 ∷ 255 ∷ 255 ∷ 255 ∷ 255 ∷ 255 ∷ 255 ∷ 255 ∷ 255 ∷  -- TY type 2: no slot
    84 ∷ 89 ∷ 0 ∷ 1 ∷ 0 ∷ 255 ∷ 255 ∷ 255 ∷ 255 ∷ 255 ∷ 255 ∷ 255 ∷  -- TY type 3: one slot, an integer
    81 ∷ 84 ∷ 0 ∷ 0 ∷ 0 ∷ 255 ∷  -- QT 0: integer
    81 ∷ 84 ∷ 2 ∷ 0 ∷ 0 ∷ 255 ∷  -- QT 1: type 2{}
    80 ∷ 82 ∷ 0 ∷ 0 ∷ 1 ∷ 255 ∷ 3 ∷ 0 ∷
    86 ∷ 82 ∷ 1 ∷ 255 ∷  -- VR 0: made
    73 ∷ 78 ∷ 16 ∷ 0 ∷ 255 ∷ 255 ∷ 1 ∷ 0 ∷  -- IN 0: made ← procedure 1 ()
    73 ∷ 78 ∷ 16 ∷ 255 ∷ 0 ∷ 255 ∷ 2 ∷ 0 ∷  -- IN 1: procedure 2 (made)
    73 ∷ 78 ∷ 17 ∷ 255 ∷ 255 ∷ 255 ∷ 0 ∷ 0 ∷
    80 ∷ 82 ∷ 2 ∷ 0 ∷ 1 ∷ 1 ∷ 2 ∷ 0 ∷  -- procedure 1, of type 2: a new record
    86 ∷ 82 ∷ 1 ∷ 255 ∷
    73 ∷ 78 ∷ 13 ∷ 0 ∷ 255 ∷ 255 ∷ 0 ∷ 0 ∷
    73 ∷ 78 ∷ 17 ∷ 0 ∷ 255 ∷ 255 ∷ 0 ∷ 0 ∷
    80 ∷ 82 ∷ 3 ∷ 1 ∷ 2 ∷ 255 ∷ 2 ∷ 0 ∷  -- procedure 2, of type 3
    86 ∷ 82 ∷ 1 ∷ 1 ∷  -- VR 0: stranger
    86 ∷ 82 ∷ 0 ∷ 255 ∷  -- VR 1: count
    73 ∷ 78 ∷ 14 ∷ 1 ∷ 0 ∷ 255 ∷ 0 ∷ 0 ∷  -- IN 0: count ← slot 0 of stranger
    73 ∷ 78 ∷ 17 ∷ 255 ∷ 255 ∷ 255 ∷ 0 ∷ 0 ∷
    []

abbrev pub StrangerOpened : Type 0
StrangerOpened = Parts stranger_opened TypeMismatch 122 (stuck_at 4 [] 2 0) (stopped wrong_kind 4 [] 2 0)

-- ---- a kept result has no value: the watched machine stops at the call, the plain one is stuck at the return
unfoldable pub nothing_kept : List ℕ
nothing_kept =
    72 ∷ 68 ∷ 1 ∷ 0 ∷ 1 ∷ 2 ∷
    81 ∷ 84 ∷ 0 ∷ 0 ∷ 0 ∷ 255 ∷  -- QT 0: integer
    80 ∷ 82 ∷ 0 ∷ 0 ∷ 1 ∷ 255 ∷ 2 ∷ 0 ∷
    86 ∷ 82 ∷ 0 ∷ 255 ∷  -- VR 0: count
    73 ∷ 78 ∷ 16 ∷ 0 ∷ 255 ∷ 255 ∷ 1 ∷ 0 ∷  -- IN 0: count ← procedure 1 ()
    73 ∷ 78 ∷ 17 ∷ 255 ∷ 255 ∷ 255 ∷ 0 ∷ 0 ∷
    80 ∷ 82 ∷ 0 ∷ 0 ∷ 0 ∷ 255 ∷ 1 ∷ 0 ∷  -- procedure 1: no result
    73 ∷ 78 ∷ 17 ∷ 255 ∷ 255 ∷ 255 ∷ 0 ∷ 0 ∷
    []

abbrev pub NothingKept : Type 0
NothingKept = Parts nothing_kept TypeMismatch 24 (stuck_at 1 [] 1 0) (stopped wrong_kind 0 [] 0 0)

-- ---- a right is lacking: the watched machine stops with 19, the plain one tests no right and is done
unfoldable pub stored_unlicensed : List ℕ
stored_unlicensed =
    72 ∷ 68 ∷ 1 ∷ 0 ∷ 2 ∷ 1 ∷
    81 ∷ 84 ∷ 0 ∷ 0 ∷ 0 ∷ 255 ∷  -- QT 0: integer
    81 ∷ 84 ∷ 1 ∷ 0 ∷ 0 ∷ 0 ∷  -- QT 1: array[integer]{}
    80 ∷ 82 ∷ 0 ∷ 0 ∷ 2 ∷ 255 ∷ 5 ∷ 0 ∷
    86 ∷ 82 ∷ 0 ∷ 255 ∷  -- VR 0: count
    86 ∷ 82 ∷ 1 ∷ 255 ∷  -- VR 1: cells
    73 ∷ 78 ∷ 1 ∷ 0 ∷ 255 ∷ 255 ∷ 1 ∷ 0 ∷  -- IN 0: count := 1
    73 ∷ 78 ∷ 9 ∷ 1 ∷ 0 ∷ 255 ∷ 0 ∷ 0 ∷  -- IN 1: cells ← new array of size count
    73 ∷ 78 ∷ 1 ∷ 0 ∷ 255 ∷ 255 ∷ 0 ∷ 0 ∷  -- IN 2: count := 0
    73 ∷ 78 ∷ 11 ∷ 1 ∷ 0 ∷ 0 ∷ 0 ∷ 0 ∷  -- IN 3: cells[count] ← count
    73 ∷ 78 ∷ 17 ∷ 255 ∷ 255 ∷ 255 ∷ 0 ∷ 0 ∷
    []

abbrev pub StoredUnlicensed : Type 0
StoredUnlicensed = Parts stored_unlicensed InsufficientRights 58 (stopped done 5 [] 0 4) (stopped missing_right 3 [] 0 3)

-- ---- document 02, S-1: two actuals settle ?R differently; "watch stops there with 18", while the plain machine reads no type and is done
unfoldable pub two_settlings : List ℕ
two_settlings =
    72 ∷ 68 ∷ 1 ∷ 1 ∷ 7 ∷ 2 ∷  -- HD
    84 ∷ 89 ∷ 2 ∷ 0 ∷ 255 ∷ 255 ∷ 255 ∷ 255 ∷ 255 ∷ 255 ∷ 255 ∷ 255 ∷  -- TY type 2, call: right 1 read, right 2 amend
    81 ∷ 84 ∷ 0 ∷ 0 ∷ 0 ∷ 255 ∷  -- QT 0: integer
    81 ∷ 84 ∷ 2 ∷ 2 ∷ 0 ∷ 255 ∷  -- QT 1: call{read}
    81 ∷ 84 ∷ 2 ∷ 6 ∷ 0 ∷ 255 ∷  -- QT 2: call{read,amend}
    81 ∷ 84 ∷ 255 ∷ 0 ∷ 0 ∷ 255 ∷  -- QT 3: ?R
    81 ∷ 84 ∷ 1 ∷ 0 ∷ 0 ∷ 3 ∷  -- QT 4: array[?R]{}
    81 ∷ 84 ∷ 1 ∷ 0 ∷ 0 ∷ 1 ∷  -- QT 5: array[call{read}]{}
    81 ∷ 84 ∷ 1 ∷ 0 ∷ 0 ∷ 2 ∷  -- QT 6: array[call{read,amend}]{}
    80 ∷ 82 ∷ 0 ∷ 0 ∷ 3 ∷ 255 ∷ 5 ∷ 0 ∷  -- procedure 0, main
    86 ∷ 82 ∷ 0 ∷ 255 ∷  -- VR 0: count
    86 ∷ 82 ∷ 5 ∷ 255 ∷  -- VR 1: calls
    86 ∷ 82 ∷ 6 ∷ 255 ∷  -- VR 2: drafts
    73 ∷ 78 ∷ 1 ∷ 0 ∷ 255 ∷ 255 ∷ 0 ∷ 0 ∷  -- IN 0: count := 0
    73 ∷ 78 ∷ 9 ∷ 1 ∷ 0 ∷ 255 ∷ 0 ∷ 0 ∷  -- IN 1: calls ← new array of size count
    73 ∷ 78 ∷ 9 ∷ 2 ∷ 0 ∷ 255 ∷ 0 ∷ 0 ∷  -- IN 2: drafts ← new array of size count
    73 ∷ 78 ∷ 16 ∷ 255 ∷ 1 ∷ 255 ∷ 1 ∷ 0 ∷  -- IN 3: procedure 1 (calls, drafts)
    73 ∷ 78 ∷ 17 ∷ 255 ∷ 255 ∷ 255 ∷ 0 ∷ 0 ∷  -- IN 4: return
    80 ∷ 82 ∷ 0 ∷ 2 ∷ 2 ∷ 255 ∷ 1 ∷ 0 ∷  -- procedure 1, for ?R ≥ call{}
    71 ∷ 78 ∷ 2 ∷ 0 ∷ 0 ∷  -- GN base call, no least right
    86 ∷ 82 ∷ 4 ∷ 4 ∷  -- VR 0
    86 ∷ 82 ∷ 4 ∷ 4 ∷  -- VR 1
    73 ∷ 78 ∷ 17 ∷ 255 ∷ 255 ∷ 255 ∷ 0 ∷ 0 ∷  -- IN 0: return
    []

abbrev pub TwoSettlings : Type 0
TwoSettlings = Parts two_settlings Unsettled 104 (stopped done 6 [] 0 4) (stopped wrong_kind 3 [] 0 3)

-- ---- S-1: the settled set lacks a least right; "with 19"
unfoldable pub short_settling : List ℕ
short_settling =
    72 ∷ 68 ∷ 1 ∷ 1 ∷ 7 ∷ 2 ∷  -- HD
    84 ∷ 89 ∷ 2 ∷ 0 ∷ 255 ∷ 255 ∷ 255 ∷ 255 ∷ 255 ∷ 255 ∷ 255 ∷ 255 ∷  -- TY type 2, call: right 1 read, right 2 amend
    81 ∷ 84 ∷ 0 ∷ 0 ∷ 0 ∷ 255 ∷  -- QT 0: integer
    81 ∷ 84 ∷ 2 ∷ 2 ∷ 0 ∷ 255 ∷  -- QT 1: call{read}
    81 ∷ 84 ∷ 2 ∷ 6 ∷ 0 ∷ 255 ∷  -- QT 2: call{read,amend}
    81 ∷ 84 ∷ 255 ∷ 0 ∷ 0 ∷ 255 ∷  -- QT 3: ?R
    81 ∷ 84 ∷ 1 ∷ 0 ∷ 0 ∷ 3 ∷  -- QT 4: array[?R]{}
    81 ∷ 84 ∷ 1 ∷ 0 ∷ 0 ∷ 1 ∷  -- QT 5: array[call{read}]{}
    81 ∷ 84 ∷ 1 ∷ 0 ∷ 0 ∷ 2 ∷  -- QT 6: array[call{read,amend}]{}
    80 ∷ 82 ∷ 0 ∷ 0 ∷ 2 ∷ 255 ∷ 4 ∷ 0 ∷  -- procedure 0, main
    86 ∷ 82 ∷ 0 ∷ 255 ∷  -- VR 0: count
    86 ∷ 82 ∷ 5 ∷ 255 ∷  -- VR 1: calls
    73 ∷ 78 ∷ 1 ∷ 0 ∷ 255 ∷ 255 ∷ 0 ∷ 0 ∷  -- IN 0: count := 0
    73 ∷ 78 ∷ 9 ∷ 1 ∷ 0 ∷ 255 ∷ 0 ∷ 0 ∷  -- IN 1: calls ← new array of size count
    73 ∷ 78 ∷ 16 ∷ 255 ∷ 1 ∷ 255 ∷ 1 ∷ 0 ∷  -- IN 2: procedure 1 (calls)
    73 ∷ 78 ∷ 17 ∷ 255 ∷ 255 ∷ 255 ∷ 0 ∷ 0 ∷  -- IN 3: return
    80 ∷ 82 ∷ 0 ∷ 1 ∷ 1 ∷ 255 ∷ 1 ∷ 0 ∷  -- procedure 1, for ?R ≥ call{read,amend}
    71 ∷ 78 ∷ 2 ∷ 6 ∷ 0 ∷  -- GN base call, least set read and amend
    86 ∷ 82 ∷ 4 ∷ 4 ∷  -- VR 0
    73 ∷ 78 ∷ 17 ∷ 255 ∷ 255 ∷ 255 ∷ 0 ∷ 0 ∷  -- IN 0: return
    []

abbrev pub ShortSettling : Type 0
ShortSettling = Parts short_settling ShortSet 92 (stopped done 5 [] 0 3) (stopped missing_right 2 [] 0 2)

-- ---- S-3: the reader of Accepted.antt with store, which is the incident: the plain machine would go on
unfoldable pub storing_reader : List ℕ
storing_reader =
    72 ∷ 68 ∷ 1 ∷ 1 ∷ 5 ∷ 3 ∷  -- HD one type, five qualified types, three procedures
    84 ∷ 89 ∷ 2 ∷ 0 ∷ 255 ∷ 255 ∷ 255 ∷ 255 ∷ 255 ∷ 255 ∷ 255 ∷ 255 ∷  -- TY type 2, call: right 1 read, right 2 amend
    81 ∷ 84 ∷ 0 ∷ 0 ∷ 0 ∷ 255 ∷  -- QT 0: integer
    81 ∷ 84 ∷ 2 ∷ 2 ∷ 0 ∷ 255 ∷  -- QT 1: call{read}
    81 ∷ 84 ∷ 2 ∷ 6 ∷ 0 ∷ 255 ∷  -- QT 2: call{read,amend}
    81 ∷ 84 ∷ 1 ∷ 6 ∷ 0 ∷ 2 ∷  -- QT 3: array[call{read,amend}]{fetch,store}
    81 ∷ 84 ∷ 1 ∷ 6 ∷ 0 ∷ 1 ∷  -- QT 4: array[call{read}]{fetch,store}
    80 ∷ 82 ∷ 0 ∷ 0 ∷ 4 ∷ 255 ∷ 8 ∷ 0 ∷  -- procedure 0, main
    86 ∷ 82 ∷ 0 ∷ 255 ∷  -- VR 0: n
    86 ∷ 82 ∷ 3 ∷ 255 ∷  -- VR 1: drafts
    86 ∷ 82 ∷ 2 ∷ 255 ∷  -- VR 2: draft
    86 ∷ 82 ∷ 1 ∷ 255 ∷  -- VR 3: seen
    73 ∷ 78 ∷ 1 ∷ 0 ∷ 255 ∷ 255 ∷ 1 ∷ 0 ∷  -- IN 0: n := 1
    73 ∷ 78 ∷ 9 ∷ 1 ∷ 0 ∷ 255 ∷ 0 ∷ 0 ∷  -- IN 1: drafts ← new array of size n
    73 ∷ 78 ∷ 16 ∷ 2 ∷ 255 ∷ 255 ∷ 1 ∷ 0 ∷  -- IN 2: draft ← procedure 1 ()
    73 ∷ 78 ∷ 1 ∷ 0 ∷ 255 ∷ 255 ∷ 0 ∷ 0 ∷  -- IN 3: n := 0
    73 ∷ 78 ∷ 11 ∷ 1 ∷ 0 ∷ 2 ∷ 0 ∷ 0 ∷  -- IN 4: drafts[n] ← draft
    73 ∷ 78 ∷ 16 ∷ 3 ∷ 1 ∷ 255 ∷ 2 ∷ 0 ∷  -- IN 5: seen ← procedure 2 (drafts)
    73 ∷ 78 ∷ 10 ∷ 2 ∷ 1 ∷ 0 ∷ 0 ∷ 0 ∷  -- IN 6: draft ← drafts[n]
    73 ∷ 78 ∷ 17 ∷ 255 ∷ 255 ∷ 255 ∷ 0 ∷ 0 ∷  -- IN 7: return
    80 ∷ 82 ∷ 2 ∷ 0 ∷ 1 ∷ 2 ∷ 2 ∷ 0 ∷  -- procedure 1, of the type call: a new call, under read and amend
    86 ∷ 82 ∷ 2 ∷ 255 ∷  -- VR 0: made
    73 ∷ 78 ∷ 13 ∷ 0 ∷ 255 ∷ 255 ∷ 0 ∷ 0 ∷  -- IN 0: made ← new call
    73 ∷ 78 ∷ 17 ∷ 0 ∷ 255 ∷ 255 ∷ 0 ∷ 0 ∷  -- IN 1: return made
    80 ∷ 82 ∷ 0 ∷ 1 ∷ 3 ∷ 1 ∷ 3 ∷ 0 ∷  -- procedure 2: the first of the results, under read
    86 ∷ 82 ∷ 4 ∷ 4 ∷  -- VR 0: results
    86 ∷ 82 ∷ 0 ∷ 255 ∷  -- VR 1: first
    86 ∷ 82 ∷ 1 ∷ 255 ∷  -- VR 2: item
    73 ∷ 78 ∷ 1 ∷ 1 ∷ 255 ∷ 255 ∷ 0 ∷ 0 ∷  -- IN 0: first := 0
    73 ∷ 78 ∷ 10 ∷ 2 ∷ 0 ∷ 1 ∷ 0 ∷ 0 ∷  -- IN 1: item ← results[first]
    73 ∷ 78 ∷ 17 ∷ 2 ∷ 255 ∷ 255 ∷ 0 ∷ 0 ∷  -- IN 2: return item
    []

abbrev pub StoringReader : Type 0
StoringReader = Parts storing_reader TypeMismatch 112 (stopped done 13 [] 0 7) (stopped wrong_kind 7 [] 0 5)
