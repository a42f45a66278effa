-- Accepted sheets, to which condition 3 applies, and how they run, so that what it supposes is seen to be met. The first two use all seventeen codes.
-- Bytes in decimal, one record a line; 255 is none or unused.
use Rattle.model.specs.Refusal.{Accepted}
use Rattle.std.specs.Prelude.{ℕ, ◌≡◌, List, [], ◌∷◌}
use Rattle.model.specs.Qualified.{declared}
use Rattle.model.specs.Outcome.{done, past_end}
use Rattle.model.specs.Modes.{plain, watched}
use Rattle.model.specs.Machine.{word, object, empty, filled, array_of, record_of, frame}
use Rattle.model.specs.Run.{End, stopped, Snapshot, snapshot, run, state_after}
use Rattle.sheet.specs.Meaning.{program_of}
use Rattle.checking.specs.Check.{check}

-- check accepts a sheet, and with so many words of memory and of output, this input and this fuel, both machines end so
pub record Runs (sheet : List ℕ) (memory output : ℕ) (input : List ℕ) (fuel : ℕ) (end : End) : Type 0 where
  pub accepted : check sheet ≡ Accepted
  pub by_plain : run plain (program_of sheet) memory output input fuel ≡ end
  pub by_watched : run watched (program_of sheet) memory output input fuel ≡ end

-- ---- Counts down from the number taken, keeps the count in a record, and reports it. Main holds the record without open;
-- the procedures of its module have open on what main hands them (amplification).
unfoldable pub counter : List ℕ
counter =
    72 ∷ 68 ∷ 1 ∷ 1 ∷ 3 ∷ 4 ∷  -- HD edition 1, one type, three qualified types, four procedures
    84 ∷ 89 ∷ 2 ∷ 1 ∷ 0 ∷ 255 ∷ 255 ∷ 255 ∷ 255 ∷ 255 ∷ 255 ∷ 255 ∷  -- TY type 2, counter: right 1 use, right 2 own, one slot, an integer
    81 ∷ 84 ∷ 0 ∷ 0 ∷ 0 ∷ 255 ∷  -- QT 0: integer
    81 ∷ 84 ∷ 2 ∷ 2 ∷ 0 ∷ 255 ∷  -- QT 1: counter{use}
    81 ∷ 84 ∷ 2 ∷ 7 ∷ 0 ∷ 255 ∷  -- QT 2: counter{open,use,own}
    -- procedure 0, main
    80 ∷ 82 ∷ 0 ∷ 0 ∷ 7 ∷ 255 ∷ 12 ∷ 0 ∷  -- PR no owner, no formals, seven variables, no result, twelve instructions
    86 ∷ 82 ∷ 0 ∷ 255 ∷  -- VR 0: count
    86 ∷ 82 ∷ 1 ∷ 255 ∷  -- VR 1: counter
    86 ∷ 82 ∷ 0 ∷ 255 ∷  -- VR 2: one
    86 ∷ 82 ∷ 1 ∷ 255 ∷  -- VR 3: counter again
    86 ∷ 82 ∷ 0 ∷ 255 ∷  -- VR 4: count again
    86 ∷ 82 ∷ 0 ∷ 255 ∷  -- VR 5: shown
    86 ∷ 82 ∷ 0 ∷ 255 ∷  -- VR 6: last
    73 ∷ 78 ∷ 7 ∷ 0 ∷ 255 ∷ 255 ∷ 0 ∷ 0 ∷  -- IN 0: take count
    73 ∷ 78 ∷ 16 ∷ 1 ∷ 255 ∷ 255 ∷ 1 ∷ 0 ∷  -- IN 1: counter ← procedure 1 ()
    73 ∷ 78 ∷ 1 ∷ 2 ∷ 255 ∷ 255 ∷ 1 ∷ 0 ∷  -- IN 2: one := 1
    73 ∷ 78 ∷ 6 ∷ 3 ∷ 1 ∷ 255 ∷ 0 ∷ 0 ∷  -- IN 3: counter again ← counter
    73 ∷ 78 ∷ 6 ∷ 4 ∷ 0 ∷ 255 ∷ 0 ∷ 0 ∷  -- IN 4: count again ← count
    73 ∷ 78 ∷ 16 ∷ 255 ∷ 3 ∷ 255 ∷ 2 ∷ 0 ∷  -- IN 5: procedure 2 (counter again, count again)
    73 ∷ 78 ∷ 16 ∷ 5 ∷ 1 ∷ 255 ∷ 3 ∷ 0 ∷  -- IN 6: shown ← procedure 3 (counter)
    73 ∷ 78 ∷ 8 ∷ 5 ∷ 255 ∷ 255 ∷ 0 ∷ 0 ∷  -- IN 7: put shown
    73 ∷ 78 ∷ 3 ∷ 0 ∷ 0 ∷ 2 ∷ 0 ∷ 0 ∷  -- IN 8: count := count − one
    73 ∷ 78 ∷ 4 ∷ 6 ∷ 0 ∷ 2 ∷ 0 ∷ 0 ∷  -- IN 9: last := count < one
    73 ∷ 78 ∷ 5 ∷ 6 ∷ 255 ∷ 255 ∷ 3 ∷ 0 ∷  -- IN 10: if not, go to 3
    73 ∷ 78 ∷ 17 ∷ 255 ∷ 255 ∷ 255 ∷ 0 ∷ 0 ∷  -- IN 11: return
    -- procedure 1, of the type counter: a new counter
    80 ∷ 82 ∷ 2 ∷ 0 ∷ 1 ∷ 1 ∷ 2 ∷ 0 ∷  -- PR owner counter, no formals, one variable, result counter{use}, two instructions
    86 ∷ 82 ∷ 2 ∷ 255 ∷  -- VR 0: made, a counter{open,use,own}
    73 ∷ 78 ∷ 13 ∷ 0 ∷ 255 ∷ 255 ∷ 0 ∷ 0 ∷  -- IN 0: made ← new counter
    73 ∷ 78 ∷ 17 ∷ 0 ∷ 255 ∷ 255 ∷ 0 ∷ 0 ∷  -- IN 1: return made, less open and own
    -- procedure 2, of the type counter: sets a counter
    80 ∷ 82 ∷ 2 ∷ 2 ∷ 2 ∷ 255 ∷ 2 ∷ 0 ∷  -- PR owner counter, two formals, two variables, no result, two instructions
    86 ∷ 82 ∷ 2 ∷ 1 ∷  -- VR 0: counter: needs counter{use}, is counter{open,use,own} inside
    86 ∷ 82 ∷ 0 ∷ 0 ∷  -- VR 1: count
    73 ∷ 78 ∷ 15 ∷ 0 ∷ 1 ∷ 255 ∷ 0 ∷ 0 ∷  -- IN 0: slot 0 of counter ← count
    73 ∷ 78 ∷ 17 ∷ 255 ∷ 255 ∷ 255 ∷ 0 ∷ 0 ∷  -- IN 1: return
    -- procedure 3, of the type counter: the count of a counter
    80 ∷ 82 ∷ 2 ∷ 1 ∷ 2 ∷ 0 ∷ 2 ∷ 0 ∷  -- PR owner counter, one formal, two variables, result integer, two instructions
    86 ∷ 82 ∷ 2 ∷ 1 ∷  -- VR 0: counter: needs counter{use}, is counter{open,use,own} inside
    86 ∷ 82 ∷ 0 ∷ 255 ∷  -- VR 1: count
    73 ∷ 78 ∷ 14 ∷ 1 ∷ 0 ∷ 255 ∷ 0 ∷ 0 ∷  -- IN 0: count ← slot 0 of counter
    73 ∷ 78 ∷ 17 ∷ 1 ∷ 255 ∷ 255 ∷ 0 ∷ 0 ∷  -- IN 1: return count
    []

-- with 3 to take: done after 42 steps, 3, 2 and 1 put, at main's return
abbrev pub CounterRuns : Type 0
CounterRuns = Runs counter 40 4 (3 ∷ []) 1000 (stopped done 42 (3 ∷ 2 ∷ 1 ∷ []) 0 11)

-- after 8 steps procedure 2 has just been called: its formal holds the record with all rights (7), main's two variables hold it with use alone (2)
unfoldable pub amplified : Snapshot watched
amplified =
    snapshot (
    frame 2 0 0 (filled (object 0) 7 ∷ filled (word 3) 0 ∷ []) ∷
    frame 0 6 0 (filled (word 3) 0 ∷ filled (object 0) 2 ∷ filled (word 1) 0 ∷ filled (object 0) 2 ∷ filled (word 3) 0 ∷ empty ∷ empty ∷ []) ∷
    [])
    (record_of 2 (empty ∷ []) ∷ [])

abbrev pub CounterRaised : Type 0
CounterRaised = state_after watched (program_of counter) 40 4 (3 ∷ []) 1000 8 ≡ amplified

-- ---- Takes a number of calls and the time of each, sorts the calls by time, and reports the times (samples/sorter.ws). Only the module of the
-- type call opens a call; main and the sorting procedure have the right to read, and no other.
unfoldable pub sorter : List ℕ
sorter =
    72 ∷ 68 ∷ 1 ∷ 1 ∷ 4 ∷ 4 ∷  -- HD one type, four qualified types, four procedures
    84 ∷ 89 ∷ 2 ∷ 1 ∷ 0 ∷ 255 ∷ 255 ∷ 255 ∷ 255 ∷ 255 ∷ 255 ∷ 255 ∷  -- TY type 2, call: right 1 read, right 2 amend, one slot, an integer
    81 ∷ 84 ∷ 0 ∷ 0 ∷ 0 ∷ 255 ∷  -- QT 0: integer
    81 ∷ 84 ∷ 2 ∷ 2 ∷ 0 ∷ 255 ∷  -- QT 1: call{read}
    81 ∷ 84 ∷ 2 ∷ 3 ∷ 0 ∷ 255 ∷  -- QT 2: call{open,read}
    81 ∷ 84 ∷ 1 ∷ 14 ∷ 0 ∷ 1 ∷  -- QT 3: array[call{read}]{fetch,store,size}
    -- procedure 0, main
    80 ∷ 82 ∷ 0 ∷ 0 ∷ 7 ∷ 255 ∷ 23 ∷ 0 ∷  -- PR seven variables, 23 instructions
    86 ∷ 82 ∷ 0 ∷ 255 ∷  -- VR 0: count
    86 ∷ 82 ∷ 0 ∷ 255 ∷  -- VR 1: i
    86 ∷ 82 ∷ 0 ∷ 255 ∷  -- VR 2: one
    86 ∷ 82 ∷ 0 ∷ 255 ∷  -- VR 3: time
    86 ∷ 82 ∷ 1 ∷ 255 ∷  -- VR 4: call
    86 ∷ 82 ∷ 3 ∷ 255 ∷  -- VR 5: calls
    86 ∷ 82 ∷ 0 ∷ 255 ∷  -- VR 6: test
    73 ∷ 78 ∷ 7 ∷ 0 ∷ 255 ∷ 255 ∷ 0 ∷ 0 ∷  -- IN 0: take count
    73 ∷ 78 ∷ 9 ∷ 5 ∷ 0 ∷ 255 ∷ 0 ∷ 0 ∷  -- IN 1: calls ← new array of size count
    73 ∷ 78 ∷ 1 ∷ 2 ∷ 255 ∷ 255 ∷ 1 ∷ 0 ∷  -- IN 2: one := 1
    73 ∷ 78 ∷ 1 ∷ 1 ∷ 255 ∷ 255 ∷ 0 ∷ 0 ∷  -- IN 3: i := 0
    73 ∷ 78 ∷ 4 ∷ 6 ∷ 1 ∷ 0 ∷ 0 ∷ 0 ∷  -- IN 4: test := i < count
    73 ∷ 78 ∷ 5 ∷ 6 ∷ 255 ∷ 255 ∷ 12 ∷ 0 ∷  -- IN 5: if not, go to 12
    73 ∷ 78 ∷ 7 ∷ 3 ∷ 255 ∷ 255 ∷ 0 ∷ 0 ∷  -- IN 6: take time
    73 ∷ 78 ∷ 16 ∷ 4 ∷ 3 ∷ 255 ∷ 1 ∷ 0 ∷  -- IN 7: call ← procedure 1 (time)
    73 ∷ 78 ∷ 11 ∷ 5 ∷ 1 ∷ 4 ∷ 0 ∷ 0 ∷  -- IN 8: calls[i] ← call
    73 ∷ 78 ∷ 2 ∷ 1 ∷ 1 ∷ 2 ∷ 0 ∷ 0 ∷  -- IN 9: i := i + one
    73 ∷ 78 ∷ 1 ∷ 6 ∷ 255 ∷ 255 ∷ 0 ∷ 0 ∷  -- IN 10: test := 0
    73 ∷ 78 ∷ 5 ∷ 6 ∷ 255 ∷ 255 ∷ 4 ∷ 0 ∷  -- IN 11: go to 4
    73 ∷ 78 ∷ 16 ∷ 255 ∷ 5 ∷ 255 ∷ 3 ∷ 0 ∷  -- IN 12: procedure 3 (calls)
    73 ∷ 78 ∷ 1 ∷ 1 ∷ 255 ∷ 255 ∷ 0 ∷ 0 ∷  -- IN 13: i := 0
    73 ∷ 78 ∷ 4 ∷ 6 ∷ 1 ∷ 0 ∷ 0 ∷ 0 ∷  -- IN 14: test := i < count
    73 ∷ 78 ∷ 5 ∷ 6 ∷ 255 ∷ 255 ∷ 22 ∷ 0 ∷  -- IN 15: if not, go to 22
    73 ∷ 78 ∷ 10 ∷ 4 ∷ 5 ∷ 1 ∷ 0 ∷ 0 ∷  -- IN 16: call ← calls[i]
    73 ∷ 78 ∷ 16 ∷ 3 ∷ 4 ∷ 255 ∷ 2 ∷ 0 ∷  -- IN 17: time ← procedure 2 (call)
    73 ∷ 78 ∷ 8 ∷ 3 ∷ 255 ∷ 255 ∷ 0 ∷ 0 ∷  -- IN 18: put time
    73 ∷ 78 ∷ 2 ∷ 1 ∷ 1 ∷ 2 ∷ 0 ∷ 0 ∷  -- IN 19: i := i + one
    73 ∷ 78 ∷ 1 ∷ 6 ∷ 255 ∷ 255 ∷ 0 ∷ 0 ∷  -- IN 20: test := 0
    73 ∷ 78 ∷ 5 ∷ 6 ∷ 255 ∷ 255 ∷ 14 ∷ 0 ∷  -- IN 21: go to 14
    73 ∷ 78 ∷ 17 ∷ 255 ∷ 255 ∷ 255 ∷ 0 ∷ 0 ∷  -- IN 22: return
    -- procedure 1, of the type call: a new call with this time
    80 ∷ 82 ∷ 2 ∷ 1 ∷ 2 ∷ 1 ∷ 3 ∷ 0 ∷  -- PR owner call, one formal, two variables, result call{read}, three instructions
    86 ∷ 82 ∷ 0 ∷ 0 ∷  -- VR 0: time, an integer
    86 ∷ 82 ∷ 2 ∷ 255 ∷  -- VR 1: made, a call{open,read}
    73 ∷ 78 ∷ 13 ∷ 1 ∷ 255 ∷ 255 ∷ 0 ∷ 0 ∷  -- IN 0: made ← new call
    73 ∷ 78 ∷ 15 ∷ 1 ∷ 0 ∷ 255 ∷ 0 ∷ 0 ∷  -- IN 1: slot 0 of made ← time
    73 ∷ 78 ∷ 17 ∷ 1 ∷ 255 ∷ 255 ∷ 0 ∷ 0 ∷  -- IN 2: return made, less open
    -- procedure 2, of the type call: the time of a call that may be read
    80 ∷ 82 ∷ 2 ∷ 1 ∷ 2 ∷ 0 ∷ 2 ∷ 0 ∷  -- PR owner call, one formal, two variables, result integer, two instructions
    86 ∷ 82 ∷ 2 ∷ 1 ∷  -- VR 0: call: needs call{read}, is call{open,read} inside
    86 ∷ 82 ∷ 0 ∷ 255 ∷  -- VR 1: time
    73 ∷ 78 ∷ 14 ∷ 1 ∷ 0 ∷ 255 ∷ 0 ∷ 0 ∷  -- IN 0: time ← slot 0 of call
    73 ∷ 78 ∷ 17 ∷ 1 ∷ 255 ∷ 255 ∷ 0 ∷ 0 ∷  -- IN 1: return time
    -- procedure 3: sorts the calls of an array by exchanging pairs
    80 ∷ 82 ∷ 0 ∷ 1 ∷ 10 ∷ 255 ∷ 23 ∷ 0 ∷  -- PR no owner, one formal, ten variables, no result, 23 instructions
    86 ∷ 82 ∷ 3 ∷ 3 ∷  -- VR 0: calls
    86 ∷ 82 ∷ 0 ∷ 255 ∷  -- VR 1: count
    86 ∷ 82 ∷ 0 ∷ 255 ∷  -- VR 2: i
    86 ∷ 82 ∷ 0 ∷ 255 ∷  -- VR 3: j
    86 ∷ 82 ∷ 0 ∷ 255 ∷  -- VR 4: one
    86 ∷ 82 ∷ 1 ∷ 255 ∷  -- VR 5: left
    86 ∷ 82 ∷ 1 ∷ 255 ∷  -- VR 6: right
    86 ∷ 82 ∷ 0 ∷ 255 ∷  -- VR 7: time of left
    86 ∷ 82 ∷ 0 ∷ 255 ∷  -- VR 8: time of right
    86 ∷ 82 ∷ 0 ∷ 255 ∷  -- VR 9: test
    73 ∷ 78 ∷ 12 ∷ 1 ∷ 0 ∷ 255 ∷ 0 ∷ 0 ∷  -- IN 0: count ← size of calls
    73 ∷ 78 ∷ 1 ∷ 4 ∷ 255 ∷ 255 ∷ 1 ∷ 0 ∷  -- IN 1: one := 1
    73 ∷ 78 ∷ 1 ∷ 2 ∷ 255 ∷ 255 ∷ 0 ∷ 0 ∷  -- IN 2: i := 0
    73 ∷ 78 ∷ 4 ∷ 9 ∷ 2 ∷ 1 ∷ 0 ∷ 0 ∷  -- IN 3: test := i < count
    73 ∷ 78 ∷ 5 ∷ 9 ∷ 255 ∷ 255 ∷ 22 ∷ 0 ∷  -- IN 4: if not, go to 22
    73 ∷ 78 ∷ 2 ∷ 3 ∷ 2 ∷ 4 ∷ 0 ∷ 0 ∷  -- IN 5: j := i + one
    73 ∷ 78 ∷ 4 ∷ 9 ∷ 3 ∷ 1 ∷ 0 ∷ 0 ∷  -- IN 6: test := j < count
    73 ∷ 78 ∷ 5 ∷ 9 ∷ 255 ∷ 255 ∷ 19 ∷ 0 ∷  -- IN 7: if not, go to 19
    73 ∷ 78 ∷ 10 ∷ 5 ∷ 0 ∷ 2 ∷ 0 ∷ 0 ∷  -- IN 8: left ← calls[i]
    73 ∷ 78 ∷ 10 ∷ 6 ∷ 0 ∷ 3 ∷ 0 ∷ 0 ∷  -- IN 9: right ← calls[j]
    73 ∷ 78 ∷ 16 ∷ 7 ∷ 5 ∷ 255 ∷ 2 ∷ 0 ∷  -- IN 10: time of left ← procedure 2 (left)
    73 ∷ 78 ∷ 16 ∷ 8 ∷ 6 ∷ 255 ∷ 2 ∷ 0 ∷  -- IN 11: time of right ← procedure 2 (right)
    73 ∷ 78 ∷ 4 ∷ 9 ∷ 8 ∷ 7 ∷ 0 ∷ 0 ∷  -- IN 12: test := time of right < time of left
    73 ∷ 78 ∷ 5 ∷ 9 ∷ 255 ∷ 255 ∷ 16 ∷ 0 ∷  -- IN 13: if not, go to 16
    73 ∷ 78 ∷ 11 ∷ 0 ∷ 2 ∷ 6 ∷ 0 ∷ 0 ∷  -- IN 14: calls[i] ← right
    73 ∷ 78 ∷ 11 ∷ 0 ∷ 3 ∷ 5 ∷ 0 ∷ 0 ∷  -- IN 15: calls[j] ← left
    73 ∷ 78 ∷ 2 ∷ 3 ∷ 3 ∷ 4 ∷ 0 ∷ 0 ∷  -- IN 16: j := j + one
    73 ∷ 78 ∷ 1 ∷ 9 ∷ 255 ∷ 255 ∷ 0 ∷ 0 ∷  -- IN 17: test := 0
    73 ∷ 78 ∷ 5 ∷ 9 ∷ 255 ∷ 255 ∷ 6 ∷ 0 ∷  -- IN 18: go to 6
    73 ∷ 78 ∷ 2 ∷ 2 ∷ 2 ∷ 4 ∷ 0 ∷ 0 ∷  -- IN 19: i := i + one
    73 ∷ 78 ∷ 1 ∷ 9 ∷ 255 ∷ 255 ∷ 0 ∷ 0 ∷  -- IN 20: test := 0
    73 ∷ 78 ∷ 5 ∷ 9 ∷ 255 ∷ 255 ∷ 3 ∷ 0 ∷  -- IN 21: go to 3
    73 ∷ 78 ∷ 17 ∷ 255 ∷ 255 ∷ 255 ∷ 0 ∷ 0 ∷  -- IN 22: return
    []

-- three calls at 30, 10 and 20: done after 153 steps
abbrev pub SorterRuns : Type 0
SorterRuns = Runs sorter 40 4 (3 ∷ 30 ∷ 10 ∷ 20 ∷ []) 1000 (stopped done 153 (10 ∷ 20 ∷ 30 ∷ []) 0 22)

-- ---- "Unmarked: 0−1 gives 4,294,967,295; size 0 with index 0 gives 14"
unfoldable pub edges : List ℕ
edges =
    72 ∷ 68 ∷ 1 ∷ 0 ∷ 2 ∷ 1 ∷  -- HD edition 1, no types, two qualified types, one procedure
    81 ∷ 84 ∷ 0 ∷ 0 ∷ 0 ∷ 255 ∷  -- QT 0: integer
    81 ∷ 84 ∷ 1 ∷ 2 ∷ 0 ∷ 0 ∷  -- QT 1: array[integer]{fetch}
    80 ∷ 82 ∷ 0 ∷ 0 ∷ 4 ∷ 255 ∷ 7 ∷ 0 ∷  -- PR main: four variables, seven instructions
    86 ∷ 82 ∷ 0 ∷ 255 ∷  -- VR 0: zero
    86 ∷ 82 ∷ 0 ∷ 255 ∷  -- VR 1: one
    86 ∷ 82 ∷ 0 ∷ 255 ∷  -- VR 2: less
    86 ∷ 82 ∷ 1 ∷ 255 ∷  -- VR 3: cells
    73 ∷ 78 ∷ 1 ∷ 0 ∷ 255 ∷ 255 ∷ 0 ∷ 0 ∷  -- IN 0: zero := 0
    73 ∷ 78 ∷ 1 ∷ 1 ∷ 255 ∷ 255 ∷ 1 ∷ 0 ∷  -- IN 1: one := 1
    73 ∷ 78 ∷ 3 ∷ 2 ∷ 0 ∷ 1 ∷ 0 ∷ 0 ∷  -- IN 2: less := zero − one
    73 ∷ 78 ∷ 8 ∷ 2 ∷ 255 ∷ 255 ∷ 0 ∷ 0 ∷  -- IN 3: put less
    73 ∷ 78 ∷ 9 ∷ 3 ∷ 0 ∷ 255 ∷ 0 ∷ 0 ∷  -- IN 4: cells ← new array of size zero
    73 ∷ 78 ∷ 10 ∷ 2 ∷ 3 ∷ 0 ∷ 0 ∷ 0 ∷  -- IN 5: less ← cells[zero]
    73 ∷ 78 ∷ 17 ∷ 255 ∷ 255 ∷ 255 ∷ 0 ∷ 0 ∷  -- IN 6: return
    []

abbrev pub EdgesRun : Type 0
EdgesRun = Runs edges 10 1 [] 100 (stopped past_end 5 (4294967295 ∷ []) 0 5)

-- ---- document 02, S-1: one procedure for arrays of calls under any rights, called with two of them
unfoldable pub any_rights : List ℕ
any_rights =
    72 ∷ 68 ∷ 1 ∷ 1 ∷ 7 ∷ 3 ∷  -- HD one type, seven qualified types, three procedures
    84 ∷ 89 ∷ 2 ∷ 0 ∷ 255 ∷ 255 ∷ 255 ∷ 255 ∷ 255 ∷ 255 ∷ 255 ∷ 255 ∷  -- TY type 2, call: right 1 read, right 2 amend
    81 ∷ 84 ∷ 0 ∷ 0 ∷ 0 ∷ 255 ∷  -- QT 0: integer
    81 ∷ 84 ∷ 2 ∷ 2 ∷ 0 ∷ 255 ∷  -- QT 1: call{read}
    81 ∷ 84 ∷ 2 ∷ 6 ∷ 0 ∷ 255 ∷  -- QT 2: call{read,amend}
    81 ∷ 84 ∷ 255 ∷ 0 ∷ 0 ∷ 255 ∷  -- QT 3: ?R
    81 ∷ 84 ∷ 1 ∷ 6 ∷ 0 ∷ 3 ∷  -- QT 4: array[?R]{fetch,store}
    81 ∷ 84 ∷ 1 ∷ 6 ∷ 0 ∷ 1 ∷  -- QT 5: array[call{read}]{fetch,store}
    81 ∷ 84 ∷ 1 ∷ 6 ∷ 0 ∷ 2 ∷  -- QT 6: array[call{read,amend}]{fetch,store}
    -- procedure 0, main
    80 ∷ 82 ∷ 0 ∷ 0 ∷ 5 ∷ 255 ∷ 12 ∷ 0 ∷  -- PR five variables, twelve instructions
    86 ∷ 82 ∷ 0 ∷ 255 ∷  -- VR 0: one
    86 ∷ 82 ∷ 0 ∷ 255 ∷  -- VR 1: zero
    86 ∷ 82 ∷ 5 ∷ 255 ∷  -- VR 2: calls
    86 ∷ 82 ∷ 6 ∷ 255 ∷  -- VR 3: drafts
    86 ∷ 82 ∷ 2 ∷ 255 ∷  -- VR 4: draft
    73 ∷ 78 ∷ 1 ∷ 0 ∷ 255 ∷ 255 ∷ 1 ∷ 0 ∷  -- IN 0: one := 1
    73 ∷ 78 ∷ 1 ∷ 1 ∷ 255 ∷ 255 ∷ 0 ∷ 0 ∷  -- IN 1: zero := 0
    73 ∷ 78 ∷ 9 ∷ 2 ∷ 0 ∷ 255 ∷ 0 ∷ 0 ∷  -- IN 2: calls ← new array of size one
    73 ∷ 78 ∷ 9 ∷ 3 ∷ 0 ∷ 255 ∷ 0 ∷ 0 ∷  -- IN 3: drafts ← new array of size one
    73 ∷ 78 ∷ 16 ∷ 4 ∷ 255 ∷ 255 ∷ 1 ∷ 0 ∷  -- IN 4: draft ← procedure 1 ()
    73 ∷ 78 ∷ 11 ∷ 2 ∷ 1 ∷ 4 ∷ 0 ∷ 0 ∷  -- IN 5: calls[zero] ← draft
    73 ∷ 78 ∷ 11 ∷ 3 ∷ 1 ∷ 4 ∷ 0 ∷ 0 ∷  -- IN 6: drafts[zero] ← draft
    73 ∷ 78 ∷ 16 ∷ 255 ∷ 2 ∷ 255 ∷ 2 ∷ 0 ∷  -- IN 7: procedure 2 (calls)
    73 ∷ 78 ∷ 16 ∷ 255 ∷ 3 ∷ 255 ∷ 2 ∷ 0 ∷  -- IN 8: procedure 2 (drafts)
    73 ∷ 78 ∷ 10 ∷ 4 ∷ 3 ∷ 1 ∷ 0 ∷ 0 ∷  -- IN 9: draft ← drafts[zero], amendable still
    73 ∷ 78 ∷ 8 ∷ 0 ∷ 255 ∷ 255 ∷ 0 ∷ 0 ∷  -- IN 10: put one
    73 ∷ 78 ∷ 17 ∷ 255 ∷ 255 ∷ 255 ∷ 0 ∷ 0 ∷  -- IN 11: return
    -- procedure 1, of the type call: a new call
    80 ∷ 82 ∷ 2 ∷ 0 ∷ 1 ∷ 2 ∷ 2 ∷ 0 ∷  -- PR owner call, no formals, one variable, result call{read,amend}, two instructions
    86 ∷ 82 ∷ 2 ∷ 255 ∷  -- VR 0: made
    73 ∷ 78 ∷ 13 ∷ 0 ∷ 255 ∷ 255 ∷ 0 ∷ 0 ∷  -- IN 0: made ← new call
    73 ∷ 78 ∷ 17 ∷ 0 ∷ 255 ∷ 255 ∷ 0 ∷ 0 ∷  -- IN 1: return made
    -- procedure 2, for ?R ≥ call{read}: fetches a call and stores it back, whatever the rights of the array's calls
    80 ∷ 82 ∷ 0 ∷ 1 ∷ 4 ∷ 255 ∷ 5 ∷ 0 ∷  -- PR no owner, one formal, four variables, no result, five instructions
    71 ∷ 78 ∷ 2 ∷ 2 ∷ 0 ∷  -- GN base call, least set read
    86 ∷ 82 ∷ 4 ∷ 4 ∷  -- VR 0: calls
    86 ∷ 82 ∷ 0 ∷ 255 ∷  -- VR 1: zero
    86 ∷ 82 ∷ 3 ∷ 255 ∷  -- VR 2: any
    86 ∷ 82 ∷ 1 ∷ 255 ∷  -- VR 3: read, a call{read}
    73 ∷ 78 ∷ 1 ∷ 1 ∷ 255 ∷ 255 ∷ 0 ∷ 0 ∷  -- IN 0: zero := 0
    73 ∷ 78 ∷ 10 ∷ 2 ∷ 0 ∷ 1 ∷ 0 ∷ 0 ∷  -- IN 1: any ← calls[zero]
    73 ∷ 78 ∷ 6 ∷ 3 ∷ 2 ∷ 255 ∷ 0 ∷ 0 ∷  -- IN 2: read ← any, whose least right it is
    73 ∷ 78 ∷ 11 ∷ 0 ∷ 1 ∷ 2 ∷ 0 ∷ 0 ∷  -- IN 3: calls[zero] ← any
    73 ∷ 78 ∷ 17 ∷ 255 ∷ 255 ∷ 255 ∷ 0 ∷ 0 ∷  -- IN 4: return
    []

abbrev pub AnyRightsRun : Type 0
AnyRightsRun = Runs any_rights 40 1 [] 100 (stopped done 24 (1 ∷ []) 0 11)

-- after 18 steps the second call has fetched: its frame holds the set {read,amend} (6), with which its variable `any` carries the call; the array under
-- {read} (object 0) and the one under {read,amend} (object 2) are of the same element, ?R, to the procedure, and keep their own
unfoldable pub both_sets : Snapshot watched
both_sets =
    snapshot (
    frame 2 2 6 (filled (object 2) 6 ∷ filled (word 0) 0 ∷ filled (object 4) 6 ∷ empty ∷ []) ∷
    frame 0 9 0 (filled (word 1) 0 ∷ filled (word 0) 0 ∷ filled (object 0) 6 ∷ filled (object 2) 6 ∷ filled (object 4) 6 ∷ []) ∷
    [])
    (array_of (declared 2 2) (filled (object 4) 2 ∷ []) ∷ array_of (declared 2 6) (filled (object 4) 6 ∷ []) ∷ record_of 2 [] ∷ [])

abbrev pub AnyRightsSettled : Type 0
AnyRightsSettled = state_after watched (program_of any_rights) 40 1 [] 100 18 ≡ both_sets

-- ---- S-3: a reader of results is given an array of calls that its caller may amend
unfoldable pub reader : List ℕ
reader =
    72 ∷ 68 ∷ 1 ∷ 1 ∷ 5 ∷ 3 ∷  -- HD one type, five qualified types, three procedures
    84 ∷ 89 ∷ 2 ∷ 0 ∷ 255 ∷ 255 ∷ 255 ∷ 255 ∷ 255 ∷ 255 ∷ 255 ∷ 255 ∷  -- TY type 2, call: right 1 read, right 2 amend
    81 ∷ 84 ∷ 0 ∷ 0 ∷ 0 ∷ 255 ∷  -- QT 0: integer
    81 ∷ 84 ∷ 2 ∷ 2 ∷ 0 ∷ 255 ∷  -- QT 1: call{read}
    81 ∷ 84 ∷ 2 ∷ 6 ∷ 0 ∷ 255 ∷  -- QT 2: call{read,amend}
    81 ∷ 84 ∷ 1 ∷ 6 ∷ 0 ∷ 2 ∷  -- QT 3: array[call{read,amend}]{fetch,store}
    81 ∷ 84 ∷ 1 ∷ 2 ∷ 0 ∷ 1 ∷  -- QT 4: array[call{read}]{fetch}
    80 ∷ 82 ∷ 0 ∷ 0 ∷ 4 ∷ 255 ∷ 8 ∷ 0 ∷  -- procedure 0, main
    86 ∷ 82 ∷ 0 ∷ 255 ∷  -- VR 0: n
    86 ∷ 82 ∷ 3 ∷ 255 ∷  -- VR 1: drafts
    86 ∷ 82 ∷ 2 ∷ 255 ∷  -- VR 2: draft
    86 ∷ 82 ∷ 1 ∷ 255 ∷  -- VR 3: seen
    73 ∷ 78 ∷ 1 ∷ 0 ∷ 255 ∷ 255 ∷ 1 ∷ 0 ∷  -- IN 0: n := 1
    73 ∷ 78 ∷ 9 ∷ 1 ∷ 0 ∷ 255 ∷ 0 ∷ 0 ∷  -- IN 1: drafts ← new array of size n
    73 ∷ 78 ∷ 16 ∷ 2 ∷ 255 ∷ 255 ∷ 1 ∷ 0 ∷  -- IN 2: draft ← procedure 1 ()
    73 ∷ 78 ∷ 1 ∷ 0 ∷ 255 ∷ 255 ∷ 0 ∷ 0 ∷  -- IN 3: n := 0
    73 ∷ 78 ∷ 11 ∷ 1 ∷ 0 ∷ 2 ∷ 0 ∷ 0 ∷  -- IN 4: drafts[n] ← draft
    73 ∷ 78 ∷ 16 ∷ 3 ∷ 1 ∷ 255 ∷ 2 ∷ 0 ∷  -- IN 5: seen ← procedure 2 (drafts)
    73 ∷ 78 ∷ 10 ∷ 2 ∷ 1 ∷ 0 ∷ 0 ∷ 0 ∷  -- IN 6: draft ← drafts[n]
    73 ∷ 78 ∷ 17 ∷ 255 ∷ 255 ∷ 255 ∷ 0 ∷ 0 ∷  -- IN 7: return
    80 ∷ 82 ∷ 2 ∷ 0 ∷ 1 ∷ 2 ∷ 2 ∷ 0 ∷  -- procedure 1, of the type call: a new call, under read and amend
    86 ∷ 82 ∷ 2 ∷ 255 ∷  -- VR 0: made
    73 ∷ 78 ∷ 13 ∷ 0 ∷ 255 ∷ 255 ∷ 0 ∷ 0 ∷  -- IN 0: made ← new call
    73 ∷ 78 ∷ 17 ∷ 0 ∷ 255 ∷ 255 ∷ 0 ∷ 0 ∷  -- IN 1: return made
    80 ∷ 82 ∷ 0 ∷ 1 ∷ 3 ∷ 1 ∷ 3 ∷ 0 ∷  -- procedure 2: the first of the results, under read
    86 ∷ 82 ∷ 4 ∷ 4 ∷  -- VR 0: results
    86 ∷ 82 ∷ 0 ∷ 255 ∷  -- VR 1: first
    86 ∷ 82 ∷ 1 ∷ 255 ∷  -- VR 2: item
    73 ∷ 78 ∷ 1 ∷ 1 ∷ 255 ∷ 255 ∷ 0 ∷ 0 ∷  -- IN 0: first := 0
    73 ∷ 78 ∷ 10 ∷ 2 ∷ 0 ∷ 1 ∷ 0 ∷ 0 ∷  -- IN 1: item ← results[first]
    73 ∷ 78 ∷ 17 ∷ 2 ∷ 255 ∷ 255 ∷ 0 ∷ 0 ∷  -- IN 2: return item
    []

abbrev pub ReaderRuns : Type 0
ReaderRuns = Runs reader 40 0 [] 100 (stopped done 13 [] 0 7)

-- after 10 steps the reader has fetched: it holds the array without store and the call with read alone (2), while the array's own cell and its caller have
-- read and amend (6)
unfoldable pub widened : Snapshot watched
widened =
    snapshot (
    frame 2 2 0 (filled (object 0) 2 ∷ filled (word 0) 0 ∷ filled (object 2) 2 ∷ []) ∷
    frame 0 6 0 (filled (word 0) 0 ∷ filled (object 0) 6 ∷ filled (object 2) 6 ∷ empty ∷ []) ∷
    [])
    (array_of (declared 2 6) (filled (object 2) 6 ∷ []) ∷ record_of 2 [] ∷ [])

abbrev pub ReaderWidened : Type 0
ReaderWidened = state_after watched (program_of reader) 40 0 [] 100 10 ≡ widened
