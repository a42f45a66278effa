-- What the machine's answer says of the definition's end, which is never stuck for an accepted sheet: condition 3.
use Prim.Native.Nat.{ℕ, ◌≤◌, ◌<◌, ◌^◌}
use mathlib.Core.Path.{◌≡◌}
use mathlib.Core.List.{List}
use mathlib.Core.Option.{some}
use lib.ListN.{length, get_or, replicate}
use Rattle.model.specs.Modes.{plain}
use Rattle.model.specs.Refusal.{Accepted, verdict}
use Rattle.model.specs.Rules.{access_rules}
use Rattle.model.specs.Run.{End, stopped, stuck_at, run}
use Rattle.sheet.specs.Meaning.{program_of, place_of}
use Rattle.form.specs.WellFormed.{form_tests}
use Rattle.model.proofs.Verdicts.{left_accepted}
use Rattle.checking.specs.Check.{check, check_tests}
use Rattle.theorem.proofs.Condition3.{condition3_holds}
use Rattle.model.specs.Outcome.{stop_number}
use Rattle.run_by_frames.specs.Reply.{EndedIs, ended, ending_stop}
use Rattle.run_by_frames.specs.Turn.{NeverStuck}
use Rattle.run_by_frames.specs.declared.Ended.{Ended}
use Rattle.run.specs.Run.{answered, stopped_at, ends}
use Rattle.run.specs.declared.Reply.{Reply}

-- what is answered at an end that the machine's answer is
pub answers : (memory output output' : List ℕ) (e : Ended) (r : Reply) (zeros : List ℕ) (x : End)
    → r ≡ stopped_at (stop_number (ending_stop e.ending)) e.steps e.put e.procedure e.instruction → zeros ≡ replicate (length memory) 0 → EndedIs e output output' x
    → ends memory output x ≡ some (answered r zeros output')
answers memory output output' e r zeros (stopped x n put p i) q z (ended a b c d f o) = rw (q, z, a, b, c, d, f, o)
answers memory output output' e r zeros (stuck_at n put p i) q z x = elim x [ ]

pub formed_sheet : (s : List ℕ) → check s ≡ Accepted → verdict (form_tests s) ≡ Accepted
unfolding check check_tests
formed_sheet s a = left_accepted (form_tests s) (access_rules (place_of s) (program_of s)) a

-- condition 3, (a)
pub never_stuck : (s : List ℕ) → check s ≡ Accepted → (memory : ℕ) → memory ≤ 65536 → (input output : List ℕ) → ((k : ℕ) → get_or input k 0 < 2 ^ 32)
    → (fuel : ℕ) → NeverStuck (run plain (program_of s) memory (length output) input fuel)
never_stuck s a memory small input output words fuel = (condition3_holds s a memory small input output words fuel).not_stuck
