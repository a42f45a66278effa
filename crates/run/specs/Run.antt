-- What `run` and `watch` say of any bytes, input, fuel, memory and output, and what they leave behind (document 01, "What check, run and watch say").
-- They are one definition: the mode tells which machine runs, and what is refused first.
use Rattle.std.specs.Prelude.{ℕ, Bool, cond, List, leb, length, replicate, Ok, Err}
use Rattle.std.proofs.Math.Option.{Option, none, some}
use Rattle.model.specs.Modes.{Mode, plain, watched}
use Rattle.model.specs.Outcome.{stop_number}
use Rattle.model.specs.Refusal.{Verdict, refusal_number}
use Rattle.model.specs.declared.Reason.TheVariants.{BigMemory}
use Rattle.model.specs.Run.{End, stopped, stuck_at, run, written}
use Rattle.sheet.specs.Meaning.{program_of}
use Rattle.checking.specs.Check.{form_verdict, check}
use Rattle.run.specs.declared.Reply.{Reply}

-- what is said, and the memory and the output afterwards
pub record Answer : Type 0 where
  pub reply : Reply
  pub memory : List ℕ
  pub output : List ℕ

abbrev pub answered : Reply → (memory output : List ℕ) → Answer
answered r memory output = record { reply = r; memory = memory; output = output }

-- "1 to 10 are refusals, with the byte at which the record starts"
abbrev pub refused : (number place : ℕ) → Reply
refused n at = record { number = n; place = at; steps = 0; put = 0; procedure = 0; instruction = 0 }

-- "11 to 19 are stops, with steps, words put, procedure and instruction"
abbrev pub stopped_at : (number steps put procedure instruction : ℕ) → Reply
stopped_at k n w p i = record { number = k; place = 0; steps = n; put = w; procedure = p; instruction = i }

-- "run an accepted one on the plain machine; watch a well-formed one on the watched machine": "watch all but 6 to 9"
abbrev pub verdict_before : Mode → List ℕ → Verdict
verdict_before plain s = check s
verdict_before watched s = form_verdict s

-- a refusal: "bench and report untouched"
abbrev pub refuses : (memory output : List ℕ) → (number place : ℕ) → Option Answer
refuses memory output n at = some (answered (refused n at) memory output)

-- a stop: "memory ends all zero"; "the output holds the words put, in order from its first word, and keeps its other words".
-- A stuck end has no answer and no number: condition 3 shows that it is never asked for.
abbrev pub ends : (memory output : List ℕ) → End → Option Answer
ends memory output (stopped x n put p i) =
    some (answered (stopped_at (stop_number x) n (length put) p i) (replicate (length memory) 0) (written output put))
ends memory output (stuck_at n put p i) = none

-- "then 10": over 65,536 words
unfoldable pub memory_fits : List ℕ → Bool
memory_fits memory = leb (length memory) 65536

module _ (m : Mode) (sheet input : List ℕ) (fuel : ℕ) (memory output : List ℕ) where
  -- the run itself
  unfoldable pub end : End
  end = run m (program_of sheet) (length memory) (length output) input fuel

  abbrev pub answer_by : Verdict → Option Answer
  answer_by (Err r) = refuses memory output (refusal_number r.reason) r.place
  answer_by (Ok u) = cond (memory_fits memory) (ends memory output end) (refuses memory output (refusal_number BigMemory) 0)

  unfoldable pub answer : Option Answer
  answer = answer_by (verdict_before m sheet)
