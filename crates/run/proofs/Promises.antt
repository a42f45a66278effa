-- What the answers come to: from condition 3, from what any run ends with, and from the numbers of the tests.
use Prim.Native.Nat.{ℕ, ◌≤◌}
use mathlib.Core.Path.{◌≡◌, refl}
use mathlib.Core.Bool.{Bool, true, false, cond}
use mathlib.Core.List.{List}
use mathlib.Core.Logic.{◌⊎◌, inl, inr, ⊎_elim}
use native.Mathlib.Omega.{arith}
use borrow.Author.Tests.{leb-true}
use lib.Dec.{leb}
use lib.ListN.{length}
use Rattle.std.specs.Prelude.{Ok, Err}
use Rattle.model.specs.declared.Reason.{Reason}
use Rattle.model.specs.Modes.{Mode, plain, watched}
use Rattle.model.specs.Outcome.{Stop, done, fuel_spent, blank, past_end, input_ended, output_full, memory_full, wrong_kind, missing_right, stop_number}
use Rattle.model.specs.Refusal.{Accepted, Refused, Verdict, between, Gives, verdict, refusal_number}
use Rattle.model.specs.declared.Reason.TheVariants.{BigMemory}
use Rattle.model.specs.Run.{End, stopped, stuck_at, run}
use Rattle.model.proofs.Comes.{Stops}
use Rattle.model.proofs.AnyProgram.{watched_not_stuck}
use Rattle.model.proofs.Ends.{run_ended}
use Rattle.model.proofs.Verdicts.{either_true}
use Rattle.model.proofs.Numbers.{between_true, verdict_range}
use Rattle.sheet.specs.Meaning.{program_of}
use Rattle.form.specs.WellFormed.{form_tests}
use Rattle.form.proofs.Numbers.{form_number, form_range}
use Rattle.checking.specs.Check.{check, check_number}
use Rattle.checking.proofs.Numbers.{check_numbers}
use Rattle.theorem.proofs.Condition3.{condition3_holds}
use Rattle.run.specs.Run.{refuses, ends, end, memory_fits, verdict_before, answer_by, answer}
use Rattle.run.specs.Promises.{WatchAsRun, Says, RunNumbers, WatchNumbers, Alike, AnyMemory, Words32}
use Rattle.run.proofs.Laws.{formed_sheet}

-- ---- watch says what run says

module _ (sheet input : List ℕ) (fuel : ℕ) (memory output : List ℕ) where
  same_end : check sheet ≡ Accepted → Words32 input → memory_fits memory ≡ true
      → end watched sheet input fuel memory output ≡ end plain sheet input fuel memory output
  unfolding end memory_fits
  same_end a w h = (condition3_holds sheet a (length memory) (leb-true (length memory) 65536 h) input output w fuel).agree

  accepted_same : check sheet ≡ Accepted → Words32 input → (b : Bool) → memory_fits memory ≡ b
      → answer_by watched sheet input fuel memory output Accepted ≡ answer_by plain sheet input fuel memory output Accepted
  accepted_same a w true h = rw (h, same_end a w h)
  accepted_same a w false h = rw h

pub watch_as_run : WatchAsRun
unfolding answer
watch_as_run sheet input fuel memory output a w =
    rw (a, formed_sheet sheet a) (accepted_same sheet input fuel memory output a w (memory_fits memory) refl)

-- ---- which numbers

stop_plain : (F : Type 0) (x : Stop) → Stops plain F x → (1 ≤ stop_number x) × (stop_number x ≤ 17)
stop_plain F done c = (omega arith, omega arith)
stop_plain F fuel_spent c = (omega arith, omega arith)
stop_plain F blank c = (omega arith, omega arith)
stop_plain F past_end c = (omega arith, omega arith)
stop_plain F input_ended c = (omega arith, omega arith)
stop_plain F output_full c = (omega arith, omega arith)
stop_plain F memory_full c = (omega arith, omega arith)
stop_plain F wrong_kind c = absurd c
stop_plain F missing_right c = absurd c

stop_any : (x : Stop) → (10 ≤ stop_number x) × (stop_number x ≤ 19)
stop_any done = (omega arith, omega arith)
stop_any fuel_spent = (omega arith, omega arith)
stop_any blank = (omega arith, omega arith)
stop_any past_end = (omega arith, omega arith)
stop_any input_ended = (omega arith, omega arith)
stop_any output_full = (omega arith, omega arith)
stop_any memory_full = (omega arith, omega arith)
stop_any wrong_kind = (omega arith, omega arith)
stop_any missing_right = (omega arith, omega arith)

-- of an answer by a verdict, from what is known of its refusals and of its end
module _ (m : Mode) (sheet input : List ℕ) (fuel : ℕ) (memory output : List ℕ) (P : ℕ → Type 0) where
  says : (v : Verdict) → ((n : Reason) (at : ℕ) → v ≡ Refused n at → P (refusal_number n)) → P 10
      → (v ≡ Accepted → memory_fits memory ≡ true → Says P (ends memory output (end m sheet input fuel memory output)))
      → Says P (answer_by m sheet input fuel memory output v)
  says (Err x) r t e = r x.reason x.place refl
  says (Ok u) r t e = fit (memory_fits memory) refl
    where
      fit : (b : Bool) → memory_fits memory ≡ b
          → Says P (cond b (ends memory output (end m sheet input fuel memory output)) (refuses memory output (refusal_number BigMemory) 0))
      fit true h = e refl h
      fit false h = t

abbrev AllBut18And19 : ℕ → Type 0
AllBut18And19 n = ((1 ≤ n) × (n ≤ 17)) ⊎ ((20 ≤ n) × (n ≤ 21))

check_gives : (n : ℕ) → check_number n ≡ true → AllBut18And19 n
check_gives n h =
    ⊎_elim (λ l. let z = between_true 1 9 n l in let a = z.0 in let b = z.1 in inl (omega arith, omega arith)) (λ r. inr (between_true 20 21 n r))
    (either_true (between 1 9 n) (between 20 21 n) h)

plain_end : (sheet input : List ℕ) (fuel : ℕ) (memory output : List ℕ) → Words32 input → check sheet ≡ Accepted
    → memory_fits memory ≡ true → (e : End) → end plain sheet input fuel memory output ≡ e
    → Says AllBut18And19 (ends memory output e)
unfolding end memory_fits
plain_end sheet input fuel memory output w a h (stopped x n put p i) q =
    inl (stop_plain _ x (rw q at (run_ended plain (program_of sheet) (length memory) (length output) input fuel).way))
plain_end sheet input fuel memory output w a h (stuck_at n put p i) q =
    (condition3_holds sheet a (length memory) (leb-true (length memory) 65536 h) input output w fuel).not_stuck n put p i q

pub run_numbers : RunNumbers
unfolding answer
run_numbers sheet input fuel memory output w =
    says plain sheet input fuel memory output AllBut18And19 (check sheet)
    (λ n at e. let g : Gives check_number (Refused n at) = rw e at (check_numbers sheet) in check_gives (refusal_number n) g)
    (inl (omega arith, omega arith))
    (λ a h. plain_end sheet input fuel memory output w a h (end plain sheet input fuel memory output) refl)

abbrev AllBut6To9 : ℕ → Type 0
AllBut6To9 n = ((1 ≤ n) × (n ≤ 5)) ⊎ ((10 ≤ n) × (n ≤ 19))

watched_end : (sheet input : List ℕ) (fuel : ℕ) (memory output : List ℕ) (e : End) → end watched sheet input fuel memory output ≡ e
    → Says AllBut6To9 (ends memory output e)
unfolding end
watched_end sheet input fuel memory output (stopped x n put p i) q = inr (stop_any x)
watched_end sheet input fuel memory output (stuck_at n put p i) q = watched_not_stuck (program_of sheet) (length memory) (length output) input fuel n put p i q

pub watch_numbers : WatchNumbers
unfolding answer
watch_numbers sheet input fuel memory output =
    says watched sheet input fuel memory output AllBut6To9 (verdict (form_tests sheet))
    (λ n at e. let g : Gives form_number (Refused n at) = rw e at (verdict_range form_number (form_tests sheet) (form_range sheet)) in inl (between_true 1 5 (refusal_number n) g))
    (inr (omega arith, omega arith))
    (λ a h. watched_end sheet input fuel memory output (end watched sheet input fuel memory output) refl)

-- ---- whatever the memory holds

pub any_memory : AnyMemory
unfolding answer memory_fits end
any_memory m sheet input fuel memory memory' output same = by (verdict_before m sheet)
  where
    ends_alike : (e : End) → Alike (ends memory output e) (ends memory' output e)
    ends_alike (stopped x n put p i) = (refl, refl)
    ends_alike (stuck_at n put p i) = tt

    fit : (b : Bool) (e : End)
        → Alike (cond b (ends memory output e) (refuses memory output 10 0))
        (cond b (ends memory' output e) (refuses memory' output 10 0))
    fit true e = ends_alike e
    fit false e = (refl, refl)

    by : (v : Verdict) → Alike (answer_by m sheet input fuel memory output v) (answer_by m sheet input fuel memory' output v)
    by (Err r) = (refl, refl)
    by (Ok u) = rw same (fit (leb (length memory') 65536) (run m (program_of sheet) (length memory') (length output) input fuel))
