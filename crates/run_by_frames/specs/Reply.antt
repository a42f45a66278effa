-- How a run ended (document 01, "What check, run and watch say"): "11 to 19 are stops, with steps, words put, procedure and instruction."
use Rattle.std.specs.Prelude.{ℕ, ◌≡◌, List, length}
use Rattle.model.specs.Outcome.{Stop, done, fuel_spent, stop_of}
use Rattle.model.specs.Run.{End, stopped, written}
use Rattle.run_by_frames.specs.declared.Ending.{Ending}
use Rattle.run_by_frames.specs.declared.Ending.TheVariants.{Done, FuelSpent, Halted}
use Rattle.run_by_frames.specs.declared.Ended.{Ended}

abbrev pub ending_stop : Ending → Stop
ending_stop Done = done
ending_stop FuelSpent = fuel_spent
ending_stop (Halted k) = stop_of k

-- how a run ended, and its output before and after; it was not stuck
pub data EndedIs (e : Ended) (before output : List ℕ) : End → Type 0 where
  ended : {x : _} {n p i : ℕ} {put : List ℕ} →
      ending_stop e.ending ≡ x → e.steps ≡ n → e.put ≡ length put → e.procedure ≡ p → e.instruction ≡ i →
      output ≡ written before put →
      EndedIs e before output (stopped x n put p i)
