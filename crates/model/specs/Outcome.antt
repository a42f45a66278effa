-- What a step of a machine comes to: a value, one of document 01's stops, or stuck.
use Rattle.std.specs.Prelude.{ℕ, Bool, true, false}
use Rattle.std.proofs.Math.Option.{Option, none, some}
use Rattle.model.specs.declared.Halt.{Halt}
use Rattle.model.specs.declared.Halt.TheVariants.{Blank, PastEnd, InputEnded, OutputFull, MemoryFull, WrongKind, MissingRight}

pub data Stop : Type 0 where
  done fuel_spent blank past_end input_ended output_full memory_full wrong_kind missing_right : Stop

-- the paper's number of each: done, fuel spent, blank, past the tray, reads ended, report full, bench full, mixed sample, unlicensed
abbrev pub stop_number : Stop → ℕ
stop_number done = 11
stop_number fuel_spent = 12
stop_number blank = 13
stop_number past_end = 14
stop_number input_ended = 15
stop_number output_full = 16
stop_number memory_full = 17
stop_number wrong_kind = 18
stop_number missing_right = 19

-- the stop of a step that the code names; all but done and fuel spent
abbrev pub stop_of : Halt → Stop
stop_of Blank = blank
stop_of PastEnd = past_end
stop_of InputEnded = input_ended
stop_of OutputFull = output_full
stop_of MemoryFull = memory_full
stop_of WrongKind = wrong_kind
stop_of MissingRight = missing_right

pub data Res (A : Type 0) : Type 0 where
  ok : A → Res A
  stop : Stop → Res A
  stuck : Res A

infixl 20 ◌>>=◌ ◌>>◌
unfoldable pub ◌>>=◌ : {A B : Type 0} → Res A → (A → Res B) → Res B
ok a >>= f = f a
stop s >>= f = stop s
stuck >>= f = stuck

unfoldable pub ◌>>◌ : {A B : Type 0} → Res A → Res B → Res B
ok a >> r = r
stop s >> r = stop s
stuck >> r = stuck

-- a stop where the test fails
unfoldable pub ensure : Stop → Bool → Res (Unit {0})
ensure s true = ok tt
ensure s false = stop s

-- what is there, or a stop where nothing is
unfoldable pub found : {A : Type 0} → Stop → Option A → Res A
found s none = stop s
found s (some a) = ok a
