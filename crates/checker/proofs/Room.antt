-- No answer takes the reading past the end of the buffer.
use native.Mathlib.Omega.{arith}
use mathlib.Core.Bool.{Bool, true, false, cond}
use Prim.Native.Nat.{ℕ, zero, suc, ◌+◌, ◌≤◌, zero-le}
use lib.IntN.{ℤ, pos, negsuc}
use lib.Dec.{eqb}
use lib.ListN.{length}
use mathlib.Core.List.{List}
use mathlib.Core.Path.{◌≡◌}
use Rattle.checker.specs.declared.calls.Answer.{Answer}
use Rattle.checker.specs.declared.calls.Answer.TheVariants as answer
use Rattle.checker.specs.declared.input.Input.{Input}
use Rattle.checker.specs.declared.input.Input.TheVariants.{Partial, Whole, Unread}
use Rattle.std.specs.Io.{ReadsAtMost}
use Rattle.std.specs.declared.result.Result.{Result}
use Rattle.std.specs.declared.result.Result.TheVariants.{Ok, Err}
use Rattle.std.specs.declared.io.Error.{Error}
use Rattle.checker.specs.Calls.{failed, meant, errno, answered}
use Rattle.checker.specs.Input.{reached, after, Room, Held}

-- what holds of both holds of the one that is taken
either : {A : Type 0} (P : A → Type 0) (b : Bool) (x y : A) → P x → P y → P (cond b x y)
either P true x y p q = p
either P false x y p q = q

module _ (size done : ℕ) where
  failed_room : (error : ℤ) → done ≤ size → Room size done (failed error)
  unfolding failed
  failed_room (pos e) h = either (Room size done) (eqb e 4) answer.Again _ h (either (Room size done) (eqb e 11) answer.Wait answer.Failed h h)
  failed_room (negsuc e) h = h

  -- a call that is lent what is free of the buffer
  pub room : (part : List ℕ) (r : Result ℕ Error) (a : Answer) → done + length part ≤ size → ReadsAtMost r part → a ≡ answered r → Room size done a
  unfolding meant
  room part (Ok zero) a h m e = rw e (omega arith)
  room part (Ok (suc n)) a h m e = rw e (omega (arith, m.0))
  room part (Err f) a h m e = rw e (failed_room (errno f) (omega arith))

  pub held : (a : Answer) → Room size done a → Held done size (after size done a)
  unfolding after reached
  held (answer.Moved n) h =
      let both : (done ≤ done + n) × (done + n ≤ size) = (omega arith, h) in
      either (Held done size) (eqb (done + n) size) (Whole (done + n)) (Partial (done + n)) both both
  held answer.Ended h = (omega arith, h)
  held answer.Again h = (omega arith, h)
  held answer.Wait h = (omega arith, h)
  held answer.Failed h = tt

  pub from_start : (i : Input) → Held done size i → Held 0 size i
  from_start (Partial n) h = (zero-le, h.1)
  from_start (Whole n) h = (zero-le, h.1)
  from_start Unread h = tt
