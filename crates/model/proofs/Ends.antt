-- How a run can end, of any program, accepted or not, and in either mode: from what a plan comes to, over one step, to the whole run.
use Prim.Native.Nat.{ℕ, zero, suc, ◌+◌, ◌-◌, ◌<◌, ◌≤◌}
use mathlib.Core.Path.{◌≡◌, refl}
use mathlib.Core.Bool.{Bool, true, false, cond}
use mathlib.Core.List.{List, [], ◌∷◌, ◌++◌}
use native.Mathlib.Omega.{arith}
use lib.Dec.{leb}
use lib.ListN.{length, length-append}
use Rattle.model.specs.Program.{Program}
use Rattle.model.specs.Outcome.{Stop, done, fuel_spent, blank, past_end, input_ended, output_full, memory_full, wrong_kind, missing_right, Res}
use Rattle.model.specs.Modes.{Mode}
use Rattle.model.specs.declared.Operation.{Operation}
use Rattle.model.specs.Machine.{frame, State, state, view, Effect, Next, go, finished, apply, step}
use Rattle.model.specs.Run.{End, stopped, stuck_at, words_put, Snapshot, snapshot, Moment, running, over, next_moment, end_of, advance, opened, start, trace, run}
use Rattle.model.proofs.Comes.{Unwatched, Stops, Comes, goes, stops, sticks, and_with}
use Rattle.model.proofs.Planned.{Planned, sets, adds, subtracts, compares, jumps, skips, binds, takes, puts, new_arrays, fetches, stores, sizes, new_records, gets_slot, sets_slot, calls, finishes, returns}
use Rattle.model.proofs.Plans.{plan_comes}

abbrev pub steps_of : End → ℕ
steps_of (stopped x n out p i) = n
steps_of (stuck_at n out p i) = n

-- ---- One step

abbrev words : {m : Mode} → State m → List ℕ
words (state f fs os input out) = out

-- the words put still fit after it
abbrev Keeps : {m : Mode} → (output : ℕ) → State m → Next m → Type 0
Keeps output s (go t) = length (words s) ≤ output → length (words t) ≤ output
Keeps output s finished = Unit {0}

put_keeps : (output n : ℕ) (out : List ℕ) → 0 < output - length out → length (out ++ (n ∷ [])) ≤ output
put_keeps output n out l = omega (arith, length-append out (n ∷ []))

apply_keeps :
    {m : Mode} (g : Program) (memory output : ℕ) (s : State m) {op : Operation} {e : Effect m} → Planned m g (view memory output s) op e → Keeps output s (apply g s e)
unfolding apply
apply_keeps g memory output (state (frame p i z vs) fs os input out) (sets h) = λ l. l
apply_keeps g memory output (state (frame p i z vs) fs os input out) (adds h) = λ l. l
apply_keeps g memory output (state (frame p i z vs) fs os input out) (subtracts h) = λ l. l
apply_keeps g memory output (state (frame p i z vs) fs os input out) (compares h) = λ l. l
apply_keeps g memory output (state (frame p i z vs) fs os input out) jumps = λ l. l
apply_keeps g memory output (state (frame p i z vs) fs os input out) skips = λ l. l
apply_keeps g memory output (state (frame p i z vs) fs os input out) (binds h) = λ l. l
apply_keeps g memory output (state (frame p i z vs) fs os input out) (takes h) = λ l. l
apply_keeps g memory output (state (frame p i z vs) fs os input out) (puts {n} r) = λ l. put_keeps output n out r
apply_keeps g memory output (state (frame p i z vs) fs os input out) (new_arrays h) = λ l. l
apply_keeps g memory output (state (frame p i z vs) fs os input out) (fetches h) = λ l. l
apply_keeps g memory output (state (frame p i z vs) fs os input out) (stores h) = λ l. l
apply_keeps g memory output (state (frame p i z vs) fs os input out) (sizes h) = λ l. l
apply_keeps g memory output (state (frame p i z vs) fs os input out) (new_records t h) = λ l. l
apply_keeps g memory output (state (frame p i z vs) fs os input out) (gets_slot h) = λ l. l
apply_keeps g memory output (state (frame p i z vs) fs os input out) (sets_slot h) = λ l. l
apply_keeps g memory output (state (frame p i z vs) fs os input out) (calls t h) = λ l. l
apply_keeps g memory output (state (frame p i z vs) [] os input out) (returns q j y e h) = tt
apply_keeps g memory output (state (frame p i z vs) (frame o k x us ∷ fs) os input out) (returns q j y e h) = λ l. l
apply_keeps g memory output (state (frame p i z vs) fs os input out) (finishes h) = tt

step_comes : (m : Mode) (g : Program) (memory output : ℕ) (s : State m) → Comes m (Keeps output s) (step g memory output s)
unfolding step
step_comes m g memory output (state (frame p i z vs) fs os input out) =
    let s : State m = state (frame p i z vs) fs os input out in
    and_with (plan_comes m g (view memory output s) (g.operation p i)) λ e r. goes (apply_keeps g memory output s r)

-- ---- The run

-- only a machine that is not watched is stuck; F holds where the fuel is spent
abbrev pub Way : (m : Mode) (F : Type 0) → End → Type 0
Way m F (stopped x n out p i) = Stops m F x
Way m F (stuck_at n out p i) = Unwatched m

-- an end, with at most so many steps counted
pub record Ended (m : Mode) (F : Type 0) (steps output : ℕ) (e : End) : Type 0 where
  pub within : steps_of e ≤ steps
  pub fit : length (words_put e) ≤ output
  pub way : Way m F e

-- where a run stands after n steps: n of them are counted, or it ended before, and not for want of fuel
data Stands (m : Mode) (output n : ℕ) : Moment m → Type 0 where
  on_its_way : {s : State m} → length (words s) ≤ output → Stands m output n (running n s)
  is_over : {e : End} {x : Snapshot m} → Ended m ⊥ n output e → Stands m output n (over e x)

-- a stop of an instruction is one of the run
also : (m : Mode) (F : Type 0) (x : Stop) → Stops m ⊥ x → Stops m F x
also m F done c = c
also m F fuel_spent c = absurd c
also m F blank c = c
also m F past_end c = c
also m F input_ended c = c
also m F output_full c = c
also m F memory_full c = c
also m F wrong_kind c = c
also m F missing_right c = c

also_way : (m : Mode) (F : Type 0) (e : End) → Way m ⊥ e → Way m F e
also_way m F (stopped x n out p i) w = also m F x w
also_way m F (stuck_at n out p i) w = w

module _ (m : Mode) (g : Program) (memory output : ℕ) where
  settle_stands :
      (n : ℕ) (s : State m) {r : Res (Next m)} → length (words s) ≤ output → Comes m (Keeps output s) r → Stands m output (suc n) (next_moment n s r)
  unfolding next_moment
  settle_stands n s w (goes {a = go t} e) = on_its_way (e w)
  settle_stands n (state (frame p i z vs) fs os input out) w (goes {a = finished} e) = is_over {e = stopped done (suc n) out p i} (record { within = omega arith; fit = w; way = tt })
  settle_stands n (state (frame p i z vs) fs os input out) w (stops {x} c) = is_over {e = stopped x n out p i} (record { within = omega arith; fit = w; way = c })
  settle_stands n (state (frame p i z vs) fs os input out) w (sticks u) = is_over {e = stuck_at n out p i} (record { within = omega arith; fit = w; way = u })

  later : {n : ℕ} {e : End} → Ended m ⊥ n output e → Ended m ⊥ (suc n) output e
  later d = let l = d.within in record { within = omega arith; fit = d.fit; way = d.way }

  advance_stands : (n : ℕ) {a : Moment m} → Stands m output n a → Stands m output (suc n) (advance m g memory output a)
  unfolding advance
  advance_stands n (on_its_way {s} w) = settle_stands n s w (step_comes m g memory output s)
  advance_stands n (is_over d) = is_over (later d)

  trace_stands : (input : List ℕ) (n : ℕ) → Stands m output n (trace m g memory output input n)
  unfolding trace start opened
  trace_stands input zero = room (leb (g.variables 0 + 2) memory)
    where
      room : (b : Bool) → Stands m output 0 (cond b (running 0 (opened m g memory output input)) (over (stopped memory_full 0 [] 0 0) (snapshot [] [])))
      room true = on_its_way {s = opened m g memory output input} (omega arith)
      room false = is_over {e = stopped memory_full 0 [] 0 0} (record { within = omega arith; fit = omega arith; way = tt })
  trace_stands input (suc n) = advance_stands n (trace_stands input n)

  end_stands : (n : ℕ) {a : Moment m} → Stands m output n a → Ended m (steps_of (end_of a) ≡ n) n output (end_of a)
  end_stands n (on_its_way {s = state (frame p i z vs) fs os input out} w) = record { within = omega arith; fit = w; way = refl }
  end_stands n (is_over {e} d) = record { within = d.within; fit = d.fit; way = also_way m (steps_of e ≡ n) e d.way }

  pub run_ended : (input : List ℕ) (fuel : ℕ) → Ended m (steps_of (run m g memory output input fuel) ≡ fuel) fuel output (run m g memory output input fuel)
  unfolding run
  run_ended input fuel = end_stands fuel (trace_stands input fuel)
