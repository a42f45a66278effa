-- A run, "from before main's frame opens to the stop", as one trace: where it stands after each number of steps. How it ends and the state after n steps
-- are both read off it.
use Rattle.std.specs.Prelude.{ℕ, zero, suc, ◌+◌, min, cond, List, [], ◌∷◌, ◌++◌, leb, length, drop, replicate}
use Rattle.model.specs.Program.{Program}
use Rattle.model.specs.Outcome.{Stop, done, fuel_spent, memory_full, Res, ok, stop, stuck}
use Rattle.model.specs.Modes.{Mode, settled_set}
use Rattle.model.specs.Machine.{Frame, frame, Object, State, state, empty, Next, go, finished, step}

-- how a run ends: the stop, steps, the words put, procedure and instruction; or stuck
pub data End : Type 0 where
  stopped : Stop → (steps : ℕ) → (put : List ℕ) → (procedure instruction : ℕ) → End
  stuck_at : (steps : ℕ) → (put : List ℕ) → (procedure instruction : ℕ) → End

abbrev pub words_put : End → List ℕ
words_put (stopped x n put p i) = put
words_put (stuck_at n put p i) = put

-- "The place is that of the instruction stopped at, or of main's return"
abbrev pub end_in : {m : Mode} → Stop → ℕ → State m → End
end_in x n (state (frame p i z vs) fs os input put) = stopped x n put p i

abbrev pub stuck_in : {m : Mode} → ℕ → State m → End
stuck_in n (state (frame p i z vs) fs os input put) = stuck_at n put p i

-- the live frames and the objects at some moment; there is no frame before main's opens and after it returned
pub data Snapshot (m : Mode) : Type 0 where
  snapshot : List (Frame m) → List (Object m) → Snapshot m

abbrev pub shot : {m : Mode} → State m → Snapshot m
shot (state f fs os input put) = snapshot (f ∷ fs) os

abbrev pub finished_shot : {m : Mode} → State m → Snapshot m
finished_shot (state f fs os input put) = snapshot [] os

-- where a run stands: on its way, with so many steps counted; or over, with what it left
pub data Moment (m : Mode) : Type 0 where
  running : (steps : ℕ) → State m → Moment m
  over : End → Snapshot m → Moment m

-- "A step that stops changes nothing and isn't counted; the return giving 11 is."
unfoldable pub next_moment : {m : Mode} → ℕ → State m → Res (Next m) → Moment m
next_moment n s (ok (go t)) = running (suc n) t
next_moment n s (ok finished) = over (end_in done (suc n) s) (finished_shot s)
next_moment n s (stop x) = over (end_in x n s) (shot s)
next_moment n s stuck = over (stuck_in n s) (shot s)

-- "before each step, 12 if steps = fuel": a run that is still on its way when its fuel is counted
abbrev pub end_of : {m : Mode} → Moment m → End
end_of (running n s) = end_in fuel_spent n s
end_of (over e x) = e

abbrev pub left_by : {m : Mode} → Moment m → Snapshot m
left_by (running n s) = shot s
left_by (over e x) = x

module _ (m : Mode) (g : Program) (memory output : ℕ) where
  -- "each step takes the state that the last one left"
  unfoldable pub advance : Moment m → Moment m
  advance (running n s) = next_moment n s (step g memory output s)
  advance (over e x) = over e x

  -- "Main's frame is opened first, at no step.", with no set, for main has no rights name; "17 before main opens gives 0, 0"
  unfoldable pub opened : (input : List ℕ) → State m
  opened input = state (frame 0 0 (settled_set m 0) (replicate (g.variables 0) empty)) [] [] input []

  unfoldable pub start : (input : List ℕ) → Moment m
  start input = cond (leb (g.variables 0 + 2) memory) (running 0 (opened input)) (over (stopped memory_full 0 [] 0 0) (snapshot [] []))

  -- "The state after n steps is the one in which n steps are counted (for 0, with main's frame open), or the one at the stop if that comes sooner."
  unfoldable pub trace : (input : List ℕ) → (n : ℕ) → Moment m
  trace input zero = start input
  trace input (suc n) = advance (trace input n)

  unfoldable pub run : (input : List ℕ) → (fuel : ℕ) → End
  run input fuel = end_of (trace input fuel)

  unfoldable pub state_after : (input : List ℕ) → (fuel n : ℕ) → Snapshot m
  state_after input fuel n = left_by (trace input (min n fuel))

-- "the output holds the words put, in order from its first word, and keeps its other words"
abbrev pub written : (old put : List ℕ) → List ℕ
written old put = put ++ drop (length put) old
