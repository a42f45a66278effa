-- What holds of every run of any program, accepted or not: what the definitions of the machines promise by themselves.
use Prim.Native.Nat.{ℕ, zero, suc, ◌+◌, ◌-◌, ◌≤◌}
use mathlib.Core.Path.{◌≡◌, refl, sym, ap, ◌∙◌, subst}
use mathlib.Core.List.{List}
use native.Mathlib.Omega.{arith}
use lib.ListN.{length}
use Rattle.model.specs.Program.{Program}
use Rattle.model.specs.declared.Operation.{Operation}
use Rattle.model.specs.Outcome.{Stop, fuel_spent, wrong_kind, missing_right, Res, ok, stop, stuck}
use Rattle.model.specs.Modes.{Mode, plain, watched}
use Rattle.model.specs.Machine.{frame, State, state, View, plan, step}
use Rattle.model.specs.Run.{End, stopped, stuck_at, words_put, end_in, Snapshot, shot, Moment, running, over, next_moment, end_of, advance, trace, run}
use Rattle.model.proofs.Comes.{Comes, goes, stops, sticks}
use Rattle.model.proofs.Plans.{plan_comes}
use Rattle.model.proofs.Ends.{steps_of, Way, run_ended}

-- ---- The watched machine is never stuck, and the plain one never stops with 18 or 19

abbrev Goes : {A : Type 0} → Res A → Type 0
Goes (ok a) = Unit {0}
Goes (stop x) = Unit {0}
Goes stuck = ⊥

watched_goes : {A : Type 0} {P : A → Type 0} {r : Res A} → Comes watched P r → Goes r
watched_goes (goes p) = tt
watched_goes (stops c) = tt
watched_goes (sticks u) = u

-- whatever it sees, each instruction has an effect or a stop
pub watched_plan_not_stuck : (g : Program) (v : View watched) (op : Operation) → plan watched g v op ≡ stuck → ⊥
watched_plan_not_stuck g v op e = subst Goes e (watched_goes (plan_comes watched g v op))

-- so that no run of the watched machine ends stuck
pub watched_not_stuck :
    (g : Program) (memory output : ℕ) (input : List ℕ) (fuel n : ℕ) (put : List ℕ) (p i : ℕ) → run watched g memory output input fuel ≡ stuck_at n put p i → ⊥
watched_not_stuck g memory output input fuel n put p i e = subst (Way watched _) e (run_ended watched g memory output input fuel).way

-- the plain machine tests no kind
pub plain_not_wrong_kind :
    (g : Program) (memory output : ℕ) (input : List ℕ) (fuel n : ℕ) (put : List ℕ) (p i : ℕ) → run plain g memory output input fuel ≡ stopped wrong_kind n put p i → ⊥
plain_not_wrong_kind g memory output input fuel n put p i e = subst (Way plain _) e (run_ended plain g memory output input fuel).way

-- and no right
pub plain_not_missing_right :
    (g : Program) (memory output : ℕ) (input : List ℕ) (fuel n : ℕ) (put : List ℕ) (p i : ℕ) → run plain g memory output input fuel ≡ stopped missing_right n put p i → ⊥
plain_not_missing_right g memory output input fuel n put p i e = subst (Way plain _) e (run_ended plain g memory output input fuel).way

abbrev pub IsOver : {m : Mode} → Moment m → Type 0
IsOver (running n s) = ⊥
IsOver (over e x) = Unit {0}

module _ (m : Mode) (g : Program) (memory output : ℕ) (input : List ℕ) where
  -- ---- A run that is over stays as it ended

  pub over_stays : (e : End) (x : Snapshot m) (n : ℕ) → trace m g memory output input n ≡ over e x → (k : ℕ) → trace m g memory output input (k + n) ≡ over e x
  unfolding trace advance
  over_stays e x n h zero = let z : 0 + n ≡ n = omega arith in rw z h
  over_stays e x n h (suc k) = let z : suc k + n ≡ suc (k + n) = omega arith in rw (z, over_stays e x n h k)

  -- so that its end is the run's, whatever fuel is left
  pub over_run : (n fuel : ℕ) (a : Moment m) → trace m g memory output input n ≡ a → IsOver a → n ≤ fuel → run m g memory output input fuel ≡ end_of a
  unfolding run
  over_run n fuel (running k s) h o l = absurd o
  over_run n fuel (over e x) h o l = let z : fuel ≡ (fuel - n) + n = omega arith in rw (z, over_stays e x n h (fuel - n))

  -- ---- "A step that stops changes nothing and isn't counted": the run is over, with the steps counted so far, the words put and the place of the
  -- state in which it stops, and leaves the frames and objects of that state
  pub stop_changes_nothing :
      (n : ℕ) (s : State m) (x : Stop) → trace m g memory output input n ≡ running n s → step g memory output s ≡ stop x →
      (k : ℕ) → trace m g memory output input (k + suc n) ≡ over (end_in x n s) (shot s)
  unfolding trace advance next_moment
  stop_changes_nothing n s x h e k = over_stays (end_in x n s) (shot s) (suc n) (rw (h, e)) k

  -- ---- Fuel

  -- a run counts no more steps than its fuel
  pub steps_within_fuel : (fuel : ℕ) → steps_of (run m g memory output input fuel) ≤ fuel
  steps_within_fuel fuel = (run_ended m g memory output input fuel).within

  -- and stops with 12 only when it has counted all of it
  pub fuel_spent_whole : (fuel n : ℕ) (put : List ℕ) (p i : ℕ) → run m g memory output input fuel ≡ stopped fuel_spent n put p i → n ≡ fuel
  fuel_spent_whole fuel n put p i e =
      let w : steps_of (run m g memory output input fuel) ≡ fuel = subst (Way m _) e (run_ended m g memory output input fuel).way in
      sym (ap steps_of e) ∙ w

  -- not with 12
  abbrev Unspent : End → Type 0
  Unspent e = (n : ℕ) (put : List ℕ) (p i : ℕ) → e ≡ stopped fuel_spent n put p i → ⊥

  -- a run that does not end with 12 ends in the same way with any more fuel
  pub more_fuel :
      (fuel larger : ℕ) → fuel ≤ larger → ((n : ℕ) (put : List ℕ) (p i : ℕ) → run m g memory output input fuel ≡ stopped fuel_spent n put p i → ⊥) →
      run m g memory output input larger ≡ run m g memory output input fuel
  unfolding run
  more_fuel fuel larger l h =
      let e : larger ≡ (larger - fuel) + fuel = omega arith in
      rw e (stays (trace m g memory output input fuel) refl h)
    where
      stays : (a : Moment m) → trace m g memory output input fuel ≡ a → Unspent (end_of a) → end_of (trace m g memory output input ((larger - fuel) + fuel)) ≡ end_of a
      stays (running n (state (frame p i z vs) fs os rest put)) e u = absurd (u n put p i refl)
      stays (over x y) e u = rw (over_stays x y fuel e (larger - fuel))

  -- ---- The output

  -- the words put are never more than the output holds
  pub put_fits : (fuel : ℕ) → length (words_put (run m g memory output input fuel)) ≤ output
  put_fits fuel = (run_ended m g memory output input fuel).fit
