-- From one step to the whole run: condition 3.
use Prim.Native.Nat.{ℕ, zero, suc, ◌+◌, min}
use mathlib.Core.Path.{◌≡◌, refl, sym, subst, ap}
use mathlib.Core.Bool.{Bool, true, false, cond}
use mathlib.Core.List.{List, []}
use lib.Dec.{leb}
use lib.ListN.{length, length-replicate}
use Rattle.model.specs.Rights.{within, has}
use Rattle.model.specs.Generic.{Bound, least}
use Rattle.model.specs.Program.{Program, Record}
use Rattle.model.specs.Refusal.{Accepted, verdict}
use Rattle.model.specs.Rules.{access_rules}
use Rattle.model.specs.Outcome.{Stop, done, fuel_spent, memory_full, Res}
use Rattle.model.specs.Modes.{plain, watched}
use Rattle.model.specs.Machine.{empty, Object, State, Next}
use Rattle.model.specs.Run.{End, stopped, stuck_at, words_put, end_in, Snapshot, snapshot, shot, finished_shot, Moment, running, over, next_moment, end_of, left_by, advance, opened, start, trace, run, state_after, written}
use Rattle.model.specs.Claim.{heads, RegularStop, Regular, Typed, Condition3}
use Rattle.model.proofs.Formed.{Formed}
use Rattle.model.proofs.Read.{Good}
use Rattle.model.proofs.Allowed.{facts, typed_in}
use Rattle.model.proofs.Relate.{row_blank, Objects, objects_nil, bottom, StateRel, states, NextRel, nexts, ends}
use Rattle.model.proofs.Agree.{Agree, both, halt}
use Rattle.model.proofs.Cases.{Sound}
use Rattle.model.proofs.Steps.{step_ok}
use Rattle.model.proofs.Typing.{none_typed, state_typed}

-- ---- The trace

-- the same end, and a regular one
record Same (e e' : End) : Type 0 where
  same : e ≡ e'
  regular : Regular e

end_same : {g : Program} (x : Stop) → RegularStop x → (n : ℕ) {t : State watched} {t' : State plain} → StateRel g t t' → Same (end_in x n t) (end_in x n t')
end_same x c n (states l v st ob) = record { same = refl; regular = c }

-- what is left at an end: related states still, or the objects alone
data Left (g : Program) : Snapshot watched → Type 0 where
  live : {t : State watched} {t' : State plain} → StateRel g t t' → Left g (shot t)
  none_live : {os : List (Object watched)} {os' : List (Object plain)} → Objects g (heads os) os os' → Left g (snapshot [] os)

-- two runs on their way in related states with as many steps counted, or over with the same end
data MomentRel (g : Program) : Moment watched → Moment plain → Type 0 where
  both_running : {n : ℕ} {t : State watched} {t' : State plain} → StateRel g t t' → MomentRel g (running n t) (running n t')
  both_over : {e e' : End} {x : Snapshot watched} {x' : Snapshot plain} → Same e e' → Left g x → MomentRel g (over e x) (over e' x')

finished_left : {g : Program} {t : State watched} {t' : State plain} → StateRel g t t' → Left g (finished_shot t)
finished_left (states l v st ob) = none_live ob

settle_ok :
    {g : Program} (n : ℕ) {t : State watched} {t' : State plain} {r : Res (Next watched)} {r' : Res (Next plain)} →
    StateRel g t t' → Agree (NextRel g) r r' → MomentRel g (next_moment n t r) (next_moment n t' r')
unfolding next_moment
settle_ok n h (both (nexts r)) = both_running r
settle_ok n h (both ends) = both_over (end_same done tt (suc n) h) (finished_left h)
settle_ok n h (halt {s = x} c) = both_over (end_same x c n h) (live h)

end_ok : {g : Program} {a : Moment watched} {b : Moment plain} → MomentRel g a b → Same (end_of a) (end_of b)
end_ok (both_running {n} h) = end_same fuel_spent tt n h
end_ok (both_over e l) = e

left_ok : {g : Program} {a : Moment watched} {b : Moment plain} → MomentRel g a b → Left g (left_by a)
left_ok (both_running h) = live h
left_ok (both_over e l) = l

module _ (g : Program) (s : Sound g) (memory output : ℕ) where
  advance_ok : {a : Moment watched} {b : Moment plain} → MomentRel g a b → MomentRel g (advance watched g memory output a) (advance plain g memory output b)
  unfolding advance
  advance_ok (both_running {n} h) = settle_ok n h (step_ok g s memory output h)
  advance_ok (both_over e l) = both_over e l

  -- main has no rights name, so that nothing is asked of its set
  main_good : Good (g.bound 0) 0
  main_good = subst (λ (b : Bound). Good b 0) (sym s.formed.main_bound) (unfold least within has in (record { enough = refl; shut = refl }))

  start_ok : (input : List ℕ) → MomentRel g (start watched g memory output input) (start plain g memory output input)
  unfolding start opened
  start_ok input = room (leb (g.variables 0 + 2) memory)
    where
      opened_ok : StateRel g (opened watched g memory output input) (opened plain g memory output input)
      opened_ok =
          states (s.formed.begins 0 s.formed.main)
          (record { procedure = s.formed.main; good = main_good; size = length-replicate (g.variables 0) empty; row = row_blank (typed_in g 0 0) (g.variables 0) }) bottom objects_nil

      room : (b : Bool) →
          MomentRel g
          (cond b (running 0 (opened watched g memory output input)) (over (stopped memory_full 0 [] 0 0) (snapshot [] [])))
          (cond b (running 0 (opened plain g memory output input)) (over (stopped memory_full 0 [] 0 0) (snapshot [] [])))
      room true = both_running opened_ok
      room false = both_over (record { same = refl; regular = tt }) (none_live {os = []} {os' = []} objects_nil)

  trace_ok : (input : List ℕ) (n : ℕ) → MomentRel g (trace watched g memory output input n) (trace plain g memory output input n)
  unfolding trace
  trace_ok input zero = start_ok input
  trace_ok input (suc n) = advance_ok (trace_ok input n)

  run_ok : (input : List ℕ) (fuel : ℕ) → Same (run watched g memory output input fuel) (run plain g memory output input fuel)
  unfolding run
  run_ok input fuel = end_ok (trace_ok input fuel)

  -- what holds of every related state, and of the objects that are left at the end, holds after every number of steps
  pub state_after_ok :
      (P : Snapshot watched → Type 0) → ((t : State watched) (t' : State plain) → StateRel g t t' → P (shot t)) →
      ((os : List (Object watched)) (os' : List (Object plain)) → Objects g (heads os) os os' → P (snapshot [] os)) →
      (input : List ℕ) (fuel n : ℕ) → P (state_after watched g memory output input fuel n)
  unfolding state_after
  state_after_ok P in-states in-objects input fuel n = of_left (left_ok (trace_ok input (min n fuel)))
    where
      of_left : {x : Snapshot watched} → Left g x → P x
      of_left (live h) = in-states _ _ h
      of_left (none_live ob) = in-objects _ _ ob

regular_not_stuck : (e : End) → Regular e → (n : ℕ) (put : List ℕ) (p i : ℕ) → e ≡ stuck_at n put p i → ⊥
regular_not_stuck e r n put p i h = subst Regular h r

-- Under the wider order of S-3 too: whoever holds a widened array lacks store, and no movement gives store back (`array_move` of Fits), so that nothing is
-- stored through it that the array's own element does not declare (`store_ok` of Cases), and what is fetched from it is bound to what its holder declares.
pub condition3 :
    (at : Record → ℕ) (g : Program) → Formed g → verdict (access_rules at g) ≡ Accepted → (memory : ℕ) (input output : List ℕ) (fuel : ℕ) →
    Condition3 g memory input output fuel
condition3 at g f a memory input output fuel =
    let s : Sound g = record { formed = f; facts = facts at g f a } in
    let z = run_ok g s memory (length output) input fuel in
    record {
      not_stuck = regular_not_stuck _ (subst Regular z.same z.regular);
      agree = z.same;
      same_output = ap (λ (e : End). written output (words_put e)) z.same;
      regular = z.regular;
      typed = state_after_ok g s memory (length output) (Typed g) (λ t t'. state_typed g) (λ os os'. none_typed g os) input fuel;
    }
