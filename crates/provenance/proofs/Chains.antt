-- From the link of one step to the chain behind a right, of any program: back to where it came from, step by step.
use Prim.Native.Nat.{ℕ, zero, suc, ◌+◌, ◌≤◌, ◌<◌, min}
use mathlib.Core.Path.{◌≡◌, refl, sym, subst}
use mathlib.Core.Bool.{Bool, true, false, cond}
use mathlib.Core.List.{List, []}
use native.Mathlib.Omega.{arith}
use lib.Dec.{eqb, leb, ltb}
use lib.ListN.{get_or, replicate}
use borrow.Author.Tests.{leb-true, leb-false, ltb-true, ltb-false, le-ltb}
use Rattle.model.specs.Program.{Program}
use Rattle.model.specs.Outcome.{Stop, memory_full, Res, stop}
use Rattle.model.specs.Modes.{watched}
use Rattle.model.specs.Machine.{Value, empty, State, find, view, Effect, Next, go, finished, operation_in, apply, step}
use Rattle.model.specs.Run.{End, stopped, Snapshot, snapshot, shot, Moment, running, over, next_moment, left_by, advance, opened, start, trace, state_after}
use Rattle.provenance.specs.Location.{Location, variable, cell, variables_at, content}
use Rattle.provenance.specs.Origin.{Origin, stays, given_up, made, bound_from, amplified, origin}
use Rattle.provenance.specs.Chain.{Chain, nowhere, made_in, amplified_in, bound_in, linked, if_made, depth_of, next_origin, chain}
use Rattle.provenance.specs.Claim.{Carries, Since, Traces, RightsTraced}
use Rattle.model.proofs.Comes.{Comes, goes, stops, sticks, and_with}
use Rattle.model.proofs.Planned.{Planned}
use Rattle.model.proofs.Plans.{plan_comes}
use Rattle.provenance.proofs.Locations.{blank_carries, blank_row}
use Rattle.provenance.proofs.Links.{Says}
use Rattle.provenance.proofs.Steps.{left_after, apply_says}

module _ (g : Program) (memory output : ℕ) where
  -- ---- One step of a run

  -- a step that is made applies what its instruction planned
  abbrev Made : State watched → Next watched → Type 0
  Made s t = (e : Effect watched) × Planned watched g (view memory output s) (operation_in g s) e × (apply g s e ≡ t)

  step_comes : (s : State watched) → Comes watched (Made s) (step g memory output s)
  unfolding step
  step_comes s = and_with (plan_comes watched g (view memory output s) (operation_in g s)) λ e h. goes (e, h, refl)

  made_says :
      (s : State watched) (t : Next watched) → Made s t → (x : Value) (i : ℕ) (l : Location) → Carries x i (content (left_after s t) l) →
      Says g (shot s) (left_after s t) x i l (origin g (view memory output s) (depth_of s) (operation_in g s) l)
  made_says s t h x i l =
      subst (λ (u : Next watched). Carries x i (content (left_after s u) l) → Says g (shot s) (left_after s u) x i l (origin g (view memory output s) (depth_of s) (operation_in g s) l))
      h.2 (apply_says g memory output s h.1 x i l)

  result_says :
      (n : ℕ) (s : State watched) {r : Res (Next watched)} → Comes watched (Made s) r → (x : Value) (i : ℕ) (l : Location) →
      Carries x i (content (left_by (next_moment n s r)) l) →
      Says g (shot s) (left_by (next_moment n s r)) x i l (if_made r (origin g (view memory output s) (depth_of s) (operation_in g s) l))
  unfolding next_moment if_made
  result_says n s (goes {a = go t} h) x i l = made_says s (go t) h x i l
  result_says n s (goes {a = finished} h) x i l = made_says s finished h x i l
  result_says n s (stops c) x i l = λ h. h
  result_says n s (sticks u) x i l = λ h. h

  moment_says :
      (a : Moment watched) (x : Value) (i : ℕ) (l : Location) → Carries x i (content (left_by (advance watched g memory output a)) l) →
      Says g (left_by a) (left_by (advance watched g memory output a)) x i l (next_origin g memory output a l)
  unfolding advance next_origin
  moment_says (running n s) x i l = result_says n s (step_comes s) x i l
  moment_says (over e s) x i l = λ h. h

  -- ---- Before the first step nothing is filled

  opened_blank : (input : List ℕ) {x : Value} {i : ℕ} (l : Location) → Carries x i (content (shot (opened watched g memory output input)) l) → ⊥
  unfolding opened content variables_at find
  opened_blank input {x} {i} (variable d y) h = in_frame_at (eqb d 0) h
    where
      in_frame_at : (b : Bool) → Carries x i (get_or (cond b (replicate (g.variables 0) empty) []) y empty) → ⊥
      in_frame_at true c = blank_carries (subst (Carries x i) (blank_row (g.variables 0) y) c)
      in_frame_at false c = blank_carries c
  opened_blank input (cell a j) h = blank_carries h

  none_blank : {x : Value} {i : ℕ} (l : Location) → Carries x i (content (snapshot [] []) l) → ⊥
  unfolding content variables_at find
  none_blank (variable d y) h = blank_carries h
  none_blank (cell a j) h = blank_carries h

  start_blank : (input : List ℕ) {x : Value} {i : ℕ} (l : Location) → Carries x i (content (left_by (start watched g memory output input)) l) → ⊥
  unfolding start
  start_blank input {x} {i} l = room (leb (g.variables 0 + 2) memory)
    where
      room :
          (b : Bool) →
          Carries x i (content (left_by (cond b (running 0 (opened watched g memory output input)) (over (stopped memory_full 0 [] 0 0) (snapshot [] [])))) l) → ⊥
      room true = opened_blank input l
      room false = none_blank l

  module _ (input : List ℕ) (fuel : ℕ) where
    abbrev after : ℕ → Snapshot watched
    after n = state_after watched g memory output input fuel n

    -- ---- Step n + 1 of the run

    abbrev origin_after : ℕ → Location → Origin
    origin_after n l = cond (ltb n fuel) (next_origin g memory output (trace watched g memory output input n) l) stays

    -- with fuel left, and without
    after_is : (n : ℕ) → n ≤ fuel → after n ≡ left_by (trace watched g memory output input n)
    unfolding state_after
    after_is n l = let e : min n fuel ≡ n = omega arith in rw e

    after_spent : (n : ℕ) → fuel ≤ n → after (suc n) ≡ after n
    unfolding state_after
    after_spent n l = let e : min (suc n) fuel ≡ min n fuel = omega arith in rw e

    made_step_says : (n : ℕ) (x : Value) (i : ℕ) (l : Location) → n < fuel → Carries x i (content (after (suc n)) l) →
        Says g (after n) (after (suc n)) x i l (next_origin g memory output (trace watched g memory output input n) l)
    unfolding trace
    made_step_says n x i l f =
        subst (λ (s : Snapshot watched). Carries x i (content (after (suc n)) l) → Says g s (after (suc n)) x i l (next_origin g memory output (trace watched g memory output input n) l))
        (sym (after_is n (omega (arith, f))))
        (subst (λ (t : Snapshot watched). Carries x i (content t l) → Says g (left_by (trace watched g memory output input n)) t x i l (next_origin g memory output (trace watched g memory output input n) l))
        (sym (after_is (suc n) (omega (arith, f)))) (moment_says (trace watched g memory output input n) x i l))

    step_says : (n : ℕ) (x : Value) (i : ℕ) (l : Location) → Carries x i (content (after (suc n)) l) → Says g (after n) (after (suc n)) x i l (origin_after n l)
    step_says n x i l h = fueled (ltb n fuel) refl
      where
        fueled : (b : Bool) → ltb n fuel ≡ b → Says g (after n) (after (suc n)) x i l (cond b (next_origin g memory output (trace watched g memory output input n) l) stays)
        fueled true e = made_step_says n x i l (ltb-true n fuel e) h
        fueled false e = subst (λ (s : Snapshot watched). Carries x i (content s l)) (after_spent n (ltb-false n fuel e)) h

    -- ---- The chain

    module _ (x : Value) (i : ℕ) where
      abbrev Held : ℕ → Location → Type 0
      Held n l = Carries x i (content (after n) l)

      now : (n : ℕ) (l : Location) → Held (suc n) l → Since g after x i (suc n) (suc n) l
      now n l h =
          record {
            counted = omega arith;
            among = omega arith;
            throughout = λ j a b. let e : suc n ≡ j = omega arith in subst (λ (k : ℕ). Held k l) e h;
          }

      since_later : (k n : ℕ) (l : Location) → Held (suc n) l → Since g after x i k n l → Since g after x i k (suc n) l
      since_later k n l h s = record { counted = s.counted; among = let b = s.among in omega arith; throughout = λ j a b. either j a b (leb j n) refl }
        where
          either : (j : ℕ) → k ≤ j → j ≤ suc n → (b : Bool) → leb j n ≡ b → Held j l
          either j a c true e = s.throughout j a (leb-true j n e)
          either j a c false e = let f = leb-false j n e in let d : suc n ≡ j = omega arith in subst (λ (m : ℕ). Held m l) d h

      later : (n : ℕ) (l : Location) (c : Chain) → Held (suc n) l → Traces g after x i n l c → Traces g after x i (suc n) l c
      later n l nowhere h t = t
      later n l (made_in k) h t = (since_later k n l h t.0, t.1)
      later n l (amplified_in k p j) h t = (since_later k n l h t.0, t.1)
      later n l (bound_in k from through c) h t = (since_later k n l h t.0, t.1, t.2)

      by_origin :
          (n : ℕ) (l : Location) (o : Origin) → ((m : Location) → Held n m → Traces g after x i n m (chain g memory output input fuel n m)) →
          Held (suc n) l → Says g (after n) (after (suc n)) x i l o → Traces g after x i (suc n) l (linked (suc n) (chain g memory output input fuel n) l o)
      unfolding linked
      by_origin n l stays ih h w = later n l (chain g memory output input fuel n l) h (ih l w)
      by_origin n l given_up ih h w = absurd w
      by_origin n l made ih h w = (now n l h, w)
      by_origin n l (bound_from from through) ih h w = (now n l h, w.0, ih from w.1)
      by_origin n l (amplified p j) ih h w = (now n l h, w)

      traced : (n : ℕ) (l : Location) → Held n l → Traces g after x i n l (chain g memory output input fuel n l)
      unfolding chain trace
      traced zero l h = absurd (start_blank input l (subst (λ (s : Snapshot watched). Carries x i (content s l)) (after_is 0 (omega arith)) h))
      traced (suc n) l h = by_origin n l (origin_after n l) (traced n) h (step_says n x i l h)

  -- ---- The steps are those that were made: a chain has no link of any other

  module _ (input : List ℕ) (fuel n : ℕ) (l : Location) where
    unlinked : (b : Bool) → linked (suc n) (chain g memory output input fuel n) l (cond b stays stays) ≡ chain g memory output input fuel n l
    unfolding linked
    unlinked true = refl
    unlinked false = refl

    -- "A step that stops changes nothing"
    pub stop_no_link :
        (s : State watched) (x : Stop) → trace watched g memory output input n ≡ running n s → step g memory output s ≡ stop x →
        chain g memory output input fuel (suc n) l ≡ chain g memory output input fuel n l
    unfolding chain next_origin if_made linked
    stop_no_link s x h e = rw (h, e) (unlinked (ltb n fuel))

    -- nor when the run is over
    pub over_no_link :
        (e : End) (s : Snapshot watched) → trace watched g memory output input n ≡ over e s →
        chain g memory output input fuel (suc n) l ≡ chain g memory output input fuel n l
    unfolding chain next_origin linked
    over_no_link e s h = rw h (unlinked (ltb n fuel))

    -- nor when the fuel is spent
    pub spent_no_link : fuel ≤ n → chain g memory output input fuel (suc n) l ≡ chain g memory output input fuel n l
    unfolding chain linked
    spent_no_link h = rw (le-ltb n fuel h)

-- every right that the watched machine carries, of any program, accepted or not
pub rights_traced : (g : Program) (memory output : ℕ) (input : List ℕ) (fuel : ℕ) → RightsTraced g memory output input fuel
rights_traced g memory output input fuel n l v i h = traced g memory output input fuel v i n l h
