-- A step: related states are seen alike, so that their plans agree, and a related effect leaves related states.
use Prim.Native.Nat.{ℕ, ◌+◌, ◌-◌, ◌<◌}
use mathlib.Core.Path.{◌≡◌, refl, ◌∙◌}
use mathlib.Core.Bool.{true}
use mathlib.Core.List.{List, [], ◌∷◌, ◌++◌}
use mathlib.Core.Option.{Option, none, some}
use native.Mathlib.Omega.{arith}
use lib.ListN.{length, get_or, set, replicate, length-set, length-append, length-replicate}
use Rattle.model.specs.Rights.{Rights}
use Rattle.model.specs.Qualified.{Qual}
use Rattle.model.specs.Program.{Program}
use Rattle.model.specs.Modes.{plain, watched, fits}
use Rattle.model.specs.Machine.{object, Cell, empty, filled, Object, Frame, frame, State, state, Head, head_of, cell-of, kind-of-head, object-units, frame-units, find, caller-place, first_of, view, Effect, plan, given_back, apply, step}
use Rattle.model.specs.Claim.{heads}
use Rattle.model.proofs.Allowed.{typed-in}
use Rattle.model.proofs.Relate.{Fit, fit, Granted, CellRel, values, row_get, row-set, row-length, row-blank, row_more, ObjectRel, arrays, records, Objects, Live, Stack, bottom, waits, StateRel, states, NextRel, nexts, ends, live-up, objects-up, stack-up, objects-units, stack-units, stack-place}
use Rattle.model.proofs.Table.{seen, objects-more, objects-update, grows-append, grows-update, found-new}
use Rattle.model.proofs.Agree.{Agree, both, with-rel}
use Rattle.model.proofs.Cases.{Sound, EffectRel, writes, takes, puts, jumps, skips, new-arrays, new-records, stores, calls, resumes, overs, Handed, Caller, no-caller, a-caller, plan-ok}

-- ---- The effect

module _ {g : Program} {h : ℕ → Head watched} where
  live-set :
      {p : ℕ} {z : Rights} {vs : List (Cell watched)} {vs' : List (Cell plain)} → Live g h p z vs vs' →
      (a : ℕ) {c : Cell watched} {c' : Cell plain} → CellRel h (typed-in g p z a) c c' → Live g h p z (set vs a c) (set vs' a c')
  live-set {vs} l a {c} w = record { procedure = l.procedure; good = l.good; size = length-set vs a c ∙ l.size; row = row-set l.row a w }

-- a new object fits where its kind does
new-fit : (os : List (Object watched)) (o : Object watched) (q : Qual) → fits q (kind-of-head (head_of (some o))) ≡ true → Fit (heads (os ++ (o ∷ []))) q (object (object-units os))
new-fit os o q w = fit (rw (found-new os o) w)

-- a new object, made by both machines, and the variable that holds it
new_ok :
    {g : Program} {p i : ℕ} {z : Rights} {vs : List (Cell watched)} {vs' : List (Cell plain)} {fs : List (Frame watched)} {fs' : List (Frame plain)}
    {os : List (Object watched)} {os' : List (Object plain)} {input put : List ℕ} (a : ℕ) {o : Object watched} {o' : Object plain} {r : Rights} {r' : Unit {0}} →
    i < g.instructions p → Live g (heads os) p z vs vs' → Stack g (heads os) p z fs fs' → Objects g (heads os) os os' →
    fits (typed-in g p z a) (kind-of-head (head_of (some o))) ≡ true → Granted (typed-in g p z a) r r' → ObjectRel g (heads (os ++ (o ∷ []))) o o' →
    StateRel g
    (state (frame p i z (set vs a (filled (object (object-units os)) r))) fs (os ++ (o ∷ [])) input put)
    (state (frame p i tt (set vs' a (filled (object (object-units os')) r'))) fs' (os' ++ (o' ∷ [])) input put)
new_ok {g} {p} {z} {os} a {o} l v st ob w t n =
    let up = grows-append os (o ∷ []) in
    rw (← objects-units ob)
    (states l (live-set (live-up up v) a (values (new-fit os o (typed-in g p z a) w) t)) (stack-up up st) (objects-more (objects-up up ob) n))

module _ (g : Program) (s : Sound g) where
  resume-ok :
      {k : ℕ} {y : Rights} {fs : List (Frame watched)} {fs' : List (Frame plain)} {os : List (Object watched)} {os' : List (Object plain)} (input put : List ℕ) →
      Stack g (heads os) k y fs fs' → Objects g (heads os) os os' → (w : Option (ℕ × Cell watched)) (w' : Option (ℕ × Cell plain)) → Handed g (heads os) (caller-place fs) w w' →
      NextRel g (given_back w fs os input put) (given_back w' fs' os' input put)
  resume-ok input put bottom ob w w' m = absurd m
  resume-ok input put (waits l e kept v st) ob none none m = nexts (states l v st ob)
  resume-ok input put (waits l e kept v st) ob (some x) (some x') m = rw (← m.0) (nexts (states l (live-set v x.0 m.1) st ob))
  resume-ok input put (waits l e kept v st) ob none (some x') m = absurd m
  resume-ok input put (waits l e kept v st) ob (some x) none m = absurd m

  called-size : (k : ℕ) (cs : List (Cell watched)) → k < g.procedures → length cs ≡ g.formals k → length (cs ++ replicate (g.variables k - g.formals k) empty) ≡ g.variables k
  called-size k cs lk e =
      let n = g.variables k - g.formals k in
      omega (arith, length-append cs (replicate n empty), length-replicate {A = Cell watched} n empty, s.formed.formals k lk)

  apply-ok :
      {p i : ℕ} {z : Rights} {vs : List (Cell watched)} {vs' : List (Cell plain)} {fs : List (Frame watched)} {fs' : List (Frame plain)}
      {os : List (Object watched)} {os' : List (Object plain)} (input put : List ℕ) {e : Effect watched} {e' : Effect plain} →
      Live g (heads os) p z vs vs' → Stack g (heads os) p z fs fs' → Objects g (heads os) os os' → EffectRel g (heads os) p z i (caller-place fs) e e' →
      NextRel g (apply g (state (frame p i z vs) fs os input put) e) (apply g (state (frame p i tt vs') fs' os' input put) e')
  unfolding apply
  apply-ok input put v st ob (writes {a} l w) = nexts (states l (live-set v a w) st ob)
  apply-ok input put v st ob (takes {a} l w) = nexts (states l (live-set v a w) st ob)
  apply-ok input put v st ob (puts l) = nexts (states l v st ob)
  apply-ok input put v st ob (jumps l) = nexts (states l v st ob)
  apply-ok input put v st ob (skips l) = nexts (states l v st ob)
  apply-ok input put v st ob (new-arrays {a} {n} {e} l m w t) = nexts (new_ok a l v st ob w t (arrays m (row-blank (λ x. e) n)))
  apply-ok input put v st ob (new-records {a} {t = u} l m w t) =
      nexts (new_ok a l v st ob w t (records m (length-replicate (g.slots u) empty) (row-blank (g.slot u) (g.slots u))))
  apply-ok {os} input put v st ob (stores {a} {j} {c} l t) =
      let up = grows-update os a j c in
      nexts (states l (live-up up v) (stack-up up st) (objects-up up (objects-update ob a j t)))
  apply-ok input put v st ob (calls {k} {cs} l lk e good kept n r) =
      nexts (states (s.formed.begins k lk) (record { procedure = lk; good = good; size = called-size k cs lk n; row = row_more r (g.variables k - g.formals k) }) (waits l e kept v st) ob)
  apply-ok input put v st ob (resumes {w} {w'} m) = resume-ok input put st ob w w' m
  apply-ok input put v st ob overs = ends

  -- ---- The step

  caller-of : {h : ℕ → Head watched} {k : ℕ} {y : Rights} {fs : List (Frame watched)} {fs' : List (Frame plain)} → Stack g h k y fs fs' → Caller g k y (caller-place fs)
  caller-of bottom = no-caller
  caller-of (waits l e kept v st) = a-caller e kept

  pub step_ok : (memory output : ℕ) {t : State watched} {t' : State plain} → StateRel g t t' → Agree (NextRel g) (step g memory output t) (step g memory output t')
  unfolding step
  step_ok memory output (states {p} {i} {z} {vs} {vs'} {fs} {fs'} {os} {os'} {input} {put} l v st ob) =
      with-rel planned λ e e' r. both (apply-ok input put v st ob r)
    where
      room-same : memory - (frame-units (frame p i z vs ∷ fs) + object-units os) ≡ memory - (frame-units (frame p i tt vs' ∷ fs') + object-units os')
      room-same = unfold frame-units in (rw (row-length v.row, stack-units st, objects-units ob))

      planned :
          Agree (EffectRel g (heads os) p z i (caller-place fs))
          (plan watched g (view memory output (state (frame p i z vs) fs os input put)) (g.operation p i))
          (plan plain g (view memory output (state (frame p i tt vs') fs' os' input put)) (g.operation p i))
      planned =
          rw (← stack-place st, ← room-same)
          (plan-ok g p z i (caller-place fs) (λ x. get_or vs x empty) (λ x. get_or vs' x empty) (heads os) (λ a. head_of (find os' a)) (λ a. cell-of (find os a)) (λ a. cell-of (find os' a))
          _ (output - length put) (first_of input) (row_get v.row) (seen ob) s (caller-of st) v.good v.procedure l (g.operation p i) refl
          (s.formed.operations p i v.procedure l) (s.facts.allowed p i v.procedure l z v.good))
