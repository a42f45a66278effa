-- A machine never leaves its program: a step keeps its state inside it.
use Prim.Native.Nat.{ℕ, zero, suc, ◌+◌, ◌<◌}
use mathlib.Core.Bool.{Bool, true, false, cond}
use mathlib.Core.List.{List, []}
use mathlib.Core.Option.{Option, none, some}
use lib.Dec.{leb}
use Rattle.model.specs.Outcome.{Stop, memory_full, Res, ok, stop, stuck, ◌>>=◌, ◌>>◌}
use Rattle.model.specs.Program.{Program}
use Rattle.model.specs.Modes.{Mode, plain, watched, SettledSet, amiss}
use Rattle.model.specs.Machine.{Cell, Object, Frame, frame, State, state, View, view, Next, go, finished, Effect, write, take, put, jump, skip, new_array, new_record, store, call, resume, finish, plan_array, plan_record, plan_fetch, plan_store, plan_size, plan_get, plan_set, plan_call, into_caller, to_caller, plan_return, gives, branch, plan, apply, step}
use Rattle.model.specs.Run.{stopped, snapshot, Moment, running, over, next_moment, advance, opened, start, trace}
use Rattle.model.specs.Inside.{At, Waiting, bottom, waits, Inside}
use Rattle.model.proofs.Formed.{Formed, FormedAt}
use Rattle.model.specs.declared.Operation.{Operation}
use Rattle.model.specs.declared.Operation.TheVariants.{Set, Add, Subtract, Less, JumpZero, Bind, Take, Put, NewArray, Fetch, Store, Size, NewRecord, GetSlot, SetSlot, Call, Return}

-- what holds of a result, where there is one
pub data Yields {A : Type 0} (P : A → Type 0) : Res A → Type 0 where
  yield : {a : A} → P a → Yields P (ok a)
  stops : {x : Stop} → Yields P (stop x)
  sticks : Yields P stuck

pub yielded : {A : Type 0} {P : A → Type 0} {a : A} → Yields P (ok a) → P a
yielded (yield p) = p

after : {A B : Type 0} {P : B → Type 0} (r : Res A) (f : A → Res B) → ((a : A) → Yields P (f a)) → Yields P (r >>= f)
unfolding ◌>>=◌
after (ok a) f k = k a
after (stop x) f k = stops
after stuck f k = sticks

behind : {A B : Type 0} {P : B → Type 0} (r : Res A) {q : Res B} → Yields P q → Yields P (r >> q)
unfolding ◌>>◌
behind (ok a) k = k
behind (stop x) k = stops
behind stuck k = sticks

then : {A B : Type 0} {P : A → Type 0} {Q : B → Type 0} {r : Res A} (f : A → Res B) → Yields P r → ((a : A) → P a → Yields Q (f a)) → Yields Q (r >>= f)
unfolding ◌>>=◌
then f (yield p) k = k _ p
then f stops k = stops
then f sticks k = sticks

abbrev pub NextInside : {m : Mode} → Program → Next m → Type 0
NextInside g (go t) = Inside g t
NextInside g finished = Unit {0}

abbrev pub MomentInside : {m : Mode} → Program → Moment m → Type 0
MomentInside g (running n t) = Inside g t
MomentInside g (over e x) = Unit {0}

no_kind : {A : Type 0} {P : A → Type 0} (m : Mode) → Yields P (amiss m)
unfolding amiss
no_kind plain = sticks
no_kind watched = stops

module _ (m : Mode) (g : Program) where
  -- where an effect of instruction i of procedure p goes
  abbrev pub Stays : (p i : ℕ) → Effect m → Type 0
  Stays p i (write a c) = suc i < g.instructions p
  Stays p i (take a c) = suc i < g.instructions p
  Stays p i (put n) = suc i < g.instructions p
  Stays p i (jump k) = k < g.instructions p
  Stays p i skip = suc i < g.instructions p
  Stays p i (new_array a e n r) = suc i < g.instructions p
  Stays p i (new_record a t n r) = suc i < g.instructions p
  Stays p i (store a j c) = suc i < g.instructions p
  Stays p i (call k z cs) = (k < g.procedures) × (suc i < g.instructions p)
  Stays p i (resume w) = Unit {0}
  Stays p i finish = Unit {0}

  module _ (p i : ℕ) (v : View m) where
    gives_stay : suc i < g.instructions p → (a n : ℕ) → Yields (Stays p i) (gives m g v a n)
    unfolding gives
    gives_stay h a n = after _ _ λ d. yield h

    branch_stays : suc i < g.instructions p → (n k : ℕ) → k < g.instructions p → Stays p i (branch m g v n k)
    unfolding branch
    branch_stays h zero k l = l
    branch_stays h (suc n) k l = h

    into_stays : (q : ℕ) (z : SettledSet m) (a : Option ℕ) (c : Option (Cell m)) → Yields (Stays p i) (into_caller m g v q z a c)
    unfolding into_caller
    into_stays q z none c = yield tt
    into_stays q z (some a) none = no_kind m
    into_stays q z (some a) (some c) = after _ _ λ d. yield tt

    caller_stays : (q : Option (ℕ × ℕ × SettledSet m)) (c : Option (Cell m)) → Yields (Stays p i) (to_caller m g v q c)
    unfolding to_caller
    caller_stays none c = yield tt
    caller_stays (some q) c = into_stays _ _ _ c

    pub plan_stays : (o : Operation) → FormedAt g p i o → Yields (Stays p i) (plan m g v o)
    unfolding plan plan_array plan_record plan_fetch plan_store plan_size plan_get plan_set plan_call plan_return
    plan_stays (Set a k) h = gives_stay h a k
    plan_stays (Add a b c) h = after _ _ λ n. gives_stay h a _
    plan_stays (Subtract a b c) h = after _ _ λ n. gives_stay h a _
    plan_stays (Less a b c) h = after _ _ λ n. gives_stay h a _
    plan_stays (JumpZero a k) h = after _ _ λ n. yield (branch_stays h.1 n k h.0)
    plan_stays (Bind a b) h = after _ _ λ d. yield h
    plan_stays (Take a) h = after _ _ λ n. after _ _ λ d. yield h
    plan_stays (Put a) h = after _ _ λ n. behind _ (yield h)
    plan_stays (NewArray a b) h = after _ _ λ n. behind _ (behind _ (after _ _ λ r. yield h))
    plan_stays (Fetch a b c) h = after _ _ λ x. after _ _ λ y. after _ _ λ o. after _ _ λ j. behind _ (behind _ (after _ _ λ e. after _ _ λ d. yield h))
    plan_stays (Store a b c) h = after _ _ λ x. after _ _ λ y. after _ _ λ o. after _ _ λ j. behind _ (behind _ (after _ _ λ z. after _ _ λ r. yield h))
    plan_stays (Size a b) h = after _ _ λ x. after _ _ λ o. behind _ (after _ _ λ d. yield h)
    plan_stays (NewRecord a) h = behind _ (after _ _ λ r. yield h.1)
    plan_stays (GetSlot a b k) h = after _ _ λ x. after _ _ λ o. behind _ (behind _ (after _ _ λ d. yield h.2))
    plan_stays (SetSlot a b k) h = after _ _ λ x. after _ _ λ o. behind _ (behind _ (after _ _ λ d. yield h.2))
    plan_stays (Call a b k) h = behind _ (after _ _ λ z. behind _ (after _ _ λ cs. yield h))
    plan_stays (Return a) h = behind _ (after _ _ λ c. caller_stays v.caller c)

  module _ (formed : Formed g) where
    apply_inside :
        {p i : ℕ} {fs : List (Frame m)} (z : SettledSet m) (vs : List (Cell m)) (os : List (Object m)) (input out : List ℕ) →
        At g p i → Waiting g fs → (e : Effect m) → Stays p i e → NextInside g (apply g (state (frame p i z vs) fs os input out) e)
    unfolding apply
    apply_inside z vs os input out a ws (write x c) h = (record { procedure = a.procedure; instruction = h }, ws)
    apply_inside z vs os input out a ws (take x c) h = (record { procedure = a.procedure; instruction = h }, ws)
    apply_inside z vs os input out a ws (put n) h = (record { procedure = a.procedure; instruction = h }, ws)
    apply_inside z vs os input out a ws (jump k) h = (record { procedure = a.procedure; instruction = h }, ws)
    apply_inside z vs os input out a ws skip h = (record { procedure = a.procedure; instruction = h }, ws)
    apply_inside z vs os input out a ws (new_array x e n r) h = (record { procedure = a.procedure; instruction = h }, ws)
    apply_inside z vs os input out a ws (new_record x t n r) h = (record { procedure = a.procedure; instruction = h }, ws)
    apply_inside z vs os input out a ws (store x j c) h = (record { procedure = a.procedure; instruction = h }, ws)
    apply_inside z vs os input out a ws (call k y cs) h =
        (record { procedure = h.0; instruction = formed.begins k h.0 }, waits (record { procedure = a.procedure; instruction = h.1 }) ws)
    apply_inside z vs os input out a bottom (resume w) h = tt
    apply_inside z vs os input out a (waits b ws) (resume w) h = (b, ws)
    apply_inside z vs os input out a ws finish h = tt

    pub step_inside : (memory output : ℕ) (t : State m) → Inside g t → Yields (NextInside g) (step g memory output t)
    unfolding step
    step_inside memory output (state (frame p i z vs) fs os input out) h =
        then _ (plan_stays p i (view memory output (state (frame p i z vs) fs os input out)) (g.operation p i) (formed.operations p i h.0.procedure h.0.instruction))
        λ e k. yield (apply_inside z vs os input out h.0 h.1 e k)

    pub opened_inside : (memory output : ℕ) (input : List ℕ) → Inside g (opened m g memory output input)
    unfolding opened
    opened_inside memory output input = (record { procedure = formed.main; instruction = formed.begins 0 formed.main }, bottom)

    -- ---- So no run does

    settle_inside : (n : ℕ) (t : State m) {r : Res (Next m)} → Yields (NextInside g) r → MomentInside g (next_moment n t r)
    unfolding next_moment
    settle_inside n t (yield {a = go u} p) = p
    settle_inside n t (yield {a = finished} p) = tt
    settle_inside n t stops = tt
    settle_inside n t sticks = tt

    advance_inside : (memory output : ℕ) (a : Moment m) → MomentInside g a → MomentInside g (advance m g memory output a)
    unfolding advance
    advance_inside memory output (running n t) h = settle_inside n t (step_inside memory output t h)
    advance_inside memory output (over e x) h = tt

    pub trace_inside : (memory output : ℕ) (input : List ℕ) (n : ℕ) → MomentInside g (trace m g memory output input n)
    unfolding trace start
    trace_inside memory output input zero = room (leb (g.variables 0 + 2) memory)
      where
        room : (b : Bool) → MomentInside g (cond b (running 0 (opened m g memory output input)) (over (stopped memory_full 0 [] 0 0) (snapshot [] [])))
        room true = opened_inside memory output input
        room false = tt
    trace_inside memory output input (suc n) = advance_inside memory output (trace m g memory output input n) (trace_inside memory output input n)
