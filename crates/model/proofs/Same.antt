-- Programs that are equal wherever they have a number run the same, on both machines: from a state inside a program its instructions read only numbers that
-- it has. For document 02's converter (S-6), rewriter of twin types (S-11) and joined sheets (S-13), whose results are such programs; SameRules.antt too.
use Prim.Native.Nat.{ℕ, zero, suc, pred, min, ◌+◌, ◌<◌, ◌≤◌}
use mathlib.Core.Path.{◌≡◌, refl, ap, ap₂, ◌∙◌, fun_ext}
use mathlib.Core.Bool.{◌||◌}
use mathlib.Core.List.{List, ◌++◌}
use mathlib.Core.Option.{Option, none, some}
use native.Mathlib.Omega.{arith}
use lib.Dec.{leb}
use Rattle.model.specs.Program.{Program}
use Rattle.model.specs.Qualified.{Qual}
use Rattle.model.specs.Generic.{own, read, uses, settles, settlings, some_uses}
use Rattle.model.specs.Refusal.{span, each}
use Rattle.model.specs.Rules.{optional, keeps, called, found_by}
use Rattle.model.specs.Outcome.{memory_full, Res, ok, ◌>>=◌, ◌>>◌, ensure}
use Rattle.model.specs.Modes.{Mode, SettledSet, in_frame, settle_set, demand}
use Rattle.model.specs.Machine.{Cell, Object, Frame, frame, State, state, View, caller_place, view, Effect, write, take, put, jump, skip, new_array, new_record, store, call, resume, finish, kept, declared_as, array_at, record_at, moved, give, integers, one_integer, plan_array, plan_record, plan_fetch, plan_store, plan_size, slot_there, plan_get, plan_set, settle_call, actual, actuals, plan_call, handed, into_caller, to_caller, plan_return, gives, branch, plan, apply, step}
use Rattle.model.specs.Run.{Moment, running, over, next_moment, end_of, left_by, advance, opened, start, trace, run, state_after}
use Rattle.model.specs.Inside.{At, Waiting, bottom, waits}
use Rattle.model.specs.Same.{Same}
use Rattle.model.specs.declared.Operation.{Operation}
use Rattle.model.specs.declared.Operation.TheVariants.{Set, Add, Subtract, Less, JumpZero, Bind, Take, Put, NewArray, Fetch, Store, Size, NewRecord, GetSlot, SetSlot, Call, Return}
use Rattle.model.proofs.Formed.{Formed, FormedAt, Operands, OperandsAt, BelowOrNone}
use Rattle.model.proofs.Inside.{Yields, yield, stops, sticks, MomentInside, Stays, plan_stays, trace_inside}

-- the frame that waits stands at an instruction of the program
abbrev CallerInside : (m : Mode) → Program → Option (ℕ × ℕ × SettledSet m) → Type 0
CallerInside m g none = Unit {0}
CallerInside m g (some c) = At g c.0 c.1

waiting_place : {m : Mode} {g : Program} {fs : List (Frame m)} → Waiting g fs → CallerInside m g (caller_place fs)
waiting_place bottom = tt
waiting_place (waits a ws) = a

-- what comes after a result is the same for each value that it can have
same_after :
    {A B : Type 0} {P : A → Type 0} {r : Res A} (f f' : A → Res B) → Yields P r → ((a : A) → P a → f a ≡ f' a) → (r >>= f) ≡ (r >>= f')
unfolding ◌>>=◌
same_after f f' (yield p) k = k _ p
same_after f f' stops k = refl
same_after f f' sticks k = refl

-- the variable in which a call keeps its result is below v
kept_below : (g : Program) (p : ℕ) (o : Operation) → OperandsAt g p o → BelowOrNone g p (kept o)
kept_below g p (Set a k) x = tt
kept_below g p (Add a b c) x = tt
kept_below g p (Subtract a b c) x = tt
kept_below g p (Less a b c) x = tt
kept_below g p (JumpZero a k) x = tt
kept_below g p (Bind a b) x = tt
kept_below g p (Take a) x = tt
kept_below g p (Put a) x = tt
kept_below g p (NewArray a b) x = tt
kept_below g p (Fetch a b c) x = tt
kept_below g p (Store a b c) x = tt
kept_below g p (Size a b) x = tt
kept_below g p (NewRecord a) x = tt
kept_below g p (GetSlot a b k) x = tt
kept_below g p (SetSlot a b k) x = tt
kept_below g p (Call a b k) x = x.0
kept_below g p (Return a) x = tt

-- ---- What a call settles

-- as many, and the same at each number
same_span : {A : Type 0} (f f' : ℕ → List A) (i n : ℕ) → ((k : ℕ) → k < i + n → f k ≡ f' k) → span f i n ≡ span f' i n
unfolding span
same_span f f' i zero e = refl
same_span f f' i (suc n) e = ap₂ ◌++◌ (e i (omega arith)) (same_span f f' (suc i) n (λ k l. e k (omega arith)))

pub same_each : {A : Type 0} {f f' : ℕ → List A} {n n' : ℕ} → n ≡ n' → ((k : ℕ) → k < n → f k ≡ f' k) → each n f ≡ each n' f'
same_each {A} {f} {f'} {n} e s = rw (← e) (same_span f f' 0 n (λ k l. s k (omega arith)))

same_some : (f f' : ℕ → Qual) (i n : ℕ) → ((k : ℕ) → k < i + n → f k ≡ f' k) → some_uses f i n ≡ some_uses f' i n
unfolding some_uses
same_some f f' i zero e = refl
same_some f f' i (suc n) e = ap₂ ◌||◌ (ap uses (e i (omega arith))) (same_some f f' (suc i) n (λ k l. e k (omega arith)))

module _ {g h : Program} (same : Same g h) (k : ℕ) (q : k < g.procedures) where
  pub same_need : (j : ℕ) → j < g.formals k → (called g k).need j ≡ (called h k).need j
  same_need j n = λ i. read (own (same.bound k q i)) (same.need k j q n i)

  pub same_uses : some_uses (called g k).need 0 (g.formals k) ≡ some_uses (called h k).need 0 (h.formals k)
  same_uses =
      same_some (called g k).need (called h k).need 0 (g.formals k) (λ j n. same_need j (omega arith)) ∙ ap (some_uses (called h k).need 0) (same.formals k q)

  pub same_found :
      (inner inner' : ℕ → Qual) (b : ℕ) → ((j : ℕ) → j < g.formals k → inner (b + j) ≡ inner' (b + j)) →
      found_by inner (called g k) b ≡ found_by inner' (called h k) b
  unfolding settlings
  same_found inner inner' b e = same_each (same.formals k q) (λ j n. ap₂ settles (same_need j n) (e j n))

module _ {g h : Program} (formed : Formed g) (operands : Operands g) (same : Same g h) where
  module _ (m : Mode) (v : View m) (l : v.procedure < g.procedures) where
    same_inner : (x : ℕ) → x < g.variables v.procedure → declared_as m g v x ≡ declared_as m h v x
    same_inner x n = λ i. read (in_frame m (same.bound v.procedure l i) v.set_held) (same.inner v.procedure x l n i)

    -- ---- A call

    -- only the callee's formals have a need
    same_actuals :
        (k b : ℕ) (z : SettledSet m) (j n : ℕ) → k < g.procedures → j + n ≤ g.formals k → actuals m g v k b z j n ≡ actuals m h v k b z j n
    unfolding actuals actual moved
    same_actuals k b z j zero q w = refl
    same_actuals k b z j (suc n) q w =
        let f = formed.formals k q in
        rw (same_actuals k b z (suc j) n q (omega arith), same.bound k q, same.need k j q (omega arith), same.owner k q, same.inner k j q (omega arith))

    same_call : (a b k : ℕ) → k < g.procedures → ((j : ℕ) → j < g.formals k → b + j < g.variables v.procedure) → plan_call m g v a b k ≡ plan_call m h v a b k
    unfolding plan_call settle_call
    same_call a b k q x i = do
      demand m (keeps (optional a) (same.result k q i))
      z ← settle_set m (same.bound k q i) (same_uses same k q i) (same_found same k q (declared_as m g v) (declared_as m h v) b (λ j n. same_inner (b + j) (x j n)) i)
      ensure memory_full (leb (same.variables k q i + 2) v.room)
      cs ← (same_actuals k b z 0 (g.formals k) q (omega arith) ∙ ap (actuals m h v k b z 0) (same.formals k q)) i
      ok (call k z cs)

    -- ---- A return

    same_handed : (a : Option ℕ) → handed m g v a ≡ handed m h v a
    unfolding handed
    same_handed none = refl
    same_handed (some a) = rw (same.bound v.procedure l, same.result v.procedure l)

    same_into :
        (p : ℕ) (z : SettledSet m) → p < g.procedures → (a : Option ℕ) → BelowOrNone g p a → (c : Option (Cell m)) →
        into_caller m g v p z a c ≡ into_caller m h v p z a c
    unfolding into_caller moved
    same_into p z q none b c = refl
    same_into p z q (some a) b none = refl
    same_into p z q (some a) b (some c) = rw (same.bound p q, same.inner p a q b)

    -- the instruction before the one that waits is there too
    same_caller : (w : Option (ℕ × ℕ × SettledSet m)) → CallerInside m g w → (c : Option (Cell m)) → to_caller m g v w c ≡ to_caller m h v w c
    unfolding to_caller
    same_caller none a c = refl
    same_caller (some w) a c =
        let p = w.0 in
        let j = pred w.1 in
        let q = a.procedure in
        let n = a.instruction in
        let b : j < g.instructions p = omega arith in
        same_into p w.2 q (kept (g.operation p j)) (kept_below g p (g.operation p j) (operands.named p j q b)) c
        ∙ ap (λ (o : Operation). into_caller m h v p w.2 (kept o) c) (same.operation p j q b)

    -- ---- One instruction

    module _ (w : CallerInside m g v.caller) where
      same_plan : (i : ℕ) (o : Operation) → FormedAt g v.procedure i o → OperandsAt g v.procedure o → plan m g v o ≡ plan m h v o
      unfolding plan plan_array plan_record plan_fetch plan_store plan_size plan_get plan_set plan_return integers one_integer gives give moved array_at record_at slot_there branch
      same_plan i (Set a k) f x = rw (same_inner a x)
      same_plan i (Add a b c) f x = rw (same_inner a x.0)
      same_plan i (Subtract a b c) f x = rw (same_inner a x.0)
      same_plan i (Less a b c) f x = rw (same_inner a x.0)
      same_plan i (JumpZero a k) f x = refl
      same_plan i (Bind a b) f x = rw (same_inner a x.0)
      same_plan i (Take a) f x = rw (same_inner a x)
      same_plan i (Put a) f x = refl
      same_plan i (NewArray a b) f x = rw (same_inner a x.0)
      same_plan i (Fetch a b c) f x = rw (same_inner a x.0, same_inner b x.1)
      same_plan i (Store a b c) f x = refl
      same_plan i (Size a b) f x = rw (same_inner a x.0)
      same_plan i (NewRecord a) f x =
          let o = g.owner v.procedure in
          rw (same.slots o f.0 x.1, same.named o f.0 x.1, same.owner v.procedure l, same_inner a x.0)
      same_plan i (GetSlot a b k) f x = rw (same.owner v.procedure l, same_inner a x.0)
      same_plan i (SetSlot a b k) f x = rw (same.slot (g.owner v.procedure) k f.0 x.2 f.1, same.bound v.procedure l, same.owner v.procedure l)
      same_plan i (Call a b k) f x = same_call a b k f.0 x.1
      same_plan i (Return a) f x =
          rw (same_handed (optional a), same.result v.procedure l, fun_ext (λ c. same_caller v.caller w c))

  module _ (m : Mode) where
    -- ---- One step

    module _ (p i : ℕ) (z : SettledSet m) (vs : List (Cell m)) (fs : List (Frame m)) (os : List (Object m)) (input out : List ℕ) where
      abbrev here : State m
      here = state (frame p i z vs) fs os input out

      same_apply : (e : Effect m) → Stays m g p i e → apply g here e ≡ apply h here e
      unfolding apply
      same_apply (write a c) x = refl
      same_apply (take a c) x = refl
      same_apply (put n) x = refl
      same_apply (jump k) x = refl
      same_apply skip x = refl
      same_apply (new_array a e n r) x = refl
      same_apply (new_record a t n r) x = refl
      same_apply (store a j c) x = refl
      same_apply (call k y cs) x = rw (same.variables k x.0, same.formals k x.0)
      same_apply (resume w) x = refl
      same_apply finish x = refl

      same_step : (memory output : ℕ) → At g p i → Waiting g fs → step g memory output here ≡ step h memory output here
      unfolding step
      same_step memory output a w =
          let v : View m = view memory output here in
          let f = formed.operations p i a.procedure a.instruction in
          let planned = same_plan m v a.procedure (waiting_place w) i (g.operation p i) f (operands.named p i a.procedure a.instruction) in
          same_after _ _ (plan_stays m g p i v (g.operation p i) f) (λ e k. ap ok (same_apply e k))
          ∙ ap (λ (r : Res (Effect m)). r >>= λ e. ok (apply h here e)) (planned ∙ ap (plan m h v) (same.operation p i a.procedure a.instruction))

    -- ---- The run

    module _ (memory output : ℕ) where
      same_advance : (a : Moment m) → MomentInside g a → advance m g memory output a ≡ advance m h memory output a
      unfolding advance
      same_advance (running n (state (frame p i z vs) fs os input out)) x = ap (next_moment n (here p i z vs fs os input out)) (same_step p i z vs fs os input out memory output x.0 x.1)
      same_advance (over e y) x = refl

      pub same_trace : (input : List ℕ) (n : ℕ) → trace m g memory output input n ≡ trace m h memory output input n
      unfolding trace start opened
      same_trace input zero = rw (same.variables 0 formed.main)
      same_trace input (suc n) = same_advance (trace m g memory output input n) (trace_inside m g formed memory output input n) ∙ ap (advance m h memory output) (same_trace input n)

      pub same_run : (input : List ℕ) (fuel : ℕ) → run m g memory output input fuel ≡ run m h memory output input fuel
      unfolding run
      same_run input fuel = ap end_of (same_trace input fuel)

      pub same_state_after : (input : List ℕ) (fuel n : ℕ) → state_after m g memory output input fuel n ≡ state_after m h memory output input fuel n
      unfolding state_after
      same_state_after input fuel n = ap left_by (same_trace input (min n fuel))
