-- What the plan of an instruction can come to, of any program, accepted or not, and in either mode: the watched machine is not stuck, the plain one does not stop
-- with a wrong kind or a missing right, neither stops for fuel, a word is put only where the output has room, and each value in an effect is one that the
-- instruction found (Planned). Each proof repeats the plan line by line.
use Prim.Native.Nat.{ℕ, zero, suc, pred, ◌+◌, ◌<◌}
use mathlib.Core.Path.{◌≡◌, refl, sym, ap, subst}
use mathlib.Core.Bool.{Bool, true, false}
use mathlib.Core.List.{List, ◌∷◌}
use mathlib.Core.Option.{Option, none, some}
use native.Mathlib.Omega.{arith}
use lib.ListN.{get_or}
use borrow.Author.Tests.{ltb-true}
use Rattle.model.specs.Qualified.{Qual, element}
use Rattle.model.specs.Program.{Program}
use Rattle.model.specs.Rules.{optional}
use Rattle.model.specs.declared.Operation.{Operation}
use Rattle.model.specs.declared.Operation.TheVariants.{Set, Add, Subtract, Less, JumpZero, Bind, Take, Put, NewArray, Fetch, Store, Size, NewRecord, GetSlot, SetSlot, Call, Return}
use Rattle.model.specs.Outcome.{past_end, input_ended, output_full, memory_full}
use Rattle.model.specs.Modes.{Mode, ElementInfo, SettledSet, carried}
use Rattle.model.specs.Machine.{Value, word, object, Cell, empty, filled, Head, array_head, record_head, no_head, View, write, resume, held, as_integer, array_head_of, record_head_of, kept, read_in, declared_as, array_at, record_at, moved, give, integers, one_integer, plan_array, plan_record, plan_fetch, plan_store, plan_size, slot_there, plan_get, plan_set, settle_call, actual, actuals, plan_call, handed, into_caller, to_caller, plan_return, gives, branch, plan}
use Rattle.model.proofs.Comes.{Comes, goes, stops, Any, and_with, and_then, and_do, and_map, and_test, found_comes, amiss_comes, demand_comes, licence_comes, is_of_comes, bind_comes, settle_comes, raise_comes, element_comes, result_comes}
use Rattle.model.proofs.Planned.{Moved, Given, Passed, AllPassed, Handed, Resumed, Planned, sets, adds, subtracts, compares, jumps, skips, binds, takes, puts, new_arrays, fetches, stores, sizes, new_records, gets_slot, sets_slot, calls, finishes, returns}

-- ---- What an instruction reads

module _ {m : Mode} where
  held_comes : (c : Cell m) → Comes m (λ h. c ≡ filled h.0 h.1) (held c)
  unfolding held
  held_comes empty = stops tt
  held_comes (filled x r) = goes refl

  integer_comes : (x : Value) → Comes m (λ n. x ≡ word n) (as_integer m x)
  unfolding as_integer
  integer_comes (word n) = goes refl
  integer_comes (object a) = amiss_comes m

  module _ (heads : ℕ → Head m) where
    -- the array that a value names
    abbrev NamesArray : Value → ℕ × ElementInfo m × ℕ → Type 0
    NamesArray x o = (x ≡ object o.0) × (heads o.0 ≡ array_head o.1 o.2)

    array_head_comes : (a : ℕ) (h : Head m) → heads a ≡ h → Comes m (NamesArray (object a)) (array_head_of m a h)
    unfolding array_head_of
    array_head_comes a (array_head e n) f = goes (refl, f)
    array_head_comes a (record_head t n) f = amiss_comes m
    array_head_comes a no_head f = amiss_comes m

  record_head_comes : (t a : ℕ) (h : Head m) → Comes m (λ o. object a ≡ object o.0) (record_head_of m t a h)
  unfolding record_head_of
  record_head_comes t a (record_head u n) = and_do (is_of_comes m t u) (goes refl)
  record_head_comes t a (array_head e n) = amiss_comes m
  record_head_comes t a no_head = amiss_comes m

-- ---- One line for each line of a plan

module _ (m : Mode) (g : Program) (v : View m) where
  array_comes : (x : Value) → Comes m (NamesArray v.head x) (array_at m g v x)
  unfolding array_at
  array_comes (word n) = amiss_comes m
  array_comes (object a) = array_head_comes v.head a (v.head a) refl

  record_comes : (t : ℕ) (x : Value) → Comes m (λ o. x ≡ object o.0) (record_at m g v t x)
  unfolding record_at
  record_comes t (word n) = amiss_comes m
  record_comes t (object a) = record_head_comes t a (v.head a)

  moved_comes : (q : Qual) (c : Cell m) → Comes m (Moved m g v q c) (moved m g v q c)
  unfolding moved
  moved_comes q c =
      and_with (held_comes c) λ h e.
      and_with (bind_comes m q _ h.1) λ r f.
      goes (record { value = h.0; had = h.1; gets = r; source = e; target = refl; grants = f })

  give_comes : (a n : ℕ) → Comes m (Given m g v a) (give m g v a n)
  unfolding give
  give_comes a n = and_map (moved_comes (declared_as m g v a) (filled (word n) (carried m 0))) λ d h. (n, h)

  integers_comes : (b c : ℕ) → Comes m Any (integers m g v b c)
  unfolding integers
  integers_comes b c =
      and_with (held_comes (v.variable b)) λ x e.
      and_with (held_comes (v.variable c)) λ y f.
      and_with (integer_comes x.0) λ i h.
      and_with (integer_comes y.0) λ j k.
      goes tt

  one_comes : (a : ℕ) → Comes m Any (one_integer m g v a)
  unfolding one_integer
  one_comes a = and_with (held_comes (v.variable a)) λ x e. and_map (integer_comes x.0) λ n h. tt

  slot_comes : (b : Bool) → Comes m Any (slot_there m g v b)
  unfolding slot_there
  slot_comes true = goes tt
  slot_comes false = amiss_comes m

  actual_comes : (k b : ℕ) (z : SettledSet m) (j : ℕ) → Comes m (Passed m g v k b z j) (actual m g v k b z j)
  unfolding actual
  actual_comes k b z j =
      and_with (moved_comes (read_in m g v k z (g.need k j)) (v.variable (b + j))) λ c e.
      and_with (held_comes c) λ h f.
      and_with (raise_comes m _ _ _ _ h.1) λ r d.
      goes (record { between = c; to_need = e; value = h.0; had = h.1; gets = r; source = f; target = refl; to_inner = d })

  one_more :
      (k b : ℕ) (z : SettledSet m) (j n : ℕ) (c : Cell m) (cs : List (Cell m)) → Passed m g v k b z j c → AllPassed m g v k b z (suc j) n cs →
      AllPassed m g v k b z j (suc n) (c ∷ cs)
  one_more k b z j n c cs e f = record { count = ap suc f.count; each = at }
    where
      at : (x : ℕ) → x < suc n → Passed m g v k b z (j + x) (get_or (c ∷ cs) x empty)
      at zero l = let i : j + 0 ≡ j = omega arith in rw i e
      at (suc x) l = let i : j + suc x ≡ suc j + x = omega arith in rw i (f.each x (omega (arith, l)))

  actuals_comes : (k b : ℕ) (z : SettledSet m) (j n : ℕ) → Comes m (AllPassed m g v k b z j n) (actuals m g v k b z j n)
  unfolding actuals
  actuals_comes k b z j zero = goes (record { count = refl; each = λ x l. absurd (omega (arith, l)) })
  actuals_comes k b z j (suc n) =
      and_with (actual_comes k b z j) λ c e.
      and_with (actuals_comes k b z (suc j) n) λ cs f.
      goes (one_more k b z j n c cs e f)

  handed_comes : (a : Option ℕ) → Comes m (Handed m g v a) (handed m g v a)
  unfolding handed
  handed_comes none = goes tt
  handed_comes (some a) =
      and_with (held_comes (v.variable a)) λ h e.
      and_with (result_comes m _ _ h.1) λ r f.
      goes (record { value = h.0; had = h.1; gets = r; source = e; target = refl; grants = f })

  gives_comes : (a n : ℕ) (op : Operation) → ((d : Cell m) → Given m g v a d → Planned m g v op (write a d)) → Comes m (Planned m g v op) (gives m g v a n)
  unfolding gives
  gives_comes a n op k = and_with (give_comes a n) λ d h. goes (k d h)

  branch_comes : (a n k : ℕ) → Planned m g v (JumpZero a k) (branch m g v n k)
  unfolding branch
  branch_comes a zero k = jumps
  branch_comes a (suc n) k = skips

  new_array_comes : (a b : ℕ) → Comes m (Planned m g v (NewArray a b)) (plan_array m g v a b)
  unfolding plan_array
  new_array_comes a b =
      and_then (one_comes b) λ n.
      and_do (demand_comes m _)
      (and_test memory_full tt _ λ e.
      and_with (bind_comes m _ _ _) λ r f.
      goes (new_arrays f))

  new_record_comes : (a t : ℕ) → Comes m (Planned m g v (NewRecord a)) (plan_record m g v a t)
  unfolding plan_record
  new_record_comes a t =
      and_test memory_full tt _ λ e.
      and_with (bind_comes m _ _ _) λ r f.
      goes (new_records t f)

  fetch_comes : (a b c : ℕ) → Comes m (Planned m g v (Fetch a b c)) (plan_fetch m g v a b c)
  unfolding plan_fetch
  fetch_comes a b c =
      and_with (held_comes (v.variable b)) λ x p.
      and_with (held_comes (v.variable c)) λ y q.
      and_with (array_comes x.0) λ o e.
      and_with (integer_comes y.0) λ i f.
      and_do (licence_comes m _ x.1)
      (and_test past_end tt _ λ l.
      and_with (moved_comes (element (declared_as m g v b)) (v.cell o.0 i)) λ s h.
      and_with (moved_comes (declared_as m g v a) s) λ d k.
      goes (fetches (record { name = o.0; index = i; between = s; array = (x.1, rw e.0 at p); at = (y.1, rw f at q); to_element = h; to_variable = k })))

  store_comes : (a b c : ℕ) → Comes m (Planned m g v (Store a b c)) (plan_store m g v a b c)
  unfolding plan_store
  store_comes a b c =
      and_with (held_comes (v.variable a)) λ x p.
      and_with (held_comes (v.variable b)) λ y q.
      and_with (array_comes x.0) λ o e.
      and_with (integer_comes y.0) λ i f.
      and_do (licence_comes m _ x.1)
      (and_test past_end tt _ λ l.
      and_with (held_comes (v.variable c)) λ h t.
      and_with (element_comes m o.1 _ h.1) λ r k.
      goes (stores (record { size = o.2; own = o.1; array = (x.1, rw e.0 at p); at = (y.1, rw f at q); is_array_lem = e.1; value = h.0; had = h.1; gets = r; source = t; target = refl; grants = k })))

  size_comes : (a b : ℕ) → Comes m (Planned m g v (Size a b)) (plan_size m g v a b)
  unfolding plan_size
  size_comes a b =
      and_with (held_comes (v.variable b)) λ x p.
      and_with (array_comes x.0) λ o e.
      and_do (licence_comes m _ x.1)
      (and_with (give_comes a o.2) λ d h.
      goes (sizes h))

  get_comes : (a b k : ℕ) → Comes m (Planned m g v (GetSlot a b k)) (plan_get m g v a b k (g.owner v.procedure))
  unfolding plan_get
  get_comes a b k =
      and_with (held_comes (v.variable b)) λ x p.
      and_with (record_comes _ x.0) λ o e.
      and_do (licence_comes m _ x.1)
      (and_do (slot_comes _)
      (and_with (moved_comes (declared_as m g v a) (v.cell o.0 k)) λ d h.
      goes (gets_slot (record { name = o.0; holder = (x.1, rw e at p); to_variable = h }))))

  set_comes : (a b k : ℕ) → Comes m (Planned m g v (SetSlot a b k)) (plan_set m g v a b k (g.owner v.procedure))
  unfolding plan_set
  set_comes a b k =
      and_with (held_comes (v.variable a)) λ x p.
      and_with (record_comes _ x.0) λ o e.
      and_do (licence_comes m _ x.1)
      (and_do (slot_comes _)
      (and_with (moved_comes _ (v.variable b)) λ d h.
      goes (sets_slot (record { holder = (x.1, rw e at p); to_slot = h }))))

  call_comes : (a b k : ℕ) → Comes m (Planned m g v (Call a b k)) (plan_call m g v a b k)
  unfolding plan_call settle_call
  call_comes a b k =
      and_do (demand_comes m _)
      (and_with (settle_comes m _ _ _) λ z s.
      and_test memory_full tt _ λ e.
      and_with (actuals_comes k b z 0 (g.formals k)) λ cs h.
      goes (calls (record { settles = s }) h))

  into_caller_comes :
      (p : ℕ) (z : SettledSet m) (x a : Option ℕ) (c : Option (Cell m)) → Handed m g v a c →
      Comes m (λ e. (w : Option (ℕ × Cell m)) × (e ≡ resume w) × Resumed m g v p z x a w) (into_caller m g v p z x c)
  unfolding into_caller
  into_caller_comes p z none a c h = goes (none, refl, tt)
  into_caller_comes p z (some x) a none h = amiss_comes m
  into_caller_comes p z (some x) none (some c) h = absurd h
  into_caller_comes p z (some x) (some a) (some c) h =
      and_with (moved_comes (read_in m g v p z (g.inner p x)) c) λ d k.
      goes (some (x, d), refl, (refl, record { between = c; to_result = h; to_variable = k }))

  to_caller_comes :
      (a : ℕ) (w : Option (ℕ × ℕ × SettledSet m)) → v.caller ≡ w → (c : Option (Cell m)) → Handed m g v (optional a) c →
      Comes m (Planned m g v (Return a)) (to_caller m g v w c)
  unfolding to_caller
  to_caller_comes a none e c h = goes (finishes e)
  to_caller_comes a (some w) e c h =
      and_map (into_caller_comes w.0 w.2 (kept (g.operation w.0 (pred w.1))) (optional a) c h) λ f k.
      subst (Planned m g v (Return a)) (sym k.1) (returns w.0 w.1 w.2 e k.2)

  return_comes : (a : ℕ) → Comes m (Planned m g v (Return a)) (plan_return m g v (optional a))
  unfolding plan_return
  return_comes a =
      and_do (demand_comes m _)
      (and_with (handed_comes (optional a)) λ c h.
      to_caller_comes a v.caller refl c h)

  pub plan_comes : (op : Operation) → Comes m (Planned m g v op) (plan m g v op)
  unfolding plan
  plan_comes (Set a k) = gives_comes a k _ λ d h. sets h
  plan_comes (Add a b c) = and_then (integers_comes b c) λ n. gives_comes a _ _ λ d h. adds h
  plan_comes (Subtract a b c) = and_then (integers_comes b c) λ n. gives_comes a _ _ λ d h. subtracts h
  plan_comes (Less a b c) = and_then (integers_comes b c) λ n. gives_comes a _ _ λ d h. compares h
  plan_comes (JumpZero a k) = and_then (one_comes a) λ n. goes (branch_comes a n k)
  plan_comes (Bind a b) = and_with (moved_comes (declared_as m g v a) (v.variable b)) λ d h. goes (binds h)
  plan_comes (Take a) = and_then (found_comes input_ended tt v.next_input) λ n. and_with (give_comes a n) λ d h. goes (takes h)
  plan_comes (Put a) = and_then (one_comes a) λ n. and_test output_full tt _ λ e. goes (puts (ltb-true 0 v.free e))
  plan_comes (NewArray a b) = new_array_comes a b
  plan_comes (Fetch a b c) = fetch_comes a b c
  plan_comes (Store a b c) = store_comes a b c
  plan_comes (Size a b) = size_comes a b
  plan_comes (NewRecord a) = new_record_comes a _
  plan_comes (GetSlot a b k) = get_comes a b k
  plan_comes (SetSlot a b k) = set_comes a b k
  plan_comes (Call a b k) = call_comes a b k
  plan_comes (Return a) = return_comes a
