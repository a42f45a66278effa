-- What the effect of an instruction is, of any program and in either mode: each value in it is one that the instruction found, bound to its types.
use Prim.Native.Nat.{ℕ, pred, ◌+◌, ◌<◌}
use mathlib.Core.Path.{◌≡◌}
use mathlib.Core.List.{List}
use mathlib.Core.Option.{Option, none, some}
use lib.ListN.{length, get_or}
use Rattle.model.specs.Rights.{array_rights, record_rights}
use Rattle.model.specs.Qualified.{Qual, element}
use Rattle.model.specs.Generic.{read_result}
use Rattle.model.specs.Program.{Program}
use Rattle.model.specs.Rules.{optional, called, found_by}
use Rattle.model.specs.declared.Operation.{Operation}
use Rattle.model.specs.declared.Operation.TheVariants.{Set, Add, Subtract, Less, JumpZero, Bind, Take, Put, NewArray, Fetch, Store, Size, NewRecord, GetSlot, SetSlot, Call, Return}
use Rattle.model.specs.Modes.{Mode, Carried, ElementInfo, SettledSet, in_frame, carried, type_info, array_kind, record_kind}
use Rattle.model.specs.Machine.{Value, word, object, Cell, empty, filled, array_head, View, Effect, write, take, put, jump, skip, new_array, new_record, store, call, resume, finish, kept, read_in, declared_as, kind_of}
use Rattle.model.proofs.Comes.{Grants, Settles, Raises, ElementGrants, ResultGrants}

-- ---- What becomes of a cell that is read

module _ (m : Mode) (g : Program) (v : View m) where
  -- cell c, bound to q, is d
  pub record Moved (q : Qual) (c d : Cell m) : Type 0 where
    pub value : Value
    pub had : Carried m
    pub gets : Carried m
    pub source : c ≡ filled value had
    pub target : d ≡ filled value gets
    pub grants : Grants m q (kind_of m g v value) had gets

  -- d is an integer on its way into a
  abbrev pub Given : (a : ℕ) → Cell m → Type 0
  Given a d = (n : ℕ) × Moved (declared_as m g v a) (filled (word n) (carried m 0)) d

  -- variable b holds the object of a name, or an integer
  abbrev pub HoldsObject : (b a : ℕ) → Type 0
  HoldsObject b a = (r : Carried m) × (v.variable b ≡ filled (object a) r)

  abbrev pub HoldsInteger : (b n : ℕ) → Type 0
  HoldsInteger b n = (r : Carried m) × (v.variable b ≡ filled (word n) r)

  -- a fetch: the cell of the array in b at the index in c, bound twice (S-3)
  pub record Fetched (a b c : ℕ) (d : Cell m) : Type 0 where
    pub name : ℕ
    pub index : ℕ
    pub between : Cell m
    pub array : HoldsObject b name
    pub at : HoldsInteger c index
    pub to_element : Moved (element (declared_as m g v b)) (v.cell name index) between
    pub to_variable : Moved (declared_as m g v a) between d

  -- a store: variable c into cell i of the array o, bound to the array's own element
  pub record Stored (a b c o i : ℕ) (d : Cell m) : Type 0 where
    pub size : ℕ
    pub own : ElementInfo m
    pub array : HoldsObject a o
    pub at : HoldsInteger b i
    pub is_array_lem : v.head o ≡ array_head own size
    pub value : Value
    pub had : Carried m
    pub gets : Carried m
    pub source : v.variable c ≡ filled value had
    pub target : d ≡ filled value gets
    pub grants : ElementGrants m own (kind_of m g v value) had gets

  -- slot k of the record in b
  pub record Got (a b k : ℕ) (d : Cell m) : Type 0 where
    pub name : ℕ
    pub holder : HoldsObject b name
    pub to_variable : Moved (declared_as m g v a) (v.cell name k) d

  -- variable b into slot k of the record o
  pub record SetIn (a b k o : ℕ) (d : Cell m) : Type 0 where
    pub holder : HoldsObject a o
    pub to_slot : Moved (read_in m g v v.procedure v.set_held (g.slot (g.owner v.procedure) k)) (v.variable b) d

  -- actual j of a call: bound to need, then raised or bound to inner
  pub record Passed (k b : ℕ) (z : SettledSet m) (j : ℕ) (d : Cell m) : Type 0 where
    pub between : Cell m
    pub to_need : Moved (read_in m g v k z (g.need k j)) (v.variable (b + j)) between
    pub value : Value
    pub had : Carried m
    pub gets : Carried m
    pub source : between ≡ filled value had
    pub target : d ≡ filled value gets
    pub to_inner : Raises m (g.owner k) (g.inner k j) (read_in m g v k z (g.inner k j)) (kind_of m g v value) had gets

  -- the actuals from number j on, n of them
  pub record AllPassed (k b : ℕ) (z : SettledSet m) (j n : ℕ) (cs : List (Cell m)) : Type 0 where
    pub count : length cs ≡ n
    pub each : (x : ℕ) → x < n → Passed k b z (j + x) (get_or cs x empty)

  -- the set that a call settles ?R to
  pub record Settled (k b : ℕ) (z : SettledSet m) : Type 0 where
    pub settles : Settles m (g.bound k) (found_by (declared_as m g v) (called g k) b) z

  -- variable a, bound to the result
  pub record HandedOver (a : ℕ) (c : Cell m) : Type 0 where
    pub value : Value
    pub had : Carried m
    pub gets : Carried m
    pub source : v.variable a ≡ filled value had
    pub target : c ≡ filled value gets
    pub grants : ResultGrants m (read_result (in_frame m (g.bound v.procedure) v.set_held) (g.result v.procedure)) (kind_of m g v value) had gets

  -- what a return hands over
  abbrev pub Handed : Option ℕ → Option (Cell m) → Type 0
  Handed none none = Unit {0}
  Handed none (some c) = ⊥
  Handed (some a) none = ⊥
  Handed (some a) (some c) = HandedOver a c

  -- and what variable x of the caller, a frame of procedure p with set z, gets of it
  pub record Returned (p : ℕ) (z : SettledSet m) (a x : ℕ) (d : Cell m) : Type 0 where
    pub between : Cell m
    pub to_result : HandedOver a between
    pub to_variable : Moved (read_in m g v p z (g.inner p x)) between d

  -- what a caller with this kept variable goes on with
  abbrev pub Resumed : (p : ℕ) → SettledSet m → (kept returned : Option ℕ) → Option (ℕ × Cell m) → Type 0
  Resumed p z none a none = Unit {0}
  Resumed p z none a (some w) = ⊥
  Resumed p z (some x) a none = ⊥
  Resumed p z (some x) none (some w) = ⊥
  Resumed p z (some x) (some a) (some w) = (w.0 ≡ x) × Returned p z a x w.1

-- ---- What an operation asks for, a line a code

pub data Planned (m : Mode) (g : Program) (v : View m) : Operation → Effect m → Type 0 where
  sets : {a k : ℕ} {d : Cell m} → Given m g v a d → Planned m g v (Set a k) (write a d)
  adds : {a b c : ℕ} {d : Cell m} → Given m g v a d → Planned m g v (Add a b c) (write a d)
  subtracts : {a b c : ℕ} {d : Cell m} → Given m g v a d → Planned m g v (Subtract a b c) (write a d)
  compares : {a b c : ℕ} {d : Cell m} → Given m g v a d → Planned m g v (Less a b c) (write a d)
  jumps : {a k : ℕ} → Planned m g v (JumpZero a k) (jump k)
  skips : {a k : ℕ} → Planned m g v (JumpZero a k) skip
  binds : {a b : ℕ} {d : Cell m} → Moved m g v (declared_as m g v a) (v.variable b) d → Planned m g v (Bind a b) (write a d)
  takes : {a : ℕ} {d : Cell m} → Given m g v a d → Planned m g v (Take a) (take a d)
  puts : {a n : ℕ} → 0 < v.free → Planned m g v (Put a) (put n)
  new_arrays :
      {a b n : ℕ} {e : ElementInfo m} {r : Carried m} → Grants m (declared_as m g v a) (array_kind e) (carried m array_rights) r →
      Planned m g v (NewArray a b) (new_array a e n r)
  fetches : {a b c : ℕ} {d : Cell m} → Fetched m g v a b c d → Planned m g v (Fetch a b c) (write a d)
  stores : {a b c o i : ℕ} {d : Cell m} → Stored m g v a b c o i d → Planned m g v (Store a b c) (store o i d)
  sizes : {a b : ℕ} {d : Cell m} → Given m g v a d → Planned m g v (Size a b) (write a d)
  new_records :
      {a n : ℕ} (t : ℕ) {r : Carried m} → Grants m (declared_as m g v a) (record_kind (type_info m t)) (carried m (record_rights (g.named t))) r →
      Planned m g v (NewRecord a) (new_record a (type_info m t) n r)
  gets_slot : {a b k : ℕ} {d : Cell m} → Got m g v a b k d → Planned m g v (GetSlot a b k) (write a d)
  sets_slot : {a b k o : ℕ} {d : Cell m} → SetIn m g v a b k o d → Planned m g v (SetSlot a b k) (store o k d)
  calls :
      {a b k : ℕ} {z : SettledSet m} {cs : List (Cell m)} → Settled m g v k b z → AllPassed m g v k b z 0 (g.formals k) cs →
      Planned m g v (Call a b k) (call k z cs)
  finishes : {a : ℕ} → v.caller ≡ none → Planned m g v (Return a) finish
  returns :
      {a : ℕ} (p i : ℕ) (z : SettledSet m) {w : Option (ℕ × Cell m)} → v.caller ≡ some (p, i, z) →
      Resumed m g v p z (kept (g.operation p (pred i))) (optional a) w → Planned m g v (Return a) (resume w)
