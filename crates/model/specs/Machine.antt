-- The machines (document 01, "The two machines"): one text, read in the two modes of Modes.antt.
-- A step first plans what an instruction asks for, which only reads, and then applies it: "A step that stops changes nothing".
use Rattle.std.specs.Prelude.{ℕ, zero, suc, pred, ◌+◌, ◌-◌, ◌%◌, ◌^◌, Bool, true, false, cond, List, [], ◌∷◌, ◌++◌, leb, ltb, length, get_or, set, replicate}
use Rattle.std.proofs.Math.Option.{Option, none, some}
use Rattle.model.specs.Rights.{fetch_right, store_right, size_right, open_right, array_rights, record_rights}
use Rattle.model.specs.Qualified.{Qual, element, is_array}
use Rattle.model.specs.Program.{Program}
use Rattle.model.specs.Generic.{read, read_result, some_uses}
use Rattle.model.specs.Rules.{optional, keeps, called, found_by}
use Rattle.model.specs.declared.Operation.{Operation}
use Rattle.model.specs.declared.Operation.TheVariants.{Set, Add, Subtract, Less, JumpZero, Bind, Take, Put, NewArray, Fetch, Store, Size, NewRecord, GetSlot, SetSlot, Call, Return}
use Rattle.model.specs.Outcome.{blank, past_end, input_ended, output_full, memory_full, Res, ok, stop, ◌>>=◌, ◌>>◌, ensure, found}
use Rattle.model.specs.Modes.{Mode, Carried, ElementInfo, TypeInfo, SettledSet, in_frame, settle_set, carried, element_info, type_info, Kind, integer_kind, array_kind, record_kind, no_kind, amiss, demand, licence, is_of, bind, raise, bind_element, bind_result}

-- ---- The state

-- an integer, or an object by its name: the units of the objects made before it
pub data Value : Type 0 where
  word : ℕ → Value
  object : ℕ → Value

-- "A cell is blank, an integer or an object; new cells are blank."
pub data Cell (m : Mode) : Type 0 where
  empty : Cell m
  filled : Value → Carried m → Cell m

pub data Object (m : Mode) : Type 0 where
  array_of : ElementInfo m → List (Cell m) → Object m
  record_of : TypeInfo m → List (Cell m) → Object m

-- "frames (procedure, next instruction, variables)"; "The watched frame holds the settled set"
pub data Frame (m : Mode) : Type 0 where
  frame : (procedure next : ℕ) → SettledSet m → List (Cell m) → Frame m

-- the running frame, the frames that wait for it, the objects, the reads left, the words put
pub data State (m : Mode) : Type 0 where
  state : Frame m → List (Frame m) → List (Object m) → (input put : List ℕ) → State m

-- ---- Units: "v+2 a frame, size+1 a tray, s+1 a record"

abbrev pub cells_of : {m : Mode} → Object m → List (Cell m)
cells_of (array_of e cs) = cs
cells_of (record_of t cs) = cs

abbrev pub with_cells : {m : Mode} → Object m → List (Cell m) → Object m
with_cells (array_of e cs) ds = array_of e ds
with_cells (record_of t cs) ds = record_of t ds

unfoldable pub object_units : {m : Mode} → List (Object m) → ℕ
object_units [] = 0
object_units (o ∷ os) = suc (length (cells_of o)) + object_units os

unfoldable pub frame_units : {m : Mode} → List (Frame m) → ℕ
frame_units [] = 0
frame_units (frame p i z vs ∷ fs) = (length vs + 2) + frame_units fs

-- the object of a name
unfoldable pub find : {m : Mode} → List (Object m) → ℕ → Option (Object m)
find [] a = none
find (o ∷ os) zero = some o
find (o ∷ os) (suc a) = cond (ltb a (length (cells_of o))) none (find os (a - length (cells_of o)))

-- cell i of the object of a name becomes c
unfoldable pub update : {m : Mode} → List (Object m) → (a i : ℕ) → Cell m → List (Object m)
update [] a i c = []
update (o ∷ os) zero i c = with_cells o (set (cells_of o) i c) ∷ os
update (o ∷ os) (suc a) i c =
    cond (ltb a (length (cells_of o))) (o ∷ os) (o ∷ update os (a - length (cells_of o)) i c)

-- ---- What an instruction sees of the state

-- what an object is, and how many cells it has
pub data Head (m : Mode) : Type 0 where
  array_head : ElementInfo m → (size : ℕ) → Head m
  record_head : TypeInfo m → (size : ℕ) → Head m
  no_head : Head m

abbrev pub head_of : {m : Mode} → Option (Object m) → Head m
head_of none = no_head
head_of (some (array_of e cs)) = array_head e (length cs)
head_of (some (record_of t cs)) = record_head t (length cs)

abbrev pub cell_of : {m : Mode} → Option (Object m) → ℕ → Cell m
cell_of none i = empty
cell_of (some o) i = get_or (cells_of o) i empty

pub record View (m : Mode) : Type 0 where
  -- the running procedure and its frame's set; the place and the set of the frame that waits for it
  pub procedure : ℕ
  pub set_held : SettledSet m
  pub caller : Option (ℕ × ℕ × SettledSet m)
  pub variable : ℕ → Cell m
  pub head : ℕ → Head m
  pub cell : ℕ → ℕ → Cell m
  -- units and output words free, and the next read
  pub room : ℕ
  pub free : ℕ
  pub next_input : Option ℕ

abbrev pub caller_place : {m : Mode} → List (Frame m) → Option (ℕ × ℕ × SettledSet m)
caller_place [] = none
caller_place (frame p i z vs ∷ fs) = some (p, i, z)

abbrev pub first_of : List ℕ → Option ℕ
first_of [] = none
first_of (n ∷ ns) = some n

abbrev pub view : {m : Mode} → (memory output : ℕ) → State m → View m
view memory output (state (frame p i z vs) fs os input put) =
    record {
      procedure = p;
      set_held = z;
      caller = caller_place fs;
      variable = λ x. get_or vs x empty;
      head = λ a. head_of (find os a);
      cell = λ a. cell_of (find os a);
      room = memory - (frame_units (frame p i z vs ∷ fs) + object_units os);
      free = output - length put;
      next_input = first_of input;
    }

-- ---- What an instruction asks for

pub data Effect (m : Mode) : Type 0 where
  -- variable a becomes a cell; the same with one read fewer
  write : (a : ℕ) → Cell m → Effect m
  take : (a : ℕ) → Cell m → Effect m
  put : ℕ → Effect m
  jump : (to : ℕ) → Effect m
  skip : Effect m
  -- variable a becomes a new object, of so many cells, with the rights that it carries there
  new_array : (a : ℕ) → ElementInfo m → (size : ℕ) → Carried m → Effect m
  new_record : (a : ℕ) → TypeInfo m → (size : ℕ) → Carried m → Effect m
  -- cell i of an object becomes a cell
  store : (object i : ℕ) → Cell m → Effect m
  -- a frame of procedure k with this set and these first variables; the caller goes on, with a variable that becomes a cell, or the run is over
  call : (k : ℕ) → SettledSet m → List (Cell m) → Effect m
  resume : Option (ℕ × Cell m) → Effect m
  finish : Effect m

-- a value that is read or moved is there: 13
unfoldable pub held : {m : Mode} → Cell m → Res (Value × Carried m)
held empty = stop blank
held (filled v r) = ok (v, r)

-- ---- kinds of the values read
unfoldable pub as_integer : (m : Mode) → Value → Res ℕ
as_integer m (word n) = ok n
as_integer m (object a) = amiss m

unfoldable pub array_head_of : (m : Mode) → ℕ → Head m → Res (ℕ × ElementInfo m × ℕ)
array_head_of m a (array_head e n) = ok (a, e, n)
array_head_of m a (record_head t n) = amiss m
array_head_of m a no_head = amiss m

unfoldable pub record_head_of : (m : Mode) → (type : ℕ) → ℕ → Head m → Res (ℕ × ℕ)
record_head_of m t a (record_head u n) = do
  is_of m t u
  ok (a, n)
record_head_of m t a (array_head e n) = amiss m
record_head_of m t a no_head = amiss m

abbrev pub kind_of_head : {m : Mode} → Head m → Kind m
kind_of_head (array_head e n) = array_kind e
kind_of_head (record_head t n) = record_kind t
kind_of_head no_head = no_kind

-- what a value is, by the heads of the objects
abbrev pub kind_at : {m : Mode} → (ℕ → Head m) → Value → Kind m
kind_at heads (word n) = integer_kind
kind_at heads (object a) = kind_of_head (heads a)

-- the kept variable of a call; none of another operation
abbrev pub kept : Operation → Option ℕ
kept (Call a b k) = optional a
kept (Set a k) = none
kept (Add a b c) = none
kept (Subtract a b c) = none
kept (Less a b c) = none
kept (JumpZero a k) = none
kept (Bind a b) = none
kept (Take a) = none
kept (Put a) = none
kept (NewArray a b) = none
kept (Fetch a b c) = none
kept (Store a b c) = none
kept (Size a b) = none
kept (NewRecord a) = none
kept (GetSlot a b k) = none
kept (SetSlot a b k) = none
kept (Return a) = none

-- "18 for a return, or a call keeping a result, against the PR's result"
abbrev pub returns_well : Option ℕ → Option Qual → Bool
returns_well none none = true
returns_well (some a) (some q) = true
returns_well none (some q) = false
returns_well (some a) none = false

-- b − c and b + c modulo 2^32; 1 where the test holds, else 0
unfoldable pub plus : ℕ → ℕ → ℕ
plus x y = (x + y) % 2 ^ 32

unfoldable pub minus : ℕ → ℕ → ℕ
minus x y = (x + (2 ^ 32 - y)) % 2 ^ 32

unfoldable pub flag : Bool → ℕ
flag true = 1
flag false = 0

module _ (m : Mode) (g : Program) (v : View m) where
  -- a type of procedure k in a frame of it with this set
  abbrev pub read_in : (k : ℕ) → SettledSet m → Qual → Qual
  read_in k z q = read (in_frame m (g.bound k) z) q

  -- the declared type of variable x of the running procedure
  abbrev pub declared_as : ℕ → Qual
  declared_as x = read_in v.procedure v.set_held (g.inner v.procedure x)

  abbrev pub kind_of : Value → Kind m
  kind_of x = kind_at v.head x

  unfoldable pub array_at : Value → Res (ℕ × ElementInfo m × ℕ)
  array_at (word n) = amiss m
  array_at (object a) = array_head_of m a (v.head a)

  unfoldable pub record_at : (type : ℕ) → Value → Res (ℕ × ℕ)
  record_at t (word n) = amiss m
  record_at t (object a) = record_head_of m t a (v.head a)

  -- a moved cell, bound to a declared type: 13, 18, 19
  unfoldable pub moved : Qual → Cell m → Res (Cell m)
  moved q c = do
    h ← held c
    r ← bind m q (kind_of h.0) h.1
    ok (filled h.0 r)

  -- a computed or taken integer on its way into a
  unfoldable pub give : (a n : ℕ) → Res (Cell m)
  give a n = moved (declared_as a) (filled (word n) (carried m 0))

  unfoldable pub integers : (b c : ℕ) → Res (ℕ × ℕ)
  integers b c = do
    x ← held (v.variable b)
    y ← held (v.variable c)
    i ← as_integer m x.0
    j ← as_integer m y.0
    ok (i, j)

  unfoldable pub one_integer : ℕ → Res ℕ
  one_integer a = do
    x ← held (v.variable a)
    as_integer m x.0

  unfoldable pub plan_array : (a b : ℕ) → Res (Effect m)
  plan_array a b = do
    n ← one_integer b
    demand m (is_array (declared_as a))
    ensure memory_full (leb (suc n) v.room)
    r ← bind m (declared_as a) (array_kind (element_info m (element (declared_as a)))) (carried m array_rights)
    ok (new_array a (element_info m (element (declared_as a))) n r)

  unfoldable pub plan_record : (a t : ℕ) → Res (Effect m)
  plan_record a t = do
    ensure memory_full (leb (suc (g.slots t)) v.room)
    r ← bind m (declared_as a) (record_kind (type_info m t)) (carried m (record_rights (g.named t)))
    ok (new_record a (type_info m t) (g.slots t) r)

  -- S-3: "A fetched value is bound to the element of the tray variable's QT, then to a"
  unfoldable pub plan_fetch : (a b c : ℕ) → Res (Effect m)
  plan_fetch a b c = do
    x ← held (v.variable b)
    y ← held (v.variable c)
    o ← array_at x.0
    i ← as_integer m y.0
    licence m fetch_right x.1
    ensure past_end (ltb i o.2)
    e ← moved (element (declared_as b)) (v.cell o.0 i)
    d ← moved (declared_as a) e
    ok (write a d)

  unfoldable pub plan_store : (a b c : ℕ) → Res (Effect m)
  plan_store a b c = do
    x ← held (v.variable a)
    y ← held (v.variable b)
    o ← array_at x.0
    i ← as_integer m y.0
    licence m store_right x.1
    ensure past_end (ltb i o.2)
    h ← held (v.variable c)
    r ← bind_element m o.1 (kind_of h.0) h.1
    ok (store o.0 i (filled h.0 r))

  unfoldable pub plan_size : (a b : ℕ) → Res (Effect m)
  plan_size a b = do
    x ← held (v.variable b)
    o ← array_at x.0
    licence m size_right x.1
    d ← give a o.2
    ok (write a d)

  -- "or a record has no such slot"
  unfoldable pub slot_there : Bool → Res (Unit {0})
  slot_there true = ok tt
  slot_there false = amiss m

  unfoldable pub plan_get : (a b k t : ℕ) → Res (Effect m)
  plan_get a b k t = do
    x ← held (v.variable b)
    o ← record_at t x.0
    licence m open_right x.1
    slot_there (ltb k o.1)
    d ← moved (declared_as a) (v.cell o.0 k)
    ok (write a d)

  unfoldable pub plan_set : (a b k t : ℕ) → Res (Effect m)
  plan_set a b k t = do
    x ← held (v.variable a)
    o ← record_at t x.0
    licence m open_right x.1
    slot_there (ltb k o.1)
    d ← moved (read_in v.procedure v.set_held (g.slot t k)) (v.variable b)
    ok (store o.0 k d)

  -- "A call settles ?R from the declared type of each actual whose need uses it", of a call of procedure k with variables from b on
  unfoldable pub settle_call : (k b : ℕ) → Res (SettledSet m)
  settle_call k b =
      settle_set m (g.bound k) (some_uses (called g k).need 0 (g.formals k)) (found_by declared_as (called g k) b)

  -- "A call binds each actual to need; then ..", in a frame with set z
  unfoldable pub actual : (k b : ℕ) → SettledSet m → (j : ℕ) → Res (Cell m)
  actual k b z j = do
    c ← moved (read_in k z (g.need k j)) (v.variable (b + j))
    h ← held c
    r ← raise m (g.owner k) (g.inner k j) (read_in k z (g.inner k j)) (kind_of h.0) h.1
    ok (filled h.0 r)

  -- the actuals from number j on, n of them
  unfoldable pub actuals : (k b : ℕ) → SettledSet m → (j n : ℕ) → Res (List (Cell m))
  actuals k b z j zero = ok []
  actuals k b z j (suc n) = do
    c ← actual k b z j
    cs ← actuals k b z (suc j) n
    ok (c ∷ cs)

  unfoldable pub plan_call : (a b k : ℕ) → Res (Effect m)
  plan_call a b k = do
    demand m (keeps (optional a) (g.result k))
    z ← settle_call k b
    ensure memory_full (leb (g.variables k + 2) v.room)
    cs ← actuals k b z 0 (g.formals k)
    ok (call k z cs)

  -- the value that a return hands over, bound to the result
  unfoldable pub handed : Option ℕ → Res (Option (Cell m))
  handed none = ok none
  handed (some a) = do
    h ← held (v.variable a)
    r ← bind_result m (read_result (in_frame m (g.bound v.procedure) v.set_held) (g.result v.procedure)) (kind_of h.0) h.1
    ok (some (filled h.0 r))

  -- ".. then to a": variable a of procedure p, in a frame with set z; "or a kept result has no value"
  unfoldable pub into_caller : (p : ℕ) → SettledSet m → Option ℕ → Option (Cell m) → Res (Effect m)
  into_caller p z none c = ok (resume none)
  into_caller p z (some a) none = amiss m
  into_caller p z (some a) (some c) = do
    d ← moved (read_in p z (g.inner p a)) c
    ok (resume (some (a, d)))

  unfoldable pub to_caller : Option (ℕ × ℕ × SettledSet m) → Option (Cell m) → Res (Effect m)
  to_caller none c = ok finish
  to_caller (some place) c = into_caller place.0 place.2 (kept (g.operation place.0 (pred place.1))) c

  unfoldable pub plan_return : Option ℕ → Res (Effect m)
  plan_return a = do
    demand m (returns_well a (g.result v.procedure))
    c ← handed a
    to_caller v.caller c

  unfoldable pub gives : (a n : ℕ) → Res (Effect m)
  gives a n = do
    d ← give a n
    ok (write a d)

  -- "5 if a is zero go to instruction k"
  unfoldable pub branch : (n k : ℕ) → Effect m
  branch zero k = jump k
  branch (suc n) k = skip

  unfoldable pub plan : Operation → Res (Effect m)
  plan (Set a k) = gives a k
  plan (Add a b c) = do
    n ← integers b c
    gives a (plus n.0 n.1)
  plan (Subtract a b c) = do
    n ← integers b c
    gives a (minus n.0 n.1)
  plan (Less a b c) = do
    n ← integers b c
    gives a (flag (ltb n.0 n.1))
  plan (JumpZero a k) = do
    n ← one_integer a
    ok (branch n k)
  plan (Bind a b) = do
    d ← moved (declared_as a) (v.variable b)
    ok (write a d)
  plan (Take a) = do
    n ← found input_ended v.next_input
    d ← give a n
    ok (take a d)
  plan (Put a) = do
    n ← one_integer a
    ensure output_full (ltb 0 v.free)
    ok (put n)
  plan (NewArray a b) = plan_array a b
  plan (Fetch a b c) = plan_fetch a b c
  plan (Store a b c) = plan_store a b c
  plan (Size a b) = plan_size a b
  plan (NewRecord a) = plan_record a (g.owner v.procedure)
  plan (GetSlot a b k) = plan_get a b k (g.owner v.procedure)
  plan (SetSlot a b k) = plan_set a b k (g.owner v.procedure)
  plan (Call a b k) = plan_call a b k
  plan (Return a) = plan_return (optional a)

-- ---- What that does to the state

pub data Next (m : Mode) : Type 0 where
  go : State m → Next m
  finished : Next m

abbrev pub set_kept : {m : Mode} → List (Cell m) → Option (ℕ × Cell m) → List (Cell m)
set_kept vs none = vs
set_kept vs (some w) = set vs w.0 w.1

abbrev pub rest_of : List ℕ → List ℕ
rest_of [] = []
rest_of (n ∷ ns) = ns

-- "frames are given back on return, objects are not"
abbrev pub given_back : {m : Mode} → Option (ℕ × Cell m) → List (Frame m) → List (Object m) → (input out : List ℕ) → Next m
given_back w [] os input out = finished
given_back w (frame p i z vs ∷ fs) os input out = go (state (frame p i z (set_kept vs w)) fs os input out)

unfoldable pub apply : {m : Mode} → Program → State m → Effect m → Next m
apply g (state (frame p i z vs) fs os input out) (write a c) = go (state (frame p (suc i) z (set vs a c)) fs os input out)
apply g (state (frame p i z vs) fs os input out) (take a c) =
    go (state (frame p (suc i) z (set vs a c)) fs os (rest_of input) out)
apply g (state (frame p i z vs) fs os input out) (put n) = go (state (frame p (suc i) z vs) fs os input (out ++ (n ∷ [])))
apply g (state (frame p i z vs) fs os input out) (jump k) = go (state (frame p k z vs) fs os input out)
apply g (state (frame p i z vs) fs os input out) skip = go (state (frame p (suc i) z vs) fs os input out)
apply g (state (frame p i z vs) fs os input out) (new_array a e n r) =
    go (state (frame p (suc i) z (set vs a (filled (object (object_units os)) r))) fs (os ++ (array_of e (replicate n empty) ∷ [])) input out)
apply g (state (frame p i z vs) fs os input out) (new_record a t n r) =
    go (state (frame p (suc i) z (set vs a (filled (object (object_units os)) r))) fs (os ++ (record_of t (replicate n empty) ∷ [])) input out)
apply g (state (frame p i z vs) fs os input out) (store a j c) = go (state (frame p (suc i) z vs) fs (update os a j c) input out)
apply g (state (frame p i z vs) fs os input out) (call k y cs) =
    go (state (frame k 0 y (cs ++ replicate (g.variables k - g.formals k) empty)) (frame p (suc i) z vs ∷ fs) os input out)
apply g (state (frame p i z vs) fs os input out) (resume w) = given_back w fs os input out
apply g (state (frame p i z vs) fs os input out) finish = finished

abbrev pub operation_in : {m : Mode} → Program → State m → Operation
operation_in g (state (frame p i z vs) fs os input out) = g.operation p i

unfoldable pub step : {m : Mode} → Program → (memory output : ℕ) → State m → Res (Next m)
step {m} g memory output s = do
  e ← plan m g (view memory output s) (operation_in g s)
  ok (apply g s e)
