-- What the definition's plans ask before a value moves, each a part of a plan of Machine.antt, and what the code answers there.
use Rattle.std.specs.Prelude.{◌≡◌, ℕ, List, Result, Ok, Err, nat_lt, slice_index}
use Rattle.model.specs.declared.Halt.{Halt}
use Rattle.model.specs.Rights.{Rights, open_right, array_rights, record_rights}
use Rattle.model.specs.Qualified.{Qual, declared, rights, element, is_array}
use Rattle.model.specs.Generic.{read}
use Rattle.model.specs.Program.{Program}
use Rattle.model.specs.Outcome.{past_end, Res, ok, ◌>>=◌, ◌>>◌, ensure}
use Rattle.model.specs.Modes.{watched, array_kind, record_kind, demand, licence, bind}
use Rattle.model.specs.Machine.{Value, Cell, filled, View, Effect, store, held, as_integer, array_at, record_at, one_integer, slot_there}
use Rattle.sheet.specs.Layout.{named_of}
use Rattle.words.specs.Word.{low, info_of, settled_base, cell, slot_in}
use Rattle.words.specs.Sees.{Sees}
use Rattle.words.specs.Answers.{halted, InObject}
use Rattle.binding.specs.Binds.{Heads}
use Rattle.watched_plan.specs.declared.Spot.{Spot}

-- two integers, or why there are none
unfoldable pub pair_as : Result (ℕ × ℕ) Halt → Res (ℕ × ℕ)
pair_as (Ok p) = ok p
pair_as (Err k) = halted watched k

-- the element of an array, by its head
abbrev pub element_in : (ℕ → Qual) → ℕ → Qual
element_in qual w = read (declared (settled_base w) (low w)) (qual (info_of w))

-- an object, its element and an index; an object and a slot
unfoldable pub element_as : (ℕ → Qual) → List ℕ → Result Spot Halt → Res (ℕ × Qual × ℕ)
element_as qual h (Ok s) = ok (s.object, element_in qual (slice_index h s.object), s.cell)
element_as qual h (Err k) = halted watched k

unfoldable pub slot_as : Result Spot Halt → Res (ℕ × ℕ)
slot_as (Ok s) = ok (s.object, s.cell)
slot_as (Err k) = halted watched k

-- such a cell is one of the object's
abbrev pub SpotOk : List ℕ → Result Spot Halt → Type 0
SpotOk h (Ok s) = InObject h s.object s.cell
SpotOk h (Err k) = Unit {0}

-- what is bound is stored to cell i of an object
unfoldable pub storing : (o i : ℕ) → Res (Cell watched) → Res (Effect watched)
storing o i r = r >>= λ d. ok (store o i d)

-- a new object's rights are those of the declared type, or there is a stop
unfoldable pub made : Qual → Result (Unit {0}) Halt → Res Rights
made q (Ok u) = ok (rights q)
made q (Err k) = halted watched k

module _ (g : Program) (v : View watched) where
  -- fetch and store: the kinds of array and index, the right, the size
  unfoldable pub index_of : (right : ℕ) → Value → Rights → Value → Res (ℕ × Qual × ℕ)
  index_of right x m y = do
    o ← array_at watched g v x
    i ← as_integer watched y
    licence watched right m
    ensure past_end (nat_lt i o.2)
    ok (o.0, o.1, i)

  unfoldable pub element_at : (right b c : ℕ) → Res (ℕ × Qual × ℕ)
  element_at right b c = do
    x ← held (v.variable b)
    y ← held (v.variable c)
    index_of right x.0 x.1 y.0

  -- get and set slot: the kind of the record, open, the slot
  unfoldable pub slot_of_record : (t k : ℕ) → Value → Rights → Res (ℕ × ℕ)
  slot_of_record t k x m = do
    o ← record_at watched g v t x
    licence watched open_right m
    slot_there watched g v (nat_lt k o.1)
    ok (o.0, k)

  unfoldable pub slot_at : (t k b : ℕ) → Res (ℕ × ℕ)
  slot_at t k b = do
    x ← held (v.variable b)
    slot_of_record t k x.0 x.1

  -- a new array's size, before the room for it is tested
  unfoldable pub size_for : Qual → (b : ℕ) → Res ℕ
  size_for q b = do
    n ← one_integer watched g v b
    demand watched (is_array q)
    ok n

-- ---- An answer is a cell of an object, and the one that the definition gives in every view that sees these words

-- the element of the array of a filled cell, x, by the index in another, y
pub record FindsIndexed (h : List ℕ) (x y right : ℕ) (r : Result Spot Halt) : Type 0 where
  pub inside : SpotOk h r
  pub finds : (q : ℕ → Qual) (g : Program) (v : View watched) (z u : Value) (m n : ℕ) → Heads q v h
      → slot_in watched q x ≡ cell (filled z m) → slot_in watched q y ≡ cell (filled u n) → element_as q h r ≡ index_of g v right z m u

-- of the array in variable b by the index in variable c
pub record FindsElement (f h : List ℕ) (b c right : ℕ) (r : Result Spot Halt) : Type 0 where
  pub inside : SpotOk h r
  pub finds : (q : ℕ → Qual) (g : Program) (v : View watched) → Sees watched q v f h → element_as q h r ≡ element_at g v right b c

-- slot k of the record of a filled cell, x, of type t
pub record FindsOpened (h : List ℕ) (x t k : ℕ) (r : Result Spot Halt) : Type 0 where
  pub inside : SpotOk h r
  pub finds : (q : ℕ → Qual) (g : Program) (v : View watched) (z : Value) (m : ℕ) → Heads q v h
      → slot_in watched q x ≡ cell (filled z m) → slot_as r ≡ slot_of_record g v t k z m

-- of the record in variable b
pub record FindsSlot (f h : List ℕ) (t b k : ℕ) (r : Result Spot Halt) : Type 0 where
  pub inside : SpotOk h r
  pub finds : (q : ℕ → Qual) (g : Program) (v : View watched) → Sees watched q v f h → slot_as r ≡ slot_at g v t k b

-- ---- A new object with all its rights, bound to a declared type: of that type's element, or of type t

abbrev pub MakesArray : Qual → Result (Unit {0}) Halt → Type 0
MakesArray q r = made q r ≡ bind watched q (array_kind (element q)) array_rights

abbrev pub MakesRecord : (s : List ℕ) → Qual → (t : ℕ) → Result (Unit {0}) Halt → Type 0
MakesRecord s q t r = made q r ≡ bind watched q (record_kind t) (record_rights (named_of s t))
