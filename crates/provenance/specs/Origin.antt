-- What a step of a run does to a location (document 02, S-4): "bindings", "the object's creation", "an amplified formal". One line for each of document 01's
-- codes, of the state before the step; nothing is kept beside a value for it.
use Rattle.std.specs.Prelude.{ℕ, suc, pred, ◌+◌, ◌&&◌, cond, List, [], ◌∷◌, ◌++◌, eqb, ltb}
use Rattle.std.proofs.Math.Option.{Option, none, some}
use Rattle.model.specs.Rights.{Rights}
use Rattle.model.specs.Qualified.{Qual, integer, rights, element}
use Rattle.model.specs.Generic.{settled, read_result}
use Rattle.model.specs.Program.{Program}
use Rattle.model.specs.Rules.{optional, amplifies, called, found_by}
use Rattle.model.specs.declared.Operation.{Operation}
use Rattle.model.specs.declared.Operation.TheVariants.{Set, Add, Subtract, Less, JumpZero, Bind, Take, Put, NewArray, Fetch, Store, Size, NewRecord, GetSlot, SetSlot, Call, Return}
use Rattle.model.specs.Modes.{watched, in_frame, Kind, no_kind, is_record_of}
use Rattle.model.specs.Machine.{word, object, Cell, empty, filled, Head, array_head, record_head, no_head, View, kept, read_in, declared_as, kind_of}
use Rattle.provenance.specs.Location.{Location, variable, cell, same_location}

pub data Origin : Type 0 where
  -- it stays as it was
  stays : Origin
  -- what it held is given up, for an integer, which carries no right, or for nothing
  given_up : Origin
  -- it holds an object made in this step
  made : Origin
  -- it holds what another location held, bound to each of these declared types, the last its own
  bound_from : Location → List Qual → Origin
  -- it is formal j of procedure k, amplified
  amplified : (k j : ℕ) → Origin

-- one location gets this, and all others stay
unfoldable pub into : Location → Origin → Location → Origin
into l o m = cond (same_location m l) o stays

-- the integer in a cell, or the name of the object in it: a step that was made found the one it asks for
unfoldable pub number_in : Cell watched → ℕ
number_in empty = 0
number_in (filled (word n) r) = n
number_in (filled (object a) r) = a

-- an array's own element
unfoldable pub own_element : Head watched → Qual
own_element (array_head e n) = e
own_element (record_head t n) = integer
own_element no_head = integer

unfoldable pub listed : Option Qual → List Qual
listed none = []
listed (some q) = q ∷ []

-- in a program, of what a step sees before it is made, with so many frames below the running one
module _ (g : Program) (v : View watched) (depth : ℕ) where
  abbrev pub here : ℕ → Location
  here x = variable depth x

  -- the declared type of a variable, the rights of ?R those of the frame's set
  abbrev pub typed : ℕ → Qual
  typed x = declared_as watched g v x

  -- slot k of the owner's type
  abbrev pub slot_type : ℕ → Qual
  slot_type k = read_in watched g v v.procedure v.set_held (g.slot (g.owner v.procedure) k)

  abbrev pub number : ℕ → ℕ
  number x = number_in (v.variable x)

  unfoldable pub kind_held : Cell watched → Kind watched
  kind_held empty = no_kind
  kind_held (filled x r) = kind_of watched g v x

  -- ---- "A call binds each actual to need; then, if its type and inner's base are the callee's owner (2 or more), it carries inner's rights, else it is
  -- bound to inner"

  -- the set that the call of procedure k with variables from b on settles ?R to
  abbrev pub set_settled : (k b : ℕ) → Rights
  set_settled k b = rights (settled (g.bound k) (found_by typed (called g k) b))

  abbrev pub passed : (k b j : ℕ) → List Qual
  passed k b j = read_in watched g v k (set_settled k b) (g.need k j) ∷ read_in watched g v k (set_settled k b) (g.inner k j) ∷ []

  unfoldable pub formal : (k b j : ℕ) → Origin
  formal k b j =
      cond (is_record_of (g.owner k) (kind_held (v.variable (b + j))) && amplifies (g.owner k) (g.inner k j))
      (amplified k j) (bound_from (here (b + j)) (passed k b j))

  -- the variables of the frame that is opened: formals, and the others blank
  unfoldable pub opened_by : (k b : ℕ) → Location → Origin
  opened_by k b (variable d x) = cond (eqb d (suc depth)) (cond (ltb x (g.formals k)) (formal k b x) given_up) stays
  opened_by k b (cell a i) = stays

  -- ---- "A return binds to the result QT, then to a", and its frame is given back

  unfoldable pub closed_frame : Location → Origin
  closed_frame (variable d x) = cond (eqb d depth) given_up stays
  closed_frame (cell a i) = stays

  -- the result, and variable x of the caller, a frame of procedure p with set z
  abbrev pub returned : (p : ℕ) → Rights → (x : ℕ) → List Qual
  returned p z x = listed (read_result (in_frame watched (g.bound v.procedure) v.set_held) (g.result v.procedure)) ++ (read_in watched g v p z (g.inner p x) ∷ [])

  -- from variable a to the caller's variable x; nothing is handed over where either is none
  unfoldable pub handed_to : (p : ℕ) → Rights → (kept returning : Option ℕ) → Location → Origin
  handed_to p z (some x) (some a) l =
      cond (same_location l (variable (pred depth) x)) (bound_from (here a) (returned p z x)) (closed_frame l)
  handed_to p z none a l = closed_frame l
  handed_to p z (some x) none l = closed_frame l

  unfoldable pub closed_by : (caller : Option (ℕ × ℕ × Rights)) → Option ℕ → Location → Origin
  closed_by none a l = closed_frame l
  closed_by (some w) a l = handed_to w.0 w.2 (kept (g.operation w.0 (pred w.1))) a l

  -- ---- Document 01's codes, 1 to 17. What computes, takes or measures an integer gives up what a held; jump and put change nothing; a new array and a new
  -- record are made; every other code binds: bind and get to a, fetch to the element of b's type and to a (S-3), store to the array's own element, set to the
  -- slot, call to need and inner, return to the result and to the variable that keeps it
  unfoldable pub origin : Operation → Location → Origin
  origin (Set a k) = into (here a) given_up
  origin (Add a b c) = into (here a) given_up
  origin (Subtract a b c) = into (here a) given_up
  origin (Less a b c) = into (here a) given_up
  origin (JumpZero a k) = λ l. stays
  origin (Bind a b) = into (here a) (bound_from (here b) (typed a ∷ []))
  origin (Take a) = into (here a) given_up
  origin (Put a) = λ l. stays
  origin (NewArray a b) = into (here a) made
  origin (Fetch a b c) = into (here a) (bound_from (cell (number b) (number c)) (element (typed b) ∷ typed a ∷ []))
  origin (Store a b c) = into (cell (number a) (number b)) (bound_from (here c) (own_element (v.head (number a)) ∷ []))
  origin (Size a b) = into (here a) given_up
  origin (NewRecord a) = into (here a) made
  origin (GetSlot a b k) = into (here a) (bound_from (cell (number b) k) (typed a ∷ []))
  origin (SetSlot a b k) = into (cell (number a) k) (bound_from (here b) (slot_type k ∷ []))
  origin (Call a b k) = opened_by k b
  origin (Return a) = closed_by v.caller (optional a)
