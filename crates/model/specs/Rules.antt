-- The access rules (document 01, "Access rules"; document 02, S-1): what each record is asked, in the papers' order.
use Rattle.std.specs.Prelude.{ℕ, ◌+◌, Bool, true, false, not, ◌&&◌, ◌||◌, cond, List, [], ◌∷◌, ◌++◌, eqb, leb, ltb}
use Rattle.std.proofs.Math.Option.{Option, none, some}
use Rattle.model.specs.Rights.{within, has, none_above, open_right, fetch_right, store_right, size_right, array_rights}
use Rattle.model.specs.Qualified.{Qual, integer, array, declared, generic, base, rights, element, is_integer, is_array, is_generic, same, alike, covers}
use Rattle.model.specs.Generic.{Bound, own, read, read_result, settlings, settled, some_uses, is_settled, is_enough}
use Rattle.model.specs.Program.{Program, Record, type_record, qual_record, procedure_record, variable_record, instruction_record}
use Rattle.model.specs.Refusal.{OpenExposed, FalseRaise, TypeMismatch, InsufficientRights, Unsettled, ShortSet, Test, test, Tests, tests, each}
use Rattle.model.specs.declared.Operation.{Operation}
use Rattle.model.specs.declared.Operation.TheVariants.{Set, Add, Subtract, Less, JumpZero, Bind, Take, Put, NewArray, Fetch, Store, Size, NewRecord, GetSlot, SetSlot, Call, Return}

-- "255: drop the result", "return a (or 255)": a variable, or none
unfoldable pub optional : ℕ → Option ℕ
optional a = cond (eqb a 255) none (some a)

-- "Each movement needs source ≥ destination" (8 before 9 within each)
unfoldable pub moves : (source destination : Qual) → List Test
moves s d = test TypeMismatch (alike s d) ∷ test InsufficientRights (covers s d) ∷ []

-- a qualified type is of the owner's type; owner 0 is none. ?R, as it is read, has the base of its bound
unfoldable pub owned_by : (owner : ℕ) → Qual → Bool
owned_by o q = leb 2 o && eqb (base q) o

-- ---- Instructions, by the declared types of their variables

-- "Arithmetic, jumps, sizes, indexes, take and put use integer variables"
unfoldable pub integer_rule : Qual → List Test
integer_rule a = test TypeMismatch (is_integer a) ∷ []

unfoldable pub integers_rule : Qual → Qual → Qual → List Test
integers_rule a b c = test TypeMismatch (is_integer a && is_integer b && is_integer c) ∷ []

-- "9 and 13 give all rights": the new value has a's own type and element, so that its movement into a asks that a's rights are among all; "nothing else
-- reaches ?R"
unfoldable pub new_array_rule : Qual → Qual → List Test
new_array_rule a b = test TypeMismatch (is_integer b && is_array a) ∷ test InsufficientRights (within (rights a) array_rights) ∷ []

unfoldable pub new_record_rule : (owner named : ℕ) → Qual → List Test
new_record_rule o n a = test TypeMismatch (owned_by o a) ∷ test InsufficientRights (not (is_generic a) && none_above n (rights a)) ∷ []

-- "Codes 10, 11, 12 need fetch, store, size on the tray"
unfoldable pub fetch_rule : Qual → Qual → Qual → List Test
fetch_rule a b c =
    test TypeMismatch (is_array b && is_integer c) ∷ test InsufficientRights (has fetch_right (rights b)) ∷ moves (element b) a

unfoldable pub store_rule : Qual → Qual → Qual → List Test
store_rule a b c =
    test TypeMismatch (is_array a && is_integer b) ∷ test InsufficientRights (has store_right (rights a)) ∷ moves c (element a)

-- "the size of 12 going into a is one" of the movements: it comes after the right
unfoldable pub size_rule : Qual → Qual → List Test
size_rule a b = test TypeMismatch (is_array b) ∷ test InsufficientRights (has size_right (rights b)) ∷ integer_rule a

-- "14 and 15 need open on a variable of the owner's type"
unfoldable pub get_slot_rule : (owner : ℕ) → Qual → Qual → Qual → List Test
get_slot_rule o a b slot =
    test TypeMismatch (owned_by o b) ∷ test InsufficientRights (has open_right (rights b)) ∷ moves slot a

unfoldable pub set_slot_rule : (owner : ℕ) → Qual → Qual → Qual → List Test
set_slot_rule o a b slot =
    test TypeMismatch (owned_by o a) ∷ test InsufficientRights (has open_right (rights a)) ∷ moves b slot

-- "A return has a variable exactly if its PR has a result"
unfoldable pub return_rule : Option Qual → Option Qual → List Test
return_rule none none = []
return_rule (some v) (some r) = moves v r
return_rule none (some r) = test TypeMismatch false ∷ []
return_rule (some v) none = test TypeMismatch false ∷ []

-- "a call keeps one only then"; "a kept result last"
unfoldable pub keeps : {A : Type 0} → Option A → Option Qual → Bool
keeps none r = true
keeps (some a) (some r) = true
keeps (some a) none = false

unfoldable pub kept_rule : Option Qual → Option Qual → List Test
kept_rule (some a) (some r) = moves r a
kept_rule none r = []
kept_rule (some a) none = []

-- "an inner QT whose base is the procedure's owner" may have open, and nothing else may
unfoldable pub closed : Qual → Bool
closed q = not (has open_right (rights q))

unfoldable pub closed_result : Option Qual → Bool
closed_result none = true
closed_result (some q) = closed q

-- a type whose values the owner amplifies; ?R "is never amplified"
unfoldable pub amplifies : (owner : ℕ) → Qual → Bool
amplifies o integer = false
amplifies o (array r e) = false
amplifies o (declared t r) = leb 2 o && eqb t o
amplifies o (generic t l) = false

-- "For a formal whose inner has the owner's base, need must have that base and rights may differ"; else "need and inner are equal";
-- "a formal with ?R as need or inner has it as both": both as their records have them, before ?R is read
unfoldable pub agrees : (owner : ℕ) → (need inner : Qual) → Bool
agrees o need inner = cond (amplifies o inner) (amplifies o need) (same need inner)

unfoldable pub formal_rule : (owner : ℕ) → (need inner : Qual) → List Test
formal_rule o need inner =
    test OpenExposed (closed need && (amplifies o inner || closed inner)) ∷ test FalseRaise (agrees o need inner) ∷ []

unfoldable pub local_rule : (owner : ℕ) → (inner : Qual) → List Test
local_rule o inner = test OpenExposed (amplifies o inner || closed inner) ∷ []

unfoldable pub declaration_rule : (owner formals x : ℕ) → (need inner : Qual) → List Test
declaration_rule o f x need inner = cond (ltb x f) (formal_rule o need inner) (local_rule o inner)

unfoldable pub optional_variable : (ℕ → Qual) → Option ℕ → Option Qual
optional_variable f none = none
optional_variable f (some a) = some (f a)

-- a procedure as it is called: its bound, its number of formals, and its needs and its result, in which it reads ?R itself
pub record Callee : Type 0 where
  pub bound : Bound
  pub formals : ℕ
  pub need : ℕ → Qual
  pub result : Option Qual

module _ (inner : ℕ → Qual) (c : Callee) (b : ℕ) where
  -- what the variables from b on settle
  abbrev pub found_by : List Qual
  found_by = settlings c.formals c.need (λ j. inner (b + j))

  -- "both at the call, 20 first, before 8"
  unfoldable pub settling_rule : List Test
  settling_rule =
      test Unsettled (is_settled c.bound (some_uses c.need 0 c.formals) found_by)
      ∷ test ShortSet (is_enough c.bound found_by)
      ∷ []

-- a call with variables from b on, where ?R of the procedure called stands for ρ: "Need and result are then read with that set"; actual j moves to need j
unfoldable pub passing_rule : (inner : ℕ → Qual) → Callee → (ρ : Qual) → (a b : ℕ) → List Test
passing_rule inner c ρ a b =
    test TypeMismatch (keeps (optional_variable inner (optional a)) c.result)
    ∷ (each c.formals (λ j. moves (inner (b + j)) (read ρ (c.need j))) ++ kept_rule (optional_variable inner (optional a)) (read_result ρ c.result))

-- "Within an instruction: return form, kinds, tray or open right, then each movement in turn, actuals in order and a kept result last"
unfoldable pub call_rule : (inner : ℕ → Qual) → Callee → (a b : ℕ) → List Test
call_rule inner c a b = settling_rule inner c b ++ passing_rule inner c (settled c.bound (found_by inner c b)) a b

-- ---- Records

-- "6 is given at the TY whose slot, the QT whose element, the PR whose result or the VR whose need or inner has it otherwise"
unfoldable pub closed_rule : Qual → List Test
closed_rule q = test OpenExposed (closed q) ∷ []

module _ (g : Program) where
  -- variable x of procedure p, which reads ?R with its own bound
  unfoldable pub typed : (p x : ℕ) → Qual
  typed p x = read (own (g.bound p)) (g.inner p x)

  -- slot k of its owner's type; ?R is in no slot (5), so that it is there unread too
  unfoldable pub typed_slot : (p k : ℕ) → Qual
  typed_slot p k = read (own (g.bound p)) (g.slot (g.owner p) k)

  abbrev pub called : (k : ℕ) → Callee
  called k =
      record {
        bound = g.bound k;
        formals = g.formals k;
        need = λ j. read (own (g.bound k)) (g.need k j);
        result = read_result (own (g.bound k)) (g.result k);
      }

  -- one line a code
  unfoldable pub rule : (p : ℕ) → Operation → List Test
  rule p (Set a k) = integer_rule (typed p a)
  rule p (Add a b c) = integers_rule (typed p a) (typed p b) (typed p c)
  rule p (Subtract a b c) = integers_rule (typed p a) (typed p b) (typed p c)
  rule p (Less a b c) = integers_rule (typed p a) (typed p b) (typed p c)
  rule p (JumpZero a k) = integer_rule (typed p a)
  rule p (Bind a b) = moves (typed p b) (typed p a)
  rule p (Take a) = integer_rule (typed p a)
  rule p (Put a) = integer_rule (typed p a)
  rule p (NewArray a b) = new_array_rule (typed p a) (typed p b)
  rule p (Fetch a b c) = fetch_rule (typed p a) (typed p b) (typed p c)
  rule p (Store a b c) = store_rule (typed p a) (typed p b) (typed p c)
  rule p (Size a b) = size_rule (typed p a) (typed p b)
  rule p (NewRecord a) = new_record_rule (g.owner p) (g.named (g.owner p)) (typed p a)
  rule p (GetSlot a b k) = get_slot_rule (g.owner p) (typed p a) (typed p b) (typed_slot p k)
  rule p (SetSlot a b k) = set_slot_rule (g.owner p) (typed p a) (typed p b) (typed_slot p k)
  rule p (Call a b k) = call_rule (typed p) (called k) a b
  rule p (Return a) = return_rule (optional_variable (typed p) (optional a)) (read_result (own (g.bound p)) (g.result p))

  -- 6 and 7 of a variable, as its record has it
  unfoldable pub variable_rule : (p x : ℕ) → List Test
  variable_rule p x = declaration_rule (g.owner p) (g.formals p) x (g.need p x) (g.inner p x)

-- record by record, each with the byte at which it starts
module _ (at : Record → ℕ) (g : Program) where
  unfoldable pub type_rules : ℕ → List Tests
  type_rules i = tests (at (type_record (2 + i))) (each (g.slots (2 + i)) (λ k. closed_rule (g.slot (2 + i) k))) ∷ []

  unfoldable pub qual_rules : ℕ → List Tests
  qual_rules j = tests (at (qual_record j)) (closed_rule (element (g.qual j))) ∷ []

  unfoldable pub variable_rules : (p x : ℕ) → List Tests
  variable_rules p x = tests (at (variable_record p x)) (variable_rule g p x) ∷ []

  unfoldable pub instruction_rules : (p i : ℕ) → List Tests
  instruction_rules p i = tests (at (instruction_record p i)) (rule g p (g.operation p i)) ∷ []

  unfoldable pub head_rules : (p : ℕ) → List Tests
  head_rules p = tests (at (procedure_record p)) (test OpenExposed (closed_result (g.result p)) ∷ []) ∷ []

  unfoldable pub procedure_rules : ℕ → List Tests
  procedure_rules p =
      head_rules p ++ (each (g.variables p) (variable_rules p) ++ each (g.instructions p) (instruction_rules p))

  -- "then record by record 6, 7, 8, 9"
  unfoldable pub access_rules : List Tests
  access_rules =
      each g.types type_rules ++ (each g.quals qual_rules ++ each g.procedures procedure_rules)

-- the procedure that an operation calls; 0, main, of one that calls none
unfoldable pub callee : Operation → ℕ
callee (Call a b k) = k
callee (Set a k) = 0
callee (Add a b c) = 0
callee (Subtract a b c) = 0
callee (Less a b c) = 0
callee (JumpZero a k) = 0
callee (Bind a b) = 0
callee (Take a) = 0
callee (Put a) = 0
callee (NewArray a b) = 0
callee (Fetch a b c) = 0
callee (Store a b c) = 0
callee (Size a b) = 0
callee (NewRecord a) = 0
callee (GetSlot a b k) = 0
callee (SetSlot a b k) = 0
callee (Return a) = 0
