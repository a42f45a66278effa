-- What the proofs of condition 3 lean on beside the access rules: parts of the layout (refusals 1 to 5), which a well-formed sheet has.
use Prim.Native.Nat.{ℕ, suc, ◌+◌, ◌<◌, ◌≤◌}
use mathlib.Core.Path.{◌≡◌}
use mathlib.Core.Bool.{false}
use mathlib.Core.Option.{Option, none, some}
use Rattle.model.specs.Rights.{has, open_right}
use Rattle.model.specs.Generic.{no_bound, least, uses}
use Rattle.model.specs.Program.{Program}
use Rattle.model.specs.Rules.{optional}
use Rattle.model.specs.declared.Operation.{Operation}
use Rattle.model.specs.declared.Operation.TheVariants.{Set, Add, Subtract, Less, JumpZero, Bind, Take, Put, NewArray, Fetch, Store, Size, NewRecord, GetSlot, SetSlot, Call, Return}

module _ (g : Program) where
  -- after an instruction that goes on to the next there is one: "The last IN of a procedure is a return"; a jump's, a call's and a slot's number is there
  abbrev pub FormedAt : (p i : ℕ) → Operation → Type 0
  FormedAt p i (Set a k) = suc i < g.instructions p
  FormedAt p i (Add a b c) = suc i < g.instructions p
  FormedAt p i (Subtract a b c) = suc i < g.instructions p
  FormedAt p i (Less a b c) = suc i < g.instructions p
  FormedAt p i (JumpZero a k) = (k < g.instructions p) × (suc i < g.instructions p)
  FormedAt p i (Bind a b) = suc i < g.instructions p
  FormedAt p i (Take a) = suc i < g.instructions p
  FormedAt p i (Put a) = suc i < g.instructions p
  FormedAt p i (NewArray a b) = suc i < g.instructions p
  FormedAt p i (Fetch a b c) = suc i < g.instructions p
  FormedAt p i (Store a b c) = suc i < g.instructions p
  FormedAt p i (Size a b) = suc i < g.instructions p
  FormedAt p i (NewRecord a) = (2 ≤ g.owner p) × (suc i < g.instructions p)
  FormedAt p i (GetSlot a b k) = (2 ≤ g.owner p) × (k < g.slots (g.owner p)) × (suc i < g.instructions p)
  FormedAt p i (SetSlot a b k) = (2 ≤ g.owner p) × (k < g.slots (g.owner p)) × (suc i < g.instructions p)
  FormedAt p i (Call a b k) = (k < g.procedures) × (suc i < g.instructions p)
  FormedAt p i (Return a) = Unit {0}

  pub record Formed : Type 0 where
    pub main : 0 < g.procedures
    pub begins : (p : ℕ) → p < g.procedures → 0 < g.instructions p
    pub formals : (p : ℕ) → p < g.procedures → g.formals p ≤ g.variables p
    pub operations : (p i : ℕ) → p < g.procedures → i < g.instructions p → FormedAt p i (g.operation p i)
    -- S-1: main has no rights name, no least set has open, and no slot uses ?R
    pub main_bound : g.bound 0 ≡ no_bound
    pub bound_closed : (p : ℕ) → p < g.procedures → has open_right (least (g.bound p)) ≡ false
    pub slots_plain : (p k : ℕ) → p < g.procedures → 2 ≤ g.owner p → k < g.slots (g.owner p) → uses (g.slot (g.owner p) k) ≡ false

  -- what Same.antt leans on beside these: a variable named is below v, an actual too, and an owner whose records are made or opened is a declared type
  abbrev pub BelowOrNone : (p : ℕ) → Option ℕ → Type 0
  BelowOrNone p none = Unit {0}
  BelowOrNone p (some a) = a < g.variables p

  abbrev pub OperandsAt : (p : ℕ) → Operation → Type 0
  OperandsAt p (Set a k) = a < g.variables p
  OperandsAt p (Add a b c) = (a < g.variables p) × (b < g.variables p) × (c < g.variables p)
  OperandsAt p (Subtract a b c) = (a < g.variables p) × (b < g.variables p) × (c < g.variables p)
  OperandsAt p (Less a b c) = (a < g.variables p) × (b < g.variables p) × (c < g.variables p)
  OperandsAt p (JumpZero a k) = a < g.variables p
  OperandsAt p (Bind a b) = (a < g.variables p) × (b < g.variables p)
  OperandsAt p (Take a) = a < g.variables p
  OperandsAt p (Put a) = a < g.variables p
  OperandsAt p (NewArray a b) = (a < g.variables p) × (b < g.variables p)
  OperandsAt p (Fetch a b c) = (a < g.variables p) × (b < g.variables p) × (c < g.variables p)
  OperandsAt p (Store a b c) = (a < g.variables p) × (b < g.variables p) × (c < g.variables p)
  OperandsAt p (Size a b) = (a < g.variables p) × (b < g.variables p)
  OperandsAt p (NewRecord a) = (a < g.variables p) × (g.owner p < 2 + g.types)
  OperandsAt p (GetSlot a b k) = (a < g.variables p) × (b < g.variables p) × (g.owner p < 2 + g.types)
  OperandsAt p (SetSlot a b k) = (a < g.variables p) × (b < g.variables p) × (g.owner p < 2 + g.types)
  OperandsAt p (Call a b k) = BelowOrNone p (optional a) × ((j : ℕ) → j < g.formals k → b + j < g.variables p)
  OperandsAt p (Return a) = BelowOrNone p (optional a)

  pub record Operands : Type 0 where
    pub named : (p i : ℕ) → p < g.procedures → i < g.instructions p → OperandsAt p (g.operation p i)

-- what "open stays" leans on beside these: a variable named is below v, an inner QT is one of the QTs, an owner is one of the declared types
pub record Numbered (g : Program) : Type 0 where
  pub new_array : (p i a b : ℕ) → p < g.procedures → i < g.instructions p → g.operation p i ≡ NewArray a b → a < g.variables p
  pub inner_qual : (p x : ℕ) → p < g.procedures → x < g.variables p → (j : ℕ) × (j < g.quals) × (g.inner p x ≡ g.qual j)
  pub owner_type : (p : ℕ) → p < g.procedures → 2 ≤ g.owner p → g.owner p < 2 + g.types
