-- Document 01, "Instructions", as one table: a line has a code, the operation that it is, and how its fields are used.
-- What an instruction means and the limits of its fields are both read from here.
use Rattle.std.specs.Prelude.{ℕ, List, [], ◌∷◌, cond, eqb}
use Rattle.std.proofs.Math.Option.{Option, none, some}
use Rattle.model.specs.declared.Operation.{Operation}
use Rattle.model.specs.declared.Operation.TheVariants.{Set, Add, Subtract, Less, JumpZero, Bind, Take, Put, NewArray, Fetch, Store, Size, NewRecord, GetSlot, SetSlot, Call, Return}

-- a byte a, b or c: "a variable named is below v. Unused a, b, c are 255"
pub data Operand : Type 0 where
  variable : Operand
  -- "(a 255: drop the result)", "return a (or 255)"
  variable_or_none : Operand
  -- "variables b, b+1 and so on": its limit waits for the procedure called
  first_actual : Operand
  unused : Operand

-- the number k: "unused k is 0"
pub data Constant : Type 0 where
  any_number : Constant
  -- "(k<n)"
  instruction_number : Constant
  -- "14 and 15 need k below its slots"
  slot_number : Constant
  -- its limit waits for the procedure called
  procedure_number : Constant
  no_number : Constant

-- "Codes 13 to 15 need an owner"
pub data Home : Type 0 where
  anywhere : Home
  owned : Home

pub data Line : Type 0 where
  line : (code : ℕ) → (operation : (a b c k : ℕ) → Operation) → (a b c : Operand) → (k : Constant) → Home → Line

unfoldable pub table : List Line
table =
    line 1 (λ a b c k. Set a k) variable unused unused any_number anywhere
    ∷ line 2 (λ a b c k. Add a b c) variable variable variable no_number anywhere
    ∷ line 3 (λ a b c k. Subtract a b c) variable variable variable no_number anywhere
    ∷ line 4 (λ a b c k. Less a b c) variable variable variable no_number anywhere
    ∷ line 5 (λ a b c k. JumpZero a k) variable unused unused instruction_number anywhere
    ∷ line 6 (λ a b c k. Bind a b) variable variable unused no_number anywhere
    ∷ line 7 (λ a b c k. Take a) variable unused unused no_number anywhere
    ∷ line 8 (λ a b c k. Put a) variable unused unused no_number anywhere
    ∷ line 9 (λ a b c k. NewArray a b) variable variable unused no_number anywhere
    ∷ line 10 (λ a b c k. Fetch a b c) variable variable variable no_number anywhere
    ∷ line 11 (λ a b c k. Store a b c) variable variable variable no_number anywhere
    ∷ line 12 (λ a b c k. Size a b) variable variable unused no_number anywhere
    ∷ line 13 (λ a b c k. NewRecord a) variable unused unused no_number owned
    ∷ line 14 (λ a b c k. GetSlot a b k) variable variable unused slot_number owned
    ∷ line 15 (λ a b c k. SetSlot a b k) variable variable unused slot_number owned
    ∷ line 16 (λ a b c k. Call a b k) variable_or_none first_actual unused procedure_number anywhere
    ∷ line 17 (λ a b c k. Return a) variable_or_none unused unused no_number anywhere
    ∷ []

abbrev pub code_of : Line → ℕ
code_of (line code o a b c k h) = code

unfoldable pub line_in : List Line → ℕ → Option Line
line_in [] code = none
line_in (l ∷ ls) code = cond (eqb code (code_of l)) (some l) (line_in ls code)

-- the line of a code; none for a code that the table does not have
abbrev pub line_of : ℕ → Option Line
line_of code = line_in table code
