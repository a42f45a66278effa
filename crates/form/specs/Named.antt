-- Document 01, "Bytes of a worksheet": "a variable named is below v".
use Rattle.std.specs.Prelude.{ℕ, ◌<◌}
use Rattle.model.specs.declared.Operation.{Operation}
use Rattle.model.specs.declared.Operation.TheVariants.{Set, Add, Subtract, Less, JumpZero, Bind, Take, Put, NewArray, Fetch, Store, Size, NewRecord, GetSlot, SetSlot, Call, Return}

-- The variables that an operation names are below v. What a call passes waits for the procedure called, and what it keeps or a return gives may be none.
abbrev pub Named : ℕ → Operation → Type 0
Named v (Set a k) = a < v
Named v (Add a b c) = (a < v) × ((b < v) × (c < v))
Named v (Subtract a b c) = (a < v) × ((b < v) × (c < v))
Named v (Less a b c) = (a < v) × ((b < v) × (c < v))
Named v (JumpZero a k) = a < v
Named v (Bind a b) = (a < v) × (b < v)
Named v (Take a) = a < v
Named v (Put a) = a < v
Named v (NewArray a b) = (a < v) × (b < v)
Named v (Fetch a b c) = (a < v) × ((b < v) × (c < v))
Named v (Store a b c) = (a < v) × ((b < v) × (c < v))
Named v (Size a b) = (a < v) × (b < v)
Named v (NewRecord a) = a < v
Named v (GetSlot a b k) = (a < v) × (b < v)
Named v (SetSlot a b k) = (a < v) × (b < v)
Named v (Call a b k) = Unit {0}
Named v (Return a) = Unit {0}
