-- Where the instruction that the registers name stands, what is known of it in a well-formed sheet, and the part of the sheet that it is read from.
use Rattle.std.specs.Prelude.{ℕ, ◌+◌, ◌*◌, ◌≤◌, ◌<◌, ◌≡◌, List, length, drop}
use Rattle.model.specs.Rules.{callee}
use Rattle.model.specs.declared.Operation.TheVariants.{Call}
use Rattle.sheet.specs.Layout.{procedures_of, formals_at, procedure_at}
use Rattle.sheet.specs.Decode.{operation_at}
use Rattle.form.specs.Named.{Named}
use Rattle.writers.specs.declared.Registers.{Registers}
use Rattle.writers.specs.Memory.{variables_in, first_in}

abbrev pub place_in : Registers → ℕ
place_in r = first_in r + 8 * r.next

-- the record stands whole, in a sheet that starts before it, and is not the last of many; the variables that it names are the frame's; the procedure that
-- it calls is one of the sheet's, and the variables that it passes are the frame's
pub record Fetchable (s : List ℕ) (r : Registers) : Type 0 where
  pub whole : place_in r + 8 ≤ length s
  pub first : first_in r ≤ length s
  pub next : r.next < 1000
  pub named : Named (variables_in r) (operation_at s (place_in r))
  pub callee_there : callee (operation_at s (place_in r)) < procedures_of s
  pub actuals : (a b k : ℕ) → operation_at s (place_in r) ≡ Call a b k → (j : ℕ) → j < formals_at s (procedure_at s k) → b + j < variables_in r

-- the instructions of the running procedure, and whatever follows them in the sheet
abbrev pub CodeOf : (s : List ℕ) → Registers → (code : List ℕ) → Type 0
CodeOf s r code = code ≡ drop (first_in r) s
