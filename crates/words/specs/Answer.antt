-- A word read as a cell: the code's answer.
use Rattle.std.specs.Prelude.{ℕ, cond, eqb, Option, None, Some, Result, Ok, Err}
use Rattle.model.specs.declared.Halt.{Halt}
use Rattle.model.specs.declared.Halt.TheVariants.{Blank}

-- 0 is blank; a filled cell is known by its word
abbrev pub read_cell : ℕ → Option ℕ
read_cell w = cond (eqb w 0) None (Some w)

-- a blank cell gives its stop
abbrev pub read_filled : ℕ → Result ℕ Halt
read_filled w = cond (eqb w 0) (Err Blank) (Ok w)
