-- Document 01, "Instructions": "An instruction read is its place together with one of seventeen kinds of work."
use Rattle.std.specs.Prelude.{ℕ, List}
use Rattle.std.proofs.Math.Option.{Option, none, some}
use Rattle.sheet.specs.Bytes.{byte_at}
use Rattle.sheet.specs.Layout.{code_at, k_at}
use Rattle.sheet.specs.Instructions.{Line, line, line_of}
use Rattle.sheet.specs.declared.fields.Fields.{Fields}
use Rattle.model.specs.declared.Operation.{Operation}
use Rattle.model.specs.declared.Operation.TheVariants.{Return}
use Rattle.model.specs.declared.Instruction.{Instruction}

-- no instruction: the layout refuses such a code (5), so that no run meets it; reading is total, and reads it as this
unfoldable pub unlisted : Fields → Operation
unlisted f = Return f.a

-- the operation of a line, with the operands of the IN
unfoldable pub operation_by : Fields → Option Line → Operation
operation_by f none = unlisted f
operation_by f (some (line code operation a b c k h)) = operation f.a f.b f.c f.k

unfoldable pub decode : Fields → Operation
decode f = operation_by f (line_of f.code)

-- the IN at `at`: "code, a, b, c, k (2 bytes)"
abbrev pub fields_at : List ℕ → ℕ → Fields
fields_at s at = record { code = code_at s at; a = byte_at s at 3; b = byte_at s at 4; c = byte_at s at 5; k = k_at s at }

unfoldable pub operation_at : List ℕ → ℕ → Operation
operation_at s at = decode (fields_at s at)

-- instruction i of procedure p, which stands at `at`
unfoldable pub instruction_in : List ℕ → (p i at : ℕ) → Instruction
instruction_in s p i at = record { procedure = p; instruction = i; operation = operation_at s at }
