-- The instruction that the registers name, read from the running procedure's part of the sheet; and what is known of a call.
use Prim.Native.Nat.{ℕ, ◌+◌, ◌-◌, ◌*◌}
use native.Mathlib.Omega.{arith}
use mathlib.Core.Path.{◌≡◌, ap, sym, subst, ◌∙◌}
use mathlib.Core.List.{List}
use lib.ListN.{get_or, drop}
use lib.Seq.{get_or-drop}
use Rattle.model.specs.Rules.{callee}
use Rattle.model.specs.declared.Operation.{Operation}
use Rattle.model.specs.declared.Operation.TheVariants.{Call}
use Rattle.sheet.specs.Bytes.{byte_at, number_at, word_at}
use Rattle.sheet.specs.Layout.{code_at, k_at}
use Rattle.sheet.specs.Decode.{operation_at}
use Rattle.form.specs.Named.{Named}
use Rattle.writers.specs.declared.Registers.{Registers}
use Rattle.writers.specs.Memory.{variables_in, first_in}
use Rattle.frames.specs.Fetch.{place_in, Fetchable, CodeOf}
use Rattle.frames.specs.Frames.{Callable}

byte_drop : (s : List ℕ) (n at k : ℕ) → byte_at (drop n s) at k ≡ byte_at s (n + at) k
unfolding byte_at
byte_drop s n at k =
    let e : n + (at + k) ≡ n + at + k = omega arith in
    get_or-drop n s (at + k) 0 ∙ ap (λ (i : ℕ). get_or s i 0) e

operation_drop : (s : List ℕ) (n at : ℕ) → operation_at (drop n s) at ≡ operation_at s (n + at)
unfolding operation_at code_at k_at word_at number_at
operation_drop s n at =
    rw (byte_drop s n at 2, byte_drop s n at 3, byte_drop s n at 4, byte_drop s n at 5, byte_drop s n at 6, byte_drop s n at 7)

module _ (s : List ℕ) (r : Registers) (code : List ℕ) (K : CodeOf s r code) where
  pub code_operation : operation_at code (8 * r.next) ≡ operation_at s (place_in r)
  code_operation = rw K (operation_drop s (first_in r) (8 * r.next))

pub callable : (s : List ℕ) (r : Registers) (a b k : ℕ) → Fetchable s r → operation_at s (place_in r) ≡ Call a b k → Callable s r a b k
unfolding callee
callable s r a b k F e =
    record {
      here = e;
      next = F.next;
      procedure = rw e at F.callee_there;
      actuals = F.actuals a b k e;
    }

-- the variables that the instruction names are the frame's
pub named_as : {s : List ℕ} {r : Registers} {op : Operation} → Fetchable s r → operation_at s (place_in r) ≡ op → Named (variables_in r) op
named_as {r = r} F e = subst (Named (variables_in r)) e F.named

-- of what was read from the procedure's part, and is `op`: it is the operation at the place that the registers name
pub fetched : (s : List ℕ) (r : Registers) {code : List ℕ} {o op : Operation} → CodeOf s r code → o ≡ operation_at code (8 * r.next) → o ≡ op → operation_at s (place_in r) ≡ op
fetched s r {code = code} k e f = sym (e ∙ code_operation s r code k) ∙ f

pub fetched_named : (s : List ℕ) (r : Registers) {code : List ℕ} {o op : Operation}
    → Fetchable s r → CodeOf s r code → o ≡ operation_at code (8 * r.next) → o ≡ op → Named (variables_in r) op
fetched_named s r h k e f = named_as h (fetched s r k e f)
