-- The variable that a call keeps, as a byte, and the call that the registers name.
use Prim.Native.Nat.{ℕ}
use mathlib.Core.Path.{◌≡◌, refl, sym, ap, ◌∙◌}
use mathlib.Core.Bool.{Bool, true, false, cond}
use mathlib.Core.List.{List}
use mathlib.Core.Option.{none, some}
use borrow.Author.Tests.{eqb-true, eq-eqb, ne_eqb}
use lib.Dec.{eqb}
use Rattle.model.specs.Rules.{optional}
use Rattle.model.specs.Modes.{Mode, SettledSet}
use Rattle.model.specs.Machine.{Cell, Object, Frame, kept}
use Rattle.model.specs.declared.Operation.{Operation}
use Rattle.model.specs.declared.Operation.TheVariants.{Set, Add, Subtract, Less, JumpZero, Bind, Take, Put, NewArray, Fetch, Store, Size, NewRecord, GetSlot, SetSlot, Call, Return}
use Rattle.sheet.specs.Layout.{variables_field, start_at, instruction_at, procedure_at}
use Rattle.sheet.specs.Decode.{operation_at}
use Rattle.form.proofs.Laws.{instruction_counted}
use Rattle.writers.specs.declared.Registers.{Registers}
use Rattle.writers.specs.Memory.{Given, byte_of, kept_byte, first_in, Stands}
use Rattle.frames.specs.Fetch.{place_in}

-- 255 is none
pub optional_none : (a : ℕ) → a ≡ 255 → optional a ≡ none
unfolding optional
optional_none a e = rw (eq-eqb a 255 e)

pub optional_some : (a : ℕ) → (a ≡ 255 → ⊥) → optional a ≡ some a
unfolding optional
optional_some a n = rw (ne_eqb a 255 n)

byte_optional : (a : ℕ) → byte_of (optional a) ≡ a
unfolding optional
byte_optional a = go (eqb a 255) refl
  where
    go : (t : Bool) → eqb a 255 ≡ t → byte_of (cond t none (some a)) ≡ a
    go true e = sym (eqb-true a 255 e)
    go false e = refl

pub optional_kept : (op : Operation) → optional (kept_byte op) ≡ kept op
unfolding optional
optional_kept (Set a k) = refl
optional_kept (Add a b c) = refl
optional_kept (Subtract a b c) = refl
optional_kept (Less a b c) = refl
optional_kept (JumpZero a k) = refl
optional_kept (Bind a b) = refl
optional_kept (Take a) = refl
optional_kept (Put a) = refl
optional_kept (NewArray a b) = refl
optional_kept (Fetch a b c) = refl
optional_kept (Store a b c) = refl
optional_kept (Size a b) = refl
optional_kept (NewRecord a) = refl
optional_kept (GetSlot a b k) = refl
optional_kept (SetSlot a b k) = refl
optional_kept (Call a b k) = ap optional (byte_optional a)
optional_kept (Return a) = refl

module _ {m : Mode} {c : Given} {words out : List ℕ} {r : Registers} {p i : ℕ} {z : SettledSet m} {vs : List (Cell m)} {fs : List (Frame m)} {os : List (Object m)}
    {input put : List ℕ} (S : Stands m c words out r p i z vs fs os input put) where
  -- the registers name the state's next instruction
  pub place_is : place_in r ≡ instruction_at c.sheet p i
  unfolding instruction_at
  place_is = rw S.next (instruction_counted (start_at c.sheet p) (variables_field c.sheet (procedure_at c.sheet p)) (first_in r) i S.first)

  -- the variable that it keeps, where it is a call
  pub kept_here : (a b k : ℕ) → operation_at c.sheet (place_in r) ≡ Call a b k
      → a ≡ kept_byte (operation_at c.sheet (instruction_at c.sheet p i))
  kept_here a b k e = sym (byte_optional a) ∙ ap kept_byte (sym e ∙ ap (operation_at c.sheet) place_is)
