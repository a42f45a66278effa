-- The type that a variable or a slot has in a scope, by the number of its QT in a sheet's index.
use Prim.Native.Nat.{ℕ}
use mathlib.Core.Path.{◌≡◌, sym, ap, ◌∙◌}
use Rattle.model.specs.Qualified.{is_integer, is_array, element}
use Rattle.sheet.specs.Layout.{inner_at, slot_of}
use Rattle.index.specs.Types.{qual_in, type_in, ElementIn}
use Rattle.index.specs.Scope.{inner_as, slot_as_read}
use Rattle.index.specs.declared.procedures.Scope.{Scope}
use Rattle.index.specs.declared.sheets.Sheet.{Sheet}
use Rattle.index.proofs.Ready.{of_sheet}
use Rattle.index.proofs.Reading.{inner_type, slot_type, type_integer, type_array, type_element}

module _ (s : Sheet) (p : Scope) where
  pub inner_is : (x : ℕ) → type_in s.index.now p.name (inner_at s.bytes.now p.start x) ≡ inner_as s.bytes.now p x
  inner_is x = inner_type (of_sheet s) p x

  pub inner_integer : (x : ℕ) → is_integer (qual_in s.index.now (inner_at s.bytes.now p.start x)) ≡ is_integer (inner_as s.bytes.now p x)
  inner_integer x = sym (type_integer s.index.now p.name _) ∙ ap is_integer (inner_is x)

  pub inner_array : (x : ℕ) → is_array (qual_in s.index.now (inner_at s.bytes.now p.start x)) ≡ is_array (inner_as s.bytes.now p x)
  inner_array x = sym (type_array s.index.now p.name _) ∙ ap is_array (inner_is x)

  pub slot_is : (o k : ℕ) → type_in s.index.now p.name (slot_of s.bytes.now o k) ≡ slot_as_read s.bytes.now p o k
  slot_is o k = slot_type (of_sheet s) p o k

  -- of an array, by the number that stands for its element
  pub inner_element : (x : ℕ) {e : ℕ} → ElementIn s.index.now (inner_at s.bytes.now p.start x) e → type_in s.index.now p.name e ≡ element (inner_as s.bytes.now p x)
  inner_element x h = type_element s.index.now p.name h ∙ ap element (inner_is x)
