-- A procedure of a well-formed sheet, by its word of the index.
use Prim.Native.Nat.{ℕ, ◌≤◌, ◌<◌}
use mathlib.Core.Path.{◌≡◌}
use mathlib.Core.List.{List}
use Rattle.sheet.specs.Layout.{procedures_of, formals_at, variables_field, procedure_at}
use Rattle.index.specs.Procedures.{procedure_in}
use Rattle.index.specs.Indexed.{ProcedureWord}
use Rattle.index.specs.Scope.{Bounded}
use Rattle.index.proofs.Ready.{of_sheet}
use Rattle.form.specs.declared.FormedSheet.{FormedSheet}
use Rattle.form.proofs.WellFormed.{formals_first, bound_formed}
use Rattle.frames.specs.Performs.{Loaded}

pub loaded : (s : FormedSheet) → Loaded s.sheet.bytes.now s.sheet.index.now
loaded s = record { formed = s.formed; ready = of_sheet s.sheet }

module _ (s index : List ℕ) (L : Loaded s index) (k : ℕ) (h : k < procedures_of s) where
  pub formals_within : formals_at s (procedure_at s k) ≤ variables_field s (procedure_at s k)
  formals_within = formals_first s L.formed k h

  -- what ?R is read as in it is a declared type
  pub bound_within : Bounded s k
  bound_within = bound_formed s L.formed k h

  pub word_is : {w : ℕ} → w ≡ procedure_in index k → ProcedureWord s k w
  word_is is = rw is (L.ready.procedures k h)
