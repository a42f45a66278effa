-- What the index of a sheet tells of its records.
use Prim.Native.Nat.{ℕ, ◌+◌, ◌*◌, ◌-◌, ◌<◌, ◌≤◌}
use mathlib.Core.Path.{◌≡◌, refl, sym, ◌∙◌}
use mathlib.Core.List.{List, [], ◌∷◌, ◌++◌}
use mathlib.Core.Bool.{Bool, true, false, not, cond}
use mathlib.Core.Option.{none, some}
use native.Mathlib.Omega.{arith}
use lib.Dec.{eqb}
use borrow.Author.Tests.{eqb-true}
use Rattle.std.proofs.Common.{append_assoc}
use Rattle.std.specs.Prelude.{Ok, Err}
use Rattle.model.specs.declared.Refusal.{Refusal}
use Rattle.model.specs.declared.Reason.TheVariants.{OffScale}
use Rattle.model.specs.Generic.{uses}
use Rattle.model.specs.Refusal.{Verdict, Accepted, Test, test, failure, refuse, verdict, each}
use Rattle.model.proofs.Verdicts.{first_refuses, second_says}
use Rattle.words.specs.Word.{formals_of}
use Rattle.sheet.specs.Bytes.{byte_at}
use Rattle.sheet.specs.Layout.{type_at, slots_of, slot_of, quals_of, procedures_of, formals_at, result_at, start_from, instruction_from, procedure_at}
use Rattle.sheet.specs.Meaning.{qual_of, slot_in_sheet, result_in}
use Rattle.index.specs.Types.{word_in, uses_of}
use Rattle.index.specs.Procedures.{procedure_in, start_of, place_of}
use Rattle.index.specs.declared.sheets.Sheet.{Sheet}
use Rattle.index.proofs.Ready.{of_sheet}
use Rattle.index.proofs.Uses.{name_used}
use Rattle.form.specs.WellFormed.{length_tests, layout_tests, call_tests_at, call_tests, slot_uses, result_uses, procedure_calls_at, procedure_calls, calls_tests, form_tests}
use Rattle.form.proofs.Laws.{placed, started, instruction_counted, layout_small}

-- the test of slot k of the TY at a place
abbrev pub slot_test : List ℕ → (at k : ℕ) → List Test
slot_test s at k = test OffScale (not (uses (qual_of s (byte_at s at (4 + k))))) ∷ []

module _ (s : Sheet) where
  -- whether a type uses ?R
  pub use_told : (j : ℕ) → uses_of (word_in s.index.now j) ≡ uses (qual_of s.bytes.now j)
  use_told j = name_used (of_sheet s) j

  -- the test of one slot
  pub slot_told : (at k j : ℕ) → j ≡ byte_at s.bytes.now at (4 + k) → cond (not (uses_of (word_in s.index.now j))) (Ok tt) (Err OffScale) ≡ failure (slot_test s.bytes.now at k)
  unfolding failure
  slot_told at k j e = rw (← e, use_told j)

  -- 255, which is no result, names no type
  pub result_told : (pr r : ℕ) → r ≡ byte_at s.bytes.now pr 5 → uses_of (word_in s.index.now r) ≡ result_uses (result_in s.bytes.now pr)
  unfolding result_in result_at word_in uses_of result_uses
  result_told pr r e = rw (← e) (go (eqb r 255) refl)
    where
      go : (b : Bool) → eqb r 255 ≡ b → uses_of (word_in s.index.now r) ≡ result_uses (cond b none (some (qual_of s.bytes.now r)))
      go true f = rw (eqb-true r 255 f)
      go false f = use_told r

  -- the formals of a procedure called
  pub formals_told : (k : ℕ) → k < procedures_of s.bytes.now → formals_of (procedure_in s.index.now k) ≡ formals_at s.bytes.now (procedure_at s.bytes.now k)
  formals_told k l = ((of_sheet s).procedures k l).formals

  -- where a procedure stands
  module _ (p w pr : ℕ) (l : p < procedures_of s.bytes.now) (e : w ≡ procedure_in s.index.now p) (f : pr ≡ place_of w) where
    pub start_told : (start : ℕ) → start ≡ start_of w → start ≡ start_from s.bytes.now p pr
    start_told start g = started s.bytes.now s.index.now p w ((of_sheet s).procedures p l) e pr f start g

    pub procedure_told : procedure_calls_at s.bytes.now p pr ≡ procedure_calls s.bytes.now p
    unfolding procedure_calls
    procedure_told = let q : pr ≡ procedure_at s.bytes.now p = placed s.bytes.now s.index.now p w ((of_sheet s).procedures p l) e pr f in rw q

-- the tests of one record, by the reason of the first that fails
pub slots_here : (s : List ℕ) (i at : ℕ) → at ≡ 6 + 12 * i
    → refuse (failure (each (byte_at s at 3) (slot_test s at))) at Accepted ≡ verdict (slot_uses s i)
unfolding slot_uses slot_in_sheet slots_of slot_of type_at verdict
slots_here s i at h = let e : 2 + i - 2 ≡ i = omega arith in rw (h, e)

pub call_told : (s : List ℕ) (v start i at first : ℕ) → first ≡ instruction_from start v 0 → at ≡ first + 8 * i
    → refuse (failure (call_tests_at s v at)) at Accepted ≡ verdict (call_tests s v start i)
unfolding call_tests verdict
call_told s v start i at first h e = let q : at ≡ instruction_from start v i = e ∙ instruction_counted start v first i h in rw q

-- the layout refuses, else the calls say the verdict
module _ (s : List ℕ) where
  pub few_told : Ok tt ≡ verdict (length_tests s ++ layout_tests s) → (quals_of s ≤ 64) × (procedures_of s ≤ 64)
  few_told h = let small = layout_small s (sym h) in (small.1, small.3)

  pub layout_refuses : {e : Refusal} → Err e ≡ verdict (length_tests s ++ layout_tests s) → Err e ≡ verdict (form_tests s)
  unfolding form_tests
  layout_refuses h = rw (← append_assoc (length_tests s) (layout_tests s) (calls_tests s)) (first_refuses (length_tests s ++ layout_tests s) (calls_tests s) h)

  pub calls_say : {v : Verdict} → Ok tt ≡ verdict (length_tests s ++ layout_tests s) → v ≡ verdict (calls_tests s) → v ≡ verdict (form_tests s)
  unfolding form_tests
  calls_say h k = rw (← append_assoc (length_tests s) (layout_tests s) (calls_tests s)) (second_says (length_tests s ++ layout_tests s) (calls_tests s) h k)
