-- Where the procedures of a sheet stand, and where the last one ends, by its index.
use Prim.Native.Nat.{ℕ, ◌-◌, ◌≤◌}
use mathlib.Core.Path.{◌≡◌, sym, ap, ◌∙◌}
use mathlib.Core.List.{List}
use native.Mathlib.Omega.{arith}
use Rattle.std.specs.Prelude.{Ok}
use Rattle.model.specs.Refusal.{verdict, each}
use Rattle.sheet.specs.Layout.{procedures_of, procedure_at}
use Rattle.sheet.specs.Reader.{past_at}
use Rattle.index.specs.Indexed.{ProcedureWord, Indexed}
use Rattle.index.specs.Procedures.{procedure_in, place_of}
use Rattle.form.specs.WellFormed.{header_tests, procedure_tests_at, procedure_tests}
use Rattle.form.proofs.Laws.{placed, header_small}
use Rattle.form.proofs.Procedures.{last_record}

pub procedure_here : (s t : List ℕ) (p w pr : ℕ) → ProcedureWord s p (procedure_in t p) → w ≡ procedure_in t p → pr ≡ place_of w
    → procedure_tests_at s p pr ≡ procedure_tests s p
unfolding procedure_tests
procedure_here s t p w pr h e f = let q : pr ≡ procedure_at s p = placed s t p w h e pr f in rw q

-- where the header and the procedures are accepted, the last one ends with an IN
module _ (s t : List ℕ) (x : Indexed s t) (head : Ok tt ≡ verdict (header_tests s)) where
  pub few_procedures : procedures_of s ≤ 64
  few_procedures = (header_small s (sym head)).3

  module _ (n end : ℕ) (e : n ≡ procedures_of s) (h : end ≡ place_of (procedure_in t n)) where
    pub end_here : end ≡ procedure_at s (procedures_of s)
    end_here = h ∙ x.places n (omega arith) (omega (arith, few_procedures)) ∙ ap (procedure_at s) e

    module _ (procedures : Ok tt ≡ verdict (each n (procedure_tests s))) where
      both : (8 ≤ end) × (past_at s (end - 8) ≡ end)
      both = last_record s (sym (rw e at procedures)) (header_small s (sym head)).2 end end_here

      pub end_above : 8 ≤ end
      end_above = both.0

      pub end_past : past_at s (end - 8) ≡ end
      end_past = both.1
