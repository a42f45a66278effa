-- A well-formed sheet means a program that the machines can lean on: each part of it is a law of crates/form/proofs/WellFormed.antt.
use Prim.Native.Nat.{ℕ, suc, ◌+◌, ◌≤◌, ◌<◌}
use mathlib.Core.Path.{◌≡◌, refl, subst}
use mathlib.Core.List.{List}
use mathlib.Core.Logic.{⊎_elim}
use native.Mathlib.Omega.{arith}
use borrow.Author.Tests.{ltb-true, leb-true}
use Rattle.model.proofs.Formed.{FormedAt, Formed, Numbered}
use Rattle.model.specs.Refusal.{Accepted, verdict}
use Rattle.sheet.specs.Layout.{types_of, procedures_of, owner_at, variables_field, instructions_at, inner_at, procedure_at, start_at, instruction_at}
use Rattle.sheet.specs.Instructions.{table, line_in}
use Rattle.sheet.specs.Decode.{unlisted, operation_by, decode, operation_at}
use Rattle.sheet.proofs.Instructions.{by_line}
use Rattle.sheet.specs.Meaning.{inner_in, program_of}
use Rattle.limits.specs.Scale.{operand_limits, constant_limits, home_limits, line_limits}
use Rattle.form.specs.WellFormed.{form_tests}
use Rattle.form.specs.Named.{Named}
use Rattle.form.proofs.WellFormed.{fields_in, form_small, main_unbound, slot_plain, instructions_some, formals_first, owner_kind, bound_closed, inner_below, code_held, variables_named, last_returns, call_below}

module _ (s : List ℕ) (wf : verdict (form_tests s) ≡ Accepted) where
  module _ (p : ℕ) (l : p < procedures_of s) (i : ℕ) (m : i < instructions_at s (procedure_at s p)) where
    -- after an instruction that is no return there is another
    goes_on : (j : ℕ) → j < 17 → (fields_in s p i).code ≡ j → suc i < instructions_at s (procedure_at s p)
    goes_on j b e =
        let n : i + 1 ≡ instructions_at s (procedure_at s p) → ⊥ = (λ f. let g = last_returns s wf p l i m f in omega (arith, b, e, g)) in
        omega (arith, n, m)

    formed_at : FormedAt (program_of s) p i (operation_at s (instruction_at s p i))
    unfolding operation_at decode operation_by unlisted table line_in line_limits operand_limits constant_limits home_limits
    formed_at =
        by_line (fields_in s p i).code (λ x. FormedAt (program_of s) p i (operation_by (fields_in s p i) x))
        (goes_on 1 (omega arith))
        (goes_on 2 (omega arith))
        (goes_on 3 (omega arith))
        (goes_on 4 (omega arith))
        (λ e. (ltb-true _ _ (code_held s wf p l i m 5 _ e refl).1.1.1.0, goes_on 5 (omega arith) e))
        (goes_on 6 (omega arith))
        (goes_on 7 (omega arith))
        (goes_on 8 (omega arith))
        (goes_on 9 (omega arith))
        (goes_on 10 (omega arith))
        (goes_on 11 (omega arith))
        (goes_on 12 (omega arith))
        (λ e. (leb-true _ _ (code_held s wf p l i m 13 _ e refl).1.1.1.1.0, goes_on 13 (omega arith) e))
        (λ e. let h = code_held s wf p l i m 14 _ e refl in (leb-true _ _ h.1.1.1.1.0, ltb-true _ _ h.1.1.1.0, goes_on 14 (omega arith) e))
        (λ e. let h = code_held s wf p l i m 15 _ e refl in (leb-true _ _ h.1.1.1.1.0, ltb-true _ _ h.1.1.1.0, goes_on 15 (omega arith) e))
        (λ e. (call_below s wf p l i m e, goes_on 16 (omega arith) e))
        (λ e. tt)
        (λ n. tt)

  owner_type : (p : ℕ) → p < procedures_of s → 2 ≤ owner_at s (procedure_at s p) → owner_at s (procedure_at s p) < 2 + types_of s
  owner_type p l d = ⊎_elim (λ z. omega arith) (λ y. let f = y.1 in omega arith) (owner_kind s wf p l)

  pub formed : Formed (program_of s)
  formed =
      record {
        main = (form_small s wf).2;
        begins = λ p l. instructions_some s wf p l;
        formals = λ p l. formals_first s wf p l;
        operations = λ p i l m. formed_at p l i m;
        main_bound = main_unbound s;
        bound_closed = λ p l. bound_closed s wf p l;
        slots_plain = λ p k l d m. slot_plain s wf (owner_at s (procedure_at s p)) d (let o = owner_type p l d in omega arith) k m;
      }

  pub numbered : Numbered (program_of s)
  unfolding inner_in
  numbered =
      record {
        new_array = λ p i a b l m e. (subst (Named (variables_field s (procedure_at s p))) e (variables_named s wf p l i m)).0;
        inner_qual = λ p x l m. (inner_at s (start_at s p) x, inner_below s wf p l x m, refl);
        owner_type = owner_type;
      }
