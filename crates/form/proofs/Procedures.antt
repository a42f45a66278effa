-- What the pass over the procedures leaves known: what each procedure has, and that the last record is an IN.
use Prim.Native.Nat.{ℕ, suc, ◌+◌, ◌-◌, ◌<◌, ◌≤◌}
use mathlib.Core.Path.{◌≡◌, refl, sym, ◌∙◌}
use mathlib.Core.List.{List, ◌++◌}
use mathlib.Core.Bool.{true}
use native.Mathlib.Omega.{arith}
use lib.ListN.{length}
use borrow.Author.Tests.{leb-true}
use Rattle.model.specs.Refusal.{Accepted, verdict, each}
use Rattle.model.proofs.Verdicts.{left_accepted, right_accepted, each_accepted, all_held}
use Rattle.sheet.specs.Layout.{pr_mark, gn_mark, gn_size, edition_in, in_mark, types_of, quals_of, procedures_of, named_of, owner_at, formals_at, variables_field, result_at, instructions_at, bound_base_at, least_at, is_bounded, instruction_from, procedure_at, start_at}
use Rattle.sheet.specs.Reader.{record_bytes, past_at}
use Rattle.sheet.proofs.Laws.{in_sized, record_sized, procedure_next}
use Rattle.limits.specs.Scale.{procedure_scale, bound_scale}
use Rattle.form.specs.WellFormed.{head_tests, bound_tests, variable_tests, instruction_tests_at, instruction_tests, procedure_tests_at, procedure_tests}
use Rattle.form.proofs.Laws.{record_formed, record_marked}

after_last : (start v n : ℕ) → 1 ≤ n → instruction_from start v n ≡ instruction_from start v (n - 1) + 8
unfolding instruction_from
after_last start v n h = omega arith

module _ (s : List ℕ) (h : verdict (each (procedures_of s) (procedure_tests s)) ≡ Accepted) where
  module _ (p : ℕ) (l : p < procedures_of s) where
    formed : verdict (procedure_tests_at s p (procedure_at s p)) ≡ Accepted
    unfolding procedure_tests
    formed = each_accepted (procedure_tests s) (procedures_of s) h p l

    after_head : verdict (bound_tests s p (procedure_at s p) ++ (each (variables_field s (procedure_at s p)) (variable_tests s (procedure_at s p) (start_at s p)) ++ each (instructions_at s (procedure_at s p)) (instruction_tests s (procedure_at s p) (start_at s p)))) ≡ Accepted
    unfolding procedure_tests_at start_at
    after_head = right_accepted (head_tests s p (procedure_at s p)) _ formed

    after_bound : verdict (each (variables_field s (procedure_at s p)) (variable_tests s (procedure_at s p) (start_at s p)) ++ each (instructions_at s (procedure_at s p)) (instruction_tests s (procedure_at s p) (start_at s p))) ≡ Accepted
    after_bound = right_accepted (bound_tests s p (procedure_at s p)) _ after_head

    pub variables_accepted : verdict (each (variables_field s (procedure_at s p)) (variable_tests s (procedure_at s p) (start_at s p))) ≡ Accepted
    variables_accepted = left_accepted (each (variables_field s (procedure_at s p)) (variable_tests s (procedure_at s p) (start_at s p))) _ after_bound

    pub instructions_accepted : verdict (each (instructions_at s (procedure_at s p)) (instruction_tests s (procedure_at s p) (start_at s p))) ≡ Accepted
    instructions_accepted = right_accepted (each (variables_field s (procedure_at s p)) (variable_tests s (procedure_at s p) (start_at s p))) _ after_bound

    pub head_true : procedure_scale (types_of s) (quals_of s) p (owner_at s (procedure_at s p)) (formals_at s (procedure_at s p)) (variables_field s (procedure_at s p)) (result_at s (procedure_at s p)) (instructions_at s (procedure_at s p)) ≡ true
    unfolding procedure_tests_at head_tests
    head_true =
        let pr = procedure_at s p in
        (record_formed s pr 8 pr_mark _ (left_accepted (head_tests s p pr) _ formed)).1

    -- its GN, where it has one
    pub bound_true : is_bounded s p (procedure_at s p) ≡ true
        → bound_scale (types_of s) (named_of s (bound_base_at s (procedure_at s p))) (bound_base_at s (procedure_at s p)) (least_at s (procedure_at s p)) ≡ true
    unfolding bound_tests
    bound_true b =
        let pr = procedure_at s p in
        (record_formed s (pr + 8) (gn_size (edition_in s)) gn_mark _ (rw b at (left_accepted (bound_tests s p pr) _ after_head))).1

    pub some_instruction : 1 ≤ instructions_at s (procedure_at s p)
    unfolding procedure_scale
    some_instruction = leb-true 1 (instructions_at s (procedure_at s p)) (all_held true _ head_true).1.1.1.1.1.1.0

    -- its last IN stands whole under its mark, and ends where the next procedure starts
    last_in : (end : ℕ) → end ≡ procedure_at s (suc p) → (8 ≤ end) × (past_at s (end - 8) ≡ end)
    unfolding past_at instruction_tests instruction_tests_at start_at
    last_in end q =
        let pr = procedure_at s p in
        let n = instructions_at s pr in
        let at = instruction_from (start_at s p) (variables_field s pr) (n - 1) in
        let r = record_marked s at 8 in_mark _ (each_accepted (instruction_tests s pr (start_at s p)) n instructions_accepted (n - 1) (omega (arith, some_instruction))) in
        let z : length (record_bytes s at) ≡ 8 = record_sized s at 8 (in_sized s at r.1) r.0 in
        let e : end ≡ at + 8 = q ∙ sym (procedure_next s p pr refl) ∙ after_last (start_at s p) (variables_field s pr) n some_instruction in
        let f : end - 8 ≡ at = omega (arith, e) in
        (omega (arith, e), rw (f, z) (sym e))

  pub last_record : 1 ≤ procedures_of s → (end : ℕ) → end ≡ procedure_at s (procedures_of s) → (8 ≤ end) × (past_at s (end - 8) ≡ end)
  last_record b end e = let q : suc (procedures_of s - 1) ≡ procedures_of s = omega arith in last_in (procedures_of s - 1) (omega arith) end (rw q e)
