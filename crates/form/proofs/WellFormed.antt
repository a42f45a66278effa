-- What a well-formed sheet has: each law from the one fact that none of 1 to 5 is given.
use Prim.Native.Nat.{ℕ, ◌+◌, ◌-◌, ◌<◌, ◌≤◌}
use mathlib.Core.Path.{◌≡◌, refl, sym, ap, ◌∙◌}
use mathlib.Core.List.{List, [], ◌∷◌, ◌++◌}
use mathlib.Core.Bool.{Bool, true, false, not, ◌&&◌, ◌||◌, cond}
use mathlib.Core.Option.{Option, none, some}
use mathlib.Core.Logic.{◌⊎◌, inl, inr, ⊎_elim}
use native.Mathlib.Omega.{arith}
use lib.ListN.{length}
use lib.Dec.{eqb, ltb, leb}
use borrow.Author.Tests.{ltb-true, leb-true, eqb-true, eq-eqb, ne_eqb, lt-ltb}
use Rattle.model.specs.Rules.{callee}
use Rattle.model.specs.Rights.{has, none_above, open_right}
use Rattle.model.specs.Generic.{no_bound, at_least, bound_base, least, uses}
use Rattle.model.specs.Refusal.{Accepted, test, failure, verdict, each}
use Rattle.model.specs.declared.Reason.TheVariants.{Overlong, Torn, OffScale}
use Rattle.model.specs.declared.Operation.TheVariants.{Call}
use Rattle.std.specs.Prelude.{Ok}
use Rattle.model.proofs.Verdicts.{left_accepted, right_accepted, each_accepted, accepted_tests, passed_span, passed_test, both_true, either_true, implied, Held, all_held}
use Rattle.sheet.specs.Layout.{ty_mark, qt_mark, vr_mark, in_mark, qt_size, most_named, edition_in, types_of, quals_of, procedures_of, type_at, named_of, slots_of, slot_of, qual_at, base_of, rights_field, element_field, owner_at, formals_at, variables_field, result_at, instructions_at, bound_base_at, least_at, is_bounded, variable_at, inner_at, need_at, code_at, k_at, procedure_at, start_at, instruction_at}
use Rattle.sheet.specs.Instructions.{Line, table, line_in, line_of}
use Rattle.sheet.specs.Decode.{unlisted, operation_by, decode, fields_at, operation_at}
use Rattle.sheet.specs.declared.decode.Fields.{Fields}
use Rattle.sheet.specs.Meaning.{slot_in_sheet, inner_in, need_in, result_in, bound_in_sheet}
use Rattle.sheet.proofs.Instructions.{by_line}
use Rattle.index.specs.Indexed.{Indexed, Ready}
use Rattle.index.specs.Scope.{bound_of_procedure, Bounded}
use Rattle.index.proofs.Ready.{ready}
use Rattle.limits.specs.declared.Limits.{Limits}
use Rattle.limits.specs.Scale.{all_below, below_or_none, type_scale, rights_scale, qual_scale, procedure_scale, bound_scale, variable_scale, operand_limits, line_limits, line_scale, instruction_scale, actuals_scale}
use Rattle.form.specs.WellFormed.{length_tests, header_tests, type_tests, qual_tests, variable_tests, limits_at, instruction_tests_at, instruction_tests, procedure_tests, leftover_tests, layout_tests, call_tests_at, call_tests, slot_uses, result_uses, head_uses, variable_uses, procedure_calls_at, procedure_calls, calls_tests, form_tests}
use Rattle.form.specs.Named.{Named}
use Rattle.form.proofs.Laws.{all_below_true, due_below, record_formed, header_small}
use Rattle.form.proofs.Procedures.{variables_accepted, instructions_accepted, head_true, bound_true, some_instruction}

-- the fields of instruction i of procedure p
abbrev pub fields_in : List ℕ → ℕ → ℕ → Fields
fields_in s p i = fields_at s (instruction_at s p i)

-- ---- limits on plain numbers
line_held : (l : Limits) (f : Fields) (x : Option Line) → line_scale l f x ≡ true → (found : Line) → x ≡ some found → Held (line_limits l f found)
unfolding line_scale
line_held l f x h found e = (all_held true _ (rw e at h)).1

no_line : (l : Limits) (f : Fields) (x : Option Line) → line_scale l f x ≡ true → x ≡ none → ⊥
unfolding line_scale
no_line l f none h e = absurd (let z : ◌≡◌ {A = ℕ} 0 1 = cc in omega arith)
no_line l f (some found) h e = absurd (let z : ◌≡◌ {A = ℕ} 0 1 = cc in omega arith)

-- the limits of a line whose first one, two or three fields are variables
one_below : {x v : ℕ} {R : Type 0} → (ltb x v ≡ true) × R → x < v
one_below h = ltb-true _ _ h.0

two_below : {x y v : ℕ} {R : Type 0} → (ltb x v ≡ true) × ((ltb y v ≡ true) × R) → (x < v) × (y < v)
two_below h = (one_below h, one_below h.1)

three_below : {x y z v : ℕ} {R : Type 0} → (ltb x v ≡ true) × ((ltb y v ≡ true) × ((ltb z v ≡ true) × R)) → (x < v) × ((y < v) × (z < v))
three_below h = (one_below h, two_below h.1)

actuals_named : (f b v : ℕ) → actuals_scale f b v ≡ true → (j : ℕ) → j < f → b + j < v
unfolding actuals_scale
actuals_named f b v h j l =
    let n : f ≡ 0 → ⊥ = (λ e. omega arith) in
    let m : b + f ≤ v = leb-true (b + f) v (rw (ne_eqb f 0 n) at h) in
    omega arith

-- ---- a bound, where there is one
not_true : (b : Bool) → not b ≡ true → b ≡ false
not_true true h = sym h
not_true false h = refl

neither : (a b : Bool) → not (a || b) ≡ true → (a ≡ false) × (b ≡ false)
neither true b h = absurd (let z : ◌≡◌ {A = ℕ} 0 1 = cc in omega arith)
neither false b h = (refl, not_true b h)

base_between : (b : Bool) (t l : ℕ) → (b ≡ true → (2 ≤ t) × (t < 34))
    → (2 ≤ bound_base (cond b (at_least t l) no_bound)) × (bound_base (cond b (at_least t l) no_bound) < 34)
unfolding bound_base
base_between true t l h = h refl
base_between false t l h = (omega arith, omega arith)

least_closed : (b : Bool) (t l : ℕ) → (b ≡ true → has open_right l ≡ false) → has open_right (least (cond b (at_least t l) no_bound)) ≡ false
unfolding least has
least_closed true t l h = h refl
least_closed false t l h = refl

-- main has none
pub main_unbound : (s : List ℕ) → bound_of_procedure s 0 ≡ no_bound
unfolding bound_in_sheet is_bounded
main_unbound s = refl

-- ---- only code 16 is a call's
call_decoded : (f : Fields) (a b k : ℕ) → decode f ≡ Call a b k → (f.code ≡ 16) × (f.b ≡ b) × (f.k ≡ k)
unfolding decode operation_by unlisted table
call_decoded f a b k =
    by_line f.code (λ x. operation_by f x ≡ Call a b k → (f.code ≡ 16) × (f.b ≡ b) × (f.k ≡ k))
    (λ e q. absurd (let n : ◌≡◌ {A = ℕ} 0 1 = cc in omega arith))
    (λ e q. absurd (let n : ◌≡◌ {A = ℕ} 0 1 = cc in omega arith))
    (λ e q. absurd (let n : ◌≡◌ {A = ℕ} 0 1 = cc in omega arith))
    (λ e q. absurd (let n : ◌≡◌ {A = ℕ} 0 1 = cc in omega arith))
    (λ e q. absurd (let n : ◌≡◌ {A = ℕ} 0 1 = cc in omega arith))
    (λ e q. absurd (let n : ◌≡◌ {A = ℕ} 0 1 = cc in omega arith))
    (λ e q. absurd (let n : ◌≡◌ {A = ℕ} 0 1 = cc in omega arith))
    (λ e q. absurd (let n : ◌≡◌ {A = ℕ} 0 1 = cc in omega arith))
    (λ e q. absurd (let n : ◌≡◌ {A = ℕ} 0 1 = cc in omega arith))
    (λ e q. absurd (let n : ◌≡◌ {A = ℕ} 0 1 = cc in omega arith))
    (λ e q. absurd (let n : ◌≡◌ {A = ℕ} 0 1 = cc in omega arith))
    (λ e q. absurd (let n : ◌≡◌ {A = ℕ} 0 1 = cc in omega arith))
    (λ e q. absurd (let n : ◌≡◌ {A = ℕ} 0 1 = cc in omega arith))
    (λ e q. absurd (let n : ◌≡◌ {A = ℕ} 0 1 = cc in omega arith))
    (λ e q. absurd (let n : ◌≡◌ {A = ℕ} 0 1 = cc in omega arith))
    (λ e q. (e, cc, cc))
    (λ e q. absurd (let n : ◌≡◌ {A = ℕ} 0 1 = cc in omega arith))
    (λ e q. absurd (let n : ◌≡◌ {A = ℕ} 0 1 = cc in omega arith))

-- ---- a well-formed sheet
module _ (s : List ℕ) (wf : verdict (form_tests s) ≡ Accepted) where
  layout_accepted : verdict (layout_tests s) ≡ Accepted
  unfolding form_tests
  layout_accepted = left_accepted (layout_tests s) (calls_tests s) (right_accepted (length_tests s) _ wf)

  calls_accepted : verdict (calls_tests s) ≡ Accepted
  unfolding form_tests
  calls_accepted = right_accepted (layout_tests s) (calls_tests s) (right_accepted (length_tests s) _ wf)

  after_types : verdict (each (quals_of s) (qual_tests s) ++ (each (procedures_of s) (procedure_tests s) ++ leftover_tests s (procedure_at s (procedures_of s)))) ≡ Accepted
  unfolding layout_tests
  after_types = right_accepted (each (types_of s) (type_tests s)) _ (right_accepted (header_tests s) _ layout_accepted)

  after_quals : verdict (each (procedures_of s) (procedure_tests s) ++ leftover_tests s (procedure_at s (procedures_of s))) ≡ Accepted
  after_quals = right_accepted (each (quals_of s) (qual_tests s)) _ after_types

  procedures_accepted : verdict (each (procedures_of s) (procedure_tests s)) ≡ Accepted
  procedures_accepted = left_accepted (each (procedures_of s) (procedure_tests s)) _ after_quals

  -- at most 32,768 bytes
  pub form_short : length s ≤ 32768
  unfolding form_tests length_tests
  form_short =
      leb-true (length s) 32768 (passed_test Overlong (leb (length s) 32768) [] (accepted_tests 0 _ (left_accepted (length_tests s) _ wf))).0

  -- few types, qualified types and procedures, and at least one procedure
  pub form_small : (types_of s ≤ 32) × (quals_of s ≤ 64) × (1 ≤ procedures_of s) × (procedures_of s ≤ 64)
  unfolding layout_tests
  form_small = header_small s (left_accepted (header_tests s) _ layout_accepted)

  -- so that its index has room for them
  pub form_ready : (t : List ℕ) → Indexed s t → Ready s t
  form_ready t x = ready s t x form_small.1 form_small.3

  -- the last procedure ends where the sheet ends
  pub form_ends : procedure_at s (procedures_of s) ≡ length s
  unfolding leftover_tests
  form_ends =
      let e = procedure_at s (procedures_of s) in
      let h = right_accepted (each (procedures_of s) (procedure_tests s)) (leftover_tests s e) after_quals in
      eqb-true e (length s) (passed_test Torn (eqb e (length s)) [] (accepted_tests e _ h)).0

  -- a declared type
  module _ (t : ℕ) (d : 2 ≤ t) (l : t < types_of s + 2) where
    type_formed : verdict (type_tests s (t - 2)) ≡ Accepted
    unfolding layout_tests
    type_formed =
        each_accepted (type_tests s) (types_of s) (left_accepted (each (types_of s) (type_tests s)) _ (right_accepted (header_tests s) _ layout_accepted))
        (t - 2) (omega arith)

    type_held : Held (leb (named_of s t) (most_named (edition_in s)) ∷ leb (slots_of s t) 8 ∷ all_below 8 (λ k. below_or_none (quals_of s) (ltb k (slots_of s t)) (slot_of s t k)) ∷ [])
    unfolding type_tests type_scale
    type_held =
        let e : 2 + (t - 2) ≡ t = omega arith in
        (all_held true _ (record_formed s (type_at t) 12 ty_mark _ (rw e at type_formed)).1).1

    pub slots_few : slots_of s t ≤ 8
    slots_few = leb-true (slots_of s t) 8 type_held.1.0

    pub slot_below : (k : ℕ) → k < slots_of s t → slot_of s t k < quals_of s
    slot_below k m =
        due_below (quals_of s) (slot_of s t k) (ltb k (slots_of s t))
        (all_below_true (λ k. below_or_none (quals_of s) (ltb k (slots_of s t)) (slot_of s t k)) 8 type_held.1.1.0 k (omega (arith, slots_few)))
        (lt-ltb k (slots_of s t) m)

    slots_passed : failure (each (slots_of s t) (λ k. test OffScale (not (uses (slot_in_sheet s t k))) ∷ [])) ≡ Ok tt
    unfolding calls_tests slot_uses
    slots_passed =
        let e : 2 + (t - 2) ≡ t = omega arith in
        let h = each_accepted (slot_uses s) (types_of s) (left_accepted (each (types_of s) (slot_uses s)) (each (procedures_of s) (procedure_calls s)) calls_accepted) (t - 2) (omega arith) in
        accepted_tests (type_at t) _ (rw e at h)

    -- no slot of it uses ?R
    pub slot_plain : (k : ℕ) → k < slots_of s t → uses (slot_in_sheet s t k) ≡ false
    slot_plain k m =
        let e : 0 + k ≡ k = omega arith in
        let h = passed_span (λ k. test OffScale (not (uses (slot_in_sheet s t k))) ∷ []) (slots_of s t) 0 slots_passed k m in
        not_true _ (passed_test OffScale _ [] (rw e at h)).0

  -- a qualified type
  module _ (j : ℕ) (l : j < quals_of s) where
    qual_scaled : qual_scale (types_of s) (named_of s (base_of s j)) j (base_of s j) (rights_field s j) (element_field s j) ≡ true
    unfolding qual_tests
    qual_scaled =
        let h = each_accepted (qual_tests s) (quals_of s) (left_accepted (each (quals_of s) (qual_tests s)) _ after_types) j l in
        (record_formed s (qual_at s j) (qt_size (edition_in s)) qt_mark _ h).1

    -- other than ?R
    module _ (n : base_of s j ≡ 255 → ⊥) where
      qual_held : Held (ltb (base_of s j) (types_of s + 2) ∷ rights_scale (named_of s (base_of s j)) (base_of s j) (rights_field s j) ∷ below_or_none j (eqb (base_of s j) 1) (element_field s j) ∷ [])
      unfolding qual_scale
      qual_held = (all_held true _ (rw (ne_eqb (base_of s j) 255 n) at qual_scaled)).1

      pub base_below : base_of s j < types_of s + 2
      base_below = ltb-true (base_of s j) (types_of s + 2) qual_held.0

      pub rights_fit : rights_scale (named_of s (base_of s j)) (base_of s j) (rights_field s j) ≡ true
      rights_fit = qual_held.1.0

      pub element_falls : base_of s j ≡ 1 → element_field s j < j
      element_falls b = due_below j (element_field s j) (eqb (base_of s j) 1) qual_held.1.1.0 (eq-eqb (base_of s j) 1 b)

  -- a procedure
  module _ (p : ℕ) (l : p < procedures_of s) where
    head_held : procedure_scale (types_of s) (quals_of s) p (owner_at s (procedure_at s p)) (formals_at s (procedure_at s p)) (variables_field s (procedure_at s p)) (result_at s (procedure_at s p)) (instructions_at s (procedure_at s p)) ≡ true
    head_held = head_true s procedures_accepted p l

    pub owner_kind : (owner_at s (procedure_at s p) ≡ 0) ⊎ ((2 ≤ owner_at s (procedure_at s p)) × (owner_at s (procedure_at s p) < types_of s + 2))
    unfolding procedure_scale
    owner_kind =
        let o = owner_at s (procedure_at s p) in
        let h = (all_held true _ head_held).1 in
        ⊎_elim (λ x. inl (eqb-true o 0 x))
        (λ y. let z = both_true (leb 2 o) (ltb o (types_of s + 2)) y in inr (leb-true 2 o z.0, ltb-true o (types_of s + 2) z.1))
        (either_true (eqb o 0) (leb 2 o && ltb o (types_of s + 2)) h.0)

    pub formals_first : formals_at s (procedure_at s p) ≤ variables_field s (procedure_at s p)
    unfolding procedure_scale
    formals_first = leb-true (formals_at s (procedure_at s p)) (variables_field s (procedure_at s p)) (all_held true _ head_held).1.1.1.0

    pub instructions_some : 1 ≤ instructions_at s (procedure_at s p)
    instructions_some = some_instruction s procedures_accepted p l

    pub instructions_few : instructions_at s (procedure_at s p) ≤ 1000
    unfolding procedure_scale
    instructions_few = leb-true (instructions_at s (procedure_at s p)) 1000 (all_held true _ head_held).1.1.1.1.1.1.1.0

    -- what ?R is read as in it: a declared type, and no right to open
    bound_held : is_bounded s p (procedure_at s p) ≡ true
        → Held (leb 2 (bound_base_at s (procedure_at s p)) ∷ ltb (bound_base_at s (procedure_at s p)) (types_of s + 2) ∷ none_above (named_of s (bound_base_at s (procedure_at s p))) (least_at s (procedure_at s p)) ∷ not (has open_right (least_at s (procedure_at s p))) ∷ [])
    unfolding bound_scale
    bound_held b = (all_held true _ (bound_true s procedures_accepted p l b)).1

    pub bound_formed : Bounded s p
    unfolding bound_in_sheet
    bound_formed =
        let t = bound_base_at s (procedure_at s p) in
        let z = base_between _ t _ (λ b. let h = bound_held b in let m : t < types_of s + 2 = ltb-true t (types_of s + 2) h.1.0 in (leb-true 2 t h.0, omega (arith, m, form_small.0))) in
        record { declared = z.0; small = z.1 }

    pub bound_closed : has open_right (least (bound_of_procedure s p)) ≡ false
    unfolding bound_in_sheet
    bound_closed = least_closed _ _ _ (λ b. not_true _ (bound_held b).1.1.1.0)

    -- its part of the pass for calls
    procedure_passed : verdict (procedure_calls_at s p (procedure_at s p)) ≡ Accepted
    unfolding calls_tests procedure_calls
    procedure_passed =
        each_accepted (procedure_calls s) (procedures_of s) (right_accepted (each (types_of s) (slot_uses s)) (each (procedures_of s) (procedure_calls s)) calls_accepted) p l

    after_uses : verdict (each (variables_field s (procedure_at s p)) (variable_uses s (is_bounded s p (procedure_at s p)) (start_at s p)) ++ each (instructions_at s (procedure_at s p)) (call_tests s (variables_field s (procedure_at s p)) (start_at s p))) ≡ Accepted
    unfolding procedure_calls_at start_at
    after_uses = right_accepted (head_uses s p (procedure_at s p)) _ procedure_passed

    own_calls : verdict (each (instructions_at s (procedure_at s p)) (call_tests s (variables_field s (procedure_at s p)) (start_at s p))) ≡ Accepted
    own_calls = right_accepted (each (variables_field s (procedure_at s p)) (variable_uses s (is_bounded s p (procedure_at s p)) (start_at s p))) _ after_uses

    -- without a GN it uses ?R nowhere
    module _ (n : is_bounded s p (procedure_at s p) ≡ false) where
      pub result_plain : result_uses (result_in s (procedure_at s p)) ≡ false
      unfolding procedure_calls_at head_uses
      result_plain =
          let pr = procedure_at s p in
          let h = passed_test OffScale (is_bounded s p pr || not (result_uses (result_in s pr))) [] (accepted_tests pr _ (left_accepted (head_uses s p pr) _ procedure_passed)) in
          not_true _ (rw n at h.0)

      pub variable_plain : (x : ℕ) → x < variables_field s (procedure_at s p)
          → (uses (inner_in s (start_at s p) x) ≡ false) × (uses (need_in s (start_at s p) x) ≡ false)
      unfolding variable_uses
      variable_plain x m =
          let b = is_bounded s p (procedure_at s p) in
          let f = variable_uses s b (start_at s p) in
          let own = left_accepted (each (variables_field s (procedure_at s p)) f) _ after_uses in
          let h = passed_test OffScale (b || not (uses (inner_in s (start_at s p) x) || uses (need_in s (start_at s p) x))) [] (accepted_tests (variable_at (start_at s p) x) _ (each_accepted f _ own x m)) in
          neither _ _ (rw n at h.0)

    -- a variable of it
    module _ (x : ℕ) (m : x < variables_field s (procedure_at s p)) where
      variable_held : Held (ltb (inner_at s (start_at s p) x) (quals_of s) ∷ below_or_none (quals_of s) (ltb x (formals_at s (procedure_at s p))) (need_at s (start_at s p) x) ∷ [])
      unfolding variable_tests variable_scale
      variable_held =
          let pr = procedure_at s p in
          let h = each_accepted (variable_tests s pr (start_at s p)) (variables_field s pr) (variables_accepted s procedures_accepted p l) x m in
          (all_held true _ (record_formed s (variable_at (start_at s p) x) 4 vr_mark _ h).1).1

      pub inner_below : inner_at s (start_at s p) x < quals_of s
      inner_below = ltb-true (inner_at s (start_at s p) x) (quals_of s) variable_held.0

    pub need_below : (x : ℕ) → x < formals_at s (procedure_at s p) → need_at s (start_at s p) x < quals_of s
    need_below x m =
        let pr = procedure_at s p in
        due_below (quals_of s) (need_at s (start_at s p) x) (ltb x (formals_at s pr)) (variable_held x (omega (arith, formals_first))).1.0 (lt-ltb x (formals_at s pr) m)

    -- an instruction of it
    module _ (i : ℕ) (m : i < instructions_at s (procedure_at s p)) where
      instruction_formed :
          (instruction_at s p i + 8 ≤ length s)
          × (instruction_scale (limits_at s (procedure_at s p)) (fields_in s p i) i ≡ true)
      unfolding instruction_tests instruction_tests_at instruction_at
      instruction_formed =
          let pr = procedure_at s p in
          record_formed s (instruction_at s p i) 8 in_mark _
          (each_accepted (instruction_tests s pr (start_at s p)) (instructions_at s pr) (instructions_accepted s procedures_accepted p l) i m)

      -- its eight bytes stand within the sheet
      pub instruction_whole : instruction_at s p i + 8 ≤ length s
      instruction_whole = instruction_formed.0

      instruction_held :
          (line_scale (limits_at s (procedure_at s p)) (fields_in s p i) (line_of (fields_in s p i).code) ≡ true)
          × (not (eqb (i + 1) (instructions_at s (procedure_at s p))) || eqb (fields_in s p i).code 17 ≡ true)
      unfolding instruction_scale
      instruction_held = both_true _ _ instruction_formed.1

      -- the table of instructions has its code
      pub code_known : line_of (fields_in s p i).code ≡ none → ⊥
      code_known = no_line _ _ _ instruction_held.0

      -- its fields are within the limits of its code's line
      pub limits_held : (found : Line) → line_of (fields_in s p i).code ≡ some found
          → Held (line_limits (limits_at s (procedure_at s p)) (fields_in s p i) found)
      limits_held = line_held _ _ _ instruction_held.0

      -- the same for the line of code j
      pub code_held : (j : ℕ) (found : Line) → (fields_in s p i).code ≡ j → line_of j ≡ some found
          → Held (line_limits (limits_at s (procedure_at s p)) (fields_in s p i) found)
      code_held j found e f = limits_held found (ap line_of e ∙ f)

      -- the variables that it names are the procedure's
      pub variables_named : Named (variables_field s (procedure_at s p)) (operation_at s (instruction_at s p i))
      unfolding operation_at decode operation_by unlisted table line_in line_limits operand_limits
      variables_named =
          by_line (fields_in s p i).code (λ x. Named (variables_field s (procedure_at s p)) (operation_by (fields_in s p i) x))
          (λ e. one_below (code_held 1 _ e refl))
          (λ e. three_below (code_held 2 _ e refl))
          (λ e. three_below (code_held 3 _ e refl))
          (λ e. three_below (code_held 4 _ e refl))
          (λ e. one_below (code_held 5 _ e refl))
          (λ e. two_below (code_held 6 _ e refl))
          (λ e. one_below (code_held 7 _ e refl))
          (λ e. one_below (code_held 8 _ e refl))
          (λ e. two_below (code_held 9 _ e refl))
          (λ e. three_below (code_held 10 _ e refl))
          (λ e. three_below (code_held 11 _ e refl))
          (λ e. two_below (code_held 12 _ e refl))
          (λ e. one_below (code_held 13 _ e refl))
          (λ e. two_below (code_held 14 _ e refl))
          (λ e. two_below (code_held 15 _ e refl))
          (λ e. tt)
          (λ e. tt)
          (λ n. tt)

      -- the last instruction is a return
      pub last_returns : i + 1 ≡ instructions_at s (procedure_at s p) → (fields_in s p i).code ≡ 17
      last_returns e =
          let n = instructions_at s (procedure_at s p) in
          eqb-true (fields_in s p i).code 17 (implied (eqb (i + 1) n) _ instruction_held.1 (eq-eqb (i + 1) n e))

      call_passed : failure (call_tests_at s (variables_field s (procedure_at s p)) (instruction_at s p i)) ≡ Ok tt
      unfolding call_tests instruction_at
      call_passed =
          let v = variables_field s (procedure_at s p) in
          let at = instruction_at s p i in
          accepted_tests at (call_tests_at s v at) (each_accepted (call_tests s v (start_at s p)) (instructions_at s (procedure_at s p)) own_calls i m)

      call_held : (fields_in s p i).code ≡ 16
          → (ltb (fields_in s p i).k (procedures_of s) ≡ true)
          × (actuals_scale (formals_at s (procedure_at s (fields_in s p i).k)) (fields_in s p i).b (variables_field s (procedure_at s p)) ≡ true)
      unfolding call_tests_at
      call_held e =
          let at = instruction_at s p i in
          let h = passed_test OffScale (ltb (k_at s at) (procedures_of s)) _ (rw (eq-eqb (code_at s at) 16 e) at call_passed) in
          (h.0, (passed_test OffScale _ [] h.1).0)

      -- a call names a procedure of the sheet, and as many variables as that has formals
      pub call_below : (fields_in s p i).code ≡ 16 → (fields_in s p i).k < procedures_of s
      call_below e = ltb-true _ _ (call_held e).0

      pub actual_below : (fields_in s p i).code ≡ 16 → (j : ℕ) → j < formals_at s (procedure_at s (fields_in s p i).k)
          → (fields_in s p i).b + j < variables_field s (procedure_at s p)
      actual_below e = actuals_named _ _ _ (call_held e).1

      -- the same of the operation itself
      pub actuals_there : (a b k : ℕ) → operation_at s (instruction_at s p i) ≡ Call a b k
          → (j : ℕ) → j < formals_at s (procedure_at s k) → b + j < variables_field s (procedure_at s p)
      unfolding operation_at
      actuals_there a b k e = let told = call_decoded (fields_in s p i) a b k e in rw (told.1, told.2) at (actual_below told.0)

      pub callee_below : callee (operation_at s (instruction_at s p i)) < procedures_of s
      unfolding operation_at decode operation_by unlisted table callee
      callee_below =
          let main = form_small.2 in
          by_line (fields_in s p i).code (λ x. callee (operation_by (fields_in s p i) x) < procedures_of s)
          (λ e. main)
          (λ e. main)
          (λ e. main)
          (λ e. main)
          (λ e. main)
          (λ e. main)
          (λ e. main)
          (λ e. main)
          (λ e. main)
          (λ e. main)
          (λ e. main)
          (λ e. main)
          (λ e. main)
          (λ e. main)
          (λ e. main)
          call_below
          (λ e. main)
          (λ e. main)
