-- One word of an index filled in: the others stay.
use Prim.Native.Nat.{ℕ, zero, suc, ◌+◌, ◌*◌, ◌/◌, ◌%◌, ◌^◌, ◌<◌}
use mathlib.Core.Path.{◌≡◌, refl, ap, ◌∙◌}
use mathlib.Core.List.{List}
use mathlib.Core.Bool.{Bool, true, false, cond}
use native.Mathlib.Omega.{arith}
use lib.Dec.{eqb}
use lib.ListN.{length, get_or, set, replicate}
use lib.Seq.{get_or-set_same, get_or-set_other}
use Rattle.sheet.specs.Layout.{base_of, rights_field, element_field, formals_at, variables_field, bound_size, start_from, variable_at, instruction_from, procedure_at, start_at, instruction_at}
use Rattle.words.specs.Word.{number_of, variables_of, formals_of, bound_of, first_of, procedure_word}
use Rattle.words.proofs.Laws.{procedure_no_other, procedure_is, number_is, variables_is, formals_is, bound_is, first_is}
use Rattle.index.specs.Types.{rights_of, shape_of, element_of}
use Rattle.index.specs.Indexed.{TypeWord, ProcedureWord}
use Rattle.index.specs.Procedures.{start_of, place_of}
use borrow.Author.Count.{below_more}

-- the words at the places of the numbers below i have a property, and one more has it
pub filled_more : (P : ℕ → ℕ → Type 0) (place : ℕ → ℕ) (i w : ℕ) (l : List ℕ) → place i < length l
    → ((k : ℕ) → k < i → place k ≡ place i → ⊥) → P i w
    → ((k : ℕ) → k < i → P k (get_or l (place k) 0)) → (k : ℕ) → k < i + 1 → P k (get_or (set l (place i) w) (place k) 0)
filled_more P place i w l h apart p before =
    below_more (λ k. P k (get_or (set l (place i) w) (place k) 0)) i
    (λ k b. rw (get_or-set_other l (place i) (place k) w 0 (apart k b)) (before k b))
    (rw (get_or-set_same l (place i) w 0 h) p)

pub other_kept : (l old : List ℕ) (i w k : ℕ) → (k ≡ i → ⊥) → get_or l k 0 ≡ get_or old k 0 → get_or (set l i w) k 0 ≡ get_or old k 0
other_kept l old i w k n e = get_or-set_other l i k w 0 n ∙ e

-- the three parts of a type's word do not overlap
pub below_element : (b r : ℕ) → b < 2 ^ 8 → r < 2 ^ 32 → cond (eqb b 255) (511 * 2 ^ 32) (b * 2 ^ 32 + r) < 2 ^ 41
below_element b r h k = go (eqb b 255)
  where
    go : (u : Bool) → cond u (511 * 2 ^ 32) (b * 2 ^ 32 + r) < 2 ^ 41
    go true = omega arith
    go false = omega arith

module _ (b r e : ℕ) (h : b < 2 ^ 8) (k : r < 2 ^ 32) (l : e < 2 ^ 8) where
  part_shape : (u : Bool) → (cond u (511 * 2 ^ 32) (b * 2 ^ 32 + r) + 2199023255552 * e) / 2 ^ 32 % 2 ^ 9 ≡ cond u 511 b
  part_shape true = omega arith
  part_shape false = omega arith

  part_rights : (u : Bool) → (cond u (511 * 2 ^ 32) (b * 2 ^ 32 + r) + 2199023255552 * e) % 2 ^ 32 ≡ cond u 0 r
  part_rights true = omega arith
  part_rights false = omega arith

  part_element : (u : Bool) → (cond u (511 * 2 ^ 32) (b * 2 ^ 32 + r) + 2199023255552 * e) / 2 ^ 41 % 2 ^ 8 ≡ e
  part_element true = omega arith
  part_element false = omega arith

  -- a word packed from what QT j says
  pub type_entry : (s : List ℕ) (j x : ℕ) → b ≡ base_of s j → r ≡ rights_field s j → e ≡ element_field s j
      → x ≡ cond (eqb b 255) (511 * 2 ^ 32) (b * 2 ^ 32 + r) → TypeWord s j (x + 2199023255552 * e)
  unfolding shape_of rights_of element_of
  type_entry s j x base rights element is =
      record {
        small = rw (← base) (omega arith);
        shape = rw (is, ← base) (part_shape (eqb b 255));
        rights = rw (is, ← base, ← rights) (part_rights (eqb b 255));
        element = rw (is, ← element) (part_element (eqb b 255));
      }

-- the word of no variables for a place
pub end_place : (at : ℕ) → at < 2 ^ 31 → place_of (procedure_word 0 0 0 0 (at + 8)) ≡ at
unfolding place_of start_of
end_place at h =
    let few : 0 < 2 ^ 6 = omega arith in
    let none : 0 < 2 ^ 8 = omega arith in
    let without : 0 < 2 ^ 3 = omega arith in
    let near : at + 8 < 2 ^ 32 = omega arith in
    rw (variables_is 0 0 0 0 (at + 8) few none none without near, bound_is 0 0 0 0 (at + 8) few none none without near, first_is 0 0 0 0 (at + 8) few none none without near)
    (omega arith)

-- a word packed from what the PR of procedure k says
pub entry : (s : List ℕ) (k v f g i w : ℕ) → k < 2 ^ 6 → v < 2 ^ 8 → f < 2 ^ 8 → g < 2 ^ 3 → i < 2 ^ 32
    → v ≡ variables_field s (procedure_at s k) → f ≡ formals_at s (procedure_at s k) → g ≡ bound_size s k (procedure_at s k) → i ≡ instruction_at s k 0
    → w ≡ procedure_word k v f g i → ProcedureWord s k w
unfolding place_of start_of instruction_at instruction_from variable_at start_at start_from
entry s k v f g i w small few fewer short near variables formals bound first is =
    let has : variables_of w ≡ v = ap variables_of is ∙ variables_is k v f g i small few fewer short near in
    let starts : first_of w ≡ i = ap first_of is ∙ first_is k v f g i small few fewer short near in
    let bounds : bound_of w ≡ g = ap bound_of is ∙ bound_is k v f g i small few fewer short near in
    let begins : start_of w ≡ start_at s k = rw (starts, has) (omega arith) in
    record {
      is_procedure = rw is (procedure_no_other _ (procedure_is k v f g i small few fewer short near));
      number = ap number_of is ∙ number_is k v f g i small few fewer short near;
      formals = ap formals_of is ∙ formals_is k v f g i small few fewer short near ∙ formals;
      variables = has ∙ variables;
      bound = bounds ∙ bound;
      first = starts ∙ first;
      start = begins;
      place = rw (begins, bounds, bound) (omega arith);
    }

-- an index before it is filled
pub zeros : (n k : ℕ) → ◌≡◌ {A = ℕ} (get_or (replicate n 0) k 0) 0
zeros zero k = refl
zeros (suc n) zero = refl
zeros (suc n) (suc k) = zeros n k
