-- Laws of the definitions in specs/, which the functions' proofs and the layers above cite.
use Prim.Native.Nat.{ℕ, suc, ◌+◌, ◌*◌, ◌-◌, ◌<◌, ◌≤◌}
use mathlib.Core.Path.{◌≡◌, refl, ◌∙◌}
use mathlib.Core.List.{List}
use mathlib.Core.Logic.{◌⊎◌, inl, inr, ⊎_elim}
use mathlib.Core.Bool.{Bool, true, false, cond}
use native.Mathlib.Omega.{arith}
use lib.Dec.{ltb, eqb}
use lib.ListN.{length, take, drop, length-take, length-drop}
use lib.Seq.{get_or-take, get_or-drop, length-take-le}
use borrow.Author.Tests.{leb-true, lt-ltb, eqb-true}
use Rattle.model.proofs.Verdicts.{both_true}
use Rattle.sheet.specs.Bytes.{byte_at, number_at, word_at, whole_at, mark, marked_at}
use Rattle.sheet.specs.Layout.{hd_mark, in_mark, rights_size, edition_in, rights_at, is_bounded, bound_size, variable_at, inner_at, variables_field, instructions_at, start_from, instruction_from, procedure_at}
use Rattle.sheet.specs.Reader.{size_at, record_bytes}

-- n bytes that stand whole end within the list
pub whole_true : (s : List ℕ) (at n : ℕ) → whole_at s at n ≡ true → at + n ≤ length s
unfolding whole_at
whole_true s at n h = leb-true (at + n) (length s) h

-- ---- the reader of records
-- what it gives ends within the sheet
pub record_inside : (s : List ℕ) (at : ℕ) → length (record_bytes s at) ≤ length s - at
unfolding record_bytes
record_inside s at = within (cond (whole_at s at (size_at s at)) (size_at s at) 0)
  where
    within : (n : ℕ) → length (take n (drop at s)) ≤ length s - at
    within n = omega (arith, length-take n (drop at s), length-drop at s)

-- a mark rules out those whose first byte differs
other_mark : (s : List ℕ) (at m n : ℕ) → marked_at s at (mark m n) ≡ true → (k l : ℕ) → eqb m k ≡ false → marked_at s at (mark k l) ≡ false
unfolding marked_at
other_mark s at m n h k l d = let e = eqb-true (byte_at s at 0) m (both_true (eqb (byte_at s at 0) m) _ h).0 in rw (e, d)

pub hd_sized : (s : List ℕ) (at : ℕ) → marked_at s at hd_mark ≡ true → size_at s at ≡ 6
unfolding size_at
hd_sized s at h = rw h

pub in_sized : (s : List ℕ) (at : ℕ) → marked_at s at in_mark ≡ true → size_at s at ≡ 8
unfolding size_at
in_sized s at h =
    let other = other_mark s at 73 78 h in
    rw (other 72 68 refl, other 84 89 refl, other 81 84 refl, other 80 82 refl, other 71 78 refl, other 86 82 refl, h)

module _ (s : List ℕ) (at n : ℕ) (z : size_at s at ≡ n) (w : whole_at s at n ≡ true) where
  -- a record that stands whole is as long as its mark says
  pub record_sized : length (record_bytes s at) ≡ n
  unfolding record_bytes
  record_sized =
      let e : n ≤ length (drop at s) = omega (arith, length-drop at s, whole_true s at n w) in
      rw (z, w) (length-take-le n (drop at s) e)

  -- and its bytes are the sheet's
  pub record_byte : (k : ℕ) → k < n → byte_at (record_bytes s at) 0 k ≡ byte_at s at k
  unfolding record_bytes byte_at
  record_byte k l =
      let e : 0 + k ≡ k = omega arith in
      rw (z, w, e) (get_or-take n (drop at s) k 0 l ∙ get_or-drop at s k 0)

-- a word by its bytes
pub word_bytes : (s : List ℕ) (at k : ℕ) → word_at s at k ≡ byte_at s at k + 256 * byte_at s at (k + 1)
unfolding word_at number_at
word_bytes s at k = omega arith

-- ---- rights, in two bytes or in four
two_or_four : (e : ℕ) → (rights_size e ≡ 2) ⊎ (rights_size e ≡ 4)
unfolding rights_size
two_or_four e = go (eqb e 2)
  where
    go : (t : Bool) → (◌≡◌ {A = ℕ} (cond t 4 2) 2) ⊎ (◌≡◌ {A = ℕ} (cond t 4 2) 4)
    go true = inr refl
    go false = inl refl

pub size_range : (e n : ℕ) → n ≡ rights_size e → (2 ≤ n) × (n ≤ 4)
size_range e n size = ⊎_elim (λ h. (omega arith, omega arith)) (λ h. (omega arith, omega arith)) (two_or_four e)

pub else_two : (e n : ℕ) → n ≡ rights_size e → (n ≡ 4 → ⊥) → n ≡ 2
else_two e n size h = ⊎_elim (λ k. size ∙ k) (λ k. absurd (h (size ∙ k))) (two_or_four e)

module _ (s : List ℕ) (at n : ℕ) (size : n ≡ rights_size (edition_in s)) where
  pub rights_wide : n ≡ 4 → byte_at s at 3 + 256 * byte_at s at 4 + 65536 * (byte_at s at 5 + 256 * byte_at s at 6) ≡ rights_at s at
  unfolding rights_at number_at
  rights_wide h = rw (← size, h) (omega arith)

  pub rights_narrow : (n ≡ 4 → ⊥) → byte_at s at 3 + 256 * byte_at s at 4 ≡ rights_at s at
  unfolding rights_at number_at
  rights_narrow h = rw (← size, else_two (edition_in s) n size h) (omega arith)

-- a procedure has a GN exactly where its size is not 0
pub bound_told : (s : List ℕ) (p pr : ℕ) → ltb 0 (bound_size s p pr) ≡ is_bounded s p pr
unfolding bound_size
bound_told s p pr = go (is_bounded s p pr)
  where
    go : (g : Bool) → ltb 0 (cond g (3 + rights_size (edition_in s)) 0) ≡ g
    go true = lt-ltb 0 (3 + rights_size (edition_in s)) (omega arith)
    go false = refl

-- ---- the places of procedures
-- the next procedure starts where the instructions of this one end
pub procedure_next : (s : List ℕ) (p at : ℕ) → at ≡ procedure_at s p → instruction_from (start_from s p at) (variables_field s at) (instructions_at s at) ≡ procedure_at s (suc p)
unfolding procedure_at
procedure_next s p at e = rw e

-- ---- fields of the VRs, counted from where those of their procedure start
module _ (s : List ℕ) (start x : ℕ) where
  pub inner_field : byte_at s start (2 + 4 * x) ≡ inner_at s start x
  unfolding byte_at inner_at variable_at
  inner_field = let e : start + (2 + 4 * x) ≡ start + 4 * x + 2 = omega arith in rw e
