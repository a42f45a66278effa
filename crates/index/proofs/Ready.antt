-- An index is ready for a sheet that has no more types and procedures than there is room for.
use Prim.Native.Nat.{ℕ, zero, suc, ◌<◌, ◌≤◌}
use mathlib.Core.Path.{◌≡◌, refl}
use mathlib.Core.List.{List}
use mathlib.Core.Bool.{Bool, true, false, cond}
use native.Mathlib.Omega.{arith}
use lib.Dec.{eqb, ltb}
use lib.ListN.{get_or}
use borrow.Author.Tests.{ltb-true, ltb-false, lt-ltb}
use Rattle.model.specs.Rights.{Rights}
use Rattle.model.specs.Qualified.{Qual, declared, generic}
use Rattle.sheet.specs.Layout.{quals_of, base_of, rights_field, element_field, procedures_of}
use Rattle.sheet.specs.Meaning.{nominal, shaped, base_in, element_in_sheet, tree, qual_of}
use Rattle.index.specs.Types.{word_in, rights_of, shape_of, uses_of, of_shape, element_below, tree_in, qual_in, UseTold}
use Rattle.index.specs.Indexed.{TypeWord, Indexed, Ready}
use Rattle.index.specs.declared.sheets.Sheet.{Sheet}
use Rattle.index.proofs.Uses.{told_uses}

-- the word 0 is an integer's
shape_zero : shape_of 0 ≡ 0
unfolding shape_of
shape_zero = refl

-- whatever its record says beside
no_base : (r u : ℕ) (e f : Qual) → of_shape 0 r e ≡ shaped 0 u f
unfolding of_shape shaped
no_base r u e f = refl

-- a byte as a shape
byte_shaped : (b : ℕ) (r : Rights) (e : Qual) → b < 256 → of_shape (cond (eqb b 255) 511 b) (cond (eqb b 255) 0 r) e ≡ shaped b r e
unfolding of_shape shaped nominal
byte_shaped zero r e h = refl
byte_shaped (suc zero) r e h = refl
byte_shaped (suc (suc t)) r e h = go (eqb (suc (suc t)) 255) refl
  where
    go : (u : Bool) → eqb (suc (suc t)) 255 ≡ u
        → of_shape (cond u 511 (suc (suc t))) (cond u 0 r) e ≡ cond u (generic 255 0) (declared (suc (suc t)) r)
    go true k = refl
    go false k = rw (lt-ltb (suc (suc t)) 256 h)

module _ (s t : List ℕ) (x : Indexed s t) (q : quals_of s ≤ 64) where
  word_is : (j : ℕ) → j < quals_of s → word_in t j ≡ get_or t j 0
  unfolding word_in
  word_is j l = rw (lt-ltb j 64 (omega arith))

  type_word : (j : ℕ) → j < quals_of s → TypeWord s j (word_in t j)
  type_word j l = rw (word_is j l) (x.types j l (omega arith))

  word_none : (j : ℕ) → quals_of s ≤ j → word_in t j ≡ 0
  unfolding word_in
  word_none j l = go (ltb j 64) refl
    where
      go : (b : Bool) → ltb j 64 ≡ b → cond b (get_or t j 0) 0 ≡ 0
      go true e = x.no_types j l (ltb-true j 64 e)
      go false e = refl

  same_tree : (n j : ℕ) → tree_in t n j ≡ tree s n j
  unfolding tree_in tree base_in element_in_sheet element_below
  same_tree zero j = refl
  same_tree (suc n) j = go (λ e. same_tree n e) (ltb j (quals_of s)) refl
    where
      go : ((e : ℕ) → tree_in t n e ≡ tree s n e) → (b : Bool) → ltb j (quals_of s) ≡ b
          → of_shape (shape_of (word_in t j)) (rights_of (word_in t j)) (tree_in t n (element_below (word_in t j) j))
          ≡ shaped (base_in s j) (rights_field s j) (tree s n (element_in_sheet s j))
      go deeper true e =
          let w = type_word j (ltb-true j (quals_of s) e) in
          rw (e, w.shape, w.rights, w.element, deeper (cond (ltb (element_field s j) j) (element_field s j) 255)) (byte_shaped (base_of s j) _ _ w.small)
      go deeper false e = rw (e, word_none j (ltb-false j (quals_of s) e), shape_zero) (no_base _ _ _ _)

  -- the word 0 tells of no ?R
  all_told : (j : ℕ) → UseTold t j (word_in t j)
  unfolding shape_of uses_of
  all_told j = go (ltb j (quals_of s)) refl
    where
      go : (b : Bool) → ltb j (quals_of s) ≡ b → UseTold t j (word_in t j)
      go true e = let l = ltb-true j (quals_of s) e in rw (word_is j l) (x.uses_told j l (omega arith))
      go false e = rw (word_none j (ltb-false j (quals_of s) e))

  pub ready : procedures_of s ≤ 64 → Ready s t
  unfolding qual_in qual_of
  ready p =
      record {
        few = p;
        types = λ j. same_tree (suc j) j;
        uses_told = told_uses t all_told;
        places = λ k l. x.places k l (omega arith);
        procedures = λ k l. x.procedures k l (omega arith);
      }

-- the types of the sheet, as one function
pub same_types : {s t : List ℕ} → Ready s t → qual_in t ≡ qual_of s
same_types ready = λ i j. ready.types j i

pub of_sheet : (s : Sheet) → Ready s.bytes.now s.index.now
of_sheet s = s.ready
