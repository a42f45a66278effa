-- Whether a type uses ?R, by its word: what the words of an index tell of it is so.
use Prim.Native.Nat.{ℕ, zero, suc, ◌<◌, ◌≤◌}
use mathlib.Core.Path.{◌≡◌, refl, sym, ap, ◌∙◌}
use mathlib.Core.List.{List}
use mathlib.Core.Logic.{◌⊎◌, inl, inr}
use mathlib.Core.Bool.{Bool, true, false, cond}
use native.Mathlib.Omega.{arith}
use lib.Dec.{eqb, ltb, leb}
use lib.ListN.{get_or, set}
use lib.Seq.{get_or-set_other}
use borrow.Author.Tests.{ltb-true, le-leb, lt-leb, le-ltb, ne_eqb}
use Rattle.model.specs.Rights.{Rights}
use Rattle.model.specs.Qualified.{Qual}
use Rattle.model.specs.Generic.{uses}
use Rattle.model.proofs.Read.{no_use}
use Rattle.sheet.specs.Meaning.{qual_of}
use Rattle.index.specs.Types.{word_in, shape_of, uses_of, element_below, named_as, qual_in, type_in, UseTold, UsesTold}
use Rattle.index.specs.Indexed.{Ready}
use Rattle.index.proofs.Trees.{Shape, an_integer, an_array, a_declared, a_generic, shape_is, none_qual, qual_shaped, falls}

shape_uses : {r : Rights} {e : Qual} {b : ℕ} {q : Qual} → Shape r e b q → uses q ≡ cond (eqb b 1) (uses e) (leb 256 b)
unfolding uses
shape_uses an_integer = refl
shape_uses an_array = refl
shape_uses (a_declared b h k) = rw (ne_eqb b 1 (λ z. omega arith), lt-leb 256 b k)
shape_uses (a_generic b h) = rw (ne_eqb b 1 (λ z. omega arith), le-leb 256 b h)

module _ (t : List ℕ) where
  word_uses : (j : ℕ) → uses (qual_in t j) ≡ cond (eqb (shape_of (word_in t j)) 1) (uses (qual_in t (element_below (word_in t j) j))) (leb 256 (shape_of (word_in t j)))
  word_uses j = ap uses (qual_shaped t j) ∙ shape_uses (shape_is _ _ _)

  -- a number from 64 on names no type
  none_told : (j : ℕ) → 64 ≤ j → uses_of (word_in t j) ≡ uses (qual_in t j)
  unfolding word_in uses_of uses
  none_told j h = rw (le-ltb j 64 h, none_qual t j h)

  -- an element's number falls, so that what each word tells of the one before it is told of the types
  pub told_uses : ((j : ℕ) → UseTold t j (word_in t j)) → UsesTold t
  told_uses told j = below (suc j) j (omega arith)
    where
      below : (n k : ℕ) → k < n → uses_of (word_in t k) ≡ uses (qual_in t k)
      below zero k l = absurd (omega arith)
      below (suc n) k l =
          told k
          ∙ ap (λ (u : Bool). cond (eqb (shape_of (word_in t k)) 1) u (leb 256 (shape_of (word_in t k))))
          (go (element_below (word_in t k) k) (below n (element_below (word_in t k) k)) (falls t (word_in t k) k))
          ∙ sym (word_uses k)
        where
          go : (e : ℕ) → (e < n → uses_of (word_in t e) ≡ uses (qual_in t e)) → (e < k) ⊎ (e ≡ 255) → uses_of (word_in t e) ≡ uses (qual_in t e)
          go e f (inl h) = f (omega arith)
          go e f (inr h) = none_told e (omega arith)

  -- a type that does not use ?R is the same however it is read
  pub unused_type : UsesTold t → (m n j : ℕ) → uses_of (word_in t j) ≡ false → type_in t m j ≡ type_in t n j
  unfolding type_in
  unused_type told m n j h =
      let none = sym (told j) ∙ h in
      no_use (named_as m) (qual_in t j) none ∙ sym (no_use (named_as n) (qual_in t j) none)

-- ---- while the words are filled in

-- what a word tells leans on the words before it alone
told_as : (t u : List ℕ) (j w : ℕ) → ((e : ℕ) → (e < j) ⊎ (e ≡ 255) → word_in t e ≡ word_in u e) → UseTold u j w → UseTold t j w
told_as t u j w same told = rw (same (element_below w j) (falls t w j)) told

pub told_kept : (l : List ℕ) (i v j w : ℕ) → i < 64 → j ≤ i → UseTold l j w → UseTold (set l i v) j w
unfolding word_in
told_kept l i v j w few before = told_as (set l i v) l j w λ e. other e
  where
    other : (e : ℕ) → (e < j) ⊎ (e ≡ 255) → cond (ltb e 64) (get_or (set l i v) e 0) 0 ≡ cond (ltb e 64) (get_or l e 0) 0
    other e (inl h) = rw (get_or-set_other l i e v 0 (λ z. omega arith))
    other e (inr h) = rw (get_or-set_other l i e v 0 (λ z. omega arith))

pub told_same : (t u : List ℕ) (j w : ℕ) → ((k : ℕ) → k < 64 → get_or t k 0 ≡ get_or u k 0) → UseTold u j w → UseTold t j w
unfolding word_in
told_same t u j w same = told_as t u j w λ e h. go e (ltb e 64) refl
  where
    go : (e : ℕ) (b : Bool) → ltb e 64 ≡ b → cond b (get_or t e 0) 0 ≡ cond b (get_or u e 0) 0
    go e true l = same e (ltb-true e 64 l)
    go e false l = refl

-- ---- of the types of a sheet
pub name_used : {s t : List ℕ} → Ready s t → (j : ℕ) → uses_of (word_in t j) ≡ uses (qual_of s j)
name_used ready j = ready.uses_told j ∙ ap uses (ready.types j)
