-- Equality and order of two qualified types by their words, as the code asks them.
use Prim.Native.Nat.{ℕ, zero, suc, ◌+◌, ◌-◌, ◌/◌, ◌%◌, ◌^◌, ◌<◌, ◌≤◌}
use mathlib.Core.Path.{◌≡◌, refl, sym, ap, ap₂, ◌∙◌}
use mathlib.Core.List.{List, [], ◌∷◌}
use mathlib.Core.Bool.{Bool, true, false, false≢true, not, ◌&&◌, ◌||◌, cond}
use native.Mathlib.Omega.{arith}
use lib.Dec.{eqb, ltb, leb}
use lib.ListN.{get_or}
use borrow.Author.Tests.{eqb-true, eqb-false, eq-eqb, ne_eqb, ltb-true, ltb-false, lt-ltb, le-ltb, le-leb}
use Rattle.model.specs.Rights.{Rights, within, has, store_right}
use Rattle.model.specs.Qualified.{Qual, base, same, alike, covers, order, elements}
use Rattle.std.specs.Prelude.{Result, Ok, Err, is_ok}
use Rattle.model.specs.declared.Reason.{Reason}
use Rattle.model.specs.declared.Reason.TheVariants.{TypeMismatch, InsufficientRights}
use Rattle.model.specs.Refusal.{failure}
use Rattle.model.specs.Rules.{moves, amplifies}
use Rattle.model.proofs.Order.{alike_arrays, order_refl, moves_order}
use Rattle.index.specs.Types.{word_in, rights_of, shape_of, element_of, uses_of, of_shape, element_below, qual_in, read_word, word_as, type_in, UsesTold}
use Rattle.index.proofs.Trees.{Shape, an_integer, an_array, a_declared, a_generic, shape_is, generic_shape, rights_shape, qual_shaped}
use Rattle.index.proofs.Uses.{unused_type}
use Rattle.index.proofs.Reading.{base_as, none_type, raw_array, array_word, type_word_as}
use Rattle.order.specs.Words.{same_heads, one_named, alike_heads, covered_heads, type_of, ElementThere}

-- ---- two types by their shapes
-- same rights, of two types of shape b; an integer has none
abbrev same_rights : (b r u : ℕ) → Bool
same_rights b r u = eqb b 0 || eqb r u

-- where the heads differ nothing else counts
and_no : (t : Bool) → false ≡ t && false
and_no true = refl
and_no false = refl

and_if : (t x y : Bool) → (t ≡ false → y ≡ false) → t && x ≡ cond t x y
and_if true x y h = refl
and_if false x y h = sym (h refl)

or_yes : (t : Bool) → t || true ≡ true
or_yes true = refl
or_yes false = refl

or_no : (t : Bool) → t ≡ t || false
or_no true = refl
or_no false = refl

-- the bases of two shapes of ?R
less_eqb : (b c : ℕ) → 256 ≤ b → 256 ≤ c → eqb (b - 256) (c - 256) ≡ eqb b c
less_eqb b c h k = go (eqb b c) refl
  where
    go : (u : Bool) → eqb b c ≡ u → eqb (b - 256) (c - 256) ≡ u
    go true e = let z = eqb-true b c e in eq-eqb (b - 256) (c - 256) (omega arith)
    go false e = let z = eqb-false b c e in ne_eqb (b - 256) (c - 256) (λ y. z (omega arith))

-- of a declared type and ?R
more_eqb : (b c : ℕ) → 256 ≤ c → eqb b (c - 256) ≡ eqb (b + 256) c
more_eqb b c k = go (eqb (b + 256) c) refl
  where
    go : (u : Bool) → eqb (b + 256) c ≡ u → eqb b (c - 256) ≡ u
    go true e = let z = eqb-true (b + 256) c e in eq-eqb b (c - 256) (omega arith)
    go false e = let z = eqb-false (b + 256) c e in ne_eqb b (c - 256) (λ y. z (omega arith))

eqb_flip : (b c : ℕ) → eqb b c ≡ eqb c b
eqb_flip b c = go (eqb c b) refl
  where
    go : (u : Bool) → eqb c b ≡ u → eqb b c ≡ u
    go true e = eq-eqb b c (sym (eqb-true c b e))
    go false e = let z = eqb-false c b e in ne_eqb b c (λ y. z (sym y))

module _ {r u : Rights} {e f : Qual} where
  -- the elements of an array first, then shape and rights
  same_shapes : {b c : ℕ} {p q : Qual} → Shape r e b p → Shape u f c q
      → same p q ≡ cond (eqb b 1) (same e f) true && (eqb b c && same_rights b r u)
  unfolding same
  same_shapes an_integer an_integer = refl
  same_shapes an_integer an_array = refl
  same_shapes an_integer (a_declared c l m) = rw (ne_eqb 0 c (λ z. omega arith))
  same_shapes an_integer (a_generic c l) = rw (ne_eqb 0 c (λ z. omega arith))
  same_shapes an_array an_integer = and_no (same e f)
  same_shapes an_array an_array = refl
  same_shapes an_array (a_declared c l m) = rw (ne_eqb 1 c (λ z. omega arith)) (and_no (same e f))
  same_shapes an_array (a_generic c l) = rw (ne_eqb 1 c (λ z. omega arith)) (and_no (same e f))
  same_shapes (a_declared b h k) an_integer = rw (ne_eqb b 1 (λ z. omega arith), ne_eqb b 0 (λ z. omega arith))
  same_shapes (a_declared b h k) an_array = rw (ne_eqb b 1 (λ z. omega arith))
  same_shapes (a_declared b h k) (a_declared c l m) = rw (ne_eqb b 0 (λ z. omega arith), ne_eqb b 1 (λ z. omega arith))
  same_shapes (a_declared b h k) (a_generic c l) = rw (ne_eqb b 1 (λ z. omega arith), ne_eqb b c (λ z. omega arith))
  same_shapes (a_generic b h) an_integer = rw (ne_eqb b 1 (λ z. omega arith), ne_eqb b 0 (λ z. omega arith))
  same_shapes (a_generic b h) an_array = rw (ne_eqb b 1 (λ z. omega arith))
  same_shapes (a_generic b h) (a_declared c l m) = rw (ne_eqb b 1 (λ z. omega arith), ne_eqb b c (λ z. omega arith))
  same_shapes (a_generic b h) (a_generic c l) = rw (less_eqb b c h l, ne_eqb b 0 (λ z. omega arith), ne_eqb b 1 (λ z. omega arith))

  alike_shapes : {b c : ℕ} {p q : Qual} → Shape r e b p → Shape u f c q → b < 512 → c < 512
      → alike p q ≡ cond (eqb b 1 && eqb c 1) (elements (has store_right u) e f) (cond (eqb b c) (ltb b 256 || eqb r u) (one_named b c))
  unfolding alike one_named
  alike_shapes an_integer an_integer x y = refl
  alike_shapes an_integer an_array x y = refl
  alike_shapes an_integer (a_declared c l m) x y =
      rw (ne_eqb 0 c (λ z. omega arith), le-leb 2 c l, ne_eqb (c + 256) 0 (λ z. omega arith))
  alike_shapes an_integer (a_generic c l) x y =
      rw (ne_eqb 0 c (λ z. omega arith), le-leb 2 c (omega arith), ne_eqb (c + 256) 0 (λ z. omega arith))
  alike_shapes an_array an_integer x y = refl
  alike_shapes an_array an_array x y = alike_arrays r u e f
  alike_shapes an_array (a_declared c l m) x y =
      rw (ne_eqb c 1 (λ z. omega arith), ne_eqb 1 c (λ z. omega arith), le-leb 2 c l, ne_eqb (c + 256) 1 (λ z. omega arith))
  alike_shapes an_array (a_generic c l) x y =
      rw (ne_eqb c 1 (λ z. omega arith), ne_eqb 1 c (λ z. omega arith), le-leb 2 c (omega arith), ne_eqb (c + 256) 1 (λ z. omega arith))
  alike_shapes (a_declared b h k) an_integer x y =
      rw (ne_eqb b 1 (λ z. omega arith), ne_eqb b 0 (λ z. omega arith), le-leb 2 b h, ne_eqb (b + 256) 0 (λ z. omega arith))
  alike_shapes (a_declared b h k) an_array x y =
      rw (ne_eqb b 1 (λ z. omega arith), le-leb 2 b h, ne_eqb (b + 256) 1 (λ z. omega arith))
  alike_shapes (a_declared b h k) (a_declared c l m) x y =
      rw (ne_eqb b 1 (λ z. omega arith), lt-ltb b 256 k, le-leb 2 b h, le-leb 2 c l, ne_eqb (b + 256) c (λ z. omega arith), ne_eqb (c + 256) b (λ z. omega arith))
      (as_it_is (eqb b c))
    where
      as_it_is : (t : Bool) → t ≡ cond t true false
      as_it_is true = refl
      as_it_is false = refl
  alike_shapes (a_declared b h k) (a_generic c l) x y =
      rw (more_eqb b c l, ne_eqb b 1 (λ z. omega arith), ne_eqb b c (λ z. omega arith), le-leb 2 b h, le-leb 2 c (omega arith), ne_eqb (c + 256) b (λ z. omega arith)) (or_no (eqb (b + 256) c))
  alike_shapes (a_generic b h) an_integer x y =
      rw (ne_eqb b 1 (λ z. omega arith), ne_eqb b 0 (λ z. omega arith), le-leb 2 b (omega arith), ne_eqb (b + 256) 0 (λ z. omega arith))
  alike_shapes (a_generic b h) an_array x y =
      rw (ne_eqb b 1 (λ z. omega arith), le-leb 2 b (omega arith), ne_eqb (b + 256) 1 (λ z. omega arith))
  alike_shapes (a_generic b h) (a_declared c l m) x y =
      rw (ne_eqb b 1 (λ z. omega arith), ne_eqb b c (λ z. omega arith), le-leb 2 b (omega arith), le-leb 2 c l, ne_eqb (b + 256) c (λ z. omega arith)) (eqb_flip (b - 256) c ∙ more_eqb c b h)
  alike_shapes (a_generic b h) (a_generic c l) x y =
      rw (less_eqb b c h l, ne_eqb b 1 (λ z. omega arith), le-ltb b 256 h, le-leb 2 b (omega arith), le-leb 2 c (omega arith), ne_eqb (b + 256) c (λ z. omega arith), ne_eqb (c + 256) b (λ z. omega arith))
      (and_if (eqb b c) (eqb r u) false (λ z. refl))

-- a type of neither shape 0 nor 1 is of an owner's type
no_owner : (b o : ℕ) → b < 2 → false ≡ leb 2 o && eqb b o
no_owner b zero h = refl
no_owner b (suc zero) h = refl
no_owner b (suc (suc o)) h = rw (le-leb 2 (suc (suc o)) (omega arith), ne_eqb b (suc (suc o)) (λ z. omega arith))

amplifies_shape : {r : Rights} {e : Qual} {b : ℕ} {q : Qual} → Shape r e b q → (o : ℕ) → o < 256 → amplifies o q ≡ leb 2 o && eqb b o
unfolding amplifies
amplifies_shape an_integer o l = no_owner 0 o (omega arith)
amplifies_shape an_array o l = no_owner 1 o (omega arith)
amplifies_shape (a_declared b h k) o l = refl
amplifies_shape (a_generic b h) o l = rw (ne_eqb b o (λ z. omega arith)) (never (leb 2 o))
  where
    never : (t : Bool) → false ≡ t && false
    never true = refl
    never false = refl

-- shape and rights side by side
side_by_side : (v w : ℕ) → v % 2 ^ 41 ≡ w % 2 ^ 41 → (v / 2 ^ 32 % 2 ^ 9 ≡ w / 2 ^ 32 % 2 ^ 9) × (v % 2 ^ 32 ≡ w % 2 ^ 32)
side_by_side v w e = (omega arith, omega arith)

both_sides : (v w : ℕ) → v / 2 ^ 32 % 2 ^ 9 ≡ w / 2 ^ 32 % 2 ^ 9 → v % 2 ^ 32 ≡ w % 2 ^ 32 → v % 2 ^ 41 ≡ w % 2 ^ 41
both_sides v w e f = omega arith

pub heads_at_once : (v w : ℕ) → eqb (shape_of v) 1 && eqb (v % 2 ^ 41) (w % 2 ^ 41) ≡ eqb (shape_of v) 1 && same_heads v w
unfolding same_heads shape_of rights_of
heads_at_once v w = go (eqb (shape_of v) 1) refl (eqb (v % 2 ^ 41) (w % 2 ^ 41)) refl
  where
    go : (a : Bool) → eqb (v / 2 ^ 32 % 2 ^ 9) 1 ≡ a → (b : Bool) → eqb (v % 2 ^ 41) (w % 2 ^ 41) ≡ b
        → a && b ≡ a && (eqb (v / 2 ^ 32 % 2 ^ 9) (w / 2 ^ 32 % 2 ^ 9) && (eqb (v / 2 ^ 32 % 2 ^ 9) 0 || eqb (v % 2 ^ 32) (w % 2 ^ 32)))
    go false k b l = refl
    go true k true l = let s = side_by_side v w (eqb-true _ _ l) in rw (eq-eqb _ _ s.0, eq-eqb _ _ s.1) (sym (or_yes (eqb (v / 2 ^ 32 % 2 ^ 9) 0)))
    go true k false l =
        let one : v / 2 ^ 32 % 2 ^ 9 ≡ 1 = eqb-true _ 1 k in
        rw (ne_eqb (v / 2 ^ 32 % 2 ^ 9) 0 (λ z. omega arith))
        (never (eqb (v / 2 ^ 32 % 2 ^ 9) (w / 2 ^ 32 % 2 ^ 9)) refl (eqb (v % 2 ^ 32) (w % 2 ^ 32)) refl)
      where
        never : (p : Bool) → eqb (v / 2 ^ 32 % 2 ^ 9) (w / 2 ^ 32 % 2 ^ 9) ≡ p → (q : Bool) → eqb (v % 2 ^ 32) (w % 2 ^ 32) ≡ q → false ≡ p && q
        never true e true f = absurd (eqb-false _ _ l (both_sides v w (eqb-true _ _ e) (eqb-true _ _ f)))
        never true e false f = refl
        never false e q f = refl

-- ---- of the types of an index
pub shape_small : (w : ℕ) → shape_of w < 512
unfolding shape_of
shape_small w = omega arith

-- the word of an array is not read, and what is read as an array is one
read_array : (n w : ℕ) → shape_of w ≡ 1 → read_word n w ≡ w
unfolding word_in word_as
read_array n w h = raw_array (w ∷ []) n 0 h

array_read : (n w : ℕ) → shape_of (read_word n w) ≡ 1 → read_word n w ≡ w
unfolding word_in word_as
array_read n w h = array_word (w ∷ []) n 0 h

module _ (t : List ℕ) where
  -- the type of a number is that of its word
  pub type_of_lem : (n j : ℕ) → type_in t n j ≡ type_of t n j (word_in t j)
  unfolding word_as type_of
  type_of_lem n j = type_word_as t n j

  -- the elements of an array first, then shape and rights
  same_words : (m i v n j w : ℕ) → same (type_of t m i v) (type_of t n j w)
      ≡ cond (eqb (shape_of (read_word m v)) 1) (same (type_in t m (element_below (read_word m v) i)) (type_in t n (element_below (read_word n w) j))) true
      && same_heads (read_word m v) (read_word n w)
  unfolding same_heads type_of
  same_words m i v n j w = same_shapes (shape_is _ _ _) (shape_is _ _ _)

  -- of an array: what is none has another head, also as it is read
  pub same_arrays : (m i v n j w : ℕ) → shape_of v ≡ 1
      → same (type_of t m i v) (type_of t n j w)
      ≡ same (type_in t m (element_below v i)) (type_in t n (element_below w j)) && (eqb (shape_of v) 1 && same_heads v w)
  unfolding same_heads
  same_arrays m i v n j w b = same_words m i v n j w ∙ rw (read_array m v b, b) (go (eqb (shape_of w) 1) refl)
    where
      go : (u : Bool) → eqb (shape_of w) 1 ≡ u
          → same (type_in t m (element_below v i)) (type_in t n (element_below (read_word n w) j))
          && (eqb 1 (shape_of (read_word n w)) && eqb (rights_of v) (rights_of (read_word n w)))
          ≡ same (type_in t m (element_below v i)) (type_in t n (element_below w j)) && (eqb 1 (shape_of w) && eqb (rights_of v) (rights_of w))
      go true c = rw (read_array n w (eqb-true _ 1 c))
      go false c =
          let k = eqb-false _ 1 c in
          rw (ne_eqb 1 (shape_of w) (λ z. k (sym z)), ne_eqb 1 (shape_of (read_word n w)) (λ z. k (ap shape_of (sym (array_read n w (sym z))) ∙ sym z)))
          (sym (and_no (same (type_in t m (element_below v i)) (type_in t n (element_below (read_word n w) j))))
          ∙ and_no (same (type_in t m (element_below v i)) (type_in t n (element_below w j))))

  -- of other types, their words as they are read
  pub same_others : (m i v n j w : ℕ) → (shape_of v ≡ 1 → ⊥) → same (type_of t m i v) (type_of t n j w) ≡ same_heads (read_word m v) (read_word n w)
  same_others m i v n j w h =
      same_words m i v n j w ∙ rw (ne_eqb (shape_of (read_word m v)) 1 (λ z. h (ap shape_of (sym (array_read m v z)) ∙ z)))

  -- kinds and rights of a movement, by the words as they are read
  abbrev asked : (m i v n j w : ℕ) → Bool
  asked m i v n j w = elements (has store_right (rights_of w)) (type_in t m (element_below v i)) (type_in t n (element_below w j))

  alike_words : (m i v n j w : ℕ) → alike (type_of t m i v) (type_of t n j w)
      ≡ cond (eqb (shape_of (read_word m v)) 1 && eqb (shape_of (read_word n w)) 1)
      (asked m i (read_word m v) n j (read_word n w)) (alike_heads (read_word m v) (read_word n w))
  unfolding alike_heads type_of
  alike_words m i v n j w = alike_shapes (shape_is _ _ _) (shape_is _ _ _) (shape_small _) (shape_small _)

  covers_words : (m i v n j w : ℕ) → covers (type_of t m i v) (type_of t n j w) ≡ covered_heads (read_word m v) (read_word n w)
  unfolding covers covered_heads type_of
  covers_words m i v n j w = rw (generic_shape _ _ _, generic_shape _ _ _, rights_shape _ _ _, rights_shape _ _ _)

  moves_words : (m i n j : ℕ) → failure (moves (type_in t m i) (type_in t n j))
      ≡ cond (cond (eqb (shape_of (word_as t m i)) 1 && eqb (shape_of (word_as t n j)) 1)
      (asked m i (word_as t m i) n j (word_as t n j)) (alike_heads (word_as t m i) (word_as t n j)))
      (cond (covered_heads (word_as t m i) (word_as t n j)) (Ok tt) (Err InsufficientRights)) (Err TypeMismatch)
  unfolding failure moves word_as
  moves_words m i n j =
      let k = ap₂ alike (type_of_lem m i) (type_of_lem n j) ∙ alike_words m i (word_in t i) n j (word_in t j) in
      let c = ap₂ covers (type_of_lem m i) (type_of_lem n j) ∙ covers_words m i (word_in t i) n j (word_in t j) in
      rw (k, c)

  module _ (m i n j : ℕ) {v w : ℕ} (at-v : v ≡ word_as t m i) (at-w : w ≡ word_as t n j) where
    -- of two arrays: the elements, then the rights around them
    pub moves_arrays : shape_of v ≡ 1 → shape_of w ≡ 1 → failure (moves (type_in t m i) (type_in t n j)) ≡ cond (asked m i v n j w) (cond (within (rights_of w) (rights_of v)) (Ok tt) (Err InsufficientRights)) (Err TypeMismatch)
    unfolding covered_heads
    moves_arrays b c = moves_words m i n j ∙ rw (sym at-v, sym at-w, b, c)

    pub moves_others : eqb (shape_of v) 1 && eqb (shape_of w) 1 ≡ false → failure (moves (type_in t m i) (type_in t n j)) ≡ cond (alike_heads v w) (cond (covered_heads v w) (Ok tt) (Err InsufficientRights)) (Err TypeMismatch)
    moves_others h = moves_words m i n j ∙ rw (sym at-v, sym at-w, h)

  -- ≥ of an array, and of other types, by their words
  order_words : (m i v n j w : ℕ) → order (type_of t m i v) (type_of t n j w)
      ≡ cond (eqb (shape_of (read_word m v)) 1 && eqb (shape_of (read_word n w)) 1)
      (asked m i (read_word m v) n j (read_word n w)) (alike_heads (read_word m v) (read_word n w))
      && covered_heads (read_word m v) (read_word n w)
  unfolding order
  order_words m i v n j w = rw (alike_words m i v n j w, covers_words m i v n j w)

  pub order_arrays : (m i v n j w : ℕ) → shape_of v ≡ 1
      → order (type_of t m i v) (type_of t n j w) ≡ asked m i v n j w && (eqb (shape_of w) 1 && within (rights_of w) (rights_of v))
  unfolding one_named alike_heads covered_heads
  order_arrays m i v n j w b = order_words m i v n j w ∙ rw (read_array m v b) (go (eqb (shape_of w) 1) refl)
    where
      never : (a x : Bool) → (a && false) && x ≡ asked m i v n j w && false
      never true x = and_no (asked m i v n j w)
      never false x = and_no (asked m i v n j w)

      go : (u : Bool) → eqb (shape_of w) 1 ≡ u
          → cond (eqb (shape_of v) 1 && eqb (shape_of (read_word n w)) 1) (asked m i v n j (read_word n w)) (alike_heads v (read_word n w))
          && covered_heads v (read_word n w)
          ≡ asked m i v n j w && (u && within (rights_of w) (rights_of v))
      go true c = let o = eqb-true _ 1 c in rw (read_array n w o, o, b)
      go false c =
          let k = eqb-false _ 1 c in
          let x : shape_of (read_word n w) ≡ 1 → ⊥ = λ z. k (ap shape_of (sym (array_read n w z)) ∙ z) in
          rw (ne_eqb _ 1 x, b, ne_eqb 1 _ (λ z. x (sym z)), ne_eqb (shape_of (read_word n w) + 256) 1 (λ z. omega arith)) (never (leb 2 (shape_of (read_word n w))) _)

  pub order_others : (m i v n j w : ℕ) → (shape_of v ≡ 1 → ⊥)
      → order (type_of t m i v) (type_of t n j w) ≡ alike_heads (read_word m v) (read_word n w) && covered_heads (read_word m v) (read_word n w)
  order_others m i v n j w h =
      order_words m i v n j w ∙ rw (ne_eqb (shape_of (read_word m v)) 1 (λ z. h (ap shape_of (sym (array_read m v z)) ∙ z)))

  -- the base of a type, in its shape
  pub base_part : (n j : ℕ) → base (type_in t n j) ≡ shape_of (word_as t n j) % 256
  base_part n j = base_as t n j ∙ go (shape_of (word_as t n j)) (shape_small (word_as t n j))
    where
      part : (b : ℕ) → b < 512 → (u : Bool) → ltb b 256 ≡ u → cond u b (b - 256) ≡ b % 256
      part b h true e = let l = ltb-true b 256 e in omega arith
      part b h false e = let l = ltb-false b 256 e in omega arith

      go : (b : ℕ) → b < 512 → cond (ltb b 256) b (b - 256) ≡ b % 256
      go b h = part b h (ltb b 256) refl

  pub amplifies_word : (o j : ℕ) → o < 256 → amplifies o (qual_in t j) ≡ leb 2 o && eqb (shape_of (word_in t j)) o
  amplifies_word o j h = ap (amplifies o) (qual_shaped t j) ∙ amplifies_shape (shape_is _ _ _) o h

-- ---- the walk from an array to its element, by the number as it stands
-- an element by its number, or an integer by none
data Element (t : List ℕ) (w j : ℕ) : (number word : ℕ) → Type 0 where
  below : element_of w < j → Element t w j (element_of w) (word_in t (element_of w))
  none : Element t w j 255 0

element_is : (t : List ℕ) (w j : ℕ) → Element t w j (element_below w j) (word_in t (element_below w j))
unfolding word_in element_below
element_is t w j = go (ltb (element_of w) j) refl
  where
    go : (u : Bool) → ltb (element_of w) j ≡ u → Element t w j (cond u (element_of w) 255) (word_in t (cond u (element_of w) 255))
    go true h = below (ltb-true (element_of w) j h)
    go false h = none

-- the word that the code takes for it
pub element_word_there : (t : List ℕ) (w j : ℕ) → ElementThere w j → element_of w < j → get_or t (element_of w) 0 ≡ word_in t (element_below w j)
unfolding word_in element_below
element_word_there t w j there h = rw (lt-ltb (element_of w) j h, lt-ltb (element_of w) 64 (there h))

pub element_word_none : (t : List ℕ) (w j : ℕ) → j ≤ element_of w → 0 ≡ word_in t (element_below w j)
unfolding word_in element_below
element_word_none t w j h = rw (le-ltb (element_of w) j h)

-- its type, whichever number it is passed on with
pub type_of_element : (t : List ℕ) (n w j : ℕ) → type_of t n (element_of w) (word_in t (element_below w j)) ≡ type_in t n (element_below w j)
unfolding shape_of of_shape read_word type_of
type_of_element t n w j = go _ _ (element_is t w j)
  where
    go : (e x : ℕ) → Element t w j e x → type_of t n (element_of w) x ≡ type_in t n e
    go _ _ (below h) = sym (type_of_lem t n (element_of w))
    go _ _ none = sym (none_type t n 255 (omega arith))

-- an element of the element is one of the 64 too, as an element of any type of the index is
pub element_there : (t : List ℕ) (j : ℕ) → ElementThere (word_in t j) j
unfolding word_in element_of
element_there t j = go (ltb j 64) refl
  where
    go : (u : Bool) → ltb j 64 ≡ u → ElementThere (cond u (get_or t j 0) 0) j
    go true h l = let k = ltb-true j 64 h in omega arith
    go false h l = omega arith

pub element_there_below : (t : List ℕ) (w j : ℕ) → ElementThere w j → ElementThere (word_in t (element_below w j)) (element_of w)
unfolding element_of
element_there_below t w j there = go _ _ (element_is t w j)
  where
    go : (e x : ℕ) → Element t w j e x → ElementThere x (element_of w)
    go _ _ (below h) l = let k = there h in omega arith
    go _ _ none l = omega arith

-- how often the walk can go on
unfoldable pub levels : (j w : ℕ) → ℕ
levels j w = cond (eqb (shape_of w) 1) (suc j) 0

pub levels_fall : (t : List ℕ) (j w : ℕ) → shape_of w ≡ 1 → levels (element_of w) (word_in t (element_below w j)) < levels j w
unfolding shape_of levels
levels_fall t j w b = rw (eq-eqb (shape_of w) 1 b) (go _ _ (element_is t w j))
  where
    most : (u : Bool) (n : ℕ) → cond u (suc n) 0 ≤ suc n
    most true n = omega arith
    most false n = omega arith

    go : (e x : ℕ) → Element t w j e x → cond (eqb (shape_of x) 1) (suc (element_of w)) 0 < suc j
    go _ _ (below h) = let m = most (eqb (shape_of (word_in t (element_of w))) 1) (element_of w) in omega arith
    go _ _ none = omega arith

-- ---- a type moves to itself, and is the same where it is read alike
still : (q : Qual) → Ok tt ≡ failure (moves q q)
still q = go (failure (moves q q)) (moves_order q q ∙ order_refl q)
  where
    go : (f : Result (Unit {0}) Reason) → is_ok f ≡ true → Ok tt ≡ f
    go (Ok u) h = refl
    go (Err r) h = absurd (false≢true h)

pub moves_itself : (p q : Qual) → p ≡ q → Ok tt ≡ failure (moves p q)
moves_itself p q e = still p ∙ ap (λ (x : Qual). failure (moves p x)) e

pub read_alike : (t : List ℕ) → UsesTold t → (m n i : ℕ) → eqb m n || not (uses_of (word_in t i)) ≡ true → type_in t m i ≡ type_in t n i
read_alike t told m n i h = go (eqb m n) refl (uses_of (word_in t i)) refl h
  where
    go : (a : Bool) → eqb m n ≡ a → (u : Bool) → uses_of (word_in t i) ≡ u → a || not u ≡ true → type_in t m i ≡ type_in t n i
    go true a u k l = ap (λ (x : ℕ). type_in t x i) (eqb-true m n a)
    go false a false k l = unused_type t told m n i k
    go false a true k l = absurd (false≢true l)
