-- What one actual settles, by the words of two types; and names.
use Prim.Native.Nat.{ℕ, zero, suc, ◌+◌, ◌-◌, ◌*◌, ◌/◌, ◌%◌, ◌^◌, ◌<◌, ◌≤◌}
use mathlib.Core.Path.{◌≡◌, refl, sym, ap, ap₂, ◌∙◌}
use mathlib.Core.List.{List, [], ◌∷◌}
use mathlib.Core.Bool.{Bool, true, false, false≢true, ◌&&◌, cond}
use native.Mathlib.Omega.{arith}
use lib.Dec.{eqb, ltb}
use borrow.Author.Tests.{eqb-true, eqb-false, eq-eqb, ne_eqb}
use Rattle.model.specs.Rights.{Rights, less_open}
use Rattle.model.specs.Qualified.{Qual, integer, array, declared, generic, base, rights, is_array, same}
use Rattle.model.specs.Generic.{only, uses, settles}
use Rattle.index.specs.Types.{word_in, rights_of, shape_of, of_shape, element_of, element_below, named_as, word_as, type_in, ElementIn}
use Rattle.index.proofs.Trees.{Shape, an_integer, an_array, a_declared, a_generic, shape_is, of_generic, array_qual, none_qual}
use Rattle.index.proofs.Reading.{name_shape, base_named, rights_named, none_type, type_element, type_word_as, raw_array, generic_word}
use Rattle.settling.specs.Settles.{settles_as, uses_as, SettlesIs, Innermost, least_name}
use Rattle.settling.specs.declared.Settles.{Settles}
use Rattle.settling.specs.declared.Settles.TheVariants as One

-- ---- Names

eqb_both : (x y a b c d : ℕ) → (x ≡ y → (a ≡ b) × (c ≡ d)) → (a ≡ b → c ≡ d → x ≡ y) → eqb x y ≡ eqb a b && eqb c d
eqb_both x y a b c d h k = go (eqb a b) refl (eqb c d) refl
  where
    go : (u : Bool) → eqb a b ≡ u → (v : Bool) → eqb c d ≡ v → eqb x y ≡ u && v
    go true e true f = eq-eqb x y (k (eqb-true a b e) (eqb-true c d f))
    go true e false f = ne_eqb x y (λ z. eqb-false c d f (h z).1)
    go false e v f = ne_eqb x y (λ z. eqb-false a b e (h z).0)

parts : (x : ℕ) → x % 2 ^ 38 ≡ x % 2 ^ 32 + 2 ^ 32 * (x / 2 ^ 32 % 2 ^ 5) + 2 ^ 37 * (x / 2 ^ 37 % 2)
parts x = omega arith

join : (r b g s c h : ℕ) → r ≡ s → 2 + b ≡ 2 + c → g ≡ h → r + 2 ^ 32 * b + 2 ^ 37 * g ≡ s + 2 ^ 32 * c + 2 ^ 37 * h
join r b g s c h x y z = omega arith

bit : (x : ℕ) → x < 2 → (x ≡ 1 → ⊥) → x ≡ 0
bit zero h k = refl
bit (suc zero) h k = absurd (k refl)
bit (suc (suc x)) h k = absurd (omega arith)

-- two names have the same where all their 38 bits agree
pub same_names : (m n : ℕ) → eqb (m % 2 ^ 38) (n % 2 ^ 38) ≡ same (named_as m) (named_as n)
unfolding named_as rights_of same
same_names m n = go (eqb (m / 2 ^ 37 % 2) 1) refl (eqb (n / 2 ^ 37 % 2) 1) refl
  where
    bits : m / 2 ^ 37 % 2 ≡ n / 2 ^ 37 % 2 → eqb (m % 2 ^ 38) (n % 2 ^ 38) ≡ eqb (2 + m / 2 ^ 32 % 2 ^ 5) (2 + n / 2 ^ 32 % 2 ^ 5) && eqb (m % 2 ^ 32) (n % 2 ^ 32)
    bits e =
        eqb_both (m % 2 ^ 38) (n % 2 ^ 38) (2 + m / 2 ^ 32 % 2 ^ 5) (2 + n / 2 ^ 32 % 2 ^ 5) (m % 2 ^ 32) (n % 2 ^ 32) (λ z. (omega arith, omega arith)) (λ y z. parts m ∙ join _ _ _ _ _ _ z y e ∙ sym (parts n))

    go : (u : Bool) → eqb (m / 2 ^ 37 % 2) 1 ≡ u → (v : Bool) → eqb (n / 2 ^ 37 % 2) 1 ≡ v
        → eqb (m % 2 ^ 38) (n % 2 ^ 38)
        ≡ same (cond u (generic (2 + m / 2 ^ 32 % 2 ^ 5) (m % 2 ^ 32)) (declared (2 + m / 2 ^ 32 % 2 ^ 5) (m % 2 ^ 32)))
        (cond v (generic (2 + n / 2 ^ 32 % 2 ^ 5) (n % 2 ^ 32)) (declared (2 + n / 2 ^ 32 % 2 ^ 5) (n % 2 ^ 32)))
    go true e true f = let x = eqb-true _ _ e in let y = eqb-true _ _ f in bits (x ∙ sym y)
    go true e false f =
        let x : m / 2 ^ 37 % 2 ≡ 1 = eqb-true _ _ e in let y : n / 2 ^ 37 % 2 ≡ 1 → ⊥ = eqb-false _ _ f in ne_eqb (m % 2 ^ 38) (n % 2 ^ 38) (λ z. y (omega arith))
    go false e true f =
        let x : m / 2 ^ 37 % 2 ≡ 1 → ⊥ = eqb-false _ _ e in let y : n / 2 ^ 37 % 2 ≡ 1 = eqb-true _ _ f in ne_eqb (m % 2 ^ 38) (n % 2 ^ 38) (λ z. x (omega arith))
    go false e false f =
        let x : m / 2 ^ 37 % 2 ≡ 1 → ⊥ = eqb-false _ _ e in let y : n / 2 ^ 37 % 2 ≡ 1 → ⊥ = eqb-false _ _ f in bits (bit _ (omega arith) x ∙ sym (bit _ (omega arith) y))

-- the name of the least set has the base and the rights of ?R
pub least_named : (n : ℕ) → named_as (least_name n) ≡ declared (base (named_as n)) (rights (named_as n))
least_named n = go ∙ sym (ap₂ declared (base_named n) (rights_named n))
  where
    go : named_as (least_name n) ≡ declared (2 + n / 2 ^ 32 % 2 ^ 5) (n % 2 ^ 32)
    go = unfold named_as rights_of least_name in
        (let flag : n % 2 ^ 37 / 2 ^ 37 % 2 ≡ 0 = omega arith in
        let base : 2 + n % 2 ^ 37 / 2 ^ 32 % 2 ^ 5 ≡ 2 + n / 2 ^ 32 % 2 ^ 5 = omega arith in
        let set : n % 2 ^ 37 % 2 ^ 32 ≡ n % 2 ^ 32 = omega arith in
        rw (flag, base, set))

-- ---- An actual of shape b, for ?R of shape c

module _ (c : ℕ) (l r : Rights) where
  settles_same : {e : Qual} {b : ℕ} {a : Qual} → Shape r e b a → 256 ≤ c → b ≡ c → settles (generic (c - 256) l) a ≡ a ∷ []
  unfolding settles only
  settles_same an_integer h k = absurd (omega arith)
  settles_same an_array h k = absurd (omega arith)
  settles_same (a_declared b x y) h k = absurd (omega arith)
  settles_same (a_generic b x) h k = rw (eq-eqb (b - 256) (c - 256) (omega arith))

  settles_declared : {e : Qual} {b : ℕ} {a : Qual} → Shape r e b a → 258 ≤ c → c < 512 → b + 256 ≡ c → settles (generic (c - 256) l) a ≡ declared b (less_open r) ∷ []
  unfolding settles only
  settles_declared an_integer h i k = absurd (omega arith)
  settles_declared an_array h i k = absurd (omega arith)
  settles_declared (a_declared b x y) h i k = rw (eq-eqb b (c - 256) (omega arith))
  settles_declared (a_generic b x) h i k = absurd (omega arith)

  settles_other : {e : Qual} {b : ℕ} {a : Qual} → Shape r e b a → 256 ≤ c → (b ≡ c → ⊥) → (b + 256 ≡ c → ⊥) → settles (generic (c - 256) l) a ≡ []
  unfolding settles only
  settles_other an_integer h j k = refl
  settles_other an_array h j k = refl
  settles_other (a_declared b x y) h j k = rw (ne_eqb b (c - 256) (λ z. k (omega arith)))
  settles_other (a_generic b x) h j k = rw (ne_eqb (b - 256) (c - 256) (λ z. j (omega arith)))

-- a need without ?R at the top
settles_plain : {r : Rights} {e : Qual} {c : ℕ} {q : Qual} → Shape r e c q → c < 256 → is_array q ≡ false → (a : Qual) → SettlesIs q a One.Unused
unfolding settles uses is_array settles_as uses_as
settles_plain an_integer h k a = record { settled = refl; used = refl }
settles_plain an_array h k a = absurd (false≢true (sym k))
settles_plain (a_declared c x y) h k a = record { settled = refl; used = refl }
settles_plain (a_generic c x) h k a = absurd (omega arith)

-- ---- Those of an index: a need of number j, read with n, and an actual of number i, read with m

module _ (t : List ℕ) (n j : ℕ) where
  is_array_lem : shape_of (word_as t n j) ≡ 1 → type_in t n j ≡ array (rights_of (word_as t n j)) (type_in t n (element_below (word_as t n j) j))
  unfolding of_shape
  is_array_lem h = type_word_as t n j ∙ rw h

  is_generic_lem : 256 ≤ shape_of (word_as t n j) → type_in t n j ≡ generic (shape_of (word_as t n j) - 256) (rights_of (word_as t n j))
  is_generic_lem h = type_word_as t n j ∙ of_generic _ _ _ h

  -- ?R has a declared type's base
  pub generic_shape : 256 ≤ shape_of (word_as t n j) → (258 ≤ shape_of (word_as t n j)) × (shape_of (word_as t n j) < 290)
  generic_shape h =
      let e : shape_of (word_as t n j) ≡ 2 + n / 2 ^ 32 % 2 ^ 5 + 256 * (n / 2 ^ 37 % 2) = ap shape_of (generic_word t n j h).0 ∙ name_shape n in
      (omega arith, omega arith)

  generic_uses : 256 ≤ shape_of (word_as t n j) → true ≡ uses (type_in t n j)
  unfolding uses
  generic_uses h = rw (is_generic_lem h)

  -- an element whose number does not fall is read as an integer
  none_below : ltb (element_of (word_as t n j)) j ≡ false → element_below (word_as t n j) j ≡ 255
  unfolding element_below
  none_below l = rw l

  module _ (m i : ℕ) where
    pub settles_unused : shape_of (word_as t n j) < 256 → is_array (type_in t n j) ≡ false → SettlesIs (type_in t n j) (type_in t m i) One.Unused
    settles_unused h k = go (type_word_as t n j) (shape_is _ _ _) h k
      where
        go : {q p : Qual} {r : Rights} {e : Qual} {c : ℕ} → q ≡ p → Shape r e c p → c < 256 → is_array q ≡ false → SettlesIs q (type_in t m i) One.Unused
        go same shape below plain = rw same (settles_plain shape below (sym (ap is_array same) ∙ plain) (type_in t m i))

    -- the caller's ?R, of the same base
    pub settles_named : 256 ≤ shape_of (word_as t n j) → shape_of (word_as t m i) ≡ shape_of (word_as t n j) → SettlesIs (type_in t n j) (type_in t m i) (One.To m)
    unfolding settles_as uses_as
    settles_named h k =
        record {
          settled = sym (rw (is_generic_lem h, type_word_as t m i) (settles_same _ _ _ (shape_is _ _ _) h k) ∙ ap (λ (q : Qual). q ∷ []) (generic_word t m i (omega arith)).1);
          used = generic_uses h;
        }

    pub settles_base : (x : ℕ) → 256 ≤ shape_of (word_as t n j) → shape_of (word_as t m i) + 256 ≡ shape_of (word_as t n j)
        → named_as x ≡ declared (shape_of (word_as t m i)) (less_open (rights_of (word_as t m i))) → SettlesIs (type_in t n j) (type_in t m i) (One.To x)
    unfolding settles_as uses_as
    settles_base x h k is =
        let g = generic_shape h in
        record {
          settled = rw (is, is_generic_lem h, type_word_as t m i) (sym (settles_declared _ _ _ (shape_is _ _ _) g.0 (omega arith) k));
          used = generic_uses h;
        }

    pub settles_nothing : 256 ≤ shape_of (word_as t n j) → (shape_of (word_as t m i) ≡ shape_of (word_as t n j) → ⊥)
        → (shape_of (word_as t m i) + 256 ≡ shape_of (word_as t n j) → ⊥) → SettlesIs (type_in t n j) (type_in t m i) One.Nothing
    unfolding settles_as uses_as
    settles_nothing h k l =
        record { settled = rw (is_generic_lem h, type_word_as t m i) (sym (settles_other _ _ _ (shape_is _ _ _) h k l)); used = generic_uses h }

    -- of an array, what its element does
    pub settles_element : {x : ℕ} {s : Settles} → shape_of (word_as t n j) ≡ 1 → ElementIn t i x
        → SettlesIs (type_in t n (element_below (word_as t n j) j)) (type_in t m x) s → SettlesIs (type_in t n j) (type_in t m i) s
    unfolding settles uses
    settles_element h e r =
        record {
          settled = rw (is_array_lem h) (r.settled ∙ ap (settles (type_in t n (element_below (word_as t n j) j))) (type_element t m e));
          used = rw (is_array_lem h) r.used;
        }

    pub settles_none : shape_of (word_as t n j) ≡ 1 → ltb (element_of (word_as t n j)) j ≡ false → SettlesIs (type_in t n j) (type_in t m i) One.Unused
    unfolding settles uses settles_as uses_as
    settles_none h l =
        let e : type_in t n (element_below (word_as t n j) j) ≡ integer = ap (type_in t n) (none_below l) ∙ none_type t n 255 (omega arith) in
        record { settled = rw (is_array_lem h, e); used = rw (is_array_lem h, e) }

-- ---- down to the innermost type of a need
module _ (t : List ℕ) (j i : ℕ) where
  pub inner_element : {e y x : ℕ} → shape_of (word_in t j) ≡ 1 → ltb (element_of (word_in t j)) j ≡ true → e ≡ element_of (word_in t j) → ElementIn t i y
      → Innermost t e y x → Innermost t j i x
  unfolding element_below
  inner_element {e} {y} {x} h l d el r =
      record {
        plain = r.plain;
        leads = λ n m s k.
            let w = raw_array t n j h in
            settles_element t n j m i (ap shape_of w ∙ h) el (rw (w, l, sym d) (r.leads n m s k));
      }

  pub inner_none : shape_of (word_in t j) ≡ 1 → ltb (element_of (word_in t j)) j ≡ false → Innermost t j i 65535
  unfolding is_array settles uses settles_as uses_as
  inner_none h l =
      record {
        plain = rw (none_qual t 255 (omega arith));
        leads = λ n m s k.
            let w = raw_array t n j h in
            let z = settles_none t n j m i (ap shape_of w ∙ h) (rw w l) in
            let e = none_type t n 255 (omega arith) in
            record { settled = rw e at k.settled ∙ z.settled; used = rw e at k.used ∙ z.used };
      }

  pub inner_base : {x : ℕ} → (shape_of (word_in t j) ≡ 1 → ⊥) → i < 256 → x ≡ j * 256 + i → Innermost t j i x
  inner_base {x} h l e =
      let d : x / 256 ≡ j = omega arith in
      let r : x % 256 ≡ i = omega arith in
      record {
        plain = rw d (array_qual t j ∙ ne_eqb _ 1 h);
        leads = λ n m s k. rw (d, r) at k;
      }
