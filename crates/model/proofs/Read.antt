-- Types with ?R as a frame reads them: what check asks of a type as its procedure reads it holds of the type in every frame of the procedure.
use mathlib.Core.Path.{◌≡◌, refl, ap, sym, subst, ◌∙◌}
use mathlib.Core.Bool.{Bool, true, false, false≢true, cond}
use borrow.Author.Tests.{eq-eqb}
use Rattle.model.specs.Rights.{Rights, within, has, open_right, store_right}
use Rattle.model.specs.Qualified.{Qual, integer, array, declared, generic, base, rights, element, is_integer, is_array, is_generic, same, alike, covers, order}
use Rattle.model.specs.Generic.{Bound, bound_base, least, own, instance, read, uses}
use Rattle.model.proofs.Rights.{within_refl, within_trans}
use Rattle.model.proofs.Verdicts.{both_true}
use Rattle.model.proofs.Order.{same_sound, same_refl, covers_within}

-- a set that a frame may hold for ?R: what settles has the least rights, and open is left out
pub record Good (b : Bound) (z : Rights) : Type 0 where
  pub enough : within (least b) z ≡ true
  pub shut : has open_right z ≡ false

-- source ≥ destination, of types without ?R
pub record Moves (s d : Qual) : Type 0 where
  pub kinds : alike s d ≡ true
  pub licensed : within (rights d) (rights s) ≡ true

pub order_moves : (s d : Qual) → order s d ≡ true → Moves s d
unfolding order
order_moves s d h = let x = both_true (alike s d) (covers s d) h in record { kinds = x.0; licensed = covers_within s d x.0 x.1 }

-- either of two facts, whichever is asked, from the one before
either_from : (t : Bool) {x y x' y' : Bool} → (x ≡ true → x' ≡ true) → (y ≡ true → y' ≡ true) → cond t x y ≡ true → cond t x' y' ≡ true
either_from true p q h = p h
either_from false p q h = q h

-- ---- Any reading

pub read_read : (ρ σ q : Qual) → read ρ (read σ q) ≡ read (read ρ σ) q
unfolding read
read_read ρ σ integer = refl
read_read ρ σ (array r e) = ap (array r) (read_read ρ σ e)
read_read ρ σ (declared t r) = refl
read_read ρ σ (generic t l) = refl

pub no_use : (ρ q : Qual) → uses q ≡ false → read ρ q ≡ q
unfolding read uses
no_use ρ integer h = refl
no_use ρ (array r e) h = ap (array r) (no_use ρ e h)
no_use ρ (declared t r) h = refl
no_use ρ (generic t l) h = absurd (false≢true (sym h))

-- neither a procedure nor a frame reads ?R as an array
pub read_element : (ρ : Qual) → element ρ ≡ integer → (q : Qual) → element (read ρ q) ≡ read ρ (element q)
unfolding read element
read_element ρ n integer = refl
read_element ρ n (array r e) = refl
read_element ρ n (declared t r) = refl
read_element ρ n (generic t l) = n

-- ---- A type as its procedure reads it, and in a frame

module _ (b : Bound) (z : Rights) where
  pub integer_read : (q : Qual) → is_integer (read (own b) q) ≡ true → is_integer (read (instance b z) q) ≡ true
  unfolding read own instance is_integer
  integer_read integer h = h
  integer_read (array r e) h = h
  integer_read (declared t r) h = h
  integer_read (generic t l) h = h

  pub array_read : (q : Qual) → is_array (read (own b) q) ≡ true → is_array (read (instance b z) q) ≡ true
  unfolding read own instance is_array
  array_read integer h = h
  array_read (array r e) h = h
  array_read (declared t r) h = h
  array_read (generic t l) h = h

  pub base_read : (q : Qual) → base (read (own b) q) ≡ base (read (instance b z) q)
  unfolding read own instance base
  base_read integer = refl
  base_read (array r e) = refl
  base_read (declared t r) = refl
  base_read (generic t l) = refl

  pub element_read : (q : Qual) → (element (read (own b) q) ≡ read (own b) (element q)) × (element (read (instance b z) q) ≡ read (instance b z) (element q))
  unfolding own instance element
  element_read q = (read_element (own b) refl q, read_element (instance b z) refl q)

  -- rights at the top are those that are declared, but of ?R itself
  pub rights_read : (q : Qual) → is_generic (read (own b) q) ≡ false → rights (read (own b) q) ≡ rights (read (instance b z) q)
  unfolding read own is_generic rights
  rights_read integer h = refl
  rights_read (array r e) h = refl
  rights_read (declared t r) h = refl
  rights_read (generic t l) h = absurd (false≢true (sym h))

  -- an array is not ?R
  pub array_rights_read : (q : Qual) → is_array (read (own b) q) ≡ true → rights (read (own b) q) ≡ rights (read (instance b z) q)
  unfolding read own is_array rights
  array_rights_read integer h = refl
  array_rights_read (array r e) h = refl
  array_rights_read (declared t r) h = refl
  array_rights_read (generic t l) h = absurd (false≢true h)

  -- neither is what has open
  pub open_read :
      has open_right (least b) ≡ false → (q : Qual) → has open_right (rights (read (own b) q)) ≡ true → has open_right (rights (read (instance b z) q)) ≡ true
  unfolding read own rights
  open_read k integer h = h
  open_read k (array r e) h = h
  open_read k (declared t r) h = h
  open_read k (generic t l) h = absurd (false≢true (sym k ∙ h))

  same_read : (e f : Qual) → same (read (own b) e) (read (own b) f) ≡ true → same (read (instance b z) e) (read (instance b z) f) ≡ true
  same_read e f h = subst (λ (q : Qual). same (read (instance b z) e) q ≡ true) equal (same_refl (read (instance b z) e))
    where
      again : (q : Qual) → read (instance b z) (read (own b) q) ≡ read (instance b z) q
      again q = read_read (instance b z) (own b) q ∙ (unfold read own in refl)

      equal : read (instance b z) e ≡ read (instance b z) f
      equal = sym (again e) ∙ ap (read (instance b z)) (same_sound (read (own b) e) (read (own b) f) h) ∙ again f

  -- a frame reads no type as ?R
  moves_ordered : (s d : Qual) → Moves (read (instance b z) s) (read (instance b z) d) → order (read (instance b z) s) (read (instance b z) d) ≡ true
  unfolding order covers
  moves_ordered s d m = rw (m.kinds, no_name d) m.licensed
    where
      no_name : (q : Qual) → is_generic (read (instance b z) q) ≡ false
      no_name q =
          unfold read instance is_generic in
          elim q as (λ (k : Qual). is_generic (read (instance b z) k) ≡ false) [ integer ↦ refl | array r e ↦ refl | declared t r ↦ refl | generic t l ↦ refl ]

  module _ (good : Good b z) where
    -- a frame has every right that its procedure counts on
    pub rights_up : (q : Qual) → within (rights (read (own b) q)) (rights (read (instance b z) q)) ≡ true
    unfolding read own instance rights
    rights_up integer = within_refl (rights integer)
    rights_up (array r e) = within_refl r
    rights_up (declared t r) = within_refl r
    rights_up (generic t l) = good.enough

    -- ?R moves to ?R, and to what the least set has, which every frame's set has too; nothing else moves to ?R
    pub moves_read :
        (s d : Qual) → alike (read (own b) s) (read (own b) d) ≡ true → covers (read (own b) s) (read (own b) d) ≡ true →
        Moves (read (instance b z) s) (read (instance b z) d)
    unfolding read own instance alike covers is_generic rights order
    moves_read integer integer h k = record { kinds = refl; licensed = k }
    moves_read (array r e) (array s f) h k =
        let inside : order (read (own b) e) (read (own b) f) ≡ true → order (read (instance b z) e) (read (instance b z) f) ≡ true
        = λ x. let y = both_true (alike (read (own b) e) (read (own b) f)) _ x in moves_ordered e f (moves_read e f y.0 y.1) in
        record { kinds = either_from (has store_right s) (same_read e f) inside h; licensed = k }
    moves_read (declared t r) (declared u s) h k = record { kinds = h; licensed = k }
    moves_read (generic t l) (declared u s) h k = record { kinds = h; licensed = within_trans s (least b) z k good.enough }
    moves_read (generic t l) (generic u m) h k = record { kinds = eq-eqb (bound_base b) (bound_base b) refl; licensed = within_refl z }
    moves_read (declared t r) (generic u m) h k = absurd (false≢true k)
    moves_read integer (array s f) h k = absurd (false≢true h)
    moves_read integer (declared u s) h k = absurd (false≢true h)
    moves_read integer (generic u m) h k = absurd (false≢true h)
    moves_read (array r e) integer h k = absurd (false≢true h)
    moves_read (array r e) (declared u s) h k = absurd (false≢true h)
    moves_read (array r e) (generic u m) h k = absurd (false≢true h)
    moves_read (declared t r) integer h k = absurd (false≢true h)
    moves_read (declared t r) (array s f) h k = absurd (false≢true h)
    moves_read (generic t l) integer h k = absurd (false≢true h)
    moves_read (generic t l) (array s f) h k = absurd (false≢true h)
