-- What a word is that the watched machine reads as a cell, or as a head.
use Prim.Native.Nat.{ℕ}
use native.Mathlib.Omega.{arith}
use mathlib.Core.Path.{◌≡◌, refl, sym, ap, ◌∙◌}
use Rattle.model.specs.Qualified.{Qual, declared}
use Rattle.model.specs.Generic.{read}
use Rattle.model.specs.Modes.{watched}
use Rattle.model.specs.Machine.{Value, word, object, Cell, empty, filled, Head, array_head, record_head, no_head}
use Rattle.words.specs.Word.{tag, low, payload, size_of, info_of, settled_base, cell, slot_in, as_cell, as_head}
use Rattle.words.proofs.Laws.{Reading, a_blank, an_integer, an_object, an_array, a_record, a_back, a_procedure, reading, tagged, slot_zero, slot_integer, slot_object, slot_array, slot_record, slot_back}

-- a filled cell: an integer without rights, or an object with those in its word
pub data ValueOf (w : ℕ) : Value → ℕ → Type 0 where
  integer_in : tag w ≡ 1 → ValueOf w (word (low w)) 0
  object_in : tag w ≡ 2 → ValueOf w (object (payload w)) (low w)

pub data CellOf (w : ℕ) : Cell watched → Type 0 where
  blank_in : w ≡ 0 → CellOf w empty
  value_in : (x : Value) (m : ℕ) → ValueOf w x m → CellOf w (filled x m)

pub data HeadOf (qual : ℕ → Qual) (w : ℕ) : Head watched → Type 0 where
  array_in : tag w ≡ 3 → HeadOf qual w (array_head (read (declared (settled_base w) (low w)) (qual (info_of w))) (size_of w))
  record_in : tag w ≡ 4 → HeadOf qual w (record_head (info_of w) (size_of w))
  no_head_in : (tag w ≡ 3 → ⊥) → (tag w ≡ 4 → ⊥) → HeadOf qual w no_head

module _ (qual : ℕ → Qual) (w : ℕ) where
  pub cell_word : (c : Cell watched) → slot_in watched qual w ≡ cell c → CellOf w c
  cell_word c e = by (reading w)
    where
      by : Reading w → CellOf w c
      by (a_blank z) =
          let k : c ≡ empty = ap as_cell (sym e ∙ ap (slot_in watched qual) z ∙ slot_zero watched qual) in
          rw k (blank_in z)
      by (an_integer t) =
          let k : c ≡ filled (word (low w)) 0 = ap as_cell (sym e ∙ slot_integer watched qual w t) in
          rw k (value_in _ _ (integer_in t))
      by (an_object t) =
          let k : c ≡ filled (object (payload w)) (low w) = ap as_cell (sym e ∙ slot_object watched qual w t) in
          rw k (value_in _ _ (object_in t))
      by (an_array t) = let k = slot_array watched qual w t in absurd (let z : ◌≡◌ {A = ℕ} 0 1 = cc in omega arith)
      by (a_record t) = let k = slot_record watched qual w t in absurd (let z : ◌≡◌ {A = ℕ} 0 1 = cc in omega arith)
      by (a_back t) = let k = slot_back watched qual w t in absurd (let z : ◌≡◌ {A = ℕ} 0 1 = cc in omega arith)
      by (a_procedure t) = let k = t watched qual in absurd (let z : ◌≡◌ {A = ℕ} 0 1 = cc in omega arith)

  pub value_word : (x : Value) (m : ℕ) → slot_in watched qual w ≡ cell (filled x m) → ValueOf w x m
  value_word x m e = by (filled x m) refl (cell_word (filled x m) e)
    where
      by : (c : Cell watched) → c ≡ filled x m → CellOf w c → ValueOf w x m
      by empty p r = absurd (let z : ◌≡◌ {A = ℕ} 0 1 = cc in omega arith)
      by (filled y n) p (value_in _ _ r) =
          let a : y ≡ x = cc in
          let b : n ≡ m = cc in
          rw (a, b) at r

  other_tag : (t n : ℕ) → tag w ≡ t → (t ≡ n → ⊥) → tag w ≡ n → ⊥
  other_tag t n is not e = not (sym is ∙ e)

  pub head_word : HeadOf qual w (as_head (slot_in watched qual w))
  head_word = by (reading w)
    where
      by : Reading w → HeadOf qual w (as_head (slot_in watched qual w))
      by (a_blank z) = rw (z, slot_zero watched qual) (no_head_in (λ t. tagged 0 2 t refl) (λ t. tagged 0 3 t refl))
      by (an_integer t) =
          rw (slot_integer watched qual w t) (no_head_in (other_tag 1 3 t (λ z. omega arith)) (other_tag 1 4 t (λ z. omega arith)))
      by (an_object t) =
          rw (slot_object watched qual w t) (no_head_in (other_tag 2 3 t (λ z. omega arith)) (other_tag 2 4 t (λ z. omega arith)))
      by (an_array t) = rw (slot_array watched qual w t) (array_in t)
      by (a_record t) = rw (slot_record watched qual w t) (record_in t)
      by (a_back t) =
          rw (slot_back watched qual w t) (no_head_in (other_tag 5 3 t (λ z. omega arith)) (other_tag 5 4 t (λ z. omega arith)))
      by (a_procedure t) =
          rw (t watched qual)
          (no_head_in
          (λ i. let k = t watched qual in let l = slot_array watched qual w i in (let z : ◌≡◌ {A = ℕ} 0 1 = cc in omega arith))
          (λ i. let k = t watched qual in let l = slot_record watched qual w i in (let z : ◌≡◌ {A = ℕ} 0 1 = cc in omega arith)))
