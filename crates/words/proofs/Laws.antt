-- A word's parts are those that it was packed from, what each tag makes of a word, and how a list of words is seen as slots.
use Prim.Native.Nat.{ℕ, zero, suc, ◌+◌, ◌-◌, ◌*◌, ◌/◌, ◌%◌, ◌^◌, ◌≤◌, ◌<◌}
use native.Mathlib.Omega.{arith}
use mathlib.Core.Path.{◌≡◌, refl, sym, ap, ◌∙◌}
use mathlib.Core.Bool.{Bool, true, false, not, ◌||◌, cond}
use mathlib.Core.List.{List, [], ◌∷◌, map}
use mathlib.Core.Logic.{◌⊎◌, inl, inr}
use mathlib.Core.Option.{none, some}
use lib.Dec.{eqb}
use lib.ListN.{get_or, set, get_or-map}
use borrow.Author.Tests.{eqb-true, eqb-false, ne_eqb}
use Rattle.std.specs.Prelude.{Option, None, Some, Result, Ok, Err}
use Rattle.model.specs.declared.Halt.{Halt}
use Rattle.model.specs.declared.Halt.TheVariants.{Blank}
use Rattle.model.specs.Qualified.{Qual, integer, declared}
use Rattle.model.specs.Generic.{read}
use Rattle.model.specs.Modes.{Mode, plain, ElementInfo, TypeInfo, SettledSet, settled_set, carried, element_info, type_info}
use Rattle.model.specs.Machine.{word, object, Cell, Head, empty, filled, array_head, record_head}
use Rattle.words.specs.Word.{low, tag, payload, pack, size_of, info_of, settled_base, back_kept, back_next, number_of, variables_of, formals_of, bound_of, first_of, procedure_word, IsProcedure, no_other, Slot, cell, head, back, procedure, slot_in, as_cell, as_head}
use Rattle.words.specs.Answer.{read_cell, read_filled}
use Rattle.words.specs.Sees.{head_size}
use Rattle.words.specs.Answers.{IsCell}

-- ---- the parts of a packed word

module _ (t p l : ℕ) (t-fits : t < 8) (l-fits : l < 2 ^ 32) where
  pub tag_pack : tag (pack t p l) ≡ t
  unfolding tag pack
  tag_pack = omega arith

  pub payload_pack : payload (pack t p l) ≡ p
  unfolding payload pack
  payload_pack = omega arith

  pub low_pack : low (pack t p l) ≡ l
  unfolding low pack
  low_pack = omega arith

-- ---- what a tag makes of a word

-- a word with a tag other than 0 is not 0
pub tagged : (w t : ℕ) → tag w ≡ suc t → w ≡ 0 → ⊥
unfolding tag
tagged w t e z = omega arith

pub slot_zero : (m : Mode) (qual : ℕ → Qual) → slot_in m qual 0 ≡ cell empty
unfolding slot_in
slot_zero m qual = refl

module _ (m : Mode) (qual : ℕ → Qual) (w : ℕ) where
  pub slot_integer : tag w ≡ 1 → slot_in m qual w ≡ cell (filled (word (low w)) (carried m 0))
  unfolding slot_in
  slot_integer e = rw (ne_eqb w 0 (tagged w 0 e), e)

  pub slot_object : tag w ≡ 2 → slot_in m qual w ≡ cell (filled (object (payload w)) (carried m (low w)))
  unfolding slot_in
  slot_object e = rw (ne_eqb w 0 (tagged w 1 e), e)

  pub slot_array : tag w ≡ 3 → slot_in m qual w ≡ head (array_head (element_info m (read (declared (settled_base w) (low w)) (qual (info_of w)))) (size_of w))
  unfolding slot_in
  slot_array e = rw (ne_eqb w 0 (tagged w 2 e), e)

  pub slot_record : tag w ≡ 4 → slot_in m qual w ≡ head (record_head (type_info m (info_of w)) (size_of w))
  unfolding slot_in
  slot_record e = rw (ne_eqb w 0 (tagged w 3 e), e)

  pub slot_back : tag w ≡ 5 → slot_in m qual w ≡ back (back_next w) (back_kept w) (settled_set m (low w))
  unfolding slot_in
  slot_back e = rw (ne_eqb w 0 (tagged w 4 e), e)

  slot_procedure : tag w ≡ 6 → slot_in m qual w ≡ procedure (number_of w) (variables_of w) (first_of w) (bound_of w)
  unfolding slot_in
  slot_procedure e = rw (ne_eqb w 0 (tagged w 5 e), e)

pub tagged_procedure : (w : ℕ) → tag w ≡ 6 → IsProcedure w
tagged_procedure w e m qual = slot_procedure m qual w e

-- a word is a procedure's exactly if it is no other's
no_proof : {R : Type 0} → false ≡ true → R
no_proof h = absurd (let z : ◌≡◌ {A = ℕ} 0 1 = cc in omega arith)

last : {A : Type 0} (a b c d e f : Bool) (s t u v w x y : A) → not (a || b || c || d || e || f) ≡ true
    → cond a s (cond b t (cond c u (cond d v (cond e w (cond f x y))))) ≡ y
last false false false false false false s t u v w x y h = refl
last true b c d e f s t u v w x y h = no_proof h
last false true c d e f s t u v w x y h = no_proof h
last false false true d e f s t u v w x y h = no_proof h
last false false false true e f s t u v w x y h = no_proof h
last false false false false true f s t u v w x y h = no_proof h
last false false false false false true s t u v w x y h = no_proof h

pub no_other_procedure : (w : ℕ) → no_other w ≡ true → IsProcedure w
unfolding slot_in
no_other_procedure w h m qual = last (eqb w 0) (eqb (tag w) 1) (eqb (tag w) 2) (eqb (tag w) 3) (eqb (tag w) 4) (eqb (tag w) 5) _ _ _ _ _ _ _ h

abbrev as_procedure : {m : Mode} → Slot m → Bool
as_procedure (cell c) = false
as_procedure (head h) = false
as_procedure (back i a z) = false
as_procedure (procedure p v f g) = true

module _ {m : Mode} (s t u : Cell m) (v w : Head m) (i k : ℕ) (z : SettledSet m) (y : Slot m) where
  none_before : (a b c d e f : Bool)
      → as_procedure (cond a (cell s) (cond b (cell t) (cond c (cell u) (cond d (head v) (cond e (head w) (cond f (back i k z) y)))))) ≡ true
      → not (a || b || c || d || e || f) ≡ true
  none_before false false false false false false h = refl
  none_before true b c d e f h = no_proof h
  none_before false true c d e f h = no_proof h
  none_before false false true d e f h = no_proof h
  none_before false false false true e f h = no_proof h
  none_before false false false false true f h = no_proof h
  none_before false false false false false true h = no_proof h

pub procedure_no_other : (w : ℕ) → IsProcedure w → no_other w ≡ true
unfolding slot_in
procedure_no_other w h =
    none_before _ _ _ _ _ _ _ _ _ (eqb w 0) (eqb (tag w) 1) (eqb (tag w) 2) (eqb (tag w) 3) (eqb (tag w) 4) (eqb (tag w) 5) (ap as_procedure (h plain (λ q. integer)))

-- the seven kinds of word, the same in both machines and for all maps of element numbers
pub data Reading (w : ℕ) : Type 0 where
  a_blank : w ≡ 0 → Reading w
  an_integer : tag w ≡ 1 → Reading w
  an_object : tag w ≡ 2 → Reading w
  an_array : tag w ≡ 3 → Reading w
  a_record : tag w ≡ 4 → Reading w
  a_back : tag w ≡ 5 → Reading w
  a_procedure : IsProcedure w → Reading w

pub reading : (w : ℕ) → Reading w
unfolding slot_in
reading w = by (eqb w 0) (eqb (tag w) 1) (eqb (tag w) 2) (eqb (tag w) 3) (eqb (tag w) 4) (eqb (tag w) 5) refl refl refl refl refl refl
  where
    by : (is0 is1 is2 is3 is4 is5 : Bool)
        → eqb w 0 ≡ is0 → eqb (tag w) 1 ≡ is1 → eqb (tag w) 2 ≡ is2 → eqb (tag w) 3 ≡ is3 → eqb (tag w) 4 ≡ is4 → eqb (tag w) 5 ≡ is5 → Reading w
    by true is1 is2 is3 is4 is5 z i o a r b = a_blank (eqb-true _ _ z)
    by false true is2 is3 is4 is5 z i o a r b = an_integer (eqb-true _ _ i)
    by false false true is3 is4 is5 z i o a r b = an_object (eqb-true _ _ o)
    by false false false true is4 is5 z i o a r b = an_array (eqb-true _ _ a)
    by false false false false true is5 z i o a r b = a_record (eqb-true _ _ r)
    by false false false false false true z i o a r b = a_back (eqb-true _ _ b)
    by false false false false false false z i o a r b = a_procedure (λ m q. rw (z, i, o, a, r, b))

-- ---- what a slot says of its word

module _ (m : Mode) (qual : ℕ → Qual) (w : ℕ) where
  pub blank_word : {c : Cell m} → slot_in m qual w ≡ cell c → w ≡ 0 → c ≡ empty
  blank_word e z = ap as_cell (sym e ∙ ap (slot_in m qual) z ∙ slot_zero m qual)

  pub filled_word : {c : Cell m} → slot_in m qual w ≡ cell c → (w ≡ 0 → ⊥)
      → (c ≡ filled (word (low w)) (carried m 0)) ⊎ (c ≡ filled (object (payload w)) (carried m (low w)))
  filled_word {c} e not0 = by (reading w)
    where
      by : Reading w → (c ≡ filled (word (low w)) (carried m 0)) ⊎ (c ≡ filled (object (payload w)) (carried m (low w)))
      by (a_blank z) = absurd (not0 z)
      by (an_integer t) = inl (ap as_cell (sym e ∙ slot_integer m qual w t))
      by (an_object t) = inr (ap as_cell (sym e ∙ slot_object m qual w t))
      by (an_array t) = let k = slot_array m qual w t in absurd (let z : ◌≡◌ {A = ℕ} 0 1 = cc in omega arith)
      by (a_record t) = let k = slot_record m qual w t in absurd (let z : ◌≡◌ {A = ℕ} 0 1 = cc in omega arith)
      by (a_back t) = let k = slot_back m qual w t in absurd (let z : ◌≡◌ {A = ℕ} 0 1 = cc in omega arith)
      by (a_procedure t) = let k = t m qual in absurd (let z : ◌≡◌ {A = ℕ} 0 1 = cc in omega arith)

  pub size_word : {n : ℕ} → head_size (as_head (slot_in m qual w)) ≡ some n → n ≡ size_of w
  size_word {n} e = by (reading w)
    where
      by : Reading w → n ≡ size_of w
      by (a_blank z) =
          let k : head_size (as_head (slot_in m qual w)) ≡ none = rw (z, slot_zero m qual) in
          absurd (let z : ◌≡◌ {A = ℕ} 0 1 = cc in omega arith)
      by (an_integer t) =
          let k : head_size (as_head (slot_in m qual w)) ≡ none = rw (slot_integer m qual w t) in
          absurd (let z : ◌≡◌ {A = ℕ} 0 1 = cc in omega arith)
      by (an_object t) =
          let k : head_size (as_head (slot_in m qual w)) ≡ none = rw (slot_object m qual w t) in
          absurd (let z : ◌≡◌ {A = ℕ} 0 1 = cc in omega arith)
      by (an_array t) = let k : some (size_of w) ≡ some n = sym (ap (λ (s : Slot m). head_size (as_head s)) (slot_array m qual w t)) ∙ e in cc
      by (a_record t) = let k : some (size_of w) ≡ some n = sym (ap (λ (s : Slot m). head_size (as_head s)) (slot_record m qual w t)) ∙ e in cc
      by (a_back t) =
          let k : head_size (as_head (slot_in m qual w)) ≡ none = rw (slot_back m qual w t) in
          absurd (let z : ◌≡◌ {A = ℕ} 0 1 = cc in omega arith)
      by (a_procedure t) =
          let k : head_size (as_head (slot_in m qual w)) ≡ none = rw (t m qual) in
          absurd (let z : ◌≡◌ {A = ℕ} 0 1 = cc in omega arith)

  pub array_word : {e : ElementInfo m} {n : ℕ} → as_head (slot_in m qual w) ≡ array_head e n → n ≡ size_of w
  array_word is = size_word (ap head_size is)

  pub record_word : {t : TypeInfo m} {n : ℕ} → as_head (slot_in m qual w) ≡ record_head t n → n ≡ size_of w
  record_word is = size_word (ap head_size is)

  pub back_word : {i a : ℕ} {z : SettledSet m} → slot_in m qual w ≡ back i a z → (i ≡ back_next w) × (a ≡ back_kept w) × (z ≡ settled_set m (low w))
  back_word {i} {a} {z} e = by (reading w)
    where
      by : Reading w → (i ≡ back_next w) × (a ≡ back_kept w) × (z ≡ settled_set m (low w))
      by (a_blank z) =
          let k : slot_in m qual w ≡ cell empty = rw (z, slot_zero m qual) in
          absurd (let z : ◌≡◌ {A = ℕ} 0 1 = cc in omega arith)
      by (an_integer t) = let k = slot_integer m qual w t in absurd (let z : ◌≡◌ {A = ℕ} 0 1 = cc in omega arith)
      by (an_object t) = let k = slot_object m qual w t in absurd (let z : ◌≡◌ {A = ℕ} 0 1 = cc in omega arith)
      by (an_array t) = let k = slot_array m qual w t in absurd (let z : ◌≡◌ {A = ℕ} 0 1 = cc in omega arith)
      by (a_record t) = let k = slot_record m qual w t in absurd (let z : ◌≡◌ {A = ℕ} 0 1 = cc in omega arith)
      by (a_back t) =
          let k : back i a z ≡ back (back_next w) (back_kept w) (settled_set m (low w)) = sym e ∙ slot_back m qual w t in
          (cc, cc, cc)
      by (a_procedure t) = let k = t m qual in absurd (let z : ◌≡◌ {A = ℕ} 0 1 = cc in omega arith)

  pub procedure_told : {p v f g : ℕ} → slot_in m qual w ≡ procedure p v f g
      → IsProcedure w × (p ≡ number_of w) × (v ≡ variables_of w) × (f ≡ first_of w) × (g ≡ bound_of w)
  procedure_told {p} {v} {f} {g} e = by (reading w)
    where
      by : Reading w → IsProcedure w × (p ≡ number_of w) × (v ≡ variables_of w) × (f ≡ first_of w) × (g ≡ bound_of w)
      by (a_blank z) =
          let k : slot_in m qual w ≡ cell empty = rw (z, slot_zero m qual) in
          absurd (let z : ◌≡◌ {A = ℕ} 0 1 = cc in omega arith)
      by (an_integer t) = let k = slot_integer m qual w t in absurd (let z : ◌≡◌ {A = ℕ} 0 1 = cc in omega arith)
      by (an_object t) = let k = slot_object m qual w t in absurd (let z : ◌≡◌ {A = ℕ} 0 1 = cc in omega arith)
      by (an_array t) = let k = slot_array m qual w t in absurd (let z : ◌≡◌ {A = ℕ} 0 1 = cc in omega arith)
      by (a_record t) = let k = slot_record m qual w t in absurd (let z : ◌≡◌ {A = ℕ} 0 1 = cc in omega arith)
      by (a_back t) = let k = slot_back m qual w t in absurd (let z : ◌≡◌ {A = ℕ} 0 1 = cc in omega arith)
      by (a_procedure t) =
          let k : procedure p v f g ≡ procedure (number_of w) (variables_of w) (first_of w) (bound_of w) = sym e ∙ t m qual in
          (t, cc, cc, cc, cc)

-- ---- what the two machines, and all maps of element numbers, have in common

-- a word that one of them reads as a cell is a cell's
pub is_cell : (m : Mode) (qual : ℕ → Qual) (w : ℕ) {c : Cell m} → slot_in m qual w ≡ cell c → IsCell w
is_cell m qual w e k q = by (reading w)
  where
    by : Reading w → slot_in k q w ≡ cell (as_cell (slot_in k q w))
    by (a_blank z) = rw (z, slot_zero k q)
    by (an_integer t) = rw (slot_integer k q w t)
    by (an_object t) = rw (slot_object k q w t)
    by (an_array t) = let s = slot_array m qual w t in absurd (let z : ◌≡◌ {A = ℕ} 0 1 = cc in omega arith)
    by (a_record t) = let s = slot_record m qual w t in absurd (let z : ◌≡◌ {A = ℕ} 0 1 = cc in omega arith)
    by (a_back t) = let s = slot_back m qual w t in absurd (let z : ◌≡◌ {A = ℕ} 0 1 = cc in omega arith)
    by (a_procedure t) = let s = t m qual in absurd (let z : ◌≡◌ {A = ℕ} 0 1 = cc in omega arith)

-- all read the same size of a head
pub same_size : (m k : Mode) (q p : ℕ → Qual) (w : ℕ) → head_size (as_head (slot_in m q w)) ≡ head_size (as_head (slot_in k p w))
same_size m k q p w = by (reading w)
  where
    by : Reading w → head_size (as_head (slot_in m q w)) ≡ head_size (as_head (slot_in k p w))
    by (a_blank z) = rw (z, slot_zero m q, slot_zero k p)
    by (an_integer t) = rw (slot_integer m q w t, slot_integer k p w t)
    by (an_object t) = rw (slot_object m q w t, slot_object k p w t)
    by (an_array t) = rw (slot_array m q w t, slot_array k p w t)
    by (a_record t) = rw (slot_record m q w t, slot_record k p w t)
    by (a_back t) = rw (slot_back m q w t, slot_back k p w t)
    by (a_procedure t) = rw (t m q, t k p)

-- ---- what reading a word as a cell tells of it

module _ {w : ℕ} {r : Option ℕ} (is : r ≡ read_cell w) where
  pub cell_blank : r ≡ None → w ≡ 0
  cell_blank told = go (eqb w 0) refl (sym is ∙ told)
    where
      go : (t : Bool) → eqb w 0 ≡ t → ◌≡◌ {A = Option ℕ} (cond t None (Some w)) None → w ≡ 0
      go true e h = eqb-true _ _ e
      go false e h = absurd (let z : ◌≡◌ {A = ℕ} 0 1 = cc in omega arith)

  pub cell_filled : {x : ℕ} → r ≡ Some x → (x ≡ w) × (w ≡ 0 → ⊥)
  cell_filled {x} told = go (eqb w 0) refl (sym is ∙ told)
    where
      go : (t : Bool) → eqb w 0 ≡ t → ◌≡◌ {A = Option ℕ} (cond t None (Some w)) (Some x) → (x ≡ w) × (w ≡ 0 → ⊥)
      go true e h = absurd (let z : ◌≡◌ {A = ℕ} 0 1 = cc in omega arith)
      go false e h = (cc, eqb-false _ _ e)

module _ {w : ℕ} {r : Result ℕ Halt} (is : r ≡ read_filled w) where
  pub told_blank : {k : Halt} → r ≡ Err k → (k ≡ Blank) × (w ≡ 0)
  told_blank {k} told = go (eqb w 0) refl (sym is ∙ told)
    where
      go : (t : Bool) → eqb w 0 ≡ t → ◌≡◌ {A = Result ℕ Halt} (cond t (Err Blank) (Ok w)) (Err k) → (k ≡ Blank) × (w ≡ 0)
      go true e h = (cc, eqb-true _ _ e)
      go false e h = absurd (let z : ◌≡◌ {A = ℕ} 0 1 = cc in omega arith)

  pub told_filled : {x : ℕ} → r ≡ Ok x → (x ≡ w) × (w ≡ 0 → ⊥)
  told_filled {x} told = go (eqb w 0) refl (sym is ∙ told)
    where
      go : (t : Bool) → eqb w 0 ≡ t → ◌≡◌ {A = Result ℕ Halt} (cond t (Err Blank) (Ok w)) (Ok x) → (x ≡ w) × (w ≡ 0 → ⊥)
      go true e h = absurd (let z : ◌≡◌ {A = ℕ} 0 1 = cc in omega arith)
      go false e h = (cc, eqb-false _ _ e)

-- ---- what a packed word is

module _ (m : Mode) (qual : ℕ → Qual) where
  pub integer_packed : (n : ℕ) → n < 2 ^ 32 → slot_in m qual (pack 1 0 n) ≡ cell (filled (word n) (carried m 0))
  integer_packed n h =
      slot_integer m qual _ (tag_pack 1 0 n (omega arith) h) ∙ rw (low_pack 1 0 n (omega arith) h)

  pub object_packed : (a r : ℕ) → r < 2 ^ 32 → slot_in m qual (pack 2 a r) ≡ cell (filled (object a) (carried m r))
  object_packed a r h =
      slot_object m qual _ (tag_pack 2 a r (omega arith) h) ∙ rw (payload_pack 2 a r (omega arith) h, low_pack 2 a r (omega arith) h)

  -- a head of kind k (the element's number, or the type's) and size n; ?R of an array's element has base b and set r
  pub array_packed : (k n b r : ℕ) → k < 2 ^ 8 → n < 2 ^ 16 → 2 ≤ b → b < 34 → r < 2 ^ 32
      → slot_in m qual (pack 3 (((b - 2) * 2 ^ 8 + k) * 2 ^ 16 + n) r) ≡ head (array_head (element_info m (read (declared b r) (qual k))) n)
  array_packed k n b r k-fits n-fits least most r-fits =
      let all = ((b - 2) * 2 ^ 8 + k) * 2 ^ 16 + n in
      let size : all % 2 ^ 16 ≡ n = omega arith in
      let over : all / 2 ^ 16 ≡ (b - 2) * 2 ^ 8 + k = omega arith in
      let kind : ((b - 2) * 2 ^ 8 + k) % 2 ^ 8 ≡ k = omega arith in
      let high : all / 2 ^ 24 ≡ b - 2 = omega arith in
      let base : 2 + (b - 2) % 2 ^ 5 ≡ b = omega arith in
      slot_array m qual _ (tag_pack 3 _ r (omega arith) r-fits) ∙ rw (payload_pack 3 all r (omega arith) r-fits, low_pack 3 all r (omega arith) r-fits, size, over, kind, high, base)

  pub record_packed : (k n : ℕ) → k < 2 ^ 8 → n < 2 ^ 16 → slot_in m qual (pack 4 (k * 2 ^ 16 + n) 0) ≡ head (record_head (type_info m k) n)
  record_packed k n b h =
      let size : (k * 2 ^ 16 + n) % 2 ^ 16 ≡ n = omega arith in
      let over : (k * 2 ^ 16 + n) / 2 ^ 16 ≡ k = omega arith in
      let kind : k % 2 ^ 8 ≡ k = omega arith in
      slot_record m qual _ (tag_pack 4 _ 0 (omega arith) (omega arith)) ∙ rw (payload_pack 4 (k * 2 ^ 16 + n) 0 (omega arith) (omega arith), size, over, kind)

  pub back_packed : (i a r : ℕ) → a < 2 ^ 8 → r < 2 ^ 32 → slot_in m qual (pack 5 (i * 2 ^ 14 + a) r) ≡ back i a (settled_set m r)
  back_packed i a r h r-fits =
      let all = i * 2 ^ 14 + a in
      let kept : all % 2 ^ 8 ≡ a = omega arith in
      let next : all / 2 ^ 14 ≡ i = omega arith in
      slot_back m qual _ (tag_pack 5 _ r (omega arith) r-fits) ∙ rw (payload_pack 5 all r (omega arith) r-fits, low_pack 5 all r (omega arith) r-fits, kept, next)

-- the word of a procedure
module _ (p v f g i : ℕ) (p-fits : p < 2 ^ 6) (v-fits : v < 2 ^ 8) (f-fits : f < 2 ^ 8) (g-fits : g < 2 ^ 3) (i-fits : i < 2 ^ 32) where
  counts : payload (procedure_word p v f g i) ≡ ((g * 2 ^ 8 + f) * 2 ^ 6 + p) * 2 ^ 8 + v
  counts = payload_pack 6 _ i (omega arith) i-fits

  pub procedure_tag : tag (procedure_word p v f g i) ≡ 6
  procedure_tag = tag_pack 6 _ i (omega arith) i-fits

  pub procedure_is : IsProcedure (procedure_word p v f g i)
  procedure_is = tagged_procedure _ procedure_tag

  pub number_is : number_of (procedure_word p v f g i) ≡ p
  number_is =
      let here : (((g * 2 ^ 8 + f) * 2 ^ 6 + p) * 2 ^ 8 + v) / 2 ^ 8 % 2 ^ 6 ≡ p = omega arith in
      rw (counts, here)

  pub variables_is : variables_of (procedure_word p v f g i) ≡ v
  variables_is =
      let here : (((g * 2 ^ 8 + f) * 2 ^ 6 + p) * 2 ^ 8 + v) % 2 ^ 8 ≡ v = omega arith in
      rw (counts, here)

  pub formals_is : formals_of (procedure_word p v f g i) ≡ f
  formals_is =
      let here : (((g * 2 ^ 8 + f) * 2 ^ 6 + p) * 2 ^ 8 + v) / 2 ^ 14 % 2 ^ 8 ≡ f = omega arith in
      rw (counts, here)

  pub bound_is : bound_of (procedure_word p v f g i) ≡ g
  bound_is =
      let here : (((g * 2 ^ 8 + f) * 2 ^ 6 + p) * 2 ^ 8 + v) / 2 ^ 22 % 2 ^ 3 ≡ g = omega arith in
      rw (counts, here)

  pub first_is : first_of (procedure_word p v f g i) ≡ i
  first_is = low_pack 6 _ i (omega arith) i-fits

-- ---- a list of words seen as slots

pub map_set : {A B : Type 0} (f : A → B) (l : List A) (i : ℕ) (v : A) → map f (set l i v) ≡ set (map f l) i (f v)
map_set f [] i v = refl
map_set f (x ∷ l) zero v = refl
map_set {B = B} f (x ∷ l) (suc i) v = ap (λ (r : List B). f x ∷ r) (map_set f l i v)

module _ (m : Mode) (qual : ℕ → Qual) (b : List ℕ) (i : ℕ) where
  -- at any index: past the end there is a blank cell
  pub slot_at : get_or (map (slot_in m qual) b) i (cell empty) ≡ slot_in m qual (get_or b i 0)
  slot_at = ap (get_or (map (slot_in m qual) b) i) (sym (slot_zero m qual)) ∙ get_or-map (slot_in m qual) b i 0
