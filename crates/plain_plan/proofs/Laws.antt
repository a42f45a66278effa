-- What the plain machine plans, by the words that an instruction reads.
use Rattle.std.proofs.Common.{◌≡◌, ℕ, ◌<◌, ◌≤◌, Bool, true, false, cond, eqb, ltb, ◌⊎◌, List, get_or, sym, refl, ap, ◌∙◌, inl, inr, Result, Ok, Err, ltb-true, le-ltb, lt-ltb, eqb-true}
use mathlib.Core.Option.{some}
use borrow.Author.Tests.{eqb-false}
use Rattle.model.specs.declared.Halt.{Halt}
use Rattle.model.specs.declared.Halt.TheVariants.{Blank}
use Rattle.model.specs.Outcome.{Res, ok, stop, stuck, blank, past_end, ◌>>=◌, ◌>>◌, ensure}
use Rattle.model.specs.Qualified.{Qual, element as element-type}
use Rattle.model.specs.Program.{Program}
use Rattle.model.specs.Modes.{plain, amiss, licence, is_of, bind, bind_element}
use Rattle.model.specs.Machine.{Value, word, object, Cell, empty, filled, Head, array_head, record_head, no_head, View, Effect, write, store, held, as_integer, array_head_of, record_head_of, array_at, record_at, kind_of, declared_as, moved, give, gives, integers, one_integer, slot_there, plan_size}
use Rattle.words.specs.Word.{low, payload, size_of, cell, slot_in, as_cell}
use Rattle.words.specs.Sees.{head_size, Sees}
use Rattle.words.specs.Answer.{read_filled}
use Rattle.words.specs.Answers.{MovedOk, InObject, UnlessStuck, number_as, halted, moved_to, moving}
use Rattle.words.proofs.Laws.{blank_word, filled_word, size_word, is_cell, same_size, told_blank, told_filled}

-- ---- where nothing is claimed

pub claimed : {A R : Type 0} (s : Res A) → R → UnlessStuck s R
claimed (ok a) r = r
claimed (stop x) r = r
claimed stuck r = tt

-- from what the definition comes to
pub due : {A R : Type 0} {s t : Res A} → s ≡ t → (s ≡ t → R) → UnlessStuck s R
due {s = s} e f = claimed s (f e)

-- .. or else it is stuck
pub stuck_or : {A P R : Type 0} {s : Res A} → (s ≡ stuck) ⊎ P → (P → R) → UnlessStuck s R
stuck_or (inl e) f = rw e tt
stuck_or {s = s} (inr p) f = claimed s (f p)

-- ---- what the words read say of the variables of the view

-- variable x is filled, and w is its word
pub record Holds (q : ℕ → Qual) (v : View plain) (x w : ℕ) : Type 0 where
  pub slot : slot_in plain q w ≡ cell (v.variable x)
  pub value : Value
  pub filled : v.variable x ≡ filled value tt
  pub kind : (value ≡ word (low w)) ⊎ (value ≡ object (payload w))

holds : (q : ℕ → Qual) (v : View plain) (x w : ℕ) → slot_in plain q w ≡ cell (v.variable x) → (w ≡ 0 → ⊥) → Holds q v x w
holds q v x w here not0 = by (filled_word plain q w here not0)
  where
    by : (v.variable x ≡ filled (word (low w)) tt) ⊎ (v.variable x ≡ filled (object (payload w)) tt) → Holds q v x w
    by (inl e) = record { slot = here; value = word (low w); filled = e; kind = inl refl }
    by (inr e) = record { slot = here; value = object (payload w); filled = e; kind = inr refl }

pub word_there : {q : ℕ → Qual} {v : View plain} {f h : List ℕ} (s : Sees plain q v f h) {x w y : ℕ} → w ≡ get_or f x 0 → (y ≡ w) × (w ≡ 0 → ⊥) → Holds q v x y
word_there {q} {v} s {x} {w} {y} at k = holds q v x y (ap (slot_in plain q) (k.0 ∙ at) ∙ s.variable x) (λ z. k.1 (sym k.0 ∙ z))

module _ {q : ℕ → Qual} {v : View plain} {f h : List ℕ} (s : Sees plain q v f h) {x w : ℕ} {r : Result ℕ Halt} (at : w ≡ get_or f x 0) (is : r ≡ read_filled w) where
  pub blank_there : {k : Halt} → r ≡ Err k → (k ≡ Blank) × (v.variable x ≡ empty)
  blank_there told = let k = told_blank is told in (k.0, blank_word plain q w (ap (slot_in plain q) at ∙ s.variable x) k.1)

  pub filled_there : {y : ℕ} → r ≡ Ok y → Holds q v x y
  filled_there told = word_there s at (told_filled is told)

-- ---- one and two integers

module _ (g : Program) (v : View plain) (b : ℕ) where
  pub one_blank : v.variable b ≡ empty → one_integer plain g v b ≡ stop blank
  unfolding one_integer held ◌>>=◌
  one_blank e = rw e

  pub one_filled : {q : ℕ → Qual} {w : ℕ} → Holds q v b w → (one_integer plain g v b ≡ stuck) ⊎ (one_integer plain g v b ≡ ok (low w))
  unfolding one_integer held as_integer amiss ◌>>=◌
  one_filled {w = w} B = by B.kind
    where
      by : (B.value ≡ word (low w)) ⊎ (B.value ≡ object (payload w)) → (one_integer plain g v b ≡ stuck) ⊎ (one_integer plain g v b ≡ ok (low w))
      by (inl i) = inr (rw (B.filled, i))
      by (inr o) = inl (rw (B.filled, o))

-- a blank that is read stops
pub blank_read : {q : ℕ → Qual} (g : Program) {v : View plain} {f h : List ℕ} (x : ℕ) {w : ℕ} → w ≡ get_or f x 0 → w ≡ 0 → Sees plain q v f h
    → UnlessStuck (one_integer plain g v x) (number_as plain (Err Blank) ≡ one_integer plain g v x)
unfolding number_as halted
blank_read {q} g {v} x {w} at z s = due (one_blank g v x (blank_word plain q w (ap (slot_in plain q) at ∙ s.variable x) z)) sym

-- two integers, b before c, make one on its way into variable a
module _ (g : Program) (v : View plain) (a b c : ℕ) (op : ℕ → ℕ → ℕ) where
  abbrev combined : Res (Effect plain)
  combined = integers plain g v b c >>= λ p. gives plain g v a (op p.0 p.1)

  pub first_blank : v.variable b ≡ empty → combined ≡ stop blank
  unfolding integers held ◌>>=◌
  first_blank e = rw e

  pub second_blank : {q : ℕ → Qual} {x : ℕ} → Holds q v b x → v.variable c ≡ empty → combined ≡ stop blank
  unfolding integers held ◌>>=◌
  second_blank B e = rw (B.filled, e)

  pub computed : {q : ℕ → Qual} {x y r : ℕ} → Holds q v b x → Holds q v c y → r ≡ op (low x) (low y)
      → (combined ≡ stuck) ⊎ (combined ≡ ok (write a (filled (word r) tt)))
  unfolding integers held as_integer amiss gives give moved bind ◌>>=◌
  computed {x = x} {y = y} {r = r} B C is = by B.kind C.kind
    where
      by : (B.value ≡ word (low x)) ⊎ (B.value ≡ object (payload x)) → (C.value ≡ word (low y)) ⊎ (C.value ≡ object (payload y))
          → (combined ≡ stuck) ⊎ (combined ≡ ok (write a (filled (word r) tt)))
      by (inl i) (inl j) = inr (rw (B.filled, C.filled, i, j, is))
      by (inl i) (inr p) = inl (rw (B.filled, C.filled, i, p))
      by (inr o) j = inl (rw (B.filled, C.filled, o))

-- ---- a cell that is moved

module _ (q : ℕ → Qual) (g : Program) (v : View plain) (t : Qual) (a : ℕ) where
  word_moves : (w : ℕ) {c : Cell plain} → slot_in plain q w ≡ cell c
      → MovedOk (read_filled w) × (moved_to plain q a (read_filled w) ≡ moving plain g v t a c)
  unfolding moved_to halted moved held bind ◌>>=◌
  word_moves w {c} here = by (eqb w 0) refl
    where
      filled_moves : (c ≡ filled (word (low w)) tt) ⊎ (c ≡ filled (object (payload w)) tt) → ok (write a (as_cell (slot_in plain q w))) ≡ moving plain g v t a c
      filled_moves (inl e) = rw (here, e)
      filled_moves (inr e) = rw (here, e)

      by : (z : Bool) → eqb w 0 ≡ z → MovedOk (cond z (Err Blank) (Ok w)) × (moved_to plain q a (cond z (Err Blank) (Ok w)) ≡ moving plain g v t a c)
      by true e = (tt, rw (blank_word plain q w here (eqb-true _ _ e)))
      by false e = (is_cell plain q w here, filled_moves (filled_word plain q w here (eqb-false _ _ e)))

  -- the cell of word w, read as u
  pub moved_is : {c : Cell plain} {r : Result ℕ Halt} {u w : ℕ} {e : Res (Effect plain)}
      → slot_in plain q w ≡ cell c → u ≡ w → r ≡ read_filled u → e ≡ moving plain g v t a c → MovedOk r × (moved_to plain q a r ≡ e)
  moved_is {w = w} here at is due = rw (is, at, due) (word_moves w here)

-- ---- the head of the object at o

module _ (q : ℕ → Qual) (v : View plain) (f h : List ℕ) (s : Sees plain q v f h) (o : ℕ) where
  -- a cell below the size in the head is one of the object's, in either machine
  pub inside : (i n : ℕ) → head_size (v.head o) ≡ some n → i < n → InObject h o i
  inside i n e below = record { size = n; head = λ m p. same_size m plain p q (get_or h o 0) ∙ ap head_size (s.head o) ∙ e; below = below }

  pub sized : (n : ℕ) → head_size (v.head o) ≡ some n → n ≡ size_of (get_or h o 0)
  sized n e = size_word plain q (get_or h o 0) (ap head_size (s.head o) ∙ e)

  array_there : {n w : ℕ} → w ≡ get_or h o 0 → n ≡ size_of w → (array_head_of plain o (v.head o) ≡ stuck) ⊎ (v.head o ≡ array_head tt n)
  unfolding array_head_of amiss
  array_there {n} at size = by (v.head o) refl
    where
      by : (k : Head plain) → v.head o ≡ k → (array_head_of plain o (v.head o) ≡ stuck) ⊎ (v.head o ≡ array_head tt n)
      by (array_head e k) is = inr (is ∙ ap (array_head tt) (sized k (ap head_size is) ∙ sym (size ∙ ap size_of at)))
      by (record_head t k) is = inl (rw is)
      by no_head is = inl (rw is)

-- ---- an element of the array at b by its index, at c: what fetch and store have in common

module _ (g : Program) (v : View plain) (right b c : ℕ) (k : ℕ × Unit {0} × ℕ → ℕ → Res (Effect plain)) where
  abbrev element : Res (Effect plain)
  element = do
    x ← held (v.variable b)
    y ← held (v.variable c)
    o ← array_at plain g v x.0
    i ← as_integer plain y.0
    licence plain right x.1
    ensure past_end (ltb i o.2)
    k o i

  pub element_blank : v.variable b ≡ empty → element ≡ stop blank
  unfolding held ◌>>=◌
  element_blank e = rw e

  pub element_blank_index : {q : ℕ → Qual} {x : ℕ} → Holds q v b x → v.variable c ≡ empty → element ≡ stop blank
  unfolding held ◌>>=◌
  element_blank_index B e = rw (B.filled, e)

  -- an object and an integer give the test of the index
  abbrev tested : (o n i : ℕ) → Res (Effect plain)
  tested o n i = ensure past_end (ltb i n) >> k (o, tt, n) i

  -- the name, the index and the size that the words give
  module _ {q : ℕ → Qual} {f h : List ℕ} {x y o i n w : ℕ} (s : Sees plain q v f h) (B : Holds q v b x) (C : Holds q v c y)
      (name : o ≡ payload x) (index : i ≡ low y) (at : w ≡ get_or h o 0) (size : n ≡ size_of w) where
    element_is : (element ≡ stuck) ⊎ ((v.head o ≡ array_head tt n) × (element ≡ tested o n i))
    unfolding held array_at array_head_of as_integer amiss licence ◌>>=◌ ◌>>◌
    element_is = by B.kind (array_there q v f h s o at size) C.kind
      where
        by : (B.value ≡ word (low x)) ⊎ (B.value ≡ object (payload x))
            → (array_head_of plain o (v.head o) ≡ stuck) ⊎ (v.head o ≡ array_head tt n)
            → (C.value ≡ word (low y)) ⊎ (C.value ≡ object (payload y))
            → (element ≡ stuck) ⊎ ((v.head o ≡ array_head tt n) × (element ≡ tested o n i))
        by (inl e) k j = inl (rw (B.filled, C.filled, e))
        by (inr e) (inl k) j = inl (rw (B.filled, C.filled, e, ← name, k))
        by (inr e) (inr k) (inl j) = inr (k, rw (B.filled, C.filled, e, j, ← name, ← index, k))
        by (inr e) (inr k) (inr p) = inl (rw (B.filled, C.filled, e, p, ← name, k))

    pub element_past : n ≤ i → (element ≡ stuck) ⊎ (element ≡ stop past_end)
    unfolding ensure ◌>>◌
    element_past past = by element_is
      where
        by : (element ≡ stuck) ⊎ ((v.head o ≡ array_head tt n) × (element ≡ tested o n i)) → (element ≡ stuck) ⊎ (element ≡ stop past_end)
        by (inl e) = inl e
        by (inr e) = inr (e.1 ∙ rw (le-ltb i n past))

    pub element_at : i < n → (element ≡ stuck) ⊎ ((head_size (v.head o) ≡ some n) × (element ≡ k (o, tt, n) i))
    unfolding ensure ◌>>◌
    element_at below = by element_is
      where
        by : (element ≡ stuck) ⊎ ((v.head o ≡ array_head tt n) × (element ≡ tested o n i))
            → (element ≡ stuck) ⊎ ((head_size (v.head o) ≡ some n) × (element ≡ k (o, tt, n) i))
        by (inl e) = inl e
        by (inr e) = inr (ap head_size e.0, e.1 ∙ rw (lt-ltb i n below))

-- what is fetched from there, and what is stored there
abbrev pub fetching : (g : Program) (v : View plain) (a b : ℕ) → ℕ × Unit {0} × ℕ → ℕ → Res (Effect plain)
fetching g v a b o i = moved plain g v (element-type (declared_as plain g v b)) (v.cell o.0 i) >>= λ e. moving plain g v (declared_as plain g v a) a e

-- without rights, to be bound twice is to be bound once
pub fetching_once : (g : Program) (v : View plain) (p q : Qual) (a : ℕ) (c : Cell plain)
    → (moved plain g v p c >>= λ e. moving plain g v q a e) ≡ moving plain g v q a c
unfolding moved held bind ◌>>=◌
fetching_once g v p q a empty = refl
fetching_once g v p q a (filled x r) = refl

module _ (g : Program) (v : View plain) (c o i : ℕ) where
  abbrev pub storing : Res (Effect plain)
  storing = do
    h ← held (v.variable c)
    r ← bind_element plain tt (kind_of plain g v h.0) h.1
    ok (store o i (filled h.0 r))

  pub storing_blank : v.variable c ≡ empty → storing ≡ stop blank
  unfolding held ◌>>=◌
  storing_blank e = rw e

  pub storing_filled : {q : ℕ → Qual} {w : ℕ} → Holds q v c w → storing ≡ ok (store o i (as_cell (slot_in plain q w)))
  unfolding held bind_element ◌>>=◌
  storing_filled C = rw (C.slot, C.filled)

-- ---- the size of the array at b

module _ (g : Program) (v : View plain) (a b : ℕ) where
  pub size_blank : v.variable b ≡ empty → plan_size plain g v a b ≡ stop blank
  unfolding plan_size held ◌>>=◌
  size_blank e = rw e

  pub size_filled : {q : ℕ → Qual} {f h : List ℕ} {x o n w : ℕ} → Sees plain q v f h → Holds q v b x → o ≡ payload x → w ≡ get_or h o 0 → n ≡ size_of w
      → (plan_size plain g v a b ≡ stuck) ⊎ (plan_size plain g v a b ≡ ok (write a (filled (word n) tt)))
  unfolding plan_size held array_at array_head_of amiss licence give moved bind ◌>>=◌ ◌>>◌
  size_filled {q} {f} {h} {x} {o} {n} s B name at size = by B.kind (array_there q v f h s o at size)
    where
      by : (B.value ≡ word (low x)) ⊎ (B.value ≡ object (payload x))
          → (array_head_of plain o (v.head o) ≡ stuck) ⊎ (v.head o ≡ array_head tt n)
          → (plan_size plain g v a b ≡ stuck) ⊎ (plan_size plain g v a b ≡ ok (write a (filled (word n) tt)))
      by (inl e) k = inl (rw (B.filled, e))
      by (inr e) (inl k) = inl (rw (B.filled, e, ← name, k))
      by (inr e) (inr k) = inr (rw (B.filled, e, ← name, k))

-- ---- slot j of a record, at b, of type t: what the two that open records have in common

module _ (g : Program) (v : View plain) (right t b j : ℕ) (k : ℕ × ℕ → Res (Effect plain)) where
  abbrev slot_of_record : Res (Effect plain)
  slot_of_record = do
    x ← held (v.variable b)
    o ← record_at plain g v t x.0
    licence plain right x.1
    slot_there plain g v (ltb j o.1)
    k o

  pub slot_blank : v.variable b ≡ empty → slot_of_record ≡ stop blank
  unfolding held ◌>>=◌
  slot_blank e = rw e

  -- the record at o has the slot
  pub record There (o : ℕ) : Type 0 where
    pub size : ℕ
    pub head : head_size (v.head o) ≡ some size
    pub below : j < size
    pub is : slot_of_record ≡ k (o, size)

  pub slot_filled : {q : ℕ → Qual} {x o : ℕ} → Holds q v b x → o ≡ payload x → (slot_of_record ≡ stuck) ⊎ There o
  unfolding held record_at record_head_of amiss is_of licence slot_there ◌>>=◌ ◌>>◌
  slot_filled {x = x} {o = o} B name = by B.kind (v.head o) refl
    where
      tested : B.value ≡ object (payload x) → (n : ℕ) → v.head o ≡ record_head tt n → (z : Bool) → ltb j n ≡ z → (slot_of_record ≡ stuck) ⊎ There o
      tested e n k true z = inr record { size = n; head = ap head_size k; below = ltb-true j n z; is = rw (B.filled, e, ← name, k, z) }
      tested e n k false z = inl (rw (B.filled, e, ← name, k, z))

      by : (B.value ≡ word (low x)) ⊎ (B.value ≡ object (payload x)) → (d : Head plain) → v.head o ≡ d → (slot_of_record ≡ stuck) ⊎ There o
      by (inl e) d k = inl (rw (B.filled, e))
      by (inr e) (array_head u n) k = inl (rw (B.filled, e, ← name, k))
      by (inr e) (record_head u n) k = tested e n k (ltb j n) refl
      by (inr e) no_head k = inl (rw (B.filled, e, ← name, k))

-- what is got from there, and what is set there
abbrev pub getting : (g : Program) (v : View plain) (a j : ℕ) → ℕ × ℕ → Res (Effect plain)
getting g v a j o = moving plain g v (declared_as plain g v a) a (v.cell o.0 j)

module _ (g : Program) (v : View plain) (t : Qual) (b o j : ℕ) where
  abbrev pub setting : Res (Effect plain)
  setting = moved plain g v t (v.variable b) >>= λ d. ok (store o j d)

  pub setting_blank : v.variable b ≡ empty → setting ≡ stop blank
  unfolding moved held ◌>>=◌
  setting_blank e = rw e

  pub setting_filled : {q : ℕ → Qual} {w : ℕ} → Holds q v b w → setting ≡ ok (store o j (as_cell (slot_in plain q w)))
  unfolding moved held bind ◌>>=◌
  setting_filled B = rw (B.slot, B.filled)
