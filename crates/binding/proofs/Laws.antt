-- What binding comes to, by what the tests of the code say.
use Prim.Native.Nat.{ℕ, ◌+◌, ◌%◌}
use native.Mathlib.Omega.{arith}
use mathlib.Core.Path.{◌≡◌, refl, sym, ap, subst, ◌∙◌}
use mathlib.Core.Bool.{Bool, true, false, not, ◌&&◌, cond, false≢true}
use mathlib.Core.List.{List}
use mathlib.Core.Option.{Option, none, some}
use Rattle.std.specs.Prelude.{Result, Ok, Err}
use Rattle.std.specs.Result.{IsErrAnd}
use Rattle.std.proofs.lemmas.Result.{err_from_is_err_and}
use lib.Dec.{eqb, leb}
use lib.ListN.{get_or}
use borrow.Author.Tests.{ne_eqb, eqb-true}
use Rattle.model.specs.declared.Halt.{Halt}
use Rattle.model.specs.declared.Halt.TheVariants.{Blank, PastEnd, InputEnded, OutputFull, MemoryFull, WrongKind, MissingRight}
use Rattle.model.specs.Rights.{Rights, within, has, store_right}
use Rattle.model.specs.Qualified.{Qual, integer, declared, base, rights, element, is_integer, is_array, elements}
use Rattle.model.specs.Generic.{instance, read, read_result}
use Rattle.model.specs.Rules.{amplifies}
use Rattle.model.specs.Outcome.{wrong_kind, missing_right, Res, ok, stop, stuck, ◌>>=◌, ◌>>◌, ensure}
use Rattle.model.specs.Program.{Program}
use Rattle.model.specs.Modes.{watched, Kind, amiss, fits, bind, is_record_of, raise_if, raise, bind_result}
use Rattle.model.specs.Machine.{Value, word, object, Cell, empty, filled, Head, array_head, record_head, no_head, View, held, kind_of_head, kind_at, moved, actual, handed}
use Rattle.model.proofs.Rights.{within_refl}
use Rattle.sheet.specs.Bytes.{byte_at}
use Rattle.sheet.specs.Layout.{procedure_at, need_at, inner_at, owner_at, result_at}
use Rattle.sheet.specs.Meaning.{qual_of, program_of, inner_in, result_in}
use Rattle.index.specs.Types.{word_in, rights_of, shape_of, of_shape, element_below, qual_in, named_as, type_in, word_as}
use Rattle.index.specs.Indexed.{Ready}
use Rattle.index.specs.Scope.{bound_of_procedure}
use Rattle.index.specs.declared.procedures.Scope.{Scope}
use Rattle.index.proofs.Trees.{integer_shape, array_shape, rights_shape, element_shape, qual_integer}
use Rattle.index.proofs.Reading.{type_word_as, rights_as, inner_read, need_read, type_read, inner_type, need_type}
use Rattle.index.proofs.Ready.{same_types}
use Rattle.order.proofs.Laws.{base_part}
use Rattle.words.specs.Word.{tag, low, payload, info_of, settled_base, cell, slot_in, as_cell, as_head}
use Rattle.words.specs.Sees.{heads_in}
use Rattle.words.specs.Answers.{halted, IsCell, MovedOk}
use Rattle.words.proofs.Laws.{slot_array, blank_word}
use Rattle.binding.specs.Binds.{kind_in, Heads, moved_cell, handed_cell, raised, FrameScope, InScope, BindsFilled, BindsWord, BindsTwice, Raises}
use Rattle.binding.proofs.Views.{ValueOf, integer_in, object_in, value_word, CellOf, blank_in, value_in, cell_word, HeadOf, array_in, record_in, no_head_in, head_word}

-- ---- a type by the word that it is read by

module _ (t : List ℕ) (n q : ℕ) where
  pub integer_there : shape_of (word_as t n q) ≡ 0 → type_in t n q ≡ integer
  unfolding of_shape
  integer_there b = type_word_as t n q ∙ rw b

  pub integer_elsewhere : (shape_of (word_as t n q) ≡ 0 → ⊥) → is_integer (type_in t n q) ≡ false
  integer_elsewhere b = ap is_integer (type_word_as t n q) ∙ integer_shape _ _ _ ∙ ne_eqb _ 0 b

  -- the integer type has no ?R to read
  pub integer_unread : shape_of (word_in t q) ≡ 0 → type_in t n q ≡ integer
  unfolding type_in read
  integer_unread b = rw (qual_integer t q b)

-- ---- the object of a head against a type

own_element : (t : List ℕ) (o k : ℕ) {ρ : Qual} → named_as o ≡ ρ → type_in t o k ≡ read ρ (qual_in t k)
unfolding type_in
own_element t o k is = rw is

module _ (t : List ℕ) (n q head : ℕ) where
  pub fits_array : (o : ℕ) {u b k e y : ℕ} {s r : Bool} → tag head ≡ 3 → u ≡ word_as t n q → b ≡ shape_of u → k ≡ info_of head
      → named_as o ≡ declared (settled_base head) (low head) → e ≡ element_below u q → y ≡ rights_of u → s ≡ has store_right y
      → r ≡ elements s (type_in t o k) (type_in t n e) → eqb b 1 && r ≡ fits (type_in t n q) (kind_in (qual_in t) head)
  unfolding fits
  fits_array o {u} {b} {k} {e} {y} {s} {r} is_array_lem is-u is_b is-k is-o is-e is_y is-s is-r =
      rw (slot_array watched (qual_in t) head is_array_lem, array_there, sym word_shape) (go (eqb b 1) refl)
    where
      word_shape : b ≡ shape_of (word_as t n q)
      word_shape = rw is-u at is_b

      array_there : is_array (type_in t n q) ≡ eqb (shape_of (word_as t n q)) 1
      array_there = ap is_array (type_word_as t n q) ∙ array_shape _ _ _

      element_there : eqb b 1 ≡ true → element (type_in t n q) ≡ type_in t n e
      element_there told = ap element (type_word_as t n q) ∙ element_shape _ _ _ ∙ rw (sym word_shape, told, is-e, is-u)

      stores_there : eqb b 1 ≡ true → has store_right (rights (type_in t n q)) ≡ s
      stores_there told =
          let one = eqb-true b 1 told in
          ap (has store_right) (ap rights (type_word_as t n q) ∙ rights_shape _ _ _ ∙ rw (sym word_shape, one, sym is-u, sym is_y)) ∙ sym is-s

      own : type_in t o k ≡ read (declared (settled_base head) (low head)) (qual_in t (info_of head))
      own = own_element t o k (is-o) ∙ ap (λ (a : ℕ). read (declared (settled_base head) (low head)) (qual_in t a)) is-k

      go : (a : Bool) → eqb b 1 ≡ a → a && r ≡ a && elements (has store_right (rights (type_in t n q))) (read (declared (settled_base head) (low head)) (qual_in t (info_of head))) (element (type_in t n q))
      go true told = is-r ∙ rw (own, element_there told, stores_there told)
      go false told = refl

  -- no array's: a record's, by its two tests, or none
  pub fits_other : {u b k : ℕ} {r : Bool} → (tag head ≡ 3 → ⊥) → r ≡ eqb (tag head) 4 → u ≡ word_as t n q → b ≡ shape_of u → k ≡ info_of head
      → (r && leb 2 k) && eqb (b % 256) k ≡ fits (type_in t n q) (kind_in (qual_in t) head)
  unfolding fits
  fits_other not3 is-r is-u is_b is-k = rw (is-r, is_b, is-u, is-k, sym (base_part t n q)) (by (head_word (qual_in t) head))
    where
      by : {d : Head watched} → HeadOf (qual_in t) head d
          → (eqb (tag head) 4 && leb 2 (info_of head)) && eqb (base (type_in t n q)) (info_of head) ≡ fits (type_in t n q) (kind_of_head d)
      by (array_in i) = absurd (not3 i)
      by (record_in i) = rw i
      by (no_head_in a b) = rw (ne_eqb (tag head) 4 b)

-- no object is of the integer type
object_misfit : (d : Head watched) → fits integer (kind_of_head d) ≡ false
unfolding fits is_array base
object_misfit (array_head e n) = refl
object_misfit no_head = refl
object_misfit (record_head t n) = go (eqb 0 t) refl
  where
    go : (u : Bool) → eqb 0 t ≡ u → leb 2 t && u ≡ false
    go true e = rw (sym (eqb-true 0 t e))
    go false e = and_false (leb 2 t)
      where
        and_false : (b : Bool) → b && false ≡ false
        and_false true = refl
        and_false false = refl

-- ---- binding, by its two tests

module _ (g : Program) (v : View watched) (q : Qual) (x : Value) (m : Rights) where
  pub bound_misfit : fits q (kind_at v.head x) ≡ false → moved watched g v q (filled x m) ≡ stop wrong_kind
  unfolding moved held bind ensure ◌>>=◌ ◌>>◌
  bound_misfit e = rw e

  bound_without : fits q (kind_at v.head x) ≡ true → within (rights q) m ≡ false → moved watched g v q (filled x m) ≡ stop missing_right
  unfolding moved held bind ensure ◌>>=◌ ◌>>◌
  bound_without e d = rw (e, d)

  pub bound : fits q (kind_at v.head x) ≡ true → within (rights q) m ≡ true → moved watched g v q (filled x m) ≡ ok (filled x (rights q))
  unfolding moved held bind ensure ◌>>=◌ ◌>>◌
  bound e d = rw (e, d)

-- of the word of a filled cell
module _ (qual : ℕ → Qual) (h : List ℕ) (q : Qual) (w : ℕ) (g : Program) (v : View watched) (x : Value) (m : Rights)
    (heads : Heads qual v h) (e : slot_in watched qual w ≡ cell (filled x m)) where
  bind_misfit : fits q (kind_at v.head x) ≡ false → moved_cell qual (Err WrongKind) ≡ moved watched g v q (filled x m)
  unfolding moved_cell halted amiss
  bind_misfit misfit = sym (bound_misfit g v q x m misfit)

  pub bind_integer : tag w ≡ 1 → q ≡ integer → moved_cell qual (Ok w) ≡ moved watched g v q (filled x m)
  unfolding moved_cell fits is_integer rights
  bind_integer i b = rw (e, b) (by (value_word qual w x m e))
    where
      by : {y : Value} {n : Rights} → ValueOf w y n → ok (filled y n) ≡ moved watched g v integer (filled y n)
      by (integer_in j) = sym (bound g v integer (word (low w)) 0 refl (within_refl 0))
      by (object_in j) = absurd (omega arith)

  pub bind_no_integer : tag w ≡ 1 → is_integer q ≡ false → moved_cell qual (Err WrongKind) ≡ moved watched g v q (filled x m)
  unfolding fits
  bind_no_integer i b = bind_misfit (by (value_word qual w x m e))
    where
      by : {y : Value} {n : Rights} → ValueOf w y n → fits q (kind_at v.head y) ≡ false
      by (integer_in j) = b
      by (object_in j) = absurd (omega arith)

  object_kind : (tag w ≡ 1 → ⊥) → kind_in qual (get_or h (payload w) 0) ≡ kind_at v.head x
  object_kind not1 = by (value_word qual w x m e)
    where
      by : {y : Value} {n : Rights} → ValueOf w y n → kind_in qual (get_or h (payload w) 0) ≡ kind_at v.head y
      by (integer_in i) = absurd (not1 i)
      by (object_in i) = ap kind_of_head (heads (payload w))

  -- an object's, whose head is tested
  module _ (not1 : tag w ≡ 1 → ⊥) {n head : ℕ} {b : Bool} (name : n ≡ payload w) (at : head ≡ get_or h n 0)
      (is : b ≡ fits q (kind_in qual head)) where
    fits_seen : fits q (kind_at v.head x) ≡ b
    fits_seen = sym (is ∙ rw (at, name, object_kind not1))

    pub object_misfits : b ≡ false → moved_cell qual (Err WrongKind) ≡ moved watched g v q (filled x m)
    object_misfits told = bind_misfit (fits_seen ∙ told)

    module _ {r l : ℕ} {d : Bool} (told : b ≡ true) (is-r : r ≡ rights q) (is-l : l ≡ low w) (is-d : d ≡ within r l) where
      within_seen : {y : Value} {k : Rights} → ValueOf w y k → within (rights q) k ≡ d
      within_seen (integer_in i) = absurd (not1 i)
      within_seen (object_in i) = rw (is-d, is-r, is-l)

      pub object_without : d ≡ false → moved_cell qual (Err MissingRight) ≡ moved watched g v q (filled x m)
      unfolding moved_cell halted
      object_without short =
          sym (bound_without g v q x m (fits_seen ∙ told) (within_seen (value_word qual w x m e) ∙ short))

      pub object_bound : (z : ℕ) {k : ℕ} → d ≡ true → k ≡ payload w → slot_in watched qual z ≡ cell (filled (object k) r)
          → moved_cell qual (Ok z) ≡ moved watched g v q (filled x m)
      unfolding moved_cell
      object_bound z {k} enough name_is new =
          rw (new, name_is, is-r) (by (value_word qual w x m e))
          ∙ sym (bound g v q x m (fits_seen ∙ told) (within_seen (value_word qual w x m e) ∙ enough))
        where
          by : {y : Value} {n : Rights} → ValueOf w y n
              → ◌≡◌ {A = Res (Cell watched)} (ok (filled (object (payload w)) (rights q))) (ok (filled y (rights q)))
          by (integer_in i) = absurd (not1 i)
          by (object_in i) = refl

-- a type that an object fits is not the integer type, and has the rights in its word
pub rights_there : (t : List ℕ) (n q head : ℕ) {b : Bool} {r u : ℕ} → b ≡ fits (type_in t n q) (kind_in (qual_in t) head) → b ≡ true
    → r ≡ rights_of u → u ≡ word_as t n q → r ≡ rights (type_in t n q)
rights_there t n q head is told is-r is-u = is-r ∙ ap rights_of is-u ∙ sym (rights_as t n q ∙ rw (ne_eqb (shape_of (word_as t n q)) 0 some_shape))
  where
    some_shape : shape_of (word_as t n q) ≡ 0 → ⊥
    some_shape z =
        false≢true (sym (object_misfit (as_head (slot_in watched (qual_in t) head)))
        ∙ ap (λ (p : Qual). fits p (kind_in (qual_in t) head)) (sym (integer_there t n q z)) ∙ sym is ∙ told)

-- of any cell by its word
module _ (qual : ℕ → Qual) (g : Program) (v : View watched) (q : Qual) {w : ℕ} {c : Cell watched} where
  pub bind_blank : w ≡ 0 → slot_in watched qual w ≡ cell c → moved_cell qual (Err Blank) ≡ moved watched g v q c
  unfolding moved_cell halted moved held ◌>>=◌
  bind_blank z e = rw (blank_word watched qual w e z)

  pub bind_value : (r : Result ℕ Halt) {x : ℕ} → (x ≡ w) × (w ≡ 0 → ⊥) → slot_in watched qual w ≡ cell c
      → ((y : Value) (m : ℕ) → slot_in watched qual x ≡ cell (filled y m) → moved_cell qual r ≡ moved watched g v q (filled y m))
      → moved_cell qual r ≡ moved watched g v q c
  bind_value r {x} told e rest = by c (cell_word qual w c e) e
    where
      by : (d : Cell watched) → CellOf w d → slot_in watched qual w ≡ cell d → moved_cell qual r ≡ moved watched g v q d
      by empty (blank_in z) k = absurd (told.1 z)
      by (filled y m) (value_in _ _ f) k = rest y m (ap (slot_in watched qual) told.0 ∙ k)

-- ---- raising

module _ (o : ℕ) (inner q : Qual) (x : Value) (m : Rights) where
  raised_own : (k : Kind watched) → is_record_of o k && amplifies o inner ≡ true → raised o inner q k x m ≡ ok (filled x (rights q))
  unfolding raised raise raise_if ◌>>=◌
  raised_own k e = rw e

  pub raised_bound : (g : Program) (v : View watched) → is_record_of o (kind_at v.head x) && amplifies o inner ≡ false
      → raised o inner q (kind_at v.head x) x m ≡ moved watched g v q (filled x m)
  unfolding raised raise raise_if moved held ◌>>=◌
  raised_bound g v e = rw e

-- the tests of the code
pub own_record : (qual : ℕ → Qual) (h : List ℕ) (o w : ℕ) {x : Value} {m : Rights} {n head k : ℕ} {a b : Bool} → slot_in watched qual w ≡ cell (filled x m)
    → n ≡ payload w → head ≡ get_or h n 0 → a ≡ eqb (tag w) 2 → b ≡ eqb (tag head) 4 → k ≡ info_of head
    → ((a && b) && leb 2 o) && eqb k o ≡ is_record_of o (kind_at (heads_in watched qual h) x)
unfolding is_record_of
own_record qual h o w {x} {m} e name at is-w is-h is-k =
    rw (is-w, is-h, is-k, at, name) (by (value_word qual w x m e))
  where
    head : ℕ
    head = get_or h (payload w) 0

    tests : Bool
    tests = ((eqb (tag w) 2 && eqb (tag head) 4) && leb 2 o) && eqb (info_of head) o

    of_object : tag w ≡ 2 → {d : Head watched} → HeadOf qual head d → tests ≡ is_record_of o (kind_of_head d)
    of_object i (array_in j) = rw (i, j)
    of_object i (record_in j) = rw (i, j)
    of_object i (no_head_in a b) = rw (i, ne_eqb (tag head) 4 b)

    by : {y : Value} {r : Rights} → ValueOf w y r → tests ≡ is_record_of o (kind_at (heads_in watched qual h) y)
    by (integer_in i) = rw i
    by (object_in i) = of_object i (head_word qual head)

module _ (qual : ℕ → Qual) (h : List ℕ) (v : View watched) (o w : ℕ) (inner q : Qual) (x : Value) (m : Rights)
    (heads : Heads qual v h) {b n : Bool} (own : b ≡ is_record_of o (kind_at (heads_in watched qual h) x)) (is-n : n ≡ amplifies o inner) where
  kind_seen : (y : Value) → kind_at (heads_in watched qual h) y ≡ kind_at v.head y
  kind_seen (word k) = refl
  kind_seen (object a) = ap kind_of_head (heads a)

  own_seen : is_record_of o (kind_at v.head x) && amplifies o inner ≡ b && n
  own_seen = rw (own, is-n, kind_seen x)

  pub raise_own : (z : ℕ) {k r : ℕ} → b && n ≡ true → slot_in watched qual w ≡ cell (filled x m) → k ≡ payload w → r ≡ rights q
      → slot_in watched qual z ≡ cell (filled (object k) r) → moved_cell qual (Ok z) ≡ raised o inner q (kind_at v.head x) x m
  unfolding moved_cell is_record_of
  raise_own z told e name is-r new =
      rw (new, name, is-r) (by (value_word qual w x m e) (own_seen ∙ told)) ∙ sym (raised_own o inner q x m (kind_at v.head x) (own_seen ∙ told))
    where
      by : {y : Value} {l : Rights} → ValueOf w y l → is_record_of o (kind_at v.head y) && amplifies o inner ≡ true
          → ◌≡◌ {A = Res (Cell watched)} (ok (filled (object (payload w)) (rights q))) (ok (filled y (rights q)))
      by (integer_in i) f = absurd (false≢true f)
      by (object_in i) f = refl

  pub raise_bound : (g : Program) (r : Result ℕ Halt) → b && n ≡ false → moved_cell qual r ≡ moved watched g v q (filled x m)
      → moved_cell qual r ≡ raised o inner q (kind_at v.head x) x m
  raise_bound g r told is = is ∙ sym (raised_bound o inner q x m g v (own_seen ∙ told))

-- ---- the same over the sheet, of which the index is ready

module _ {s t h : List ℕ} {q : Qual} {w : ℕ} {r : Result ℕ Halt} (ready : Ready s t) where
  pub filled_of_sheet : BindsFilled (qual_in t) h q w r → BindsFilled (qual_of s) h q w r
  filled_of_sheet = subst (λ (f : ℕ → Qual). BindsFilled f h q w r) (same_types ready)

  pub word_of_sheet : BindsWord (qual_in t) h q w r → BindsWord (qual_of s) h q w r
  word_of_sheet = subst (λ (f : ℕ → Qual). BindsWord f h q w r) (same_types ready)

  pub twice_of_sheet : {e : Qual} → BindsTwice (qual_in t) h e q w r → BindsTwice (qual_of s) h e q w r
  twice_of_sheet {e} = subst (λ (f : ℕ → Qual). BindsTwice f h e q w r) (same_types ready)

  pub raises_of_sheet : {o : ℕ} {p : Qual} → Raises (qual_in t) h o p q w r → Raises (qual_of s) h o p q w r
  raises_of_sheet {o} {p} = subst (λ (f : ℕ → Qual). Raises f h o p q w r) (same_types ready)

-- ---- tests and stops

-- what is required
pub passed : (b : Bool) {r : Result (Unit {0}) Halt} (e : Halt) {u : Unit {0}} → r ≡ cond b (Ok tt) (Err e) → r ≡ Ok u → b ≡ true
passed true e is was = refl
passed false e is was = absurd (let z : ◌≡◌ {A = ℕ} 0 1 = cc in omega arith)

pub refused : (b : Bool) {r : Result (Unit {0}) Halt} (e : Halt) {k : Halt} → r ≡ cond b (Ok tt) (Err e) → r ≡ Err k → (k ≡ e) × (b ≡ false)
refused true e is was = absurd (let z : ◌≡◌ {A = ℕ} 0 1 = cc in omega arith)
refused false e is was = (cc, refl)

-- where a test denies
pub denied : (b : Bool) → not b ≡ true → b ≡ false
denied true e = sym e
denied false e = refl

pub allowed : (b : Bool) → not b ≡ false → b ≡ true
allowed true e = refl
allowed false e = sym e

-- what the exit of a `?` returns
pub exit_is : {A : Type 0} {r : Result A Halt} {k : Halt} → IsErrAnd r (λ e. e ≡ k) → r ≡ Err k
exit_is {r = r} is = let p = err_from_is_err_and r is in p.1 ∙ ap Err p.2

-- a stop stays what it is, whatever would come next
pub halted_then : {A B : Type 0} (k : Halt) (f : A → Res B) → (halted watched k >>= f) ≡ halted watched k
unfolding halted amiss ◌>>=◌
halted_then Blank f = refl
halted_then PastEnd f = refl
halted_then InputEnded f = refl
halted_then OutputFull f = refl
halted_then MemoryFull f = refl
halted_then WrongKind f = refl
halted_then MissingRight f = refl

-- ---- actuals and results

pub moved_ok_to : {r : Result ℕ Halt} {w : ℕ} → r ≡ Ok w → MovedOk r → IsCell w
moved_ok_to is o = rw is at o

-- a cell that was bound to q: it fits and carries what q says
data BoundTo (v : View watched) (q : Qual) : Cell watched → Type 0 where
  bound_to : (x : Value) → fits q (kind_at v.head x) ≡ true → BoundTo v q (filled x (rights q))

blank_stops : (g : Program) (v : View watched) (q : Qual) (d : Cell watched) → moved watched g v q empty ≡ ok d → ⊥
unfolding moved held ◌>>=◌
blank_stops g v q d e = let z : ◌≡◌ {A = ℕ} 0 1 = cc in omega arith

moved_bound : (g : Program) (v : View watched) (q : Qual) (c d : Cell watched) → moved watched g v q c ≡ ok d → BoundTo v q d
moved_bound g v q empty d e = absurd (blank_stops g v q d e)
moved_bound g v q (filled x m) d e = by (fits q (kind_at v.head x)) (within (rights q) m) refl refl
  where
    by : (t u : Bool) → fits q (kind_at v.head x) ≡ t → within (rights q) m ≡ u → BoundTo v q d
    by false u a b = let k = bound_misfit g v q x m a in absurd (let z : ◌≡◌ {A = ℕ} 0 1 = cc in omega arith)
    by true false a b = let k = bound_without g v q x m a b in absurd (let z : ◌≡◌ {A = ℕ} 0 1 = cc in omega arith)
    by true true a b = let k = bound g v q x m a b in let is : d ≡ filled x (rights q) = cc in rw is (bound_to x a)

-- ---- bound twice

module _ (qual : ℕ → Qual) (g : Program) (v : View watched) (e q : Qual) (c : Cell watched) where
  abbrev twice : Res (Cell watched)
  twice = moved watched g v e c >>= λ d. moved watched g v q d

  pub twice_to : (r : Result ℕ Halt) (x : ℕ) → moved_cell qual (Ok x) ≡ moved watched g v e c → moved_cell qual r ≡ moved watched g v q (as_cell (slot_in watched qual x))
      → moved_cell qual r ≡ twice
  unfolding moved_cell ◌>>=◌
  twice_to r x first rest = rest ∙ rw (sym first)

  -- to the type that it was bound to: it is as it was
  pub twice_same : (x : ℕ) → e ≡ q → moved_cell qual (Ok x) ≡ moved watched g v e c → moved_cell qual (Ok x) ≡ twice
  unfolding moved_cell ◌>>=◌
  twice_same x is first = rw (sym first, sym is) (again (moved_bound g v e c _ (sym first)))
    where
      again : {d : Cell watched} → BoundTo v e d → ok d ≡ moved watched g v e d
      again (bound_to y f) = sym (bound g v e y (rights e) f (within_refl (rights e)))

  pub twice_halt : (k : Halt) → moved_cell qual (Err k) ≡ moved watched g v e c → moved_cell qual (Err k) ≡ twice
  unfolding moved_cell
  twice_halt k first = rw (sym first) (sym (halted_then k _))

-- what is done with an actual once it was bound
abbrev then_raise : View watched → (o : ℕ) → (inner as_read : Qual) → Cell watched → Res (Cell watched)
then_raise v o inner q c = held c >>= λ h. raise watched o inner q (kind_at v.head h.0) h.1 >>= λ r. ok (filled h.0 r)

raised_next : (qual : ℕ → Qual) (v : View watched) (o : ℕ) (inner p q : Qual) (r : Result ℕ Halt) (w : ℕ) {d : Cell watched}
    → BoundTo v q d → slot_in watched qual w ≡ cell d
    → ((y : Value) (m : ℕ) → slot_in watched qual w ≡ cell (filled y m) → moved_cell qual r ≡ raised o inner p (kind_at v.head y) y m)
    → moved_cell qual r ≡ then_raise v o inner p d
unfolding raised held ◌>>=◌
raised_next qual v o inner p q r w (bound_to y f) e rest = rest y (rights q) e

-- raised to the type that it was bound to, by any owner, it is as it was
raised_same : (v : View watched) (o : ℕ) (inner q : Qual) {d : Cell watched} → BoundTo v q d → ok d ≡ then_raise v o inner q d
unfolding raise raise_if bind ensure held ◌>>=◌ ◌>>◌
raised_same v o inner q (bound_to x f) = by (is_record_of o (kind_at v.head x) && amplifies o inner)
  where
    by : (b : Bool) → ◌≡◌ {A = Res (Cell watched)} (ok (filled x (rights q))) (raise_if b q (kind_at v.head x) (rights q) >>= λ r. ok (filled x r))
    by true = refl
    by false = rw (f, within_refl (rights q))

-- the types of a formal, by their numbers, as a frame of its procedure reads them
module _ {s t : List ℕ} (k : ℕ) (z : Rights) {c : Scope} (ready : Ready s t) (in_scope : FrameScope s k z c) (j : ℕ) where
  need_there : {need : ℕ} → need ≡ need_at s c.start j → read (instance (bound_of_procedure s k) z) ((program_of s).need k j) ≡ type_in t c.name need
  need_there is = sym (ap (type_in t c.name) is ∙ need_type ready c j ∙ need_read in_scope j)

  inner_there : {inner : ℕ} → inner ≡ inner_at s c.start j → read (instance (bound_of_procedure s k) z) ((program_of s).inner k j) ≡ type_in t c.name inner
  inner_there is = sym (ap (type_in t c.name) is ∙ inner_type ready c j ∙ inner_read in_scope j)

  inner_unread : {inner : ℕ} → inner ≡ inner_at s c.start j → (program_of s).inner k j ≡ qual_in t inner
  unfolding inner_in
  inner_unread {inner} is = rw (sym in_scope.start, sym is) (sym (ready.types inner))

module _ {s t : List ℕ} (v : View watched) (k b : ℕ) (z : Rights) (j : ℕ) {c : Scope} {need : ℕ} (ready : Ready s t) (in_scope : FrameScope s k z c)
    (is-need : need ≡ need_at s c.start j) where
  module _ (w : ℕ) {inner : ℕ} (is-inner : inner ≡ inner_at s c.start j) (is_cell : IsCell w)
      (bound-word : moved_cell (qual_of s) (Ok w) ≡ moved watched (program_of s) v (type_in t c.name need) (v.variable (b + j))) where
    pub actual_to : (r : Result ℕ Halt) {owner : ℕ} → owner ≡ byte_at s c.head 2
        → ((y : Value) (m : ℕ) → slot_in watched (qual_of s) w ≡ cell (filled y m)
        → moved_cell (qual_of s) r ≡ raised owner (qual_in t inner) (type_in t c.name inner) (kind_at v.head y) y m)
        → moved_cell (qual_of s) r ≡ actual watched (program_of s) v k b z j
    unfolding actual moved_cell owner_at ◌>>=◌
    actual_to r is-owner rest =
        raised_next (qual_of s) v _ _ _ (type_in t c.name need) r w (moved_bound (program_of s) v (type_in t c.name need) _ _ (sym bound-word)) (is_cell watched (qual_of s)) rest
        ∙ rw (need_there k z ready in_scope j is-need, inner_there k z ready in_scope j is-inner, inner_unread k z ready in_scope j is-inner, sym in_scope.head, sym is-owner, sym bound-word)

    pub actual_same : need ≡ inner → moved_cell (qual_of s) (Ok w) ≡ actual watched (program_of s) v k b z j
    unfolding actual moved_cell ◌>>=◌
    actual_same same-type =
        raised_same v ((program_of s).owner k) ((program_of s).inner k j) (type_in t c.name need) (moved_bound (program_of s) v (type_in t c.name need) _ _ (sym bound-word))
        ∙ rw (need_there k z ready in_scope j is-need, inner_there k z ready in_scope j is-inner, sym same-type, sym bound-word)

  pub actual_halt : (n : Halt) → moved_cell (qual_of s) (Err n) ≡ moved watched (program_of s) v (type_in t c.name need) (v.variable (b + j))
      → moved_cell (qual_of s) (Err n) ≡ actual watched (program_of s) v k b z j
  unfolding actual moved_cell
  actual_halt n e = rw (need_there k z ready in_scope j is-need, sym e) (sym (halted_then n _))

-- a result: a moved cell, handed over
pub handed_moved : (qual : ℕ → Qual) (r : Result ℕ Halt) → handed_cell qual r ≡ (moved_cell qual r >>= λ d. ok (some d))
unfolding handed_cell moved_cell ◌>>=◌
handed_moved qual (Ok w) = refl
handed_moved qual (Err k) = sym (halted_then k (λ d. ok (some d)))

module _ (s : List ℕ) (v : View watched) (a : ℕ) where
  -- what ?R stands for in the running frame
  abbrev here : Qual
  here = instance (bound_of_procedure s v.procedure) v.set_held

  handed_bound : (q : Qual) → read_result here (result_in s (procedure_at s v.procedure)) ≡ some q
      → handed watched (program_of s) v (some a) ≡ (moved watched (program_of s) v q (v.variable a) >>= λ d. ok (some d))
  unfolding handed moved held bind_result ◌>>=◌
  handed_bound q e = rw e (by_cell (v.variable a))
    where
      by_res : (x : Value) (r : Res Rights)
          → ◌≡◌ {A = Res (Option (Cell watched))} (r >>= λ t. ok (some (filled x t))) ((r >>= λ t. ok (filled x t)) >>= λ d. ok (some d))
      by_res x (ok t) = refl
      by_res x (stop t) = refl
      by_res x stuck = refl

      by_cell : (c : Cell watched)
          → ◌≡◌ {A = Res (Option (Cell watched))}
          (held c >>= λ h. bind watched q (kind_at v.head h.0) h.1 >>= λ t. ok (some (filled h.0 t)))
          (moved watched (program_of s) v q c >>= λ d. ok (some d))
      by_cell empty = refl
      by_cell (filled x m) = by_res x (bind watched q (kind_at v.head x) m)

  pub result_blank : {w : ℕ} → w ≡ 0 → slot_in watched (qual_of s) w ≡ cell (v.variable a)
      → handed_cell (qual_of s) (Err Blank) ≡ handed watched (program_of s) v (some a)
  unfolding handed_cell halted handed held ◌>>=◌
  result_blank {w} z e = rw (blank_word watched (qual_of s) w e z)

  pub result_none : {w x n : ℕ} {c : Scope} → InScope s v c → n ≡ byte_at s c.head 5 → n ≡ 255
      → (x ≡ w) × (w ≡ 0 → ⊥) → slot_in watched (qual_of s) w ≡ cell (v.variable a)
      → handed_cell (qual_of s) (Err WrongKind) ≡ handed watched (program_of s) v (some a)
  unfolding handed_cell halted amiss handed held bind_result result_in result_at read_result ◌>>=◌
  result_none {w} in_scope is none_there told e = rw (sym in_scope.head, sym is ∙ none_there) (by (v.variable a) (cell_word (qual_of s) w _ e))
    where
      by : (c : Cell watched) → CellOf w c
          → ◌≡◌ {A = Res (Option (Cell watched))} (stop wrong_kind)
          (held c >>= λ h. bind_result watched none (kind_at v.head h.0) h.1 >>= λ r. ok (some (filled h.0 r)))
      by empty (blank_in z) = absurd (told.1 z)
      by (filled y m) f = refl

  pub result_value : (r : Result ℕ Halt) {w x n : ℕ} {c : Scope} {t : List ℕ} → Ready s t → InScope s v c → n ≡ byte_at s c.head 5 → (n ≡ 255 → ⊥)
      → (x ≡ w) × (w ≡ 0 → ⊥) → slot_in watched (qual_of s) w ≡ cell (v.variable a)
      → ((y : Value) (m : ℕ) → slot_in watched (qual_of s) x ≡ cell (filled y m)
      → moved_cell (qual_of s) r ≡ moved watched (program_of s) v (type_in t c.name n) (filled y m))
      → handed_cell (qual_of s) r ≡ handed watched (program_of s) v (some a)
  unfolding result_in result_at read_result
  result_value r {n = n} {c} {t} ready in_scope is not255 told e rest =
      let there : read_result here (result_in s (procedure_at s v.procedure)) ≡ some (type_in t c.name n)
      = rw (sym in_scope.name, sym in_scope.head, sym is, ne_eqb n 255 not255) (ap some (sym (type_read ready c.name n))) in
      handed_moved (qual_of s) r
      ∙ ap (λ (m : Res (Cell watched)). m >>= λ d. ok (some d)) (bind_value (qual_of s) (program_of s) v (type_in t c.name n) r told e rest)
      ∙ sym (handed_bound (type_in t c.name n) there)
