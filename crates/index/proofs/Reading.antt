-- The qualified types of an index where ?R is read as a name has it, as a procedure reads them, and where ?R is unread.
use Prim.Native.Nat.{ℕ, zero, suc, ◌+◌, ◌-◌, ◌*◌, ◌/◌, ◌%◌, ◌^◌, ◌<◌, ◌≤◌}
use mathlib.Core.Path.{◌≡◌, refl, sym, ap, ◌∙◌}
use mathlib.Core.List.{List}
use mathlib.Core.Bool.{Bool, true, false, cond}
use mathlib.Core.Option.{none, some}
use native.Mathlib.Omega.{arith}
use lib.Dec.{eqb, ltb, leb}
use borrow.Author.Tests.{ltb-true, ltb-false, lt-ltb, eq-eqb}
use Rattle.model.specs.Rights.{Rights}
use Rattle.model.specs.Qualified.{Qual, integer, array, declared, generic, base, rights, element, is_integer, is_array, is_generic, same}
use Rattle.model.specs.Generic.{read, read_result}
use Rattle.sheet.specs.Layout.{slot_of, result_at, inner_at, need_at, procedure_at, start_at, rights_field}
use Rattle.sheet.specs.Meaning.{nominal, shaped, base_in, element_in_sheet, tree, qual_of, slot_in_sheet, inner_in, need_in, result_in}
use Rattle.index.specs.Types.{word_in, rights_of, shape_of, of_shape, element_below, qual_in, named_as, name_type, read_word, word_as, type_in, ElementIn}
use Rattle.index.specs.Indexed.{PlacedWord, ProcedureWord, Ready}
use Rattle.index.specs.Scope.{ScopeOf, inner_as, need_as, slot_as_read, result_as}
use Rattle.index.specs.declared.procedures.Scope.{Scope}
use Rattle.index.proofs.Trees.{of_declared, of_generic, generic_shape, base_shape, rights_shape, read_shape, read_named, none_qual, qual_shaped}

-- ---- what a name has, as the word of a type
shape_packed : (r x : ℕ) → r < 2 ^ 32 → x < 2 ^ 9 → (r + 2 ^ 32 * x) / 2 ^ 32 % 2 ^ 9 ≡ x
shape_packed r x h k = omega arith

rights_packed : (r x : ℕ) → r < 2 ^ 32 → (r + 2 ^ 32 * x) % 2 ^ 32 ≡ r
rights_packed r x h = omega arith

pub name_shape : (n : ℕ) → shape_of (name_type n) ≡ 2 + n / 2 ^ 32 % 2 ^ 5 + 256 * (n / 2 ^ 37 % 2)
unfolding shape_of name_type rights_of
name_shape n = shape_packed _ _ (omega arith) (omega arith)

pub name_rights : (n : ℕ) → rights_of (name_type n) ≡ rights_of n
unfolding name_type rights_of
name_rights n = rights_packed _ _ (omega arith)

pub name_nominal : (n : ℕ) → 2 ≤ shape_of (name_type n)
name_nominal n = rw (name_shape n) (omega arith)

of_name : (b g : ℕ) (r : Rights) (e : Qual) → b < 32 → g < 2 → cond (eqb g 1) (generic (2 + b) r) (declared (2 + b) r) ≡ of_shape (2 + b + 256 * g) r e
of_name b zero r e h k = let m : 2 + b + 256 * 0 ≡ 2 + b = omega arith in rw (m, of_declared (2 + b) r e (omega arith) (omega arith))
of_name b (suc zero) r e h k =
    let m : 2 + b + 256 * 1 - 256 ≡ 2 + b = omega arith in rw (of_generic (2 + b + 256 * 1) r e (omega arith), m)
of_name b (suc (suc g)) r e h k = absurd (omega arith)

-- no element plays a role in it
pub name_word : (n : ℕ) (e : Qual) → named_as n ≡ of_shape (shape_of (name_type n)) (rights_of (name_type n)) e
unfolding named_as
name_word n e = rw (name_shape n, name_rights n) (of_name _ _ _ e (omega arith) (omega arith))

-- ---- what a name means, whether it is ?R or not
tagged : {A : Type 0} (f : Qual → A) (x : A) (u : Bool) (t : ℕ) (r : Rights) → f (generic t r) ≡ x → f (declared t r) ≡ x → f (cond u (generic t r) (declared t r)) ≡ x
tagged f x true t r g d = g
tagged f x false t r g d = d

pub base_named : (n : ℕ) → base (named_as n) ≡ 2 + n / 2 ^ 32 % 2 ^ 5
unfolding named_as base
base_named n = tagged base (2 + n / 2 ^ 32 % 2 ^ 5) (eqb (n / 2 ^ 37 % 2) 1) (2 + n / 2 ^ 32 % 2 ^ 5) (rights_of n) refl refl

pub rights_named : (n : ℕ) → rights (named_as n) ≡ n % 2 ^ 32
unfolding named_as rights rights_of
rights_named n = tagged rights (n % 2 ^ 32) (eqb (n / 2 ^ 37 % 2) 1) (2 + n / 2 ^ 32 % 2 ^ 5) (n % 2 ^ 32) refl refl

-- it is neither an integer nor an array
named : {A : Type 0} (f : Qual → A) (x : A) → ((t : ℕ) (r : Rights) → f (generic t r) ≡ x) → ((t : ℕ) (r : Rights) → f (declared t r) ≡ x) → (n : ℕ) → f (named_as n) ≡ x
unfolding named_as
named f x g d n = tagged f x (eqb (n / 2 ^ 37 % 2) 1) (2 + n / 2 ^ 32 % 2 ^ 5) (rights_of n) (g _ _) (d _ _)

pub named_integer : (n : ℕ) → is_integer (named_as n) ≡ false
unfolding is_integer
named_integer = named is_integer false (λ t r. refl) (λ t r. refl)

pub named_array : (n : ℕ) → is_array (named_as n) ≡ false
unfolding is_array
named_array = named is_array false (λ t r. refl) (λ t r. refl)

pub named_element : (n : ℕ) → element (named_as n) ≡ integer
unfolding element
named_element = named element integer (λ t r. refl) (λ t r. refl)

module _ (n : ℕ) where
  read_integer : (q : Qual) → is_integer (read (named_as n) q) ≡ is_integer q
  unfolding read is_integer
  read_integer integer = refl
  read_integer (array r e) = refl
  read_integer (declared t r) = refl
  read_integer (generic t r) = named_integer n

  read_array : (q : Qual) → is_array (read (named_as n) q) ≡ is_array q
  unfolding read is_array
  read_array integer = refl
  read_array (array r e) = refl
  read_array (declared t r) = refl
  read_array (generic t r) = named_array n

  read_element : (q : Qual) → read (named_as n) (element q) ≡ element (read (named_as n) q)
  unfolding read element
  read_element integer = refl
  read_element (array r e) = refl
  read_element (declared t r) = refl
  read_element (generic t r) = sym (named_element n)

-- ---- the types of an index
module _ (t : List ℕ) (n : ℕ) where
  pub type_integer : (j : ℕ) → is_integer (type_in t n j) ≡ is_integer (qual_in t j)
  unfolding type_in
  type_integer j = read_integer n (qual_in t j)

  pub type_array : (j : ℕ) → is_array (type_in t n j) ≡ is_array (qual_in t j)
  unfolding type_in
  type_array j = read_array n (qual_in t j)

  -- the number that stands for the element is read so too
  pub type_element : {j e : ℕ} → ElementIn t j e → type_in t n e ≡ element (type_in t n j)
  unfolding type_in
  type_element {j} x = ap (read (named_as n)) x.means ∙ read_element n (qual_in t j)

  pub none_type : (j : ℕ) → 64 ≤ j → type_in t n j ≡ integer
  unfolding type_in read
  none_type j h = rw (none_qual t j h)

  -- a type that is not ?R, by its own word and its element's
  pub type_shaped : (j : ℕ) → shape_of (word_in t j) < 256
      → type_in t n j ≡ of_shape (shape_of (word_in t j)) (rights_of (word_in t j)) (type_in t n (element_below (word_in t j) j))
  unfolding type_in
  type_shaped j h = ap (read (named_as n)) (qual_shaped t j) ∙ read_shape _ _ _ (named_as n) h

  pub type_named : (j : ℕ) → 256 ≤ shape_of (word_in t j) → type_in t n j ≡ named_as n
  unfolding type_in
  type_named j h = ap (read (named_as n)) (qual_shaped t j) ∙ read_named _ _ _ (named_as n) h

  -- a type by the word that it is read by, whichever that is
  pub type_word_as : (j : ℕ) → type_in t n j ≡ of_shape (shape_of (word_as t n j)) (rights_of (word_as t n j)) (type_in t n (element_below (word_as t n j) j))
  unfolding word_as read_word
  type_word_as j = go (ltb (shape_of (word_in t j)) 256) refl
    where
      go : (u : Bool) → ltb (shape_of (word_in t j)) 256 ≡ u
          → type_in t n j ≡ of_shape (shape_of (cond u (word_in t j) (name_type n))) (rights_of (cond u (word_in t j) (name_type n))) (type_in t n (element_below (cond u (word_in t j) (name_type n)) j))
      go true h = type_shaped j (ltb-true _ _ h)
      go false h = type_named j (ltb-false _ _ h) ∙ name_word n _

  -- an array is read as it stands
  pub raw_array : (j : ℕ) → shape_of (word_in t j) ≡ 1 → word_as t n j ≡ word_in t j
  unfolding word_as read_word
  raw_array j h = rw (lt-ltb (shape_of (word_in t j)) 256 (omega (arith, h)))

  -- and what is read as an array is one
  pub array_word : (j : ℕ) → shape_of (word_as t n j) ≡ 1 → word_as t n j ≡ word_in t j
  unfolding word_as read_word
  array_word j = go (ltb (shape_of (word_in t j)) 256)
    where
      go : (u : Bool) → shape_of (cond u (word_in t j) (name_type n)) ≡ 1 → cond u (word_in t j) (name_type n) ≡ word_in t j
      go true h = refl
      go false h = absurd (let k = name_nominal n in omega arith)

  -- ?R is what the name has
  pub generic_word : (j : ℕ) → 256 ≤ shape_of (word_as t n j) → (word_as t n j ≡ name_type n) × (type_in t n j ≡ named_as n)
  unfolding word_as read_word
  generic_word j = go (ltb (shape_of (word_in t j)) 256) refl
    where
      go : (u : Bool) → ltb (shape_of (word_in t j)) 256 ≡ u → 256 ≤ shape_of (cond u (word_in t j) (name_type n))
          → (cond u (word_in t j) (name_type n) ≡ name_type n) × (type_in t n j ≡ named_as n)
      go true h k = absurd (let l : shape_of (word_in t j) < 256 = ltb-true _ _ h in omega arith)
      go false h k = (refl, type_named j (ltb-false _ _ h))

  pub generic_as : (j : ℕ) → is_generic (type_in t n j) ≡ leb 256 (shape_of (word_as t n j))
  generic_as j = ap is_generic (type_word_as j) ∙ generic_shape _ _ _

  pub base_as : (j : ℕ) → base (type_in t n j) ≡ cond (ltb (shape_of (word_as t n j)) 256) (shape_of (word_as t n j)) (shape_of (word_as t n j) - 256)
  base_as j = ap base (type_word_as j) ∙ base_shape _ _ _

  pub rights_as : (j : ℕ) → rights (type_in t n j) ≡ cond (eqb (shape_of (word_as t n j)) 0) 0 (rights_of (word_as t n j))
  rights_as j = ap rights (type_word_as j) ∙ rights_shape _ _ _

-- ---- the types of a scope
pub placed_word : {s : List ℕ} {k w : ℕ} → ProcedureWord s k w → PlacedWord s k w
placed_word p = record { bound = p.bound; start = p.start; place = p.place }

module _ {s : List ℕ} {p : ℕ} {ρ : Qual} {c : Scope} (scope : ScopeOf s p ρ c) where
  pub inner_read : (x : ℕ) → inner_as s c x ≡ read ρ (inner_in s (start_at s p) x)
  unfolding inner_as
  inner_read x = rw (scope.name, scope.start)

  pub need_read : (j : ℕ) → need_as s c j ≡ read ρ (need_in s (start_at s p) j)
  unfolding need_as
  need_read j = rw (scope.name, scope.start)

  pub slot_read : (t k : ℕ) → slot_as_read s c t k ≡ read ρ (slot_in_sheet s t k)
  unfolding slot_as_read
  slot_read t k = rw scope.name

  pub result_read : result_as s c ≡ read_result ρ (result_in s (procedure_at s p))
  unfolding result_as
  result_read = rw (scope.name, scope.head)

module _ {s t : List ℕ} (ready : Ready s t) where
  pub type_read : (n j : ℕ) → type_in t n j ≡ read (named_as n) (qual_of s j)
  unfolding type_in
  type_read n j = ap (read (named_as n)) (ready.types j)

  module _ (c : Scope) where
    pub inner_type : (x : ℕ) → type_in t c.name (inner_at s c.start x) ≡ inner_as s c x
    unfolding inner_as inner_in
    inner_type x = type_read c.name _

    pub need_type : (j : ℕ) → type_in t c.name (need_at s c.start j) ≡ need_as s c j
    unfolding need_as need_in
    need_type j = type_read c.name _

    pub slot_type : (o k : ℕ) → type_in t c.name (slot_of s o k) ≡ slot_as_read s c o k
    unfolding slot_as_read slot_in_sheet
    slot_type o k = type_read c.name _

    pub result_type : cond (eqb (result_at s c.head) 255) none (some (type_in t c.name (result_at s c.head))) ≡ result_as s c
    unfolding result_as result_in read_result
    result_type = go (eqb (result_at s c.head) 255)
      where
        go : (u : Bool) → cond u none (some (type_in t c.name (result_at s c.head))) ≡ read_result (named_as c.name) (cond u none (some (qual_of s (result_at s c.head))))
        go true = refl
        go false = ap some (type_read c.name _)

-- ---- ?R unread: every one is the same
pub data Unread : Qual → Type 0 where
  an_integer : Unread integer
  an_array : (r : Rights) (e : Qual) → Unread e → Unread (array r e)
  a_declared : (t : ℕ) (r : Rights) → Unread (declared t r)
  a_name : Unread (generic 255 0)

unread_shaped : (b : ℕ) (r : Rights) (e : Qual) → Unread e → Unread (shaped b r e)
unfolding shaped nominal
unread_shaped zero r e u = an_integer
unread_shaped (suc zero) r e u = an_array r e u
unread_shaped (suc (suc t)) r e u = go (eqb (suc (suc t)) 255)
  where
    go : (b : Bool) → Unread (cond b (generic 255 0) (declared (suc (suc t)) r))
    go true = a_name
    go false = a_declared (suc (suc t)) r

unread_tree : (s : List ℕ) (n j : ℕ) → Unread (tree s n j)
unfolding tree
unread_tree s zero j = an_integer
unread_tree s (suc n) j = unread_shaped (base_in s j) (rights_field s j) _ (unread_tree s n (element_in_sheet s j))

pub unread_qual : (s : List ℕ) (j : ℕ) → Unread (qual_of s j)
unfolding qual_of
unread_qual s j = unread_tree s (suc j) j

pub unread_same : (t : ℕ) (l : Rights) {p q : Qual} → Unread p → Unread q → same (read (generic t l) p) (read (generic t l) q) ≡ same p q
unfolding read same
unread_same t l an_integer an_integer = refl
unread_same t l an_integer (an_array s f v) = refl
unread_same t l an_integer (a_declared b s) = refl
unread_same t l an_integer a_name = refl
unread_same t l (an_array r e u) an_integer = refl
unread_same t l (an_array r e u) (an_array s f v) = rw (unread_same t l u v)
unread_same t l (an_array r e u) (a_declared b s) = refl
unread_same t l (an_array r e u) a_name = refl
unread_same t l (a_declared a r) an_integer = refl
unread_same t l (a_declared a r) (an_array s f v) = refl
unread_same t l (a_declared a r) (a_declared b s) = refl
unread_same t l (a_declared a r) a_name = refl
unread_same t l a_name an_integer = refl
unread_same t l a_name (an_array s f v) = refl
unread_same t l a_name (a_declared b s) = refl
unread_same t l a_name a_name = rw (eq-eqb t t refl, eq-eqb l l refl)

-- two types of a sheet are equal where ?R is read as the same name in both, if they are unread
pub same_unread : (s : List ℕ) (t : ℕ) (l : Rights) (i j : ℕ) → same (read (generic t l) (qual_of s i)) (read (generic t l) (qual_of s j)) ≡ same (qual_of s i) (qual_of s j)
same_unread s t l i j = unread_same t l (unread_qual s i) (unread_qual s j)
