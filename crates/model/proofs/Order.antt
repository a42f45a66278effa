-- Equality of qualified types is the equality of trees, so an equivalence; the order, which S-3 made wider, is reflexive and transitive, with ?R too, and it
-- is what check asks of a movement.
use mathlib.Core.Path.{◌≡◌, refl, sym, ap₂, subst, ◌∙◌}
use mathlib.Core.Bool.{Bool, true, false, false≢true, ◌&&◌, cond}
use lib.Dec.{eqb}
use borrow.Author.Tests.{eqb-true, eq-eqb}
use Rattle.model.specs.Rights.{Rights, within, has, store_right}
use Rattle.model.specs.Qualified.{Qual, integer, array, declared, generic, rights, is_generic, same, alike, covers, order, elements}
use Rattle.std.specs.Prelude.{Ok, Err, is_ok}
use Rattle.model.specs.Refusal.{TypeMismatch, InsufficientRights, failure}
use Rattle.model.specs.Rules.{moves}
use Rattle.model.proofs.Verdicts.{both_true}
use Rattle.model.proofs.Rights.{within_refl, within_trans, within_has}

pub same_sound : (a b : Qual) → same a b ≡ true → a ≡ b
unfolding same
same_sound integer integer h = refl
same_sound (array r e) (array s f) h =
    let z = both_true (same e f) (eqb r s) h in ap₂ array (eqb-true r s z.1) (same_sound e f z.0)
same_sound (declared t r) (declared u s) h =
    let z = both_true (eqb t u) (eqb r s) h in ap₂ declared (eqb-true t u z.0) (eqb-true r s z.1)
same_sound (generic t l) (generic u m) h =
    let z = both_true (eqb t u) (eqb l m) h in ap₂ generic (eqb-true t u z.0) (eqb-true l m z.1)
same_sound integer (array s f) h = absurd (false≢true h)
same_sound integer (declared u s) h = absurd (false≢true h)
same_sound integer (generic u m) h = absurd (false≢true h)
same_sound (array r e) integer h = absurd (false≢true h)
same_sound (array r e) (declared u s) h = absurd (false≢true h)
same_sound (array r e) (generic u m) h = absurd (false≢true h)
same_sound (declared t r) integer h = absurd (false≢true h)
same_sound (declared t r) (array s f) h = absurd (false≢true h)
same_sound (declared t r) (generic u m) h = absurd (false≢true h)
same_sound (generic t l) integer h = absurd (false≢true h)
same_sound (generic t l) (array s f) h = absurd (false≢true h)
same_sound (generic t l) (declared u s) h = absurd (false≢true h)

pub same_refl : (a : Qual) → same a a ≡ true
unfolding same
same_refl integer = refl
same_refl (array r e) = rw (same_refl e) (eq-eqb r r refl)
same_refl (declared t r) = rw (eq-eqb t t refl) (eq-eqb r r refl)
same_refl (generic t l) = rw (eq-eqb t t refl) (eq-eqb l l refl)

pub same_sym : (a b : Qual) → same a b ≡ true → same b a ≡ true
same_sym a b h = subst (λ (q : Qual). same q a ≡ true) (same_sound a b h) (same_refl a)

pub same_trans : (a b c : Qual) → same a b ≡ true → same b c ≡ true → same a c ≡ true
same_trans a b c h k = subst (λ (q : Qual). same a q ≡ true) (same_sound b c k) h

both : (a b : Bool) → a ≡ true → b ≡ true → a && b ≡ true
both a b p q = rw (p, q)

-- either of two facts is asked
either : (t : Bool) {x y : Bool} → x ≡ true → y ≡ true → cond t x y ≡ true
either true p q = p
either false p q = q

-- ---- rights at the top

-- a movement asks for no right that its source has not; where ?R is reached, its source is ?R and has the same
pub covers_within : (a b : Qual) → alike a b ≡ true → covers a b ≡ true → within (rights b) (rights a) ≡ true
unfolding alike covers is_generic rights
covers_within a integer h k = k
covers_within a (array s f) h k = k
covers_within a (declared u s) h k = k
covers_within integer (generic u m) h k = absurd (false≢true k)
covers_within (array r e) (generic u m) h k = absurd (false≢true k)
covers_within (declared t r) (generic u m) h k = absurd (false≢true k)
covers_within (generic t l) (generic u m) h k = rw (eqb-true l m (both_true (eqb t u) (eqb l m) h).1) (within_refl m)

covers_refl : (a : Qual) → covers a a ≡ true
unfolding covers is_generic
covers_refl integer = within_refl (rights integer)
covers_refl (array r e) = within_refl (rights (array r e))
covers_refl (declared t r) = within_refl (rights (declared t r))
covers_refl (generic t l) = refl

covers_trans : (a b c : Qual) → alike a b ≡ true → covers a b ≡ true → covers b c ≡ true → covers a c ≡ true
unfolding covers is_generic
covers_trans a b integer h w k = within_trans (rights integer) (rights b) (rights a) k (covers_within a b h w)
covers_trans a b (array s f) h w k = within_trans (rights (array s f)) (rights b) (rights a) k (covers_within a b h w)
covers_trans a b (declared u s) h w k = within_trans (rights (declared u s)) (rights b) (rights a) k (covers_within a b h w)
covers_trans a integer (generic u m) h w k = absurd (false≢true k)
covers_trans a (array s f) (generic u m) h w k = absurd (false≢true k)
covers_trans a (declared t s) (generic u m) h w k = absurd (false≢true k)
covers_trans a (generic t l) (generic u m) h w k = w

-- ---- what is asked of two arrays

-- the rules ask of two arrays what the watched machine's test of kind asks
pub alike_arrays : (r s : Rights) (e f : Qual) → alike (array r e) (array s f) ≡ elements (has store_right s) e f
unfolding alike order elements
alike_arrays r s e f = refl

-- ---- reflexive

alike_refl : (a : Qual) → alike a a ≡ true
unfolding alike order elements
alike_refl integer = refl
alike_refl (array r e) = alike_arrays r r e e ∙ either (has store_right r) (same_refl e) (both (alike e e) (covers e e) (alike_refl e) (covers_refl e))
alike_refl (declared t r) = eq-eqb t t refl
alike_refl (generic t l) = rw (eq-eqb t t refl) (eq-eqb l l refl)

pub order_refl : (a : Qual) → order a a ≡ true
unfolding order
order_refl a = both (alike a a) (covers a a) (alike_refl a) (covers_refl a)

-- ---- elements

pub same_order : (a b : Qual) → same a b ≡ true → order a b ≡ true
same_order a b h = subst (λ (q : Qual). order a q ≡ true) (same_sound a b h) (order_refl a)

-- whatever is asked of two elements, the first is ≥ the second
pub elements_order : (stores : Bool) (e f : Qual) → elements stores e f ≡ true → order e f ≡ true
unfolding elements
elements_order true e f h = same_order e f h
elements_order false e f h = h

pub elements_refl : (stores : Bool) (e : Qual) → elements stores e e ≡ true
unfolding elements
elements_refl true e = same_refl e
elements_refl false e = order_refl e

-- from an array to one that asks no right more: where the last has store the first has it too, so that nothing on the way was widened
chain :
    (p t : Bool) (e f g : Qual) → (t ≡ true → p ≡ true) → (order e f ≡ true → order f g ≡ true → order e g ≡ true) →
    elements p e f ≡ true → elements t f g ≡ true → elements t e g ≡ true
unfolding elements
chain true true e f g i trans h k = same_trans e f g h k
chain false true e f g i trans h k = absurd (false≢true (i refl))
chain p false e f g i trans h k = trans (elements_order p e f h) k

-- ---- transitive

-- from ?R to a set and back to another ?R is no movement: what is covered counts
alike_trans : (a b c : Qual) → alike a b ≡ true → alike b c ≡ true → covers b c ≡ true → alike a c ≡ true
unfolding same alike covers is_generic rights order
alike_trans integer integer c h k w = k
alike_trans (array r e) (array s f) integer h k w = k
alike_trans (array r e) (array s f) (array u g) h k w =
    let inside : order e f ≡ true → order f g ≡ true → order e g ≡ true = λ x y. let a = both_true (alike e f) (covers e f) x in let b = both_true (alike f g) (covers f g) y in
    both (alike e g) (covers e g) (alike_trans e f g a.0 b.0 b.1) (covers_trans e f g a.0 a.1 b.1) in
    alike_arrays r u e g
    ∙ chain (has store_right s) (has store_right u) e f g (within_has store_right u s w) inside (sym (alike_arrays r s e f) ∙ h) (sym (alike_arrays s u f g) ∙ k)
alike_trans (array r e) (array s f) (declared u v) h k w = k
alike_trans (array r e) (array s f) (generic u v) h k w = k
alike_trans (declared t r) (declared u s) integer h k w = k
alike_trans (declared t r) (declared u s) (array v g) h k w = k
alike_trans (declared t r) (declared u s) (declared v n) h k w = eq-eqb t v (eqb-true t u h ∙ eqb-true u v k)
alike_trans (declared t r) (declared u s) (generic v n) h k w = absurd (false≢true w)
alike_trans (declared t r) (generic u m) integer h k w = k
alike_trans (declared t r) (generic u m) (array v g) h k w = k
alike_trans (declared t r) (generic u m) (declared v n) h k w = eq-eqb t v (eqb-true t u h ∙ eqb-true u v k)
alike_trans (declared t r) (generic u m) (generic v n) h k w = eq-eqb t v (eqb-true t u h ∙ eqb-true u v (both_true (eqb u v) (eqb m n) k).0)
alike_trans (generic t l) (declared u s) integer h k w = k
alike_trans (generic t l) (declared u s) (array v g) h k w = k
alike_trans (generic t l) (declared u s) (declared v n) h k w = eq-eqb t v (eqb-true t u h ∙ eqb-true u v k)
alike_trans (generic t l) (declared u s) (generic v n) h k w = absurd (false≢true w)
alike_trans (generic t l) (generic u m) integer h k w = k
alike_trans (generic t l) (generic u m) (array v g) h k w = k
alike_trans (generic t l) (generic u m) (declared v n) h k w = eq-eqb t v (eqb-true t u (both_true (eqb t u) (eqb l m) h).0 ∙ eqb-true u v k)
alike_trans (generic t l) (generic u m) (generic v n) h k w = same_trans (generic t l) (generic u m) (generic v n) h k
alike_trans integer (array s f) c h k w = absurd (false≢true h)
alike_trans integer (declared u s) c h k w = absurd (false≢true h)
alike_trans integer (generic u m) c h k w = absurd (false≢true h)
alike_trans (array r e) integer c h k w = absurd (false≢true h)
alike_trans (array r e) (declared u s) c h k w = absurd (false≢true h)
alike_trans (array r e) (generic u m) c h k w = absurd (false≢true h)
alike_trans (declared t r) integer c h k w = absurd (false≢true h)
alike_trans (declared t r) (array s f) c h k w = absurd (false≢true h)
alike_trans (generic t l) integer c h k w = absurd (false≢true h)
alike_trans (generic t l) (array s f) c h k w = absurd (false≢true h)

pub order_trans : (a b c : Qual) → order a b ≡ true → order b c ≡ true → order a c ≡ true
unfolding order
order_trans a b c h k =
    let x = both_true (alike a b) (covers a b) h in
    let y = both_true (alike b c) (covers b c) k in
    both (alike a c) (covers a c) (alike_trans a b c x.0 y.0 y.1) (covers_trans a b c x.0 x.1 y.1)

pub elements_trans :
    (p t : Bool) (e f g : Qual) → (t ≡ true → p ≡ true) → elements p e f ≡ true → elements t f g ≡ true → elements t e g ≡ true
elements_trans p t e f g i h k = chain p t e f g i (order_trans e f g) h k

-- "Each movement needs source ≥ destination": nothing refuses it exactly if that holds
pub moves_order : (s d : Qual) → is_ok (failure (moves s d)) ≡ order s d
unfolding moves failure order
moves_order s d = go (alike s d) (covers s d)
  where
    go : (a b : Bool) → is_ok {T = Unit {0}} (cond a (cond b (Ok tt) (Err InsufficientRights)) (Err TypeMismatch)) ≡ a && b
    go true true = refl
    go true false = refl
    go false b = refl
