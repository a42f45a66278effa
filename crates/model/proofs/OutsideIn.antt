-- Document 02, S-2: "Same verdict for every pair, also of unequal depth". What is asked from the inside out says what was said from the outside in.
use mathlib.Core.Path.{◌≡◌, refl}
use mathlib.Core.Bool.{Bool, true, false, ◌&&◌, cond}
use lib.Dec.{eqb}
use Rattle.model.specs.Rights.{has, store-right}
use Rattle.model.specs.Qualified.{Qual, integer, array, declared, generic, same, alike, covers, order}
use Rattle.model.specs.OutsideIn.{same-from-outside, order-from-outside}

either_first : (a b : Bool) → a && b ≡ b && a
either_first true true = refl
either_first true false = refl
either_first false true = refl
either_first false false = refl

pub same-as-from-outside : (a b : Qual) → same a b ≡ same-from-outside a b
unfolding same same-from-outside
same-as-from-outside integer integer = refl
same-as-from-outside (array r e) (array s f) = rw (same-as-from-outside e f) (either_first (same-from-outside e f) (eqb r s))
same-as-from-outside (declared t r) (declared u s) = refl
same-as-from-outside (generic t l) (generic u m) = refl
same-as-from-outside integer (array s f) = refl
same-as-from-outside integer (declared u s) = refl
same-as-from-outside integer (generic u m) = refl
same-as-from-outside (array r e) integer = refl
same-as-from-outside (array r e) (declared u s) = refl
same-as-from-outside (array r e) (generic u m) = refl
same-as-from-outside (declared t r) integer = refl
same-as-from-outside (declared t r) (array s f) = refl
same-as-from-outside (declared t r) (generic u m) = refl
same-as-from-outside (generic t l) integer = refl
same-as-from-outside (generic t l) (array s f) = refl
same-as-from-outside (generic t l) (declared u s) = refl

pub order-as-from-outside : (a b : Qual) → order a b ≡ order-from-outside a b
unfolding order order-from-outside alike
order-as-from-outside (array r e) (array s f) =
    rw (same-as-from-outside e f, order-as-from-outside e f)
    (either_first (cond (has store-right s) (same-from-outside e f) (order-from-outside e f)) (covers (array r e) (array s f)))
order-as-from-outside (array r e) integer = refl
order-as-from-outside (array r e) (declared u s) = refl
order-as-from-outside (array r e) (generic u m) = refl
order-as-from-outside integer b = refl
order-as-from-outside (declared t r) b = refl
order-as-from-outside (generic t l) b = refl
