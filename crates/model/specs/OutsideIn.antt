-- Equality and order as the papers' sentences read, from the outside in. Document 02, S-2, has them settled from the inside out, with the "same verdict for
-- every pair, also of unequal depth" (proofs: OutsideIn).
use Rattle.std.specs.Prelude.{Bool, true, false, ◌&&◌, cond, eqb}
use Rattle.model.specs.Rights.{has, store-right}
use Rattle.model.specs.Qualified.{Qual, integer, array, declared, generic, covers, order}

-- "same base, same rights, equal elements all the way down", asked in this order
unfoldable pub same-from-outside : Qual → Qual → Bool
same-from-outside integer integer = true
same-from-outside (array r e) (array s f) = eqb r s && same-from-outside e f
same-from-outside (declared t r) (declared u s) = eqb t u && eqb r s
same-from-outside (generic t l) (generic u m) = eqb t u && eqb l m
same-from-outside integer (array s f) = false
same-from-outside integer (declared u s) = false
same-from-outside integer (generic u m) = false
same-from-outside (array r e) integer = false
same-from-outside (array r e) (declared u s) = false
same-from-outside (array r e) (generic u m) = false
same-from-outside (declared t r) integer = false
same-from-outside (declared t r) (array s f) = false
same-from-outside (declared t r) (generic u m) = false
same-from-outside (generic t l) integer = false
same-from-outside (generic t l) (array s f) = false
same-from-outside (generic t l) (declared u s) = false

-- "the bases are equal, every right of Q2 is in Q1, and, for trays, the elements are equal" or, where Q2 lacks store (S-3), "element of Q1 ≥ element of Q2",
-- asked in this order; of types that are not both trays there are no elements, and the order is as it was
unfoldable pub order-from-outside : Qual → Qual → Bool
order-from-outside (array r e) (array s f) =
    covers (array r e) (array s f) && cond (has store-right s) (same-from-outside e f) (order-from-outside e f)
order-from-outside (array r e) integer = order (array r e) integer
order-from-outside (array r e) (declared u s) = order (array r e) (declared u s)
order-from-outside (array r e) (generic u m) = order (array r e) (generic u m)
order-from-outside integer b = order integer b
order-from-outside (declared t r) b = order (declared t r) b
order-from-outside (generic t l) b = order (generic t l) b
