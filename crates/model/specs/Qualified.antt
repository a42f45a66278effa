-- Qualified types as trees, their equality and their order (document 01, "The order of qualified types"; document 02, S-1 to S-3).
-- The map from QT numbers to trees is the sheet's; two QT records of the same fields are one tree (K8).
use Rattle.std.specs.Prelude.{Bool, true, false, ◌&&◌, cond, ℕ, eqb}
use Rattle.model.specs.Rights.{Rights, within, has, store_right}

-- "Types 0 and 1 are integer and tray" (our word: array); a declared type is a number from 2 on
pub data Qual : Type 0 where
  integer : Qual
  array : Rights → Qual → Qual
  declared : (type : ℕ) → Rights → Qual
  -- S-1's ?R: "A QT of base 255, rights 0, element 255 stands for ?R"; as its procedure reads it, with the base and the least set of its bound
  generic : (type : ℕ) → (least : Rights) → Qual

unfoldable pub base : Qual → ℕ
base integer = 0
base (array r e) = 1
base (declared t r) = t
base (generic t l) = t

unfoldable pub rights : Qual → Rights
rights integer = 0
rights (array r e) = r
rights (declared t r) = r
rights (generic t l) = l

-- the element of an array; nothing asks it of another type
unfoldable pub element : Qual → Qual
element integer = integer
element (array r e) = e
element (declared t r) = integer
element (generic t l) = integer

unfoldable pub is_integer : Qual → Bool
is_integer integer = true
is_integer (array r e) = false
is_integer (declared t r) = false
is_integer (generic t l) = false

unfoldable pub is_array : Qual → Bool
is_array integer = false
is_array (array r e) = true
is_array (declared t r) = false
is_array (generic t l) = false

unfoldable pub is_generic : Qual → Bool
is_generic integer = false
is_generic (array r e) = false
is_generic (declared t r) = false
is_generic (generic t l) = true

-- "equal: same base, same rights, equal elements all the way down"; document 02, S-2: "settle the innermost level before the levels around it", so that
-- the rights of two arrays are asked once their elements are found equal
unfoldable pub same : Qual → Qual → Bool
same integer integer = true
same (array r e) (array s f) = same e f && eqb r s
same (declared t r) (declared u s) = eqb t u && eqb r s
same (generic t l) (generic u m) = eqb t u && eqb l m
same integer (array s f) = false
same integer (declared u s) = false
same integer (generic u m) = false
same (array r e) integer = false
same (array r e) (declared u s) = false
same (array r e) (generic u m) = false
same (declared t r) integer = false
same (declared t r) (array s f) = false
same (declared t r) (generic u m) = false
same (generic t l) integer = false
same (generic t l) (array s f) = false
same (generic t l) (declared u s) = false

-- the rights at the top: "every right of Q2 is in Q1"; "?R ≥ ?R, ?R ≥ any subset of the least set on that base, and nothing else reaches ?R"
unfoldable pub covers : Qual → Qual → Bool
covers a b = cond (is_generic b) (is_generic a) (within (rights b) (rights a))

-- Q1 ≥ Q2 but for the rights at the top: "the bases are equal and, for trays, the elements are equal"; S-3: "for trays, where Q2 lacks store, element of
-- Q1 ≥ element of Q2 is enough in place of equal elements", so that at each level Q2's own store decides, and elements that lack a right are another kind.
-- ?R has the base of its bound, and two with other least sets, of two procedures, are never compared.
unfoldable pub alike : Qual → Qual → Bool
alike integer integer = true
alike (array r e) (array s f) = cond (has store_right s) (same e f) (alike e f && covers e f)
alike (declared t r) (declared u s) = eqb t u
alike (generic t l) (generic u m) = eqb t u && eqb l m
alike (generic t l) (declared u s) = eqb t u
alike (declared t r) (generic u m) = eqb t u
alike integer (array s f) = false
alike integer (declared u s) = false
alike integer (generic u m) = false
alike (array r e) integer = false
alike (array r e) (declared u s) = false
alike (array r e) (generic u m) = false
alike (declared t r) integer = false
alike (declared t r) (array s f) = false
alike (generic t l) integer = false
alike (generic t l) (array s f) = false

-- "Q1 ≥ Q2 when the bases are equal, every right of Q2 is in Q1", and the elements of trays are as `alike` has them: "the rest of Q1 ≥ Q2, its rights
-- included, stands". The elements before the rights around them (S-2).
unfoldable pub order : Qual → Qual → Bool
order a b = alike a b && covers a b

-- what is asked of the elements of two arrays, by whether the second has store: what `alike` asks of them, and the watched machine's test of kind (`fits`
-- of Modes.antt)
unfoldable pub elements : (stores : Bool) → Qual → Qual → Bool
elements stores e f = cond stores (same e f) (order e f)
