-- Types by their words.
use Rattle.std.specs.Prelude.{ℕ, ◌+◌, ◌<◌, List, Bool, ◌&&◌, ◌||◌, cond, eqb, ltb, leb}
use Rattle.model.specs.Rights.{within}
use Rattle.model.specs.Qualified.{Qual}
use Rattle.index.specs.Types.{rights_of, shape_of, element_of, element_below, of_shape, read_word, type_in}

-- the same shape and, but for integers, the same rights
unfoldable pub same_heads : (v w : ℕ) → Bool
same_heads v w = eqb (shape_of v) (shape_of w) && (eqb (shape_of v) 0 || eqb (rights_of v) (rights_of w))

-- shapes that differ are alike where one is a declared type, the other ?R of its base
unfoldable pub one_named : (b c : ℕ) → Bool
one_named b c = (leb 2 b && eqb (b + 256) c) || (leb 2 c && eqb (c + 256) b)

-- the same shape, and two ?R with one least set
unfoldable pub alike_heads : (v w : ℕ) → Bool
alike_heads v w = cond (eqb (shape_of v) (shape_of w)) (ltb (shape_of v) 256 || eqb (rights_of v) (rights_of w)) (one_named (shape_of v) (shape_of w))

-- the rights, which an integer does not have, of the second are the first's; only ?R reaches ?R
unfoldable pub covered_heads : (v w : ℕ) → Bool
covered_heads v w =
    cond (leb 256 (shape_of w))
    (leb 256 (shape_of v))
    (within (cond (eqb (shape_of w) 0) 0 (rights_of w)) (cond (eqb (shape_of v) 0) 0 (rights_of v)))

-- the type of a word where ?R is read as a name has it, if it is the word of number j
unfoldable pub type_of : List ℕ → (name j w : ℕ) → Qual
type_of t n j w = of_shape (shape_of (read_word n w)) (rights_of (read_word n w)) (type_in t n (element_below (read_word n w) j))

-- an element's number that is below j is one of the 64
abbrev pub ElementThere : (w j : ℕ) → Type 0
ElementThere w j = element_of w < j → element_of w < 64
