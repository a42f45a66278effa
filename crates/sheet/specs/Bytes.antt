-- Bytes and numbers of a sheet, which is a list of numbers (document 01: "integers little-endian").
use Rattle.std.specs.Prelude.{ℕ, zero, suc, ◌+◌, ◌*◌, List, Bool, ◌&&◌, length, get_or, leb, eqb}

-- byte k of the record at `at`; 0 past the end, which no accepted sheet asks
unfoldable pub byte_at : List ℕ → ℕ → ℕ → ℕ
byte_at s at k = get_or s (at + k) 0

-- the number in n bytes from byte k on
unfoldable pub number_at : List ℕ → (at k n : ℕ) → ℕ
number_at s at k zero = 0
number_at s at k (suc n) = byte_at s at k + 256 * number_at s at (k + 1) n

unfoldable pub word_at : List ℕ → ℕ → ℕ → ℕ
word_at s at k = number_at s at k 2

-- n bytes stand whole from `at`
unfoldable pub whole_at : List ℕ → ℕ → ℕ → Bool
whole_at s at n = leb (at + n) (length s)

-- "a two-byte ASCII mark"
pub data Mark : Type 0 where
  mark : (first second : ℕ) → Mark

unfoldable pub marked_at : List ℕ → ℕ → Mark → Bool
marked_at s at (mark first second) = eqb (byte_at s at 0) first && eqb (byte_at s at 1) second
