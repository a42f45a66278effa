-- What the checking program writes: a word, a number and a place in decimal, parted by one space, and the end of the line.
use Rattle.model.specs.Refusal.{Verdict, refusal_number}
use Rattle.std.specs.Prelude.{ℕ, zero, suc, ◌+◌, ◌/◌, ◌%◌, cond, List, [], ◌∷◌, ◌++◌, ltb, Ok, Err}
use Prim.Native.String.{String, [] as no_text, ◌∷◌ as ◌then◌}
use Prim.Native.Char.{code}

-- the bytes of a text of ASCII
unfoldable pub ascii : String → List ℕ
ascii no_text = []
ascii (c then s) = code c ∷ ascii s

-- the digits of n, none of them a leading zero, where `most` digits hold it
unfoldable pub digits_within : ℕ → ℕ → List ℕ
digits_within zero n = []
digits_within (suc most) n = cond (ltb n 10) [] (digits_within most (n / 10)) ++ ((48 + n % 10) ∷ [])

-- n in decimal; twenty digits hold every number of 64 bits
unfoldable pub decimal : ℕ → List ℕ
decimal n = digits_within 20 n

-- "The word, the number and the place are parted by one space; an accepted sheet is `accepted 0 0`."
unfoldable pub refused_line : (number place : ℕ) → List ℕ
refused_line number place = ascii "refused " ++ decimal number ++ ascii " " ++ decimal place ++ ascii "\n"

unfoldable pub line : Verdict → List ℕ
line (Ok u) = ascii "accepted 0 0\n"
line (Err r) = refused_line (refusal_number r.reason) r.place
