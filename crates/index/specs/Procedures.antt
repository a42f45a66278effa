-- The procedures as the words of an index have them: each by the word that a frame of it has too (crates/words/specs/Word.antt).
use Rattle.std.specs.Prelude.{ℕ, ◌+◌, ◌-◌, ◌*◌, List, cond, ltb, get_or}
use Rattle.words.specs.Word.{variables_of, bound_of, first_of}

-- word p, of the 65; another number reads as 0
unfoldable pub procedure_in : List ℕ → ℕ → ℕ
procedure_in t p = cond (ltb p 65) (get_or t (64 + p) 0) 0

-- where the VRs start, and where the PR stands: before the first instruction, and before a GN
unfoldable pub start_of : ℕ → ℕ
start_of w = first_of w - 4 * variables_of w

unfoldable pub place_of : ℕ → ℕ
place_of w = start_of w - (8 + bound_of w)
