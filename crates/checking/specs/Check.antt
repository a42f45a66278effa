-- What `check` says of any bytes: the first of refusals 1 to 9, 20 and 21 in the papers' order, or accepted.
use Rattle.std.specs.Prelude.{ℕ, ◌<◌, ◌≡◌, Bool, ◌||◌, List, ◌++◌, length}
use Rattle.model.specs.Refusal.{Verdict, Tests, between, Gives, verdict}
use Rattle.model.specs.Rules.{access_rules}
use Rattle.sheet.specs.Meaning.{program_of, place_of}
use Rattle.form.specs.WellFormed.{form_tests}

-- refusals 1 to 5 alone: a sheet is well-formed when none of them is given
abbrev pub form_verdict : List ℕ → Verdict
form_verdict s = verdict (form_tests s)

-- "Order: 1; then record by record 2, 3, 4, 5 in field order; leftover bytes 2; then, call by call, the 5s that wait for the procedure called;
-- then record by record 6, 7, 8, 9"
unfoldable pub check_tests : List ℕ → List Tests
check_tests s = form_tests s ++ access_rules (place_of s) (program_of s)

unfoldable pub check : List ℕ → Verdict
check s = verdict (check_tests s)

-- "Check gives 1 to 9 or accepts"; document 02, S-1: or 20 or 21
abbrev pub check_number : ℕ → Bool
check_number n = between 1 9 n || between 20 21 n

abbrev pub CheckNumbers : Type 0
CheckNumbers = (sheet : List ℕ) → Gives check_number (check sheet)

-- "1: more than 32,768 bytes": what follows so many does not matter, so that nobody need read it
abbrev pub FollowsNoMatter : Type 0
FollowsNoMatter = (sheet rest : List ℕ) → 32768 < length sheet → check (sheet ++ rest) ≡ check sheet
