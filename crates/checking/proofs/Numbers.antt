-- "Check gives 1 to 9 or accepts"; document 02, S-1: or 20 or 21.
use Prim.Native.Nat.{ℕ}
use mathlib.Core.Path.{◌≡◌, refl}
use mathlib.Core.Bool.{Bool, true, false, ◌||◌}
use native.Mathlib.Omega.{arith}
use Rattle.model.specs.Refusal.{between}
use Rattle.model.specs.Rules.{access_rules}
use Rattle.model.proofs.Numbers.{all_wider, between_wider, all_append, access_number, access_range, verdict_range}
use Rattle.sheet.specs.Meaning.{program_of, place_of}
use Rattle.form.specs.WellFormed.{form_tests}
use Rattle.form.proofs.Numbers.{form_number, form_range}
use Rattle.checking.specs.Check.{check, check_tests, check_number, CheckNumbers}

form_wider : (n : ℕ) → form_number n ≡ true → check_number n ≡ true
form_wider n h = rw (between_wider 1 5 1 9 n (omega arith) (omega arith) h)

access_wider : (n : ℕ) → access_number n ≡ true → check_number n ≡ true
access_wider n h = either (between 6 9 n) (between 1 9 n) (between_wider 6 9 1 9 n (omega arith) (omega arith)) h
  where
    either : (a b : Bool) → (a ≡ true → b ≡ true) → a || between 20 21 n ≡ true → b || between 20 21 n ≡ true
    either true b w h = rw (w refl)
    either false true w h = refl
    either false false w h = h

pub check_numbers : CheckNumbers
unfolding check check_tests
check_numbers s =
    verdict_range check_number (check_tests s)
    (all_append check_number (form_tests s) (access_rules (place_of s) (program_of s))
    (all_wider form_number check_number form_wider (form_tests s) (form_range s))
    (all_wider access_number check_number access_wider (access_rules (place_of s) (program_of s)) (access_range (place_of s) (program_of s))))
