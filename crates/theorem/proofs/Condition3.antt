-- Condition 3 over bytes: an accepted sheet is well-formed, so it means a program of the form that condition 3 over programs asks, and its access rules hold.
use Prim.Native.Nat.{ℕ}
use mathlib.Core.Path.{◌≡◌}
use mathlib.Core.List.{List}
use lib.ListN.{length}
use Rattle.model.specs.Refusal.{Accepted, verdict}
use Rattle.model.specs.Rules.{access_rules}
use Rattle.model.proofs.Run.{condition3}
use Rattle.model.proofs.Open.{open_stays}
use Rattle.sheet.specs.Meaning.{program_of, place_of}
use Rattle.form.specs.WellFormed.{form_tests}
use Rattle.model.proofs.Verdicts.{left_accepted, right_accepted}
use Rattle.checking.specs.Check.{check_tests, check}
use Rattle.theorem.specs.Condition3.{Claim, OpenClaim}
use Rattle.theorem.proofs.Formed.{formed, numbered}

module _ (s : List ℕ) (h : check s ≡ Accepted) where
  form_holds : verdict (form_tests s) ≡ Accepted
  unfolding check check_tests
  form_holds = left_accepted (form_tests s) (access_rules (place_of s) (program_of s)) h

  access_holds : verdict (access_rules (place_of s) (program_of s)) ≡ Accepted
  unfolding check check_tests
  access_holds = right_accepted (form_tests s) (access_rules (place_of s) (program_of s)) h

pub condition3_holds : Claim
condition3_holds s h memory small input output words fuel =
    condition3 (place_of s) (program_of s) (formed s (form_holds s h)) (access_holds s h) memory input output fuel

pub open_stays_holds : OpenClaim
open_stays_holds s h memory input output fuel n =
    open_stays (place_of s) (program_of s) (formed s (form_holds s h)) (numbered s (form_holds s h)) (access_holds s h) memory (length output) input fuel n
