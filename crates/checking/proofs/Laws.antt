-- What a sheet is refused for where it is not well-formed, and what is said of it where it is.
use Prim.Native.Nat.{ℕ}
use mathlib.Core.Path.{◌≡◌, sym}
use mathlib.Core.List.{List}
use Rattle.std.specs.Prelude.{Err}
use Rattle.model.specs.Refusal.{Verdict, Accepted, verdict}
use Rattle.model.specs.declared.Refusal.{Refusal}
use Rattle.model.specs.Rules.{access_rules}
use Rattle.model.proofs.Verdicts.{first_refuses, second_says}
use Rattle.sheet.specs.Meaning.{program_of, place_of}
use Rattle.form.specs.WellFormed.{form_tests}
use Rattle.checking.specs.Check.{check, check_tests}

module _ (s : List ℕ) where
  pub form_refuses : {e : Refusal} → verdict (form_tests s) ≡ Err e → check s ≡ Err e
  unfolding check check_tests
  form_refuses h = sym (first_refuses (form_tests s) (access_rules (place_of s) (program_of s)) (sym h))

  pub access_says : {v : Verdict} → verdict (form_tests s) ≡ Accepted → v ≡ verdict (access_rules (place_of s) (program_of s)) → check s ≡ v
  unfolding check check_tests
  access_says h k = sym (second_says (form_tests s) (access_rules (place_of s) (program_of s)) (sym h) k)
