-- A sheet that is too long is refused for that, whatever its bytes.
use native.Mathlib.Omega.{arith}
use mathlib.Core.Path.{◌≡◌, sym, ◌∙◌}
use mathlib.Core.List.{List, ◌++◌}
use Prim.Native.Nat.{ℕ, ◌<◌}
use lib.ListN.{length, length-append}
use borrow.Author.Tests.{lt-leb}
use Rattle.model.specs.Refusal.{Refused, failure, refuse, verdict}
use Rattle.model.specs.declared.Reason.TheVariants.{Overlong}
use Rattle.form.specs.WellFormed.{length_tests, form_tests}
use Rattle.checking.specs.Check.{check, check_tests, FollowsNoMatter}

overlong : (s : List ℕ) → 32768 < length s → check s ≡ Refused Overlong 0
unfolding check check_tests form_tests length_tests verdict failure refuse
overlong s long = rw (lt-leb (length s) 32768 long)

pub follows_no_matter : FollowsNoMatter
follows_no_matter s rest long = overlong (s ++ rest) (omega (arith, length-append s rest)) ∙ sym (overlong s long)
