-- Where a right came from, over the bytes of a worksheet (document 02, S-4), of the same run as condition 3: `check` is the definition that the contract of
-- the checker names, `RightsTraced` is stated of the watched machine's run (crates/provenance/specs/Claim.antt).
use Rattle.model.specs.Refusal.{Accepted}
use Rattle.std.specs.Prelude.{ℕ, ◌≡◌, List, length}
use Rattle.provenance.specs.Claim.{RightsTraced}
use Rattle.sheet.specs.Meaning.{program_of}
use Rattle.checking.specs.Check.{check}

-- "For every accepted sheet, reads and fuel: each right carried by a filled place, after any number of steps, traces back through bindings that all carried
-- it to the object's creation or to an amplified formal of its own module."
abbrev pub RightsClaim : Type 0
RightsClaim =
    (sheet : List ℕ) → check sheet ≡ Accepted →
    (memory : ℕ) (input output : List ℕ) (fuel : ℕ) →
    RightsTraced (program_of sheet) memory (length output) input fuel
