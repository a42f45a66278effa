-- Condition 3 of the customer, over the bytes of a worksheet (document 01: "Condition 3 is a single claim about the whole run").
-- `check` is the definition that the contract of the checker names; `run`, `state_after`, `Typed` and `OpenStays` are those of the machines
-- (crates/model/specs: Run, Claim).
use Rattle.model.specs.Refusal.{Accepted}
use Rattle.std.specs.Prelude.{ℕ, ◌≤◌, ◌<◌, ◌^◌, ◌≡◌, List, length, get_or}
use Rattle.model.specs.Modes.{watched}
use Rattle.model.specs.Run.{state_after}
use Rattle.model.specs.Claim.{Condition3, OpenStays}
use Rattle.sheet.specs.Meaning.{program_of}
use Rattle.checking.specs.Check.{check}

-- "For every accepted worksheet, whatever the reads, fuel, report, and memory up to 65,536 words"
-- (reads and report words have 32 bits): (a) the plain machine is never stuck; (b) the watched machine ends with the same stop, steps, words put and place,
-- and with the same report, in all its words; (c) never with 18 or 19; (d) after every number of steps each filled variable, cell and slot holds a value of its declared type
-- with exactly its declared rights
abbrev pub Claim : Type 0
Claim =
    (sheet : List ℕ) → check sheet ≡ Accepted →
    (memory : ℕ) → memory ≤ 65536 →
    (input output : List ℕ) → ((k : ℕ) → get_or input k 0 < 2 ^ 32) →
    (fuel : ℕ) →
    Condition3 (program_of sheet) memory input output fuel

-- open does not leave its module: after every number of steps a place that carries it is a variable of a frame whose procedure is owned by that type
abbrev pub OpenClaim : Type 0
OpenClaim =
    (sheet : List ℕ) → check sheet ≡ Accepted →
    (memory : ℕ) (input output : List ℕ) (fuel n : ℕ) →
    OpenStays (program_of sheet) (state_after watched (program_of sheet) memory (length output) input fuel n)
