-- What the answers of `run` and `watch` come to for every sheet (document 01), beside the contracts and in their words. Proved in proofs/.
-- Input words have 32 bits, as the contracts' slices have them.
use Rattle.model.specs.Refusal.{Accepted}
use Rattle.std.specs.Prelude.{ℕ, ◌≤◌, ◌<◌, ◌^◌, ◌≡◌, List, ◌⊎◌, length, get_or}
use Rattle.std.proofs.Math.Option.{Option, none, some}
use Rattle.model.specs.Modes.{Mode, plain, watched}
use Rattle.checking.specs.Check.{check}
use Rattle.run.specs.Run.{Answer, answer}

abbrev pub Words32 : List ℕ → Type 0
Words32 input = (k : ℕ) → get_or input k 0 < 2 ^ 32

-- "the watched machine ends with the same stop, steps, words put, place and report": of every accepted sheet `watch` says and leaves what `run` does, in
-- every part
abbrev pub WatchAsRun : Type 0
WatchAsRun =
    (sheet input : List ℕ) (fuel : ℕ) (memory output : List ℕ) → check sheet ≡ Accepted → Words32 input →
    answer watched sheet input fuel memory output ≡ answer plain sheet input fuel memory output

-- there is an answer, and its number is one of which P holds
abbrev pub Says : (P : ℕ → Type 0) → Option Answer → Type 0
Says P none = ⊥
Says P (some a) = P a.reply.number

-- "run gives 1 to 17"; document 02, S-1: or 20 or 21
abbrev pub RunNumbers : Type 0
RunNumbers =
    (sheet input : List ℕ) (fuel : ℕ) (memory output : List ℕ) → Words32 input →
    Says (λ n. ((1 ≤ n) × (n ≤ 17)) ⊎ ((20 ≤ n) × (n ≤ 21))) (answer plain sheet input fuel memory output)

-- "watch all but 6 to 9"
abbrev pub WatchNumbers : Type 0
WatchNumbers =
    (sheet input : List ℕ) (fuel : ℕ) (memory output : List ℕ) →
    Says (λ n. ((1 ≤ n) × (n ≤ 5)) ⊎ ((10 ≤ n) × (n ≤ 19))) (answer watched sheet input fuel memory output)

-- "whatever the bench holds": a memory of the same length and other words gives the same reply and the same output
abbrev pub Alike : Option Answer → Option Answer → Type 0
Alike none none = Unit {0}
Alike (some a) (some b) = (a.reply ≡ b.reply) × (a.output ≡ b.output)
Alike none (some b) = ⊥
Alike (some a) none = ⊥

abbrev pub AnyMemory : Type 0
AnyMemory =
    (m : Mode) (sheet input : List ℕ) (fuel : ℕ) (memory memory' output : List ℕ) → length memory ≡ length memory' →
    Alike (answer m sheet input fuel memory output) (answer m sheet input fuel memory' output)
