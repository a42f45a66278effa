-- Refusals, and how a list of tests gives a verdict: the first test that fails is the refusal (document 01, "What check, run and watch say").
use Rattle.std.specs.Prelude.{ℕ, zero, suc, ◌≡◌, Bool, true, ◌&&◌, cond, List, [], ◌∷◌, ◌++◌, leb, Result, Ok, Err}
pub use Rattle.model.specs.declared.Reason.{Reason}
pub use Rattle.model.specs.declared.Reason.TheVariants.{Overlong, Torn, StrayMark, BadEdition, OffScale, OpenExposed, FalseRaise, TypeMismatch, InsufficientRights, BigMemory, Unsettled, ShortSet}
pub use Rattle.model.specs.declared.Refusal.{Refusal}

-- the paper's number of each: overlong, torn, stray mark, edition, off scale, loose key, false raise, wrong kind, no licence, big bench; document 02: unsettled, short
abbrev pub refusal_number : Reason → ℕ
refusal_number Overlong = 1
refusal_number Torn = 2
refusal_number StrayMark = 3
refusal_number BadEdition = 4
refusal_number OffScale = 5
refusal_number OpenExposed = 6
refusal_number FalseRaise = 7
refusal_number TypeMismatch = 8
refusal_number InsufficientRights = 9
refusal_number BigMemory = 10
refusal_number Unsettled = 20
refusal_number ShortSet = 21

-- the refusal of the record that starts at a byte
abbrev pub refused_at : Reason → (at : ℕ) → Refusal
refused_at r at = record { reason = r; place = at }

-- what a check says: accepted, or refused
abbrev pub Verdict : Type 0
Verdict = Result (Unit {0}) Refusal

abbrev pub Accepted : Verdict
Accepted = Ok tt

abbrev pub Refused : Reason → (at : ℕ) → Verdict
Refused r at = Err (refused_at r at)

-- the number and the place that a verdict stands for; an accepted sheet has 0 and 0
abbrev pub verdict_number : Verdict → ℕ
verdict_number (Ok u) = 0
verdict_number (Err r) = refusal_number r.reason

abbrev pub verdict_place : Verdict → ℕ
verdict_place (Ok u) = 0
verdict_place (Err r) = r.place

abbrev pub between : (m n k : ℕ) → Bool
between m n k = leb m k && leb k n

-- accepted, or refused with one of some numbers
abbrev pub Gives : (number : ℕ → Bool) → Verdict → Type 0
Gives number (Ok u) = Unit {0}
Gives number (Err r) = number (refusal_number r.reason) ≡ true

-- a test that must hold, and what is said where it does not
pub data Test : Type 0 where
  test : Reason → Bool → Test

-- the tests of one record, in their order, with the byte at which it starts
pub data Tests : Type 0 where
  tests : (at : ℕ) → List Test → Tests

-- the reason of the first test that fails
unfoldable pub failure : List Test → Result (Unit {0}) Reason
failure [] = Ok tt
failure (test r holds ∷ more) = cond holds (failure more) (Err r)

-- a record's refusal, else what the rest says
unfoldable pub refuse : Result (Unit {0}) Reason → (at : ℕ) → Verdict → Verdict
refuse (Ok u) at rest = rest
refuse (Err r) at rest = Refused r at

-- the first refusal, record by record
unfoldable pub verdict : List Tests → Verdict
verdict [] = Accepted
verdict (tests at ts ∷ more) = refuse (failure ts) at (verdict more)

-- f i, f (i + 1) and so on, n of them, one after another
unfoldable pub span : {A : Type 0} → (ℕ → List A) → ℕ → ℕ → List A
span f i zero = []
span f i (suc n) = f i ++ span f (suc i) n

abbrev pub each : {A : Type 0} → ℕ → (ℕ → List A) → List A
each n f = span f 0 n

-- all of some tests hold
unfoldable pub all_from : Bool → List Bool → Bool
all_from b [] = b
all_from b (t ∷ ts) = all_from (b && t) ts

abbrev pub all : List Bool → Bool
all ts = all_from true ts
