-- What an instruction of the code gives, against what the definition plans and applies; and what is known of a sheet that is run.
use Rattle.std.specs.Prelude.{ℕ, ◌≡◌, List, length}
use Rattle.std.proofs.Math.Option.{Option}
use Rattle.model.specs.Outcome.{Res, ok, ◌>>=◌}
use Rattle.model.specs.Modes.{Mode}
use Rattle.model.specs.Machine.{Cell, State, Next, Effect, view, plan, to_caller, apply}
use Rattle.model.specs.Refusal.{Accepted, verdict}
use Rattle.model.specs.declared.Operation.{Operation}
use Rattle.sheet.specs.Meaning.{program_of}
use Rattle.index.specs.Indexed.{Ready}
use Rattle.form.specs.WellFormed.{form_tests}
use Rattle.writers.specs.declared.Registers.{Registers}
use Rattle.writers.specs.Memory.{Given, StandsFor}
use Rattle.writers.specs.Steps.{Stepped, After}

-- a well-formed sheet, with its index
pub record Loaded (s index : List ℕ) : Type 0 where
  pub formed : verdict (form_tests s) ≡ Accepted
  pub ready : Ready s index

-- the effect that is planned in a state, applied to it
abbrev pub performed : {m : Mode} → (s : List ℕ) → State m → Res (Effect m) → Res (Next m)
performed s t e = e >>= λ x. ok (apply (program_of s) t x)

-- an operation, from every state that the words stand for
abbrev pub Performs : (m : Mode) → (s input words words' before output : List ℕ) → Registers → Stepped → Operation → Type 0
Performs m s input words words' before output r o op =
    (c : Given) (t : State m) → c.sheet ≡ s → c.input ≡ input → StandsFor m c words before r t →
    After m c words' before output r t o (performed s t (plan m (program_of s) (view (length words) (length before) t) op))

-- one that neither takes input nor puts output
abbrev pub PerformsInside : (m : Mode) → (s words words' : List ℕ) → Registers → Stepped → Operation → Type 0
PerformsInside m s words words' r o op = (input out : List ℕ) → Performs m s input words words' out out r o op

-- the return of a value, or of none, to the frame that waits
abbrev pub Returns : (m : Mode) → (s words words' out : List ℕ) → Registers → Stepped → Option (Cell m) → Type 0
Returns m s words words' out r o value =
    (c : Given) (t : State m) → c.sheet ≡ s → StandsFor m c words out r t →
    After m c words' out out r t o
    (performed s t (to_caller m (program_of s) (view (length words) (length out) t) (view (length words) (length out) t).caller value))
