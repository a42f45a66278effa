-- An operation of the watched machine does what is planned. Nothing here leaves room for a stuck definition.
use Prim.Native.Nat.{ℕ}
use mathlib.Core.Path.{◌≡◌, subst}
use mathlib.Core.List.{List}
use lib.ListN.{length}
use Rattle.std.specs.Prelude.{Err}
use Rattle.model.specs.declared.Halt.{Halt}
use Rattle.model.specs.Outcome.{Res, ok, ◌>>=◌}
use Rattle.model.specs.Rights.{Rights}
use Rattle.model.specs.Modes.{watched}
use Rattle.model.specs.Machine.{frame, State, state, View, Effect, view, plan, apply}
use Rattle.model.specs.declared.Operation.{Operation}
use Rattle.sheet.specs.Meaning.{program_of, qual_of}
use Rattle.index.specs.Indexed.{PlacedWord}
use Rattle.index.specs.Scope.{Bounded}
use Rattle.index.specs.declared.procedures.Scope.{Scope}
use Rattle.words.specs.Sees.{Sees}
use Rattle.words.specs.Answers.{halted}
use Rattle.binding.specs.Binds.{FrameScope, InScope}
use Rattle.writers.specs.declared.Registers.{Registers}
use Rattle.writers.specs.Memory.{Given, frame_part, object_part, SeesIn, StandsFor}
use Rattle.writers.specs.Steps.{Stepped, After, Does}
use Rattle.writers.proofs.Effects.{halted_then, halted_after}
use Rattle.frames.specs.Performs.{Loaded, performed, Performs}
use Rattle.frames.specs.Frames.{SetIn}
use Rattle.frames.proofs.Performs.{placed, sees, sees_parts}
use Rattle.frames.proofs.Called.{bound_within}
use Rattle.watched_calls.specs.Calls.{ScopeHere}

-- the scope of the running frame is that in which the view reads its types
pub in_scope : {s words : List ℕ} {r : Registers} {p : Scope} → ScopeHere s words r p → (c : Given) (out : List ℕ) (t : State watched) → c.sheet ≡ s
    → StandsFor watched c words out r t → InScope s (view (length words) (length out) t) p
in_scope here c out (state (frame k i z vs) fs os input put) same S = here c k i z vs fs os input put out same S

-- the scope that is made of a frame's word and its set is that of the frame
pub scope_here : {s index words : List ℕ} (b : Registers) (set : Rights) {p : Scope} → Loaded s index
    → ((k : ℕ) → PlacedWord s k b.procedure → Bounded s k → FrameScope s k set p) → SetIn watched words b set → ScopeHere s words b p
scope_here {s} {index} b set {p} loaded scoped sets c k i z vs fs os input put out same S =
    subst (λ (y : Rights). FrameScope s k y p) (sets c k i z vs fs os input put out S)
    (scoped k (rw same at (placed S)) (bound_within s index loaded k (rw same at S.running.procedure)))

-- a stop that was planned
pub stopped_as : (c : Given) (words out s : List ℕ) (r : Registers) (t : State watched) → StandsFor watched c words out r t
    → (k : Halt) (e : Res (Effect watched)) → e ≡ halted watched k → After watched c words out out r t (Err k) (performed s t e)
stopped_as c words out s r t S k e is = rw (is, halted_then watched k) (halted_after watched c words out r t S k)

module _ (s input words words' before out : List ℕ) (r : Registers) (o : Stepped) (op : Operation) (e : List ℕ → Res (Effect watched))
    (does : (c : Given) → c.sheet ≡ s → Does watched c words words' before out r o (e c.sheet)) where
  pub performs_exactly :
      ((c : Given) (t : State watched) → c.sheet ≡ s → c.input ≡ input → StandsFor watched c words before r t
      → e s ≡ plan watched (program_of s) (view (length words) (length before) t) op)
      → Performs watched s input words words' before out r o op
  performs_exactly planned c t q i S =
      subst (λ (f : Res (Effect watched)). After watched c words' before out r t o (f >>= λ x. ok (apply (program_of s) t x))) (planned c t q i S)
      (subst (λ (z : List ℕ). After watched c words' before out r t o (e z >>= λ x. ok (apply (program_of z) t x))) q (does c q t S))

  -- a plan that leans on the running frame's scope, the variables and the objects alone
  pub performs_seeing : {p : Scope} → ScopeHere s words r p
      → ((v : View watched) → InScope s v p → SeesIn watched (qual_of s) v words r → e s ≡ plan watched (program_of s) v op)
      → Performs watched s input words words' before out r o op
  performs_seeing here planned =
      performs_exactly
      (λ c t q i S. planned (view (length words) (length before) t) (in_scope here c before t q S) (sees watched c s words before r t q S))

  -- the same, where what is read is what `writers::parts` gives
  pub performs_reading : {p : Scope} {f h : List ℕ} → f ≡ frame_part r words → h ≡ object_part r words → ScopeHere s words r p
      → ((v : View watched) → InScope s v p → Sees watched (qual_of s) v f h → e s ≡ plan watched (program_of s) v op)
      → Performs watched s input words words' before out r o op
  performs_reading variables objects here planned =
      performs_seeing here (λ v at S. planned v at (sees_parts watched (qual_of s) v words r variables objects S))
