-- A run on its way, of either machine, and what it comes to in one frame or in a number of steps.
use Rattle.std.specs.Prelude.{ℕ, ◌≤◌, ◌<◌, ◌≡◌, List, length}
use Rattle.model.specs.Modes.{Mode, plain, watched}
use Rattle.model.specs.Machine.{State}
use Rattle.model.specs.Run.{End, stuck_at, running, trace, run}
use Rattle.model.specs.Inside.{Inside}
use Rattle.sheet.specs.Meaning.{program_of}
use Rattle.index.specs.declared.procedures.Scope.{Scope}
use Rattle.writers.specs.declared.Registers.{Registers}
use Rattle.writers.specs.Memory.{Given, StandsFor}
use Rattle.watched_calls.specs.Calls.{ScopeHere}
use Rattle.run_by_frames.specs.declared.Paused.{Paused}
use Rattle.run_by_frames.specs.declared.Paused.TheVariants as P
use Rattle.run_by_frames.specs.declared.Halted.{Halted}
use Rattle.run_by_frames.specs.declared.Halted.TheVariants as H
use Rattle.run_by_frames.specs.Reply.{EndedIs}

-- p is the scope of the running frame of the watched machine; the plain one asks for none
abbrev pub ScopeFor : Mode → (s words : List ℕ) → Registers → Scope → Type 0
ScopeFor plain s words r p = Unit {0}
ScopeFor watched s words r p = ScopeHere s words r p

-- an end that is a stop; condition 3 says that an accepted sheet has no other
abbrev pub NeverStuck : End → Type 0
NeverStuck x = (n : ℕ) (put : List ℕ) (p i : ℕ) → x ≡ stuck_at n put p i → ⊥

-- the whole run, in so many words of memory
abbrev pub whole_run : (m : Mode) → Given → (memory fuel : ℕ) → End
whole_run m c memory fuel = run m (program_of c.sheet) memory (length c.output) c.input fuel

-- where it stands after the steps that the registers count
pub record Going (m : Mode) (c : Given) (memory fuel : ℕ) (words out : List ℕ) (r : Registers) : Type 0 where
  pub now : State m
  pub reached : trace m (program_of c.sheet) memory (length c.output) c.input r.steps ≡ running r.steps now
  pub paid : r.steps ≤ fuel
  pub stands : StandsFor m c words out r now
  pub inside : Inside (program_of c.sheet) now
  pub long : length words ≡ memory
  pub put_long : length out ≡ length c.output
  pub free : NeverStuck (whole_run m c memory fuel)

-- a run of this sheet and this input with fuel for so many steps, whatever its output was before
pub record RunOf (s input : List ℕ) (until : ℕ) : Type 0 where
  pub given : Given
  pub same_sheet : given.sheet ≡ s
  pub same_input : given.input ≡ input
  pub fuel : ℕ
  pub enough : until ≤ fuel

-- registers and memory that stand where such a run does, after at most as many steps
pub record Begun (m : Mode) (s input : List ℕ) (until : ℕ) (words out : List ℕ) (r : Registers) : Type 0 where
  pub some_run : RunOf s input until
  pub going : Going m some_run.given (length words) some_run.fuel words out r
  pub soon : r.steps ≤ until

-- the run of a frame that was entered after so many steps
abbrev pub PausedIs : (m : Mode) → Given → (memory fuel made until : ℕ) → (words out : List ℕ) → Paused → Type 0
PausedIs m c memory fuel made until words out (P.Enter q) = (made < q.steps) × ((q.steps ≤ until) × Going m c memory fuel words out q)
PausedIs m c memory fuel made until words out (P.Rest q) = (q.steps ≡ until) × Going m c memory fuel words out q
PausedIs m c memory fuel made until words out (P.End e) = EndedIs e c.output out (whole_run m c memory fuel)

-- a run to a number of steps
abbrev pub HaltedIs : (m : Mode) → Given → (memory fuel until : ℕ) → (words out : List ℕ) → Halted → Type 0
HaltedIs m c memory fuel until words out (H.Rest q) = (q.steps ≡ until) × Going m c memory fuel words out q
HaltedIs m c memory fuel until words out (H.End e) = EndedIs e c.output out (whole_run m c memory fuel)

-- what both come to, of every run that stands where they begin
abbrev pub FrameRuns : (m : Mode) → (s input : List ℕ) → (until : ℕ) → (words words' out out' : List ℕ) → Registers → Paused → Type 0
FrameRuns m s input until words words' out out' r p =
    (d : RunOf s input until) → Going m d.given (length words) d.fuel words out r →
    PausedIs m d.given (length words) d.fuel r.steps until words' out' p

abbrev pub RunsUntil : (m : Mode) → (s input : List ℕ) → (until : ℕ) → (words words' out out' : List ℕ) → Registers → Halted → Type 0
RunsUntil m s input until words words' out out' r h =
    (d : RunOf s input until) → Going m d.given (length words) d.fuel words out r →
    HaltedIs m d.given (length words) d.fuel until words' out' h
