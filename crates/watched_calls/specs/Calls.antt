-- What a call and a return of the watched machine ask for, and what the code answers there.
use Rattle.std.specs.Prelude.{ℕ, ◌+◌, ◌≤◌, ◌<◌, ◌≡◌, List, ◌++◌, map, leb, length, take, drop, Option as Maybe, Some, None, Result, Ok, Err}
use Rattle.std.proofs.Math.Option.{Option, none}
use Rattle.model.specs.declared.Halt.{Halt}
use Rattle.model.specs.Rights.{Rights}
use Rattle.model.specs.Qualified.{Qual}
use Rattle.model.specs.Program.{Program}
use Rattle.model.specs.Rules.{Callee, optional}
use Rattle.model.specs.Outcome.{memory_full, Res, ok, ensure, ◌>>=◌, ◌>>◌}
use Rattle.model.specs.Modes.{watched, demand}
use Rattle.model.specs.Machine.{Cell, Object, Frame, State, View, view, Effect, call, operation_in, actual, actuals, handed, returns_well}
use Rattle.sheet.specs.Layout.{procedures_of}
use Rattle.sheet.specs.Meaning.{qual_of, program_of}
use Rattle.index.specs.declared.procedures.Scope.{Scope}
use Rattle.settling.specs.Settles.{Settling, halt_of}
use Rattle.settling.specs.declared.SettleError.{SettleError}
use Rattle.words.specs.Word.{cell, slot_in, as_cell, formals_of, variables_of}
use Rattle.words.specs.Answers.{halted, IsCell, MovedOk}
use Rattle.binding.specs.Binds.{FrameScope, InScope, moved_cell, handed_cell}
use Rattle.writers.specs.declared.Registers.{Registers}
use Rattle.writers.specs.Memory.{Given, kept_byte, Stands, StandsFor, SeesIn, GapOnly}
use Rattle.writers.specs.Steps.{Stepped, After}
use Rattle.frames.specs.Performs.{performed}

-- p is the scope of the running frame, in every run of the sheet that these words stand in
abbrev pub ScopeHere : (s words : List ℕ) → Registers → Scope → Type 0
ScopeHere s words r p =
    (c : Given) (k i : ℕ) (z : Rights) (vs : List (Cell watched)) (fs : List (Frame watched)) (os : List (Object watched)) (input put out : List ℕ) →
    c.sheet ≡ s → Stands watched c words out r k i z vs fs os input put → FrameScope s k z p

-- ---- a call

-- why a call that settles nothing, or not enough, stops
pub record StopsBy (inner : ℕ → Qual) (c : Callee) (b : ℕ) (k : Halt) : Type 0 where
  pub why : SettleError
  pub stop : halt_of why ≡ k
  pub told : Settling inner c b (Err why)

-- what a call settles, or its stop
abbrev pub Settles : (ℕ → Qual) → Callee → (b : ℕ) → Result ℕ Halt → Type 0
Settles inner c b (Ok n) = Settling inner c b (Ok n)
Settles inner c b (Err k) = StopsBy inner c b k

-- the answer is actual j of a call with variables from b on, of a procedure whose frame has scope c, in every view that sees these words
abbrev pub ActualIn : (s words : List ℕ) → Registers → Scope → (b j : ℕ) → Result ℕ Halt → Type 0
ActualIn s words r c b j m =
    MovedOk m
    × ((v : View watched) (k : ℕ) (z : Rights) → FrameScope s k z c → SeesIn watched (qual_of s) v words r
    → moved_cell (qual_of s) m ≡ actual watched (program_of s) v k b z j)

-- the cells of n words from a place on
abbrev pub cells_at : (s words : List ℕ) → (at n : ℕ) → List (Cell watched)
cells_at s words at n = map (λ w. as_cell (slot_in watched (qual_of s) w)) (take n (drop at words))

-- cells before those that are still to come
unfoldable pub before : List (Cell watched) → Res (List (Cell watched)) → Res (List (Cell watched))
before cs r = r >>= λ ds. ok (cs ++ ds)

-- the first j actuals of a call of procedure k with variables from b on, in a frame with set z, were bound and stand at a place in the gap; n are still to come
pub record Bound (s words words' : List ℕ) (r : Registers) (k b : ℕ) (z : Rights) (at j n : ℕ) : Type 0 where
  pub gap : GapOnly words words' r
  pub cells : map (slot_in watched (qual_of s)) (take j (drop at words')) ≡ map cell (cells_at s words' at j)
  pub planned : (v : View watched) → SeesIn watched (qual_of s) v words r
      → actuals watched (program_of s) v k b z 0 (j + n) ≡ before (cells_at s words' at j) (actuals watched (program_of s) v k b z j n)

-- all f of them were; or the first that was not is the stop, and those before it left words in the gap alone
abbrev pub Binds : (s words words' : List ℕ) → Registers → (k b : ℕ) → (z : Rights) → (at f : ℕ) → Result (Unit {0}) Halt → Type 0
Binds s words words' r k b z at f (Ok u) = Bound s words words' r k b z at f 0
Binds s words words' r k b z at f (Err x) =
    GapOnly words words' r × ((v : View watched) → SeesIn watched (qual_of s) v words r → actuals watched (program_of s) v k b z 0 f ≡ halted watched x)

-- what entering the procedure of a word leans on: no more formals than variables, and a frame that can say where to go back
pub record Enterable (r : Registers) (w : ℕ) : Type 0 where
  pub next : r.next < 1000
  pub formals : formals_of w ≤ variables_of w

-- the rest of the plan of a call, once ?R is settled to the set z
unfoldable pub entering : Program → View watched → (k b : ℕ) → (z : Rights) → Res (Effect watched)
entering g v k b z = do
  ensure memory_full (leb (g.variables k + 2) v.room)
  cs ← actuals watched g v k b z 0 (g.formals k)
  ok (call k z cs)

-- the answer is that of a call of a procedure of the sheet, from every state that the words stand for, whose instruction keeps variable a
abbrev pub Enters : (s words words' : List ℕ) → Registers → (a b k : ℕ) → (z : Rights) → Stepped → Type 0
Enters s words words' r a b k z o =
    (c : Given) (t : State watched) (out : List ℕ) → c.sheet ≡ s → k < procedures_of s → a ≡ kept_byte (operation_in (program_of s) t) →
    StandsFor watched c words out r t →
    After watched c words' out out r t o (performed s t (entering (program_of s) (view (length words) (length out) t) k b z))

-- ---- a return

-- what is handed over: variable a, or nothing, as the procedure's result demands
unfoldable pub hands : Program → View watched → ℕ → Res (Option (Cell watched))
hands g v a = do
  demand watched (returns_well (optional a) (g.result v.procedure))
  handed watched g v (optional a)

unfoldable pub handed_as : (ℕ → Qual) → Result (Maybe ℕ) Halt → Res (Option (Cell watched))
handed_as qual (Ok None) = ok none
handed_as qual (Ok (Some w)) = handed_cell qual (Ok w)
handed_as qual (Err k) = handed_cell qual (Err k)

-- a word that is handed over is a cell's
abbrev pub HandedOk : Result (Maybe ℕ) Halt → Type 0
HandedOk (Ok None) = Unit {0}
HandedOk (Ok (Some w)) = IsCell w
HandedOk (Err k) = Unit {0}

-- the answer is that, in every view that sees these words while the frame of scope p runs
abbrev pub HandsOver : (s words : List ℕ) → Registers → Scope → (a : ℕ) → Result (Maybe ℕ) Halt → Type 0
HandsOver s words r p a h =
    HandedOk h
    × ((v : View watched) → InScope s v p → SeesIn watched (qual_of s) v words r → handed_as (qual_of s) h ≡ hands (program_of s) v a)
