-- The step that is counted is the definition's; one that stops changes nothing.
use Prim.Native.Nat.{ℕ}
use native.Mathlib.Omega.{arith}
use mathlib.Core.Path.{◌≡◌, refl, sym, ap, ◌∙◌}
use mathlib.Core.List.{List}
use lib.ListN.{length}
use Rattle.std.proofs.Common.{Ok, Err}
use Rattle.model.specs.declared.Halt.{Halt}
use Rattle.model.specs.Outcome.{Stop, Res, ok, stop, stuck}
use Rattle.model.specs.Modes.{Mode}
use Rattle.model.specs.Machine.{frame, State, state, Next, view, plan, step}
use Rattle.sheet.specs.Decode.{operation_at}
use Rattle.sheet.specs.Meaning.{program_of}
use Rattle.writers.specs.declared.Registers.{Registers}
use Rattle.writers.specs.declared.Next.TheVariants.{Go, Enter, Done}
use Rattle.writers.specs.Memory.{Given, StandsFor}
use Rattle.writers.specs.Steps.{Stepped, Unchanged, After}
use Rattle.frames.specs.Performs.{performed}
use Rattle.frames.specs.Fetch.{place_in}
use Rattle.frames.proofs.Kept.{place_is}
use Rattle.lent_step.specs.Counts.{TurnIs, counted, turned, after_turn}

-- ---- what is fetched

module _ (m : Mode) (c : Given) (words out : List ℕ) (r : Registers) where
  -- the operation that is fetched is the one that the definition does
  pub same_step : (t : State m) → StandsFor m c words out r t
      → performed c.sheet t (plan m (program_of c.sheet) (view (length words) (length out) t) (operation_at c.sheet (place_in r)))
      ≡ step (program_of c.sheet) (length words) (length out) t
  unfolding step
  same_step (state (frame p i z vs) fs os input put) S =
      rw (place_is S)

-- ---- what is counted

-- the count is no part of the state
pub counted_stands : (m : Mode) (c : Given) (words out : List ℕ) (r q : Registers) (t : State m) → StandsFor m c words out q t → StandsFor m c words out (counted r q) t
counted_stands m c words out r q (state (frame p i z vs) fs os input put) S =
    record {
      is_procedure = S.is_procedure;
      procedure = S.procedure;
      next = S.next;
      first = S.first;
      bound = S.bound;
      variables = S.variables;
      sane = record { room = S.sane.room; frame = S.sane.frame; small = S.sane.small };
      running = S.running;
      waiting = S.waiting;
      objects = S.objects;
      frames = S.frames;
      input_left = S.input_left;
      put_words = S.put_words;
      output_is = S.output_is;
      put_fits = S.put_fits;
    }

-- which of the four an answer is
abbrev kind : Stepped → ℕ
kind (Ok (Go q)) = 0
kind (Ok (Enter q)) = 1
kind (Err k) = 2
kind (Ok Done) = 3

-- counted twice is counted once
turned_twice : (r : Registers) (x : Stepped) → turned r (turned r x) ≡ turned r x
turned_twice r (Ok (Go q)) = refl
turned_twice r (Ok (Enter q)) = refl
turned_twice r (Err k) = refl
turned_twice r (Ok Done) = refl

pub turned_again : {m : Mode} {s input words words' before out : List ℕ} {r : Registers} {o : Stepped} → TurnIs m s input words words' before out r o
    → TurnIs m s input words words' before out r (turned r o)
turned_again {r = r} did =
    record { stepped = did.stepped; performs = did.performs; counts = ap (turned r) did.counts ∙ turned_twice r did.stepped }

-- the step behind a turn
module _ (r : Registers) where
  pub turned_go : (x : Stepped) (q : Registers) → turned r x ≡ Ok (Go q) → (p : Registers) × ((x ≡ Ok (Go p)) × (counted r p ≡ q))
  turned_go (Ok (Go p)) q e = (p, (refl, ap (after_turn r) e))
  turned_go (Ok (Enter p)) q e = absurd (let z = ap kind e in omega arith)
  turned_go (Err k) q e = absurd (let z = ap kind e in omega arith)
  turned_go (Ok Done) q e = absurd (let z = ap kind e in omega arith)

  pub turned_enter : (x : Stepped) (q : Registers) → turned r x ≡ Ok (Enter q) → (p : Registers) × ((x ≡ Ok (Enter p)) × (counted r p ≡ q))
  turned_enter (Ok (Go p)) q e = absurd (let z = ap kind e in omega arith)
  turned_enter (Ok (Enter p)) q e = (p, (refl, ap (after_turn r) e))
  turned_enter (Err k) q e = absurd (let z = ap kind e in omega arith)
  turned_enter (Ok Done) q e = absurd (let z = ap kind e in omega arith)

  pub turned_halt : (x : Stepped) (k : Halt) → turned r x ≡ Err k → x ≡ Err k
  turned_halt (Ok (Go p)) k e = absurd (let z = ap kind e in omega arith)
  turned_halt (Ok (Enter p)) k e = absurd (let z = ap kind e in omega arith)
  turned_halt (Err j) k e = e
  turned_halt (Ok Done) k e = absurd (let z = ap kind e in omega arith)

  pub turned_done : (x : Stepped) → turned r x ≡ Ok Done → x ≡ Ok Done
  turned_done (Ok (Go p)) e = absurd (let z = ap kind e in omega arith)
  turned_done (Ok (Enter p)) e = absurd (let z = ap kind e in omega arith)
  turned_done (Err k) e = absurd (let z = ap kind e in omega arith)
  turned_done (Ok Done) e = refl

-- ---- "A step that stops changes nothing"

-- Of the lent step, by the two parts of its contract, in every state that the memory stands for and in which the definition is not stuck: the registers are
-- as they were, so that it is not counted; the output too; and the memory stands for the same state.
pub stopped_unchanged : (m : Mode) (c : Given) (words words' before output : List ℕ) (r r' : Registers) (o : Stepped) (k : Halt) (t : State m)
    → TurnIs m c.sheet c.input words words' before output r o → r' ≡ after_turn r o → o ≡ Err k
    → StandsFor m c words before r t → (step (program_of c.sheet) (length words) (length before) t ≡ stuck → ⊥)
    → (r' ≡ r)
    × ((x : Stop)
    × ((step (program_of c.sheet) (length words) (length before) t ≡ stop x) × Unchanged m c words' before output r t k x))
stopped_unchanged m c words words' before output r r' o k t T left is stands free = (
  left ∙ ap (after_turn r) is,
  stop_told _ (same_step m c words before r t stands) (rw (turned_halt r T.stepped k (sym T.counts ∙ is)) at (T.performs c t refl refl stands)),
)
  where
    stop_told : (p : Res (Next m)) → p ≡ step (program_of c.sheet) (length words) (length before) t → After m c words' before output r t (Err k) p
        → (x : Stop) × ((step (program_of c.sheet) (length words) (length before) t ≡ stop x) × Unchanged m c words' before output r t k x)
    stop_told (ok n) e h = absurd h
    stop_told (stop x) e h = (x, (sym e, h))
    stop_told stuck e h = absurd (free (sym e))
