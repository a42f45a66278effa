-- One turn of a run, from registers that stand for a state inside the program.
use Prim.Native.Nat.{ℕ, suc, ◌+◌, ◌≤◌, ◌<◌, ◌^◌}
use native.Mathlib.Omega.{arith}
use native.Mathlib.Numerals.{add-one}
use mathlib.Core.Path.{◌≡◌, refl, sym, ap, subst, ◌∙◌}
use mathlib.Core.List.{List, []}
use borrow.Author.Tests.{le-leb, lt-leb}
use lib.ListN.{length, drop}
use Rattle.std.specs.Prelude.{Ok, Err}
use Rattle.model.specs.declared.Halt.{Halt}
use Rattle.model.specs.Outcome.{Stop, done, fuel_spent, memory_full, Res, ok, stop, stuck}
use Rattle.model.specs.Refusal.{Accepted, verdict}
use Rattle.model.specs.Program.{Program}
use Rattle.model.specs.Modes.{Mode}
use Rattle.model.specs.Machine.{frame, State, state, Next, go, finished, view, plan, step}
use Rattle.model.specs.Run.{End, stopped, end_in, stuck_in, snapshot, running, over, next_moment, end_of, advance, opened, start, trace, run}
use Rattle.model.specs.Inside.{Inside}
use Rattle.model.proofs.AnyProgram.{IsOver, over_run}
use Rattle.model.proofs.Inside.{yielded, step_inside, opened_inside}
use Rattle.sheet.specs.Layout.{variables_field, instruction_at, procedure_at}
use Rattle.sheet.specs.Decode.{operation_at}
use Rattle.sheet.specs.Meaning.{program_of}
use Rattle.form.specs.WellFormed.{form_tests}
use Rattle.theorem.proofs.Formed.{formed}
use Rattle.form.proofs.WellFormed.{instructions_few, instruction_whole, variables_named, actuals_there, callee_below}
use Rattle.writers.specs.declared.Registers.{Registers}
use Rattle.writers.specs.declared.Next.TheVariants as N
use Rattle.writers.specs.Memory.{Given, number_in, first_in, Sane, StandsFor}
use Rattle.writers.specs.Steps.{Stepped, After, at_next, running_set}
use Rattle.frames.specs.Performs.{performed}
use Rattle.frames.specs.Fetch.{place_in, Fetchable, CodeOf}
use Rattle.frames.proofs.Kept.{place_is}
use Rattle.lent_step.specs.Counts.{Steppable, TurnIs, counted}
use Rattle.lent_step.proofs.Laws.{same_step, counted_stands, turned_go, turned_enter, turned_halt, turned_done}
use Rattle.run_by_frames.specs.declared.Ended.{Ended}
use Rattle.run_by_frames.specs.declared.Ending.{Ending}
use Rattle.run_by_frames.specs.declared.Ending.TheVariants as E
use Rattle.run_by_frames.specs.Reply.{EndedIs, ended, ending_stop}
use Rattle.run_by_frames.specs.declared.Paused.{Paused}
use Rattle.run_by_frames.specs.declared.Paused.TheVariants as P
use Rattle.run_by_frames.specs.declared.Halted.{Halted}
use Rattle.run_by_frames.specs.declared.Halted.TheVariants as H
use Rattle.run_by_frames.specs.Turn.{NeverStuck, whole_run, Going, RunOf, Begun, PausedIs, HaltedIs, FrameRuns, RunsUntil}

-- what is told at a stop after so many steps
abbrev pub told : Registers → Ending → (steps : ℕ) → Ended
told r k n = record { ending = k; steps = n; put = r.put; procedure = number_in r; instruction = r.next }

module _ (m : Mode) (c : Given) (words out : List ℕ) (r : Registers) where
  pub sane : (t : State m) → StandsFor m c words out r t → Sane (length words) r
  sane (state (frame p i z vs) fs os input put) S = S.sane

  fetchable : verdict (form_tests c.sheet) ≡ Accepted → (t : State m) → StandsFor m c words out r t → Inside (program_of c.sheet) t → Fetchable c.sheet r
  fetchable wf (state (frame p i z vs) fs os input put) S I =
      let s = c.sheet in
      let l = I.0.procedure in
      let n = I.0.instruction in
      let e : place_in r ≡ instruction_at s p i = place_is S in
      record {
        whole = rw e (instruction_whole s wf p l i n);
        first = let w : place_in r + 8 ≤ length s = rw e (instruction_whole s wf p l i n) in omega arith;
        next = rw S.next (omega (arith, instructions_few s wf p l));
        named = rw (e, S.variables, S.running.variables) (variables_named s wf p l i n);
        callee_there = rw e (callee_below s wf p l i n);
        actuals = rw (e, S.variables, S.running.variables) (actuals_there s wf p l i n);
      }

  -- the run from a state that stops there
  ends : (t : State m) → StandsFor m c words out r t → (x : Stop) (k : Ending) (n : ℕ) (out' : List ℕ) → ending_stop k ≡ x → out' ≡ out
      → EndedIs (told r k n) c.output out' (end_in x n t)
  ends (state (frame p i z vs) fs os input put) S x k n out' a b = ended a refl S.put_words S.procedure S.next (b ∙ S.output_is)

  -- a step that the definition is not stuck at
  module _ (words' out' : List ℕ) where
    module _ (n : ℕ) (t : State m) (s : StandsFor m c words out r t) where
      halted : (k : Halt) (q : Res (Next m)) → (q ≡ stuck → ⊥) → After m c words' out out' r t (Err k) q
          → IsOver (next_moment n t q) × EndedIs (told r (E.Halted k) n) c.output out' (end_of (next_moment n t q))
      unfolding next_moment
      halted k (ok x) free h = absurd h
      halted k (stop x) free h = (tt, ends t s x (E.Halted k) n out' h.halts h.output_kept)
      halted k stuck free h = absurd (free refl)

      finishes : (q : Res (Next m)) → (q ≡ stuck → ⊥) → After m c words' out out' r t (Ok N.Done) q
          → IsOver (next_moment n t q) × EndedIs (told r E.Done (n + 1)) c.output out' (end_of (next_moment n t q))
      unfolding next_moment
      finishes (ok (go u)) free h = absurd h
      finishes (ok finished) free h = (tt, rw add-one (ends t s done E.Done (suc n) out' refl h))
      finishes (stop x) free h = absurd h
      finishes stuck free h = absurd (free refl)

    -- one that goes on gives the next state, in the same frame or in another
    went : (b : State m) (q : Registers) (p : Res (Next m)) → (p ≡ stuck → ⊥) → After m c words' out out' r b (Ok (N.Go q)) p
        → (q ≡ at_next r q.next) × ((t : State m) × ((running_set t ≡ running_set b) × ((p ≡ ok (go t)) × StandsFor m c words' out' q t)))
    went b q (ok (go t)) free h = (h.0, (t, (h.1.0, (refl, h.1.1))))
    went b q (ok finished) free h = absurd h
    went b q (stop x) free h = absurd h
    went b q stuck free h = absurd (free refl)

    entered : (b : State m) (q : Registers) (p : Res (Next m)) → (p ≡ stuck → ⊥) → After m c words' out out' r b (Ok (N.Enter q)) p
        → (t : State m) × ((p ≡ ok (go t)) × StandsFor m c words' out' q t)
    entered b q (ok (go t)) free h = (t, (refl, h))
    entered b q (ok finished) free h = absurd h
    entered b q (stop x) free h = absurd h
    entered b q stuck free h = absurd (free refl)

-- a run that stands at a state after n steps, and has fuel for one more
module _ (m : Mode) (g : Program) (memory output : ℕ) (input : List ℕ) (fuel n : ℕ) (t : State m) (at : trace m g memory output input n ≡ running n t) (h : n < fuel) where
  settles : trace m g memory output input (suc n) ≡ next_moment n t (step g memory output t)
  unfolding trace advance
  settles = rw at

  one_more : (u : State m) → step g memory output t ≡ ok (go u) → trace m g memory output input (n + 1) ≡ running (n + 1) u
  unfolding next_moment
  one_more u e = rw add-one (settles ∙ rw e)

  ends_there : IsOver (next_moment n t (step g memory output t)) → run m g memory output input fuel ≡ end_of (next_moment n t (step g memory output t))
  ends_there o = over_run m g memory output input (suc n) fuel _ settles o (omega arith)

  one_stuck : step g memory output t ≡ stuck → run m g memory output input fuel ≡ stuck_in n t
  unfolding next_moment
  one_stuck e = rw e at (ends_there (rw e tt))

not_stuck_in : (m : Mode) (n : ℕ) (t : State m) (x : End) → NeverStuck x → x ≡ stuck_in n t → ⊥
not_stuck_in m n (state (frame p i z vs) fs os input put) x free e = free n put p i e

-- ---- one turn

-- "17 before main opens gives 0, 0"
pub no_room : (m : Mode) (c : Given) (memory fuel : ℕ) → memory < variables_field c.sheet (procedure_at c.sheet 0) + 2
    → whole_run m c memory fuel ≡ stopped memory_full 0 [] 0 0
unfolding trace start
no_room m c memory fuel h =
    over_run m (program_of c.sheet) memory (length c.output) c.input 0 fuel (over (stopped memory_full 0 [] 0 0) (snapshot [] []))
    (rw (lt-leb _ _ h)) tt (omega arith)

pub starts : (m : Mode) (c : Given) (memory : ℕ) (words : List ℕ) (r : Registers) (fuel : ℕ) → verdict (form_tests c.sheet) ≡ Accepted
    → variables_field c.sheet (procedure_at c.sheet 0) + 2 ≤ memory → length words ≡ memory → r.steps ≡ 0
    → StandsFor m c words c.output r (opened m (program_of c.sheet) memory (length c.output) c.input)
    → NeverStuck (run m (program_of c.sheet) memory (length c.output) c.input fuel)
    → Going m c memory fuel words c.output r
unfolding trace start
starts m c memory words r fuel wf room long none S free =
    record {
      now = opened m (program_of c.sheet) memory (length c.output) c.input;
      stands = S;
      inside = opened_inside m (program_of c.sheet) (formed c.sheet wf) memory (length c.output) c.input;
      long = long;
      put_long = refl;
      reached = rw (none, le-leb _ _ room);
      paid = omega arith;
      free = free;
    }

spent : (m : Mode) (c : Given) (memory fuel : ℕ) (words out : List ℕ) (r : Registers) → Going m c memory fuel words out r → r.steps ≡ fuel
    → EndedIs (told r E.FuelSpent r.steps) c.output out (whole_run m c memory fuel)
unfolding run
spent m c memory fuel words out r G e = rw (← e, G.reached) (ends m c words out r G.now G.stands fuel_spent E.FuelSpent r.steps out refl refl)

-- every run that stood there stands here
abbrev pub Kept : (m : Mode) → (s input : List ℕ) → (until memory : ℕ) → (words out : List ℕ) → Registers → (words' out' : List ℕ) → Registers → Type 0
Kept m s input until memory words out start words' out' r =
    (d : RunOf s input until) → Going m d.given memory d.fuel words out start → Going m d.given memory d.fuel words' out' r

pub begun_kept : {m : Mode} {s input : List ℕ} {until : ℕ} {words out words' out' : List ℕ} {start r : Registers}
    → Kept m s input until (length words) words out start words' out' r → (B : Begun m s input until words out start)
    → Going m B.some_run.given (length words) B.some_run.fuel words' out' r
begun_kept K B = K B.some_run B.going

-- the registers as the loop keeps them: the next instruction and the steps are the step's, the rest is `start`'s
abbrev pub kept_with : (start q : Registers) → Registers
kept_with start q =
    record {
      procedure = start.procedure;
      next = q.next;
      base = start.base;
      used = start.used;
      taken = start.taken;
      put = start.put;
      steps = q.steps;
    }

pub same_code : (s : List ℕ) (start r : Registers) (code : List ℕ) → r ≡ kept_with start r → CodeOf s start code → CodeOf s r code
same_code s start r code e part = part ∙ ap (λ (x : Registers). drop (first_in x) s) (sym e)

same_frame : (start r p : Registers) → r ≡ kept_with start r → p ≡ at_next r p.next → counted r p ≡ kept_with start (counted r p)
same_frame start r p e f = ap (counted r) f ∙ ap (λ (x : Registers). counted r (at_next x p.next)) e

module _ (m : Mode) (s input : List ℕ) (formed_s : verdict (form_tests s) ≡ Accepted) (until : ℕ) (d : RunOf s input until)
    (memory : ℕ) (words out : List ℕ) (r : Registers) (G : Going m d.given memory d.fuel words out r) (h : r.steps < until) where
  abbrev c : Given
  c = d.given

  well : verdict (form_tests c.sheet) ≡ Accepted
  well = rw d.same_sheet formed_s

  paid_for : r.steps < d.fuel
  paid_for = omega (arith, d.enough)

  pub ready : until < 2 ^ 64 → (code : List ℕ) → CodeOf s r code → Steppable s code words r
  ready f code part =
      record {
        part = part;
        sane = sane m c words out r G.now G.stands;
        fetchable = subst (λ (z : List ℕ). Fetchable z r) d.same_sheet (fetchable m c words out r well G.now G.stands G.inside);
        countable = omega (arith, h, f);
      }

  module _ (words' out' : List ℕ) (o : Stepped) (did : TurnIs m s input words words' out out' r o) where
    taken : After m c words' out out' r G.now did.stepped (step (program_of c.sheet) memory (length c.output) G.now)
    taken =
        rw (← G.long, ← G.put_long, ← same_step m c words out r G.now G.stands)
        (subst
        (λ (z : List ℕ). After m c words' out out' r G.now did.stepped (performed z G.now (plan m (program_of z) (view (length words) (length out) G.now) (operation_at z (place_in r)))))
        (sym d.same_sheet) (did.performs c G.now d.same_sheet d.same_input G.stands))

    never : step (program_of c.sheet) memory (length c.output) G.now ≡ stuck → ⊥
    never e =
        not_stuck_in m r.steps G.now (whole_run m c memory d.fuel) G.free
        (one_stuck m (program_of c.sheet) memory (length c.output) c.input d.fuel r.steps G.now G.reached paid_for e)

    ended_as : (e : Ended)
        → IsOver (next_moment r.steps G.now (step (program_of c.sheet) memory (length c.output) G.now))
        × EndedIs e c.output out' (end_of (next_moment r.steps G.now (step (program_of c.sheet) memory (length c.output) G.now)))
        → EndedIs e c.output out' (whole_run m c memory d.fuel)
    ended_as e a =
        rw (ends_there m (program_of c.sheet) memory (length c.output) c.input d.fuel r.steps G.now G.reached paid_for a.0) a.1

    pub halts : (k : Halt) → o ≡ Err k → EndedIs (told r (E.Halted k) r.steps) c.output out' (whole_run m c memory d.fuel)
    halts k e =
        let is = turned_halt r did.stepped k (sym did.counts ∙ e) in
        ended_as _ (halted m c words out r words' out' r.steps G.now G.stands k _ never (rw is at taken))

    pub completes : o ≡ Ok N.Done → EndedIs (told r E.Done (r.steps + 1)) c.output out' (whole_run m c memory d.fuel)
    completes e =
        let is = turned_done r did.stepped (sym did.counts ∙ e) in
        ended_as _ (finishes m c words out r words' out' r.steps G.now G.stands _ never (rw is at taken))

    module _ (lw : length words' ≡ length words) (lo : length out' ≡ length out) where
      reaches : (q : Registers) → (t : State m) × ((step (program_of c.sheet) memory (length c.output) G.now ≡ ok (go t)) × StandsFor m c words' out' q t)
          → Going m c memory d.fuel words' out' (counted r q)
      reaches q a =
          record {
            now = a.0;
            stands = counted_stands m c words' out' r q a.0 a.1.1;
            inside = yielded (rw a.1.0 at (step_inside m (program_of c.sheet) (formed c.sheet well) memory (length c.output) G.now G.inside));
            long = lw ∙ G.long;
            put_long = lo ∙ G.put_long;
            reached = one_more m (program_of c.sheet) memory (length c.output) c.input d.fuel r.steps G.now G.reached paid_for a.0 a.1.0;
            paid = omega (arith, paid_for);
            free = G.free;
          }

      -- in the frame that was entered with the registers `start`, whose set stays
      abbrev SameFrame : Registers → Type 0
      SameFrame q = (N : Going m c memory d.fuel words' out' q) × (running_set N.now ≡ running_set G.now)

      pub goes_on : (start q : Registers) → r ≡ kept_with start r → o ≡ Ok (N.Go q) → (q.steps ≡ r.steps + 1) × SameFrame (kept_with start q)
      unfolding reaches
      goes_on start q e is =
          let b = turned_go r did.stepped q (sym did.counts ∙ is) in
          let a = went m c words out r words' out' G.now b.0 (step (program_of c.sheet) memory (length c.output) G.now) never (rw b.1.0 at taken) in
          subst (λ (x : Registers). (x.steps ≡ r.steps + 1) × SameFrame (kept_with start x)) b.1.1
          (refl, subst SameFrame (same_frame start r b.0 e a.0) (reaches b.0 (a.1.0, a.1.1.1), a.1.1.0))

      pub enters : (q : Registers) → o ≡ Ok (N.Enter q) → (q.steps ≡ r.steps + 1) × Going m c memory d.fuel words' out' q
      enters q is =
          let b = turned_enter r did.stepped q (sym did.counts ∙ is) in
          subst (λ (x : Registers). (x.steps ≡ r.steps + 1) × Going m c memory d.fuel words' out' x) b.1.1
          (refl, reaches b.0 (entered m c words out r words' out' G.now b.0 _ never (rw b.1.0 at taken)))

-- the same of every run that came to the frame's start
module _ {m : Mode} {s input : List ℕ} (formed_s : verdict (form_tests s) ≡ Accepted) {until : ℕ} {words₀ out₀ words out : List ℕ} {start r : Registers}
    (K : Kept m s input until (length words₀) words₀ out₀ start words out r) (B : Begun m s input until words₀ out₀ start) (h : r.steps < until)
    {words' out' : List ℕ} {o : Stepped} (did : TurnIs m s input words words' out out' r o) (lw : length words' ≡ length words) (lo : length out' ≡ length out) where
  pub keeps_on : (q : Registers) → r ≡ kept_with start r → o ≡ Ok (N.Go q)
      → (q.steps ≡ r.steps + 1) × Kept m s input until (length words₀) words₀ out₀ start words' out' (kept_with start q)
  keeps_on q e is = (
    (goes_on m s input formed_s until B.some_run (length words₀) words out r (begun_kept K B) h words' out' o did lw lo start q e is).0,
    λ d G. (goes_on m s input formed_s until d (length words₀) words out r (K d G) h words' out' o did lw lo start q e is).1.0,
  )

-- ---- one frame

pub begins_frame : {m : Mode} {c : Given} {memory fuel : ℕ} {words out : List ℕ} {r : Registers} → Going m c memory fuel words out r
    → Going m c (length words) fuel words out r
begins_frame {m = m} {c = c} {fuel = fuel} {words = words} {out = out} {r = r} G = subst (λ (k : ℕ). Going m c k fuel words out r) (sym G.long) G

-- registers that every run came to are where the run of a frame begins
pub begins : {m : Mode} {s input : List ℕ} {until : ℕ} {words₀ out₀ words out : List ℕ} {start r : Registers}
    → Kept m s input until (length words₀) words₀ out₀ start words out r → Begun m s input until words₀ out₀ start → r.steps ≤ until → Begun m s input until words out r
begins K B h = record { some_run = B.some_run; going = begins_frame (begun_kept K B); soon = h }

-- what it comes to, in a memory that is as long as it was before
module _ {m : Mode} {s input : List ℕ} {until : ℕ} {words₀ out₀ words out : List ℕ} {start r : Registers}
    (K : Kept m s input until (length words₀) words₀ out₀ start words out r) (words' out' : List ℕ) (p : Paused) (runs : FrameRuns m s input until words words' out out' r p) where
  comes : (d : RunOf s input until) → Going m d.given (length words₀) d.fuel words₀ out₀ start
      → PausedIs m d.given (length words₀) d.fuel r.steps until words' out' p
  comes d G =
      let N = K d G in
      subst (λ (z : ℕ). PausedIs m d.given z d.fuel r.steps until words' out' p) N.long (runs d (begins_frame N))

  pub enters_frame : (q : Registers) → p ≡ P.Enter q → Begun m s input until words₀ out₀ start
      → (r.steps < q.steps) × ((q.steps ≤ until) × Kept m s input until (length words₀) words₀ out₀ start words' out' q)
  enters_frame q is B =
      let a : (d : RunOf s input until) → Going m d.given (length words₀) d.fuel words₀ out₀ start → PausedIs m d.given (length words₀) d.fuel r.steps until words' out' (P.Enter q) = λ d G. rw is at (comes d G) in
      ((a B.some_run B.going).0, ((a B.some_run B.going).1.0, λ d G. (a d G).1.1))

  pub rests : (q : Registers) → p ≡ P.Rest q → RunsUntil m s input until words₀ words' out₀ out' start (H.Rest q)
  rests q is d G = rw is at (comes d G)

  pub ends_run : (e : Ended) → p ≡ P.End e → RunsUntil m s input until words₀ words' out₀ out' start (H.End e)
  ends_run e is d G = rw is at (comes d G)

-- ---- a run with all its fuel

abbrev all_of : (c : Given) (fuel : ℕ) → RunOf c.sheet c.input fuel
all_of c fuel = record { given = c; same_sheet = refl; same_input = refl; fuel = fuel; enough = omega arith }

module _ {m : Mode} {c : Given} {fuel : ℕ} {words : List ℕ} {r : Registers} (G : Going m c (length words) fuel words c.output r) where
  pub begun : Begun m c.sheet c.input fuel words c.output r
  begun = record { some_run = all_of c fuel; going = G; soon = G.paid }

  module _ (words' out' : List ℕ) (h : Halted) (runs : RunsUntil m c.sheet c.input fuel words words' c.output out' r h) where
    pub rested : (q : Registers) → h ≡ H.Rest q → EndedIs (told q E.FuelSpent q.steps) c.output out' (whole_run m c (length words) fuel)
    rested q is =
        let a : HaltedIs m c (length words) fuel fuel words' out' (H.Rest q) = rw is at (runs (all_of c fuel) G) in
        spent m c (length words) fuel words' out' q a.1 a.0

    pub stopped_run : (e : Ended) → h ≡ H.End e → EndedIs e c.output out' (whole_run m c (length words) fuel)
    stopped_run e is = rw is at (runs (all_of c fuel) G)
