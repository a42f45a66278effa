-- The scope of a frame is the same as long as the frame runs on: its procedure and its set are.
use Prim.Native.Nat.{ℕ, ◌+◌, ◌<◌}
use mathlib.Core.Path.{◌≡◌, refl, sym, ap, ◌∙◌}
use mathlib.Core.List.{List}
use lib.ListN.{length, get_or}
use Rattle.std.specs.Prelude.{Ok}
use Rattle.model.specs.Refusal.{Accepted, verdict}
use Rattle.form.specs.WellFormed.{form_tests}
use Rattle.model.specs.Modes.{Mode, plain, watched}
use Rattle.model.specs.Machine.{frame, State, state}
use Rattle.index.specs.declared.procedures.Scope.{Scope}
use Rattle.words.specs.Word.{low, number_of}
use Rattle.writers.specs.declared.Registers.{Registers}
use Rattle.writers.specs.declared.Next.TheVariants as N
use Rattle.writers.specs.Memory.{Given, variables_in, StandsFor}
use Rattle.writers.specs.Steps.{Stepped, running_set}
use Rattle.frames.specs.Frames.{SetIn}
use Rattle.frames.proofs.Returning.{sets_in}
use Rattle.watched_calls.specs.Calls.{ScopeHere}
use Rattle.lent_step.specs.Counts.{TurnIs}
use Rattle.run_by_frames.specs.Turn.{ScopeFor, Begun}
use Rattle.run_by_frames.proofs.Turn.{Kept, begun_kept, kept_with, goes_on}

-- the words tell the set of the running frame, so that one state of a run speaks for all that they stand for
scope_kept : {s words words' : List ℕ} {r q : Registers} {p : Scope} (c : Given) (out out' : List ℕ) (t u : State watched) → c.sheet ≡ s
    → StandsFor watched c words out r t → StandsFor watched c words' out' q u → running_set u ≡ running_set t → q.procedure ≡ r.procedure
    → ScopeHere s words r p → ScopeHere s words' q p
scope_kept {s} {words} {words'} {r} {q} {p} c out out' (state (frame k₀ i₀ z₀ vs₀) fs₀ os₀ in₀ put₀) (state (frame k₁ i₁ z₁ vs₁) fs₁ os₁ in₁ put₁)
    of T U stays named here c' k i z vs fs os input put out'' of' W =
    let before = here c k₀ i₀ z₀ vs₀ fs₀ os₀ in₀ put₀ out of T in
    let sets : SetIn watched words' q (low (get_or words' (q.base + variables_in q) 0)) = sets_in words' q _ _ _ refl refl refl in
    let same_set : z ≡ z₀ = sym (sets c' k i z vs fs os input put out'' W) ∙ sets c k₁ i₁ z₁ vs₁ fs₁ os₁ in₁ put₁ out' U ∙ stays in
    let same_procedure : k ≡ k₀ = sym W.procedure ∙ ap number_of named ∙ T.procedure in
    rw (same_set, same_procedure) before

-- one turn of the frame that was entered with the registers `start`
pub scope_stays : (m : Mode) (p : Scope) {s input : List ℕ} (formed : verdict (form_tests s) ≡ Accepted) {until : ℕ} {words₀ out₀ words out : List ℕ} {start r : Registers}
    (K : Kept m s input until (length words₀) words₀ out₀ start words out r) (B : Begun m s input until words₀ out₀ start) (h : r.steps < until)
    {words' out' : List ℕ} {o : Stepped} (did : TurnIs m s input words words' out out' r o)
    → length words' ≡ length words → length out' ≡ length out → (q : Registers) → r ≡ kept_with start r → o ≡ Ok (N.Go q)
    → ScopeFor m s words r p → ScopeFor m s words' (kept_with start q) p
scope_stays plain p formed K B h did lw lo q e is here = tt
scope_stays watched p {s} {input} formed {until} {words₀} {out₀} {words} {out} {start} {r} K B h {words'} {out'} {o} did lw lo q e is here =
    let G = begun_kept K B in
    let N = (goes_on watched s input formed until B.some_run (length words₀) words out r G h words' out' o did lw lo start q e is).1 in
    scope_kept B.some_run.given out out' G.now N.0.now B.some_run.same_sheet G.stands N.0.stands N.1
    (sym (ap (λ (x : Registers). x.procedure) e)) here
