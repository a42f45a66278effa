-- What the definition's call comes to in the plain machine, and what the code makes of it.
use Prim.Native.Nat.{ℕ, zero, suc, ◌+◌, ◌-◌, ◌≤◌, ◌<◌}
use native.Mathlib.Omega.{arith}
use mathlib.Core.Path.{◌≡◌, refl, sym, ap, ◌∙◌}
use mathlib.Core.Bool.{Bool, true, false}
use mathlib.Core.List.{List, [], ◌∷◌, map}
use Rattle.std.proofs.Common.{Ok, Err}
use mathlib.Core.Logic.{⊎_elim}
use borrow.Author.Tests.{le-leb, lt-leb, eqb-true, eqb-false}
use lib.Dec.{eqb}
use lib.ListN.{length, get_or, take, drop}
use lib.Seq.{drop-cons, get_or-take, get_or-drop}
use Rattle.model.specs.declared.Halt.{Halt}
use Rattle.model.specs.declared.Halt.TheVariants.{Blank, MemoryFull}
use Rattle.model.specs.Outcome.{stop_of, blank, memory_full, Res, ok, stop, ensure, ◌>>=◌, ◌>>◌}
use Rattle.model.specs.Program.{Program}
use Rattle.model.specs.Modes.{plain, SettledSet, settle_set, bind, raise, demand}
use Rattle.model.specs.Machine as M
use Rattle.model.specs.Machine.{Value, Cell, empty, filled, Object, Frame, frame, State, state, Effect, View, view, apply, held, moved, settle_call, actual, actuals, plan, plan_call}
use Rattle.model.specs.declared.Operation.TheVariants.{Call}
use Rattle.sheet.specs.Layout.{procedures_of, formals_at, variables_field, procedure_at}
use Rattle.sheet.specs.Decode.{operation_at}
use Rattle.sheet.specs.Meaning.{program_of, qual_of}
use Rattle.words.specs.Word.{low, payload, cell, slot_in, variables_of}
use Rattle.index.specs.Indexed.{ProcedureWord}
use Rattle.words.proofs.Laws.{blank_word, filled_word}
use Rattle.writers.specs.declared.Registers.{Registers}
use Rattle.writers.specs.declared.Next.TheVariants.{Enter}
use Rattle.writers.specs.Memory.{Given, slots, variables_in, frame_part, GapOnly, Stands, StandsFor}
use Rattle.writers.specs.Steps.{After}
use Rattle.writers.proofs.Effects.{stopped_after, gap_kept}
use Rattle.writers.proofs.View.{room_is, variable_is}
use Rattle.frames.specs.Performs.{performed, Performs}
use Rattle.frames.specs.Fetch.{place_in}
use Rattle.frames.specs.Frames.{copied, Copies, Opened}
use Rattle.frames.proofs.Kept.{kept_here}
use Rattle.frames.proofs.Copied.{length_copied, copied_before, copied_after, copied_there}
use Rattle.frames.proofs.Opening.{actual_slots}

-- ---- what the definition asks for

-- the n variables from number j on of those from b on
cells_from : (ℕ → Cell plain) → (b j n : ℕ) → List (Cell plain)
cells_from v b j zero = []
cells_from v b j (suc n) = v (b + j) ∷ cells_from v b (suc j) n

cells_there : (vs : List (Cell plain)) (b j n : ℕ) → n ≤ length vs - (b + j) → cells_from (λ x. get_or vs x empty) b j n ≡ take n (drop (b + j) vs)
unfolding cells_from
cells_there vs b j zero h = refl
cells_there vs b j (suc n) h =
    let e : suc (b + j) ≡ b + suc j = omega arith in
    rw (drop-cons vs (b + j) empty (omega arith), e) (ap (λ (l : List (Cell plain)). get_or vs (b + j) empty ∷ l) (cells_there vs b (suc j) n (omega arith)))

-- a cell that holds a value
abbrev Holds : Cell plain → Type 0
Holds c = (x : Value) × (c ≡ filled x tt)

module _ (g : Program) (v : View plain) (k b : ℕ) where
  actual_is : (j : ℕ) (x : Value) → v.variable (b + j) ≡ filled x tt → actual plain g v k b tt j ≡ ok (v.variable (b + j))
  unfolding actual moved held bind raise ◌>>=◌
  actual_is j x e = rw e

  actual_blank : (j : ℕ) → v.variable (b + j) ≡ empty → actual plain g v k b tt j ≡ stop blank
  unfolding actual moved held bind raise ◌>>=◌
  actual_blank j e = rw e

  actuals_filled : (j n : ℕ) → ((i : ℕ) → j ≤ i → i < j + n → Holds (v.variable (b + i))) → actuals plain g v k b tt j n ≡ ok (cells_from v.variable b j n)
  unfolding actuals cells_from ◌>>=◌
  actuals_filled j zero h = refl
  actuals_filled j (suc n) h =
      let x = h j (omega arith) (omega arith) in
      rw (actual_is j x.0 x.1, actuals_filled (suc j) n (λ i l m. h i (omega arith) (omega arith)))

  actuals_blank : (j n i : ℕ) → j ≤ i → i < j + n → v.variable (b + i) ≡ empty → actuals plain g v k b tt j n ≡ stop blank
  unfolding actuals ◌>>=◌
  actuals_blank j zero i l m e = absurd (omega arith)
  actuals_blank j (suc n) i l m e = go (v.variable (b + j)) refl (eqb i j) refl (λ d. actuals_blank (suc j) n i (omega arith) (omega arith) e)
    where
      go : (c : Cell plain) → v.variable (b + j) ≡ c → (t : Bool) → eqb i j ≡ t
          → ((i ≡ j → ⊥) → actuals plain g v k b tt (suc j) n ≡ stop blank)
          → actuals plain g v k b tt j (suc n) ≡ stop blank
      go empty q t h ih = rw (actual_blank j q)
      go (filled x r) q true h ih =
          let z : empty ≡ filled x r = sym (rw (eqb-true i j h) at e) ∙ q in
          absurd (let y : ◌≡◌ {A = ℕ} 0 1 = cc in omega arith)
      go (filled x r) q false h ih = rw (actual_is j x q, ih (eqb-false i j h))

  module _ (a : ℕ) where
    call_full : v.room < g.variables k + 2 → plan plain g v (Call a b k) ≡ stop memory_full
    unfolding plan plan_call demand settle_call settle_set ensure ◌>>=◌ ◌>>◌
    call_full h = rw (lt-leb (g.variables k + 2) v.room h)

    module _ (room : g.variables k + 2 ≤ v.room) where
      call_blank : (i : ℕ) → i < g.formals k → v.variable (b + i) ≡ empty → plan plain g v (Call a b k) ≡ stop blank
      unfolding plan plan_call demand settle_call settle_set ensure ◌>>=◌ ◌>>◌
      call_blank i h e = rw (le-leb (g.variables k + 2) v.room room, actuals_blank 0 (g.formals k) i (omega arith) (omega arith) e)

      call_opens : ((i : ℕ) → i < g.formals k → Holds (v.variable (b + i)))
          → plan plain g v (Call a b k) ≡ ok (M.call k tt (cells_from v.variable b 0 (g.formals k)))
      unfolding plan plan_call demand settle_call settle_set ensure ◌>>=◌ ◌>>◌
      call_opens h =
          rw (le-leb (g.variables k + 2) v.room room, actuals_filled 0 (g.formals k) (λ i l m. h i (omega arith)))

-- ---- what the code makes of it

-- a stop that was planned
stopped : (c : Given) (words out s : List ℕ) (r : Registers) (t : State plain) → StandsFor plain c words out r t → (k : Halt) (e : Res (Effect plain)) → e ≡ stop (stop_of k)
    → After plain c words out out r t (Err k) (performed s t e)
unfolding ◌>>=◌
stopped c words out s r t S k e is = rw is (stopped_after plain c words out r t S k)

-- the variables that are passed, if any, are the frame's
pub actuals_fit : (b f n : ℕ) → ((j : ℕ) → j < f → b + j < n) → f ≤ n - b
actuals_fit b zero n h = omega arith
actuals_fit b (suc f) n h = let m = h f (omega arith) in omega arith

module _ (s words : List ℕ) (r : Registers) (a b k v f : ℕ) (many : v ≡ variables_field s (procedure_at s k)) (formals : f ≡ formals_at s (procedure_at s k)) where
  pub call_without_room : r.base - r.used < v + 2
      → (input out : List ℕ) → Performs plain s input words words out out r (Err MemoryFull) (Call a b k)
  call_without_room h input out c t same from S =
      stopped c words out s r t S MemoryFull _ (call_full (program_of s) (view (length words) (length out) t) k b a (omega (arith, room_is plain c words out r t S)))

  module _ (room : v + 2 ≤ r.base - r.used) (few : f ≤ v) (fits : f ≤ variables_in r - b) where
    passed : (vs : List (Cell plain)) → variables_in r ≡ length vs → cells_from (λ x. get_or vs x empty) b 0 f ≡ take f (drop b vs)
    passed vs l =
        let n : b + 0 ≡ b = omega arith in
        cells_there vs b 0 f (omega arith) ∙ rw n

    -- the variables that are looked at, in the words that are copied
    looked_at : {c : Given} {out : List ℕ} {p i : ℕ} {z : SettledSet plain} {vs : List (Cell plain)} {fs : List (Frame plain)} {os : List (Object plain)} {input put : List ℕ}
        → Stands plain c words out r p i z vs fs os input put
        → (j : ℕ) → j < f → slot_in plain (qual_of c.sheet) (get_or words (r.base + b + j) 0) ≡ cell (get_or vs (b + j) empty)
    looked_at {c} S j h =
        let n : r.base + b + j ≡ r.base + (b + j) = omega arith in
        let word : get_or words (r.base + b + j) 0 ≡ get_or (frame_part r words) (b + j) 0 =
        ap (λ (x : ℕ). get_or words x 0) n
        ∙ sym (get_or-take (variables_in r) (drop r.base words) (b + j) 0 (omega arith) ∙ get_or-drop r.base words (b + j) 0) in
        ap (slot_in plain (qual_of c.sheet)) word ∙ variable_is S (b + j)

    -- n of them copied below the running frame, among words of which nothing is said
    copied_gap : {c : Given} {out : List ℕ} {p i : ℕ} {z : SettledSet plain} {vs : List (Cell plain)} {fs : List (Frame plain)} {os : List (Object plain)} {input put : List ℕ}
        → Stands plain c words out r p i z vs fs os input put
        → (words' : List ℕ) (n : ℕ) → n ≤ f → words' ≡ copied words (r.base + b) (r.base - (v + 2)) n → GapOnly words words' r
    copied_gap S words' n h copy =
        let at = r.base - (v + 2) in
        let src = r.base + b in
        let frame-fits = S.sane.frame in
        let below : at + n ≤ src = omega arith in
        let above : at + n ≤ length words = omega arith in
        let inside : n ≤ length words - src = omega arith in
        record {
          long = ap length copy ∙ length_copied words src at n below above inside;
          objects = ap (take r.used) copy ∙ copied_before words src at n below above inside r.used (omega arith);
          frames = ap (drop r.base) copy ∙ copied_after words src at n below above inside r.base (omega arith);
        }

    pub call_of_blank : (words' : List ℕ) (x : Halt) → Copies words words' (r.base + b) (r.base - (v + 2)) f (Err x)
        → (input out : List ℕ) → Performs plain s input words words' out out r (Err x) (Call a b k)
    call_of_blank words' x C input out c (state (frame p i z vs) fs os left put) same from' S =
        let t = state (frame p i z vs) fs os left put in
        let j = C.0 in
        rw C.4
        (stopped c words' out s r t (gap_kept S words' (copied_gap S words' j (omega (arith, C.1)) C.2)) Blank _
        (call_blank (program_of s) (view (length words) (length out) t) k b a (omega (arith, room_is plain c words out r t S)) j (rw formals at C.1)
        (blank_word plain (qual_of c.sheet) (get_or words (r.base + b + j) 0) (looked_at S j C.1) C.3)))

    module _ (words' : List ℕ) (C : Copies words words' (r.base + b) (r.base - (v + 2)) f (Ok tt)) where
      holds : {c : Given} {out : List ℕ} {p i : ℕ} {z : SettledSet plain} {vs : List (Cell plain)} {fs : List (Frame plain)} {os : List (Object plain)} {input put : List ℕ}
          → Stands plain c words out r p i z vs fs os input put → (j : ℕ) → j < f → Holds (get_or vs (b + j) empty)
      holds {c} S j h =
          let w = get_or words (r.base + b + j) 0 in
          ⊎_elim (λ e. (M.word (low w), e)) (λ e. (M.object (payload w), e)) (filled_word plain (qual_of c.sheet) w (looked_at S j h) (C.1 j h))

      pub call_goes : (words'' : List ℕ) (q : Registers) (w : ℕ) → Opened plain words' words'' r q a w 0 v f → operation_at s (place_in r) ≡ Call a b k
          → k < procedures_of s → ProcedureWord s k w → v ≡ variables_of w
          → (input out : List ℕ) → Performs plain s input words words'' out out r (Ok (Enter q)) (Call a b k)
      unfolding ◌>>=◌ apply
      call_goes words'' q w P here known of has input out c (state (frame p i z vs) fs os left put) same from' S =
          let t = state (frame p i z vs) fs os left put in
          let at = r.base - (v + 2) in
          let src = r.base + b in
          let copy = C.0 in
          let frame-fits = S.sane.frame in
          let below : at + f ≤ src = omega arith in
          let above : at + f ≤ length words = omega arith in
          let inside : f ≤ length words - src = omega arith in
          let there : slots plain c (take f (drop at words')) ≡ map cell (take f (drop b vs)) =
          ap (λ (l : List ℕ). slots plain c (take f (drop at l))) copy
          ∙ ap (slots plain c) (copied_there words src at f below above inside)
          ∙ actual_slots S b f fits in
          rw (
            call_opens (program_of s) (view (length words) (length out) t) k b a (omega (arith, room_is plain c words out r t S))
                (λ j h. holds S j (rw (← formals) at h)),
            ← formals,
            ← many,
            passed vs S.variables,
          )
          (P c k p i z vs (take f (drop b vs)) fs os left put out (gap_kept S words' (copied_gap S words' f (omega arith) copy)) (kept_here S a b k (rw same here)) (rw same known) (rw same of) has there)
