-- What a return hands over, and how the frame that waits takes it.
use Prim.Native.Nat.{ℕ, ◌+◌, ◌<◌}
use native.Mathlib.Omega.{arith}
use mathlib.Core.Path.{◌≡◌, refl, sym, ap, ◌∙◌}
use mathlib.Core.Bool.{true, false}
use mathlib.Core.List.{List, [], ◌∷◌}
use mathlib.Core.Option.{Option, none, some}
use lib.Dec.{eqb}
use lib.ListN.{length}
use Rattle.std.specs.Prelude.{Option as Maybe, Some, None, Result, Ok, Err}
use Rattle.model.specs.declared.Halt.{Halt}
use Rattle.model.specs.declared.Halt.TheVariants.{WrongKind}
use Rattle.model.specs.Rights.{Rights}
use Rattle.model.specs.Qualified.{Qual}
use Rattle.model.specs.Rules.{optional}
use Rattle.model.specs.Outcome.{Res, ok, stop, stuck, ensure, ◌>>=◌, ◌>>◌}
use Rattle.model.specs.Program.{Program}
use Rattle.model.specs.Modes.{watched, demand, amiss}
use Rattle.model.specs.Machine as M
use Rattle.model.specs.Machine.{Cell, frame, State, state, View, view, moved, handed, to_caller, plan, plan_return}
use Rattle.model.specs.declared.Operation.TheVariants.{Return}
use Rattle.sheet.specs.Layout.{result_at, procedure_at}
use Rattle.sheet.specs.Meaning.{qual_of, program_of, result_in}
use Rattle.index.specs.Scope.{inner_as}
use Rattle.index.specs.declared.procedures.Scope.{Scope}
use Rattle.index.proofs.Reading.{inner_read}
use Rattle.words.specs.Word.{slot_in, as_cell}
use Rattle.words.specs.Answers.{halted, IsCell}
use Rattle.binding.specs.Binds.{FrameScope, moved_cell, handed_cell, BindsWord}
use Rattle.writers.specs.declared.Registers.{Registers}
use Rattle.writers.specs.declared.Next.TheVariants.{Enter}
use Rattle.writers.specs.Steps.{Stepped}
use Rattle.writers.specs.Memory.{Given, number_in, variables_in, object_part, StandsFor}
use Rattle.writers.proofs.Effects.{halted_then}
use Rattle.writers.proofs.View.{alone}
use Rattle.frames.specs.Performs.{Performs, Returns}
use Rattle.frames.specs.Frames.{Waits, KeptIn, SetIn, Keeps}
use Rattle.frames.proofs.Performs.{sees}
use Rattle.frames.proofs.Kept.{optional_none, optional_some}
use Rattle.frames.proofs.Returning.{planned_as, caller_binds, caller_lacks, resumed}
use Rattle.watched_calls.specs.Calls.{ScopeHere, hands, handed_as, HandsOver}
use Rattle.watched_calls.proofs.Laws.{stopped_as, in_scope}

-- ---- what is handed over

module _ (s : List ℕ) (v : View watched) (pr a : ℕ) (at : procedure_at s v.procedure ≡ pr) {t : ℕ} (result : t ≡ result_at s pr) where
  result_none : eqb t 255 ≡ true → (program_of s).result v.procedure ≡ none
  unfolding result_in
  result_none e = rw (at, ← result, e)

  result_some : eqb t 255 ≡ false → (program_of s).result v.procedure ≡ some (qual_of s t)
  unfolding result_in
  result_some e = rw (at, ← result, e)

  pub hands_nothing : a ≡ 255 → eqb t 255 ≡ true → handed_as (qual_of s) (Ok None) ≡ hands (program_of s) v a
  unfolding hands handed_as handed demand ensure ◌>>◌
  hands_nothing e n = rw (optional_none a e, result_none n)

  pub hands_too_little : a ≡ 255 → eqb t 255 ≡ false → handed_as (qual_of s) (Err WrongKind) ≡ hands (program_of s) v a
  unfolding hands handed_as handed_cell handed demand ensure halted amiss ◌>>◌
  hands_too_little e n = rw (optional_none a e, result_some n)

  module _ (there : a ≡ 255 → ⊥) where
    pub hands_too_much : eqb t 255 ≡ true → handed_as (qual_of s) (Err WrongKind) ≡ hands (program_of s) v a
    unfolding hands handed_as handed_cell demand ensure halted amiss ◌>>◌
    hands_too_much n = rw (optional_some a there, result_none n)

    module _ (n : eqb t 255 ≡ false) (m : Result ℕ Halt) (is : handed_cell (qual_of s) m ≡ handed watched (program_of s) v (some a)) where
      hands_value : handed_cell (qual_of s) m ≡ hands (program_of s) v a
      unfolding hands demand ensure ◌>>◌
      hands_value = rw (optional_some a there, result_some n) is

      pub hands_word : {w : ℕ} → m ≡ Ok w → handed_as (qual_of s) (Ok (Some w)) ≡ hands (program_of s) v a
      unfolding handed_as
      hands_word e = rw e at hands_value

      pub hands_halt : {k : Halt} → m ≡ Err k → handed_as (qual_of s) (Err k) ≡ hands (program_of s) v a
      unfolding handed_as
      hands_halt e = rw e at hands_value

-- ---- the frame that waits

module _ (s words : List ℕ) (r : Registers) (a : ℕ) (above : r.base + (variables_in r + 2) < length words) (K : KeptIn watched words r a)
    (n : a ≡ 255 → ⊥) where
  pub returns_lacking : (out : List ℕ) → Returns watched s words words out r (Err WrongKind) none
  unfolding halted
  returns_lacking out c t same S = stopped_as c words out s r t S WrongKind _ (caller_lacks watched s words r a above K n out c t same S)

  module _ (b : Registers) (W : Waits watched words r b) (set : Rights) (sets : SetIn watched words b set) {p : Scope} (here : ScopeHere s words b p) where
    -- the scope in which it reads its types
    back_scope : (c : Given) (out : List ℕ) (t : State watched) → c.sheet ≡ s → StandsFor watched c words out r t → FrameScope s (number_in b) set p
    back_scope c out (state (frame k i z vs) [] os input put) same S = let l = alone S in absurd (omega arith)
    back_scope c out (state (frame k i z vs) (frame q j y us ∷ gs) os input put) same S =
        let B = W c k i q j z y vs us gs os input put out S in
        rw (B.procedure, sets c q j y us gs os input put out B) (here c q j y us gs os input put out same B)

    module _ (w : ℕ) (is_cell : IsCell w) (m : Result ℕ Halt) (is : BindsWord (qual_of s) (object_part r words) (inner_as s p a) w m) where
      -- the value, bound to the variable that is kept
      bound_kept : (out : List ℕ) (c : Given) (t : State watched) → c.sheet ≡ s → StandsFor watched c words out r t
          → to_caller watched (program_of s) (view (length words) (length out) t) (view (length words) (length out) t).caller (some (as_cell (slot_in watched (qual_of s) w)))
          ≡ (moved_cell (qual_of s) m >>= λ d. ok (M.resume (some (a, d))))
      bound_kept out c t same S =
          let v = view (length words) (length out) t in
          let value = as_cell (slot_in watched (qual_of s) w) in
          caller_binds watched s words r a above K b W n set sets value out c t same S
          ∙ ap (λ (x : Res (Cell watched)). x >>= λ d. ok (M.resume (some (a, d))))
          (sym (is.moves (program_of s) v value (sees watched c s words out r t same S).head (is_cell watched (qual_of s))
          ∙ ap (λ (q : Qual). moved watched (program_of s) v q value) (inner_read (back_scope c out t same S) a)))

      pub returns_refused : {k : Halt} → m ≡ Err k → (out : List ℕ)
          → Returns watched s words words out r (Err k) (some (as_cell (slot_in watched (qual_of s) w)))
      unfolding moved_cell
      returns_refused {k} e out c t same S =
          stopped_as c words out s r t S k _ (bound_kept out c t same S ∙ rw (e, halted_then watched k))

      pub returns_kept : {x : ℕ} → m ≡ Ok x → (words' : List ℕ) → Keeps watched words words' b a x → (out : List ℕ)
          → Returns watched s words words' out r (Ok (Enter b)) (some (as_cell (slot_in watched (qual_of s) w)))
      unfolding moved_cell ◌>>=◌
      returns_kept {x} e words' kept out c t same S =
          let d = as_cell (slot_in watched (qual_of s) x) in
          let x-cell : IsCell x = rw e at is.fine in
          planned_as c words' out s r t (Ok (Enter b)) _ (ok (M.resume (some (a, d)))) (bound_kept out c t same S ∙ rw e)
          (resumed watched s words r a above K b W n x words' kept d out c t same S (rw same (x-cell watched (qual_of s))))

-- ---- the return

tested_both : {A B : Type 0} (d : Res (Unit {0})) (h : Res A) (f : A → Res B) → (d >> (h >>= f)) ≡ ((d >> h) >>= f)
unfolding ◌>>=◌ ◌>>◌
tested_both (ok u) h f = refl
tested_both (stop x) h f = refl
tested_both stuck h f = refl

returned : (g : Program) (v : View watched) (a : ℕ) → plan watched g v (Return a) ≡ (hands g v a >>= λ c. to_caller watched g v v.caller c)
unfolding plan plan_return hands
returned g v a = tested_both _ (handed watched g v (optional a)) (λ c. to_caller watched g v v.caller c)

module _ (s words words' : List ℕ) (r : Registers) (a : ℕ) {p : Scope} (here : ScopeHere s words r p) (h : Result (Maybe ℕ) Halt) (is : HandsOver s words r p a h) where
  return_is : (c : Given) (out : List ℕ) (t : State watched) → c.sheet ≡ s → StandsFor watched c words out r t
      → plan watched (program_of s) (view (length words) (length out) t) (Return a)
      ≡ (handed_as (qual_of s) h >>= λ d. to_caller watched (program_of s) (view (length words) (length out) t) (view (length words) (length out) t).caller d)
  return_is c out t same S =
      let v = view (length words) (length out) t in
      returned (program_of s) v a
      ∙ ap (λ (x : Res (Option (Cell watched))). x >>= λ d. to_caller watched (program_of s) v v.caller d)
      (sym (is.1 v (in_scope here c out t same S) (sees watched c s words out r t same S)))

  pub gives_nothing : (o : Stepped) → h ≡ Ok None → ((out : List ℕ) → Returns watched s words words' out r o none)
      → (input out : List ℕ) → Performs watched s input words words' out out r o (Return a)
  unfolding handed_as ◌>>=◌
  gives_nothing o e back input out c t same i S =
      let v = view (length words) (length out) t in
      planned_as c words' out s r t o _ (to_caller watched (program_of s) v v.caller none) (return_is c out t same S ∙ rw e) (back out c t same S)

  pub gives_word : (o : Stepped) {w : ℕ} → h ≡ Ok (Some w) → ((out : List ℕ) → Returns watched s words words' out r o (some (as_cell (slot_in watched (qual_of s) w))))
      → (input out : List ℕ) → Performs watched s input words words' out out r o (Return a)
  unfolding handed_as handed_cell ◌>>=◌
  gives_word o {w} e back input out c t same i S =
      let v = view (length words) (length out) t in
      planned_as c words' out s r t o _ (to_caller watched (program_of s) v v.caller (some (as_cell (slot_in watched (qual_of s) w)))) (return_is c out t same S ∙ rw e) (back out c t same S)

  pub gives_halt : {k : Halt} → h ≡ Err k → (input out : List ℕ) → Performs watched s input words words out out r (Err k) (Return a)
  unfolding handed_as handed_cell
  gives_halt {k} e input out c t same i S =
      stopped_as c words out s r t S k _ (return_is c out t same S ∙ rw (e, halted_then watched k))
