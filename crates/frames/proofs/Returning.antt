-- A frame that is given back: the one that waits runs on, in either machine; and what the plain machine hands over to it.
use Prim.Native.Nat.{ℕ, pred, ◌+◌, ◌-◌, ◌≤◌, ◌<◌}
use native.Mathlib.Omega.{arith}
use mathlib.Core.Path.{◌≡◌, refl, sym, ap, ◌∙◌}
use mathlib.Core.Bool.{Bool, true, false}
use mathlib.Core.List.{List, [], ◌∷◌, map}
use Rattle.std.proofs.Common.{Ok, Err}
use mathlib.Core.Logic.{◌⊎◌, ⊎_elim}
use mathlib.Core.Option.{Option, none, some}
use borrow.Author.Tests.{eqb-true, eqb-false}
use lib.Dec.{eqb}
use lib.ListN.{length, get_or, set, take, drop, length-set}
use lib.Seq.{set_out}
use Rattle.model.specs.declared.Halt.TheVariants.{Blank}
use Rattle.model.specs.Outcome.{blank, Res, ok, stop, stuck, ◌>>=◌, ◌>>◌}
use Rattle.model.specs.Qualified.{Qual}
use Rattle.model.specs.Program.{Program}
use Rattle.model.specs.Rules.{optional}
use Rattle.model.specs.Modes.{Mode, plain, watched, SettledSet, amiss, bind, bind_result, demand}
use Rattle.model.specs.Machine as M
use Rattle.model.specs.Machine.{Value, Cell, empty, filled, Object, Frame, frame, State, state, Effect, View, view, apply, kept, held, moved, plan, plan_return, handed, to_caller, into_caller, read_in, frame_units}
use Rattle.model.specs.declared.Operation.TheVariants.{Return}
use Rattle.sheet.specs.Layout.{bound_size, procedure_at, instruction_at}
use Rattle.sheet.specs.Decode.{operation_at}
use Rattle.sheet.specs.Meaning.{program_of, qual_of}
use Rattle.words.specs.Word.{low, back_kept, back_next, number_of, variables_of, bound_of, first_of, IsProcedure, cell, slot_in}
use Rattle.words.proofs.Laws.{blank_word, filled_word, back_word, procedure_told}
use Rattle.writers.specs.declared.Registers.{Registers}
use Rattle.writers.specs.declared.Next.TheVariants.{Enter, Done}
use Rattle.writers.specs.Memory.{Given, number_in, variables_in, Sound, AllSound, Stands, StandsFor, flat_frames}
use Rattle.writers.specs.Steps.{Stepped, After}
use Rattle.writers.proofs.Effects.{stopped_after, goes_on}
use Rattle.writers.proofs.View.{frames_are, view_sees, alone, alone_back, waiting_back, waiting_procedure, waiting_frame}
use Rattle.writers.proofs.Change.{set_before, set_frame, set_variable}
use Rattle.frames.specs.Performs.{performed, Performs, Returns}
use Rattle.frames.specs.Frames.{Waits, KeptIn, SetIn, Keeps}
use Rattle.frames.proofs.Kept.{optional_none, optional_some, optional_kept}

-- ---- the registers of the frame that waits

abbrev waiting_registers : Registers → (procedure next above : ℕ) → Registers
waiting_registers r w i above = record { procedure = w; next = i; base = above; used = r.used; taken = r.taken; put = r.put; steps = r.steps }

module _ {m : Mode} {c : Given} {words out : List ℕ} {r : Registers} {p i q k : ℕ} {z y : SettledSet m} {vs us : List (Cell m)} {gs : List (Frame m)} {os : List (Object m)}
    {input put : List ℕ} (S : Stands m c words out r p i z vs (frame q k y us ∷ gs) os input put) where
  back_fits : r.base + (variables_in r + 2) + (length us + 2) ≤ length words
  unfolding frame_units
  back_fits =
      let l : length words - r.base ≡ (length vs + 2) + ((length us + 2) + frame_units gs) = frames_are S in
      let v = S.variables in
      let f = S.sane.frame in
      omega arith

  back_sound : Sound c.sheet q us × AllSound c.sheet y gs
  unfolding AllSound
  back_sound = S.waiting

  stands_back : (w next above : ℕ) → IsProcedure w × (q ≡ number_of w) × (length us ≡ variables_of w) × (instruction_at c.sheet q 0 ≡ first_of w)
      × (bound_size c.sheet q (procedure_at c.sheet q) ≡ bound_of w)
      → next ≡ k → above ≡ r.base + (variables_in r + 2) → Stands m c words out (waiting_registers r w next above) q k y us gs os input put
  stands_back w next above told at-k at =
      let room = S.sane.room in
      let fits = back_fits in
      let many = told.2 in
      record {
        is_procedure = told.0;
        procedure = sym told.1;
        next = at-k;
        first = sym told.3;
        bound = sym told.4;
        variables = sym many;
        sane = record { room = omega arith; frame = omega arith; small = S.sane.small };
        running = back_sound.0;
        waiting = back_sound.1;
        objects = S.objects;
        frames = rw at (waiting_frame S);
        input_left = S.input_left;
        put_words = S.put_words;
        output_is = S.output_is;
        put_fits = S.put_fits;
      }

-- what the code reads of it
pub waits : (words : List ℕ) (r : Registers) (place w next end above : ℕ) → end ≡ r.base + variables_in r
    → place ≡ get_or words end 0 → w ≡ get_or words (end + 1) 0 → next ≡ back_next place → above ≡ end + 2
    → (m : Mode) → Waits m words r (waiting_registers r w next above)
waits words r place w next end above ends place_is word_is next-is at m c p i q k z y vs us fs os input put out S =
    let slot = slot_in m (qual_of c.sheet) in
    let one : end + 1 ≡ r.base + (variables_in r + 1) = omega arith in
    let two : above ≡ r.base + (variables_in r + 2) = omega arith in
    stands_back S w next above (procedure_told m (qual_of c.sheet) w (ap slot (word_is ∙ ap (λ (n : ℕ). get_or words n 0) one) ∙ waiting_procedure S))
    (next-is ∙ sym (back_word m (qual_of c.sheet) place (ap slot (place_is ∙ ap (λ (n : ℕ). get_or words n 0) ends) ∙ waiting_back S)).0) two

pub keeps_in : (words : List ℕ) (r : Registers) (place end a : ℕ) → end ≡ r.base + variables_in r → place ≡ get_or words end 0 → a ≡ back_kept place
    → (m : Mode) → KeptIn m words r a
keeps_in words r place end a ends place_is kept_is m c p i q k z y vs us fs os input put out S =
    kept_is ∙ sym (back_word m (qual_of c.sheet) place (ap (slot_in m (qual_of c.sheet)) (place_is ∙ ap (λ (n : ℕ). get_or words n 0) ends) ∙ waiting_back S)).1

-- a blank cell is the word 0
blank_zero : {m : Mode} (qual : ℕ → Qual) (w : ℕ) → slot_in m qual w ≡ cell empty → w ≡ 0
blank_zero {m} qual w e = go (eqb w 0) refl
  where
    go : (t : Bool) → eqb w 0 ≡ t → w ≡ 0
    go true q = eqb-true w 0 q
    go false q =
        absurd (⊎_elim (λ f. let z : ◌≡◌ {A = ℕ} 0 1 = cc in omega arith) (λ f. let z : ◌≡◌ {A = ℕ} 0 1 = cc in omega arith)
        (filled_word m qual w e (eqb-false w 0 q)))

-- the set of the running frame stands beside where the frame that waits goes back; main's is 0, as is the word there
pub sets_in : (words : List ℕ) (r : Registers) (place end z : ℕ) → end ≡ r.base + variables_in r → place ≡ get_or words end 0 → z ≡ low place
    → SetIn watched words r z
unfolding AllSound low
sets_in words r place end z ends place_is set_is c p i y vs [] os input put out S =
    let e = blank_zero (qual_of c.sheet) place (ap (slot_in watched (qual_of c.sheet)) (place_is ∙ ap (λ (n : ℕ). get_or words n 0) ends) ∙ alone_back S) in
    set_is ∙ ap low e ∙ sym S.waiting
sets_in words r place end z ends place_is set_is c p i y vs (frame q k x us ∷ fs) os input put out S =
    set_is ∙ sym (back_word watched (qual_of c.sheet) place (ap (slot_in watched (qual_of c.sheet)) (place_is ∙ ap (λ (n : ℕ). get_or words n 0) ends) ∙ waiting_back S)).2

-- a variable of it that is written
module _ (m : Mode) (words words' : List ℕ) (b : Registers) (a w : ℕ) where
  pub keeps : a < variables_in b → words' ≡ set words (b.base + a) w → Keeps m words words' b a w
  keeps l e c p i z vs fs os input put out d is S =
      let slot = slot_in m (qual_of c.sheet) in
      goes_on S words' b.next i b.used (set vs a d) os S.next
      (ap length e ∙ length-set words (b.base + a) w) S.sane.room (length-set vs a d)
      (ap (λ (l : List ℕ). take b.used (map slot l)) e ∙ set_before slot words b.base a w b.used S.sane.room ∙ S.objects)
      (ap (λ (l : List ℕ). drop b.base (map slot l)) e ∙ set_frame slot words b.base a w ∙ rw (S.frames, is) (set_variable vs (flat_frames c.sheet z fs) a d (rw S.variables at l)))

  -- one that it has not is not
  pub keeps_none : variables_in b ≤ a → words' ≡ words → Keeps m words words' b a w
  keeps_none l e c p i z vs fs os input put out d is S =
      let past : length vs ≤ a = omega (arith, S.variables) in
      rw (e, set_out vs a d past) S

-- the variable that its call keeps
kept_is : {m : Mode} {c : Given} {words out : List ℕ} {r : Registers} {p i q k : ℕ} {z y : SettledSet m} {vs us : List (Cell m)} {gs : List (Frame m)} {os : List (Object m)}
    {input put : List ℕ} (s : List ℕ) (a : ℕ) → c.sheet ≡ s → KeptIn m words r a
    → Stands m c words out r p i z vs (frame q k y us ∷ gs) os input put → kept ((program_of s).operation q (pred k)) ≡ optional a
kept_is {c = c} {out = out} {p = p} {i} {q} {k} {z} {y} {vs} {us} {gs} {os} {input} {put} s a same K S =
    let op = operation_at c.sheet (instruction_at c.sheet q (pred k)) in
    rw same at (sym (ap optional (K c p i q k z y vs us gs os input put out S) ∙ optional_kept op))

-- ---- the return itself, in either machine

-- an effect that was planned, by another way to write it
pub planned_as : {m : Mode} (c : Given) (words out s : List ℕ) (r : Registers) (t : State m) (o : Stepped) (e d : Res (Effect m)) → e ≡ d
    → After m c words out out r t o (performed s t d) → After m c words out out r t o (performed s t e)
planned_as c words out s r t o e d is h = rw is h

-- main has no frame that waits
pub returns_over : (m : Mode) (s words : List ℕ) (r : Registers) (value : Option (Cell m)) → length words ≤ r.base + (variables_in r + 2)
    → (out : List ℕ) → Returns m s words words out r (Ok Done) value
unfolding to_caller ◌>>=◌ apply
returns_over m s words r value h out c (state (frame p i z vs) [] os input put) same S = refl
returns_over m s words r value h out c (state (frame p i z vs) (frame q k y us ∷ gs) os input put) same S =
    let fits = back_fits S in
    absurd (omega arith)

module _ (m : Mode) (s words : List ℕ) (r : Registers) (a : ℕ) (above : r.base + (variables_in r + 2) < length words) (K : KeptIn m words r a) where
  no_main : {c : Given} {out : List ℕ} {p i : ℕ} {z : SettledSet m} {vs : List (Cell m)} {os : List (Object m)} {input put : List ℕ}
      → Stands m c words out r p i z vs [] os input put → ⊥
  no_main S = let l = alone S in omega arith

  -- the call that waits keeps a value that is not there
  pub caller_lacks : (a ≡ 255 → ⊥) → (out : List ℕ) (c : Given) (t : State m) → c.sheet ≡ s → StandsFor m c words out r t
      → to_caller m (program_of s) (view (length words) (length out) t) (view (length words) (length out) t).caller none ≡ amiss m
  unfolding to_caller into_caller
  caller_lacks n out c (state (frame p i z vs) [] os input put) same S = absurd (no_main S)
  caller_lacks n out c (state (frame p i z vs) (frame q k y us ∷ gs) os input put) same S =
      let seen = view (length words) (length out) (state (frame p i z vs) (frame q k y us ∷ gs) os input put) in
      ap (λ (x : Option ℕ). into_caller m (program_of s) seen q y x none) (kept_is s a same K S ∙ optional_some a n)

  module _ (b : Registers) (W : Waits m words r b) where
    -- it keeps nothing
    pub returns_dropped : a ≡ 255 → (value : Option (Cell m)) (out : List ℕ) → Returns m s words words out r (Ok (Enter b)) value
    unfolding to_caller into_caller ◌>>=◌ apply
    returns_dropped e value out c (state (frame p i z vs) [] os input put) same S = absurd (no_main S)
    returns_dropped e value out c (state (frame p i z vs) (frame q k y us ∷ gs) os input put) same S =
        let t = state (frame p i z vs) (frame q k y us ∷ gs) os input put in
        let seen = view (length words) (length out) t in
        let B = W c p i q k z y vs us gs os input put out S in
        planned_as c words out s r t (Ok (Enter b)) (to_caller m (program_of s) seen (some (q, k, y)) value) (ok (M.resume none))
        (ap (λ (x : Option ℕ). into_caller m (program_of s) seen q y x value) (kept_is s a same K S ∙ optional_none a e)) B

    module _ (n : a ≡ 255 → ⊥) where
      -- it keeps a value: that is bound to its variable a, read with its set, and kept there
      pub caller_binds : (set : SettledSet m) → SetIn m words b set → (value : Cell m) (out : List ℕ) (c : Given) (t : State m) → c.sheet ≡ s → StandsFor m c words out r t
          → to_caller m (program_of s) (view (length words) (length out) t) (view (length words) (length out) t).caller (some value)
          ≡ (moved m (program_of s) (view (length words) (length out) t)
          (read_in m (program_of s) (view (length words) (length out) t) (number_in b) set ((program_of s).inner (number_in b) a)) value
          >>= λ d. ok (M.resume (some (a, d))))
      unfolding to_caller into_caller
      caller_binds set sets value out c (state (frame p i z vs) [] os input put) same S = absurd (no_main S)
      caller_binds set sets value out c (state (frame p i z vs) (frame q k y us ∷ gs) os input put) same S =
          let t = state (frame p i z vs) (frame q k y us ∷ gs) os input put in
          let seen = view (length words) (length out) t in
          let B = W c p i q k z y vs us gs os input put out S in
          ap (λ (x : Option ℕ). into_caller m (program_of s) seen q y x (some value)) (kept_is s a same K S ∙ optional_some a n)
          ∙ ap (λ (j : ℕ). moved m (program_of s) seen (read_in m (program_of s) seen j y ((program_of s).inner j a)) value >>= λ d. ok (M.resume (some (a, d))))
          (sym B.procedure)
          ∙ ap (λ (x : SettledSet m). moved m (program_of s) seen (read_in m (program_of s) seen (number_in b) x ((program_of s).inner (number_in b) a)) value
          >>= λ d. ok (M.resume (some (a, d))))
          (sym (sets c q k y us gs os input put out B))

      pub resumed : (w : ℕ) (words' : List ℕ) → Keeps m words words' b a w
          → (d : Cell m) (out : List ℕ) (c : Given) (t : State m) → c.sheet ≡ s → StandsFor m c words out r t → slot_in m (qual_of c.sheet) w ≡ cell d
          → After m c words' out out r t (Ok (Enter b)) (performed s t (ok (M.resume (some (a, d)))))
      unfolding ◌>>=◌ apply
      resumed w words' kept d out c (state (frame p i z vs) [] os input put) same S is = absurd (no_main S)
      resumed w words' kept d out c (state (frame p i z vs) (frame q k y us ∷ gs) os input put) same S is =
          kept c q k y us gs os input put out d is (W c p i q k z y vs us gs os input put out S)

-- ---- what a return hands over in the plain machine

-- a value that is the filled cell of a word; or none
abbrev ReturnedValue : (ℕ → Qual) → ℕ → Option (Cell plain) → Type 0
ReturnedValue qual w none = Unit {0}
ReturnedValue qual w (some d) = (x : Value) × ((d ≡ filled x tt) × (slot_in plain qual w ≡ cell d))

-- the plain machine binds no rights; where it keeps what is not there it is stuck
returns_kept : (s words : List ℕ) (r b : Registers) (a : ℕ) → r.base + (variables_in r + 2) < length words
    → Waits plain words r b → KeptIn plain words r a → (a ≡ 255 → ⊥)
    → (w : ℕ) (words' : List ℕ) → Keeps plain words words' b a w
    → (value : Option (Cell plain)) (out : List ℕ) (c : Given) (t : State plain) → c.sheet ≡ s → StandsFor plain c words out r t
    → ReturnedValue (qual_of c.sheet) w value
    → After plain c words' out out r t (Ok (Enter b))
    (performed s t (to_caller plain (program_of s) (view (length words) (length out) t) (view (length words) (length out) t).caller value))
unfolding moved held bind amiss ◌>>=◌
returns_kept s words r b a above W K n w words' kept none out c t same S is =
    planned_as c words' out s r t (Ok (Enter b)) _ stuck (caller_lacks plain s words r a above K n out c t same S) tt
returns_kept s words r b a above W K n w words' kept (some d) out c t same S is =
    planned_as c words' out s r t (Ok (Enter b)) _ (ok (M.resume (some (a, d))))
    (caller_binds plain s words r a above K b W n tt (λ g p i y vs fs os input put o T. refl) d out c t same S ∙ rw is.1.0)
    (resumed plain s words r a above K b W n w words' kept d out c t same S is.1.1)

module _ (g : Program) (v : View plain) (a : ℕ) where
  return_none : a ≡ 255 → plan plain g v (Return a) ≡ to_caller plain g v v.caller none
  unfolding plan plan_return demand handed ◌>>=◌ ◌>>◌
  return_none e = rw (optional_none a e)

  module _ (n : a ≡ 255 → ⊥) where
    return_filled : (y : Value) → v.variable a ≡ filled y tt → plan plain g v (Return a) ≡ to_caller plain g v v.caller (some (filled y tt))
    unfolding plan plan_return demand handed held bind_result ◌>>=◌ ◌>>◌
    return_filled y e = rw (optional_some a n, e)

    return_blank : v.variable a ≡ empty → plan plain g v (Return a) ≡ stop blank
    unfolding plan plan_return demand handed held bind_result ◌>>=◌ ◌>>◌
    return_blank e = rw (optional_some a n, e)

-- the word of variable a, in the variables' part as the code cuts it
module _ (s words : List ℕ) (r : Registers) (a w end : ℕ) (ends : end ≡ r.base + variables_in r)
    (word_is : w ≡ get_or (take (end - r.base) (drop r.base words)) a 0) where
  variable_there : (c : Given) (out : List ℕ) (t : State plain) → StandsFor plain c words out r t
      → slot_in plain (qual_of c.sheet) w ≡ cell ((view (length words) (length out) t).variable a)
  variable_there c out t S =
      let e : end - r.base ≡ variables_in r = omega arith in
      ap (slot_in plain (qual_of c.sheet)) (rw e at word_is) ∙ (view_sees plain c words out r t S).variable a

  -- it is blank
  pub gives_blank : w ≡ 0 → (a ≡ 255 → ⊥) → (input out : List ℕ) → Performs plain s input words words out out r (Err Blank) (Return a)
  unfolding ◌>>=◌
  gives_blank z n input out c t same from S =
      planned_as c words out s r t (Err Blank) _ (stop blank)
      (return_blank (program_of s) (view (length words) (length out) t) a n (blank_word plain (qual_of c.sheet) w (variable_there c out t S) z))
      (stopped_after plain c words out r t S Blank)

  -- or there is a value to hand over, if any is asked for
  module _ (told : ((w ≡ 0) × (a ≡ 255)) ⊎ (w ≡ 0 → ⊥)) where
    there : w ≡ 0 → a ≡ 255
    there z = ⊎_elim (λ e. e.1) (λ n. absurd (n z)) told

    handed_over : (c : Given) (out : List ℕ) (t : State plain) → StandsFor plain c words out r t
        → (value : Option (Cell plain))
        × ((plan plain (program_of s) (view (length words) (length out) t) (Return a)
        ≡ to_caller plain (program_of s) (view (length words) (length out) t) (view (length words) (length out) t).caller value)
        × ReturnedValue (qual_of c.sheet) w value)
    handed_over c out t S = go (eqb a 255) refl
      where
        seen : View plain
        seen = view (length words) (length out) t

        filled_as : (a ≡ 255 → ⊥) → (x : Value) → seen.variable a ≡ filled x tt
            → (value : Option (Cell plain))
            × ((plan plain (program_of s) seen (Return a) ≡ to_caller plain (program_of s) seen seen.caller value) × ReturnedValue (qual_of c.sheet) w value)
        filled_as n x e = (some (filled x tt), (return_filled (program_of s) seen a n x e, (x, (refl, variable_there c out t S ∙ ap cell e))))

        go : (is255 : Bool) → eqb a 255 ≡ is255
            → (value : Option (Cell plain))
            × ((plan plain (program_of s) seen (Return a) ≡ to_caller plain (program_of s) seen seen.caller value) × ReturnedValue (qual_of c.sheet) w value)
        go true e = (none, (return_none (program_of s) seen a (eqb-true a 255 e), tt))
        go false e =
            let n = eqb-false a 255 e in
            ⊎_elim (λ y. filled_as n _ y) (λ y. filled_as n _ y)
            (filled_word plain (qual_of c.sheet) w (variable_there c out t S) (λ z. n (there z)))

    pub gives_over : length words ≤ r.base + (variables_in r + 2) → (input out : List ℕ) → Performs plain s input words words out out r (Ok Done) (Return a)
    gives_over h input out c t same from S =
        let y = handed_over c out t S in
        planned_as c words out s r t (Ok Done) _ _ y.1.0 (returns_over plain s words r y.0 h out c t same S)

    module _ (b : Registers) (k : ℕ) (above : r.base + (variables_in r + 2) < length words) (W : Waits plain words r b)
        (K : KeptIn plain words r k) where
      pub gives_dropped : k ≡ 255 → (input out : List ℕ) → Performs plain s input words words out out r (Ok (Enter b)) (Return a)
      gives_dropped e input out c t same from S =
          let y = handed_over c out t S in
          planned_as c words out s r t (Ok (Enter b)) _ _ y.1.0 (returns_dropped plain s words r k above K b W e y.0 out c t same S)

      pub gives_kept : (k ≡ 255 → ⊥) → (words' : List ℕ) → Keeps plain words words' b k w
          → (input out : List ℕ) → Performs plain s input words words' out out r (Ok (Enter b)) (Return a)
      gives_kept n words' kept input out c t same from S =
          let y = handed_over c out t S in
          planned_as c words' out s r t (Ok (Enter b)) _ _ y.1.0 (returns_kept s words r b k above W K n w words' kept y.0 out c t same S y.1.1)
