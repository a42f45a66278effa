-- Each effect, on the words and on the state that they stand for.
use Prim.Native.Nat.{ℕ, suc, ◌+◌, ◌-◌, ◌≤◌, ◌<◌}
use native.Mathlib.Omega.{arith}
use native.Mathlib.Numerals.{add-one}
use mathlib.Core.Path.{◌≡◌, refl, sym, ap, ◌∙◌}
use mathlib.Core.List.{List, [], ◌∷◌, ◌++◌, map, append_assoc, map-append}
use mathlib.Core.Option.{Option, none, some}
use Rattle.std.proofs.Common.{Ok, Err}
use borrow.Rule.Slice.PartMut.{mid_of, put_mid, same_len_mid, mid_len, drop_put}
use lib.ListN.{length, set, take, drop, replicate, length-set, length-append, length-drop, length-replicate, take-append-drop}
use lib.Seq.{drop-drop, drop-cons, set_at, take_at, take-set-lt, take-suc-set, drop-set-lt, set-append_left, length-take-le}
use Rattle.model.specs.declared.Halt.{Halt}
use Rattle.model.specs.declared.Halt.TheVariants.{Blank, PastEnd, InputEnded, OutputFull, MemoryFull, WrongKind, MissingRight}
use Rattle.model.specs.Outcome.{stop_of, Res, ok, stop, ◌>>=◌}
use Rattle.model.specs.Qualified.{Qual}
use Rattle.model.specs.Modes.{Mode, plain, watched, SettledSet, Carried, ElementInfo, TypeInfo, amiss}
use Rattle.model.specs.Machine as M
use Rattle.model.specs.Machine.{Cell, empty, filled, object, Object, array_of, record_of, cells_of, head_of, find, update, Frame, frame, State, state, apply, rest_of, object_units}
use Rattle.sheet.specs.Meaning.{qual_of}
use Rattle.words.specs.Word.{Slot, cell, head, slot_in}
use Rattle.words.specs.Sees.{head_size}
use Rattle.words.specs.Answers.{halted, InObject}
use Rattle.words.proofs.Laws.{map_set, slot_zero}
use Rattle.writers.specs.declared.Registers.{Registers}
use Rattle.writers.specs.declared.Next.TheVariants.{Go, Enter}
use Rattle.writers.specs.Memory.{Given, slots, variables_in, Sane, object_part, GapOnly, Stands, StandsFor, flat_objects, flat_frames}
use Rattle.writers.specs.Steps.{After, Does, onward, at_next, Allotted}
use Rattle.writers.proofs.Change.{set_before, set_frame, set_variable, map_take, map_drop, map_replicate}
use Rattle.writers.proofs.Flat.{set_at_cell, found_fits, flat_snoc, size_is, length_objects}
use Rattle.writers.proofs.View.{used_is, head_is}

-- ---- a stop

amiss_then : {A B : Type 0} (m : Mode) (f : A → Res B) → amiss m >>= f ≡ amiss m
unfolding amiss ◌>>=◌
amiss_then plain f = refl
amiss_then watched f = refl

pub halted_then : {A B : Type 0} (m : Mode) (k : Halt) (f : A → Res B) → halted m k >>= f ≡ halted m k
unfolding halted ◌>>=◌
halted_then m Blank f = refl
halted_then m PastEnd f = refl
halted_then m InputEnded f = refl
halted_then m OutputFull f = refl
halted_then m MemoryFull f = refl
halted_then m WrongKind f = amiss_then m f
halted_then m MissingRight f = refl

module _ (m : Mode) (c : Given) (words out : List ℕ) (r : Registers) (t : State m) (S : StandsFor m c words out r t) where
  pub stopped_after : (k : Halt) → After m c words out out r t (Err k) (stop (stop_of k))
  stopped_after k = record { halts = refl; output_kept = refl; still = S }

pub amiss_after : (m : Mode) (c : Given) (words out : List ℕ) (r : Registers) (t : State m) → StandsFor m c words out r t
    → After m c words out out r t (Err WrongKind) (amiss m)
unfolding amiss
amiss_after plain c words out r t S = tt
amiss_after watched c words out r t S = stopped_after watched c words out r t S WrongKind

pub halted_after : (m : Mode) (c : Given) (words out : List ℕ) (r : Registers) (t : State m) → StandsFor m c words out r t
    → (k : Halt) → After m c words out out r t (Err k) (halted m k)
unfolding halted
halted_after m c words out r t S Blank = stopped_after m c words out r t S Blank
halted_after m c words out r t S PastEnd = stopped_after m c words out r t S PastEnd
halted_after m c words out r t S InputEnded = stopped_after m c words out r t S InputEnded
halted_after m c words out r t S OutputFull = stopped_after m c words out r t S OutputFull
halted_after m c words out r t S MemoryFull = stopped_after m c words out r t S MemoryFull
halted_after m c words out r t S WrongKind = amiss_after m c words out r t S
halted_after m c words out r t S MissingRight = stopped_after m c words out r t S MissingRight

pub does_halt : (m : Mode) (c : Given) (words out : List ℕ) (r : Registers) (k : Halt) → Does m c words words out out r (Err k) (halted m k)
does_halt m c words out r k t S = rw halted_then (halted_after m c words out r t S k)

pub does_stop : (m : Mode) (c : Given) (words out : List ℕ) (r : Registers) (k : Halt) → Does m c words words out out r (Err k) (stop (stop_of k))
unfolding ◌>>=◌
does_stop m c words out r k t S = stopped_after m c words out r t S k

-- ---- the gap

-- what stands in it is of no account
pub gap_kept : {m : Mode} {c : Given} {words out : List ℕ} {r : Registers} {p i : ℕ} {z : SettledSet m} {vs : List (Cell m)} {fs : List (Frame m)} {os : List (Object m)}
    {input put : List ℕ} → Stands m c words out r p i z vs fs os input put → (words' : List ℕ) → GapOnly words words' r
    → Stands m c words' out r p i z vs fs os input put
gap_kept {m} {c} {words} {r = r} S words' G =
    let slot = slot_in m (qual_of c.sheet) in
    record {
      is_procedure = S.is_procedure;
      procedure = S.procedure;
      next = S.next;
      first = S.first;
      bound = S.bound;
      variables = S.variables;
      sane = rw G.long S.sane;
      running = S.running;
      waiting = S.waiting;
      objects = sym (map_take slot r.used words') ∙ ap (map slot) G.objects ∙ map_take slot r.used words ∙ S.objects;
      frames = sym (map_drop slot r.base words') ∙ ap (map slot) G.frames ∙ map_drop slot r.base words ∙ S.frames;
      input_left = S.input_left;
      put_words = S.put_words;
      output_is = S.output_is;
      put_fits = S.put_fits;
    }

pub gap_stands : (m : Mode) (c : Given) (words words' out : List ℕ) (r : Registers) → GapOnly words words' r
    → (t : State m) → StandsFor m c words out r t → StandsFor m c words' out r t
gap_stands m c words words' out r G (state (frame p i z vs) fs os input put) S = gap_kept S words' G

-- ---- the parts of a state that a step changes

module _ {m : Mode} {c : Given} {words out : List ℕ} {r : Registers} {p i : ℕ} {z : SettledSet m} {vs : List (Cell m)} {fs : List (Frame m)} {os : List (Object m)}
    {input put : List ℕ} (S : Stands m c words out r p i z vs fs os input put) where
  -- the next instruction, variables and objects
  pub goes_on : (words' : List ℕ) (next j used : ℕ) (vs' : List (Cell m)) (os' : List (Object m))
      → next ≡ j → length words' ≡ length words → used ≤ r.base → length vs' ≡ length vs
      → take used (slots m c words') ≡ flat_objects os' → drop r.base (slots m c words') ≡ map cell vs' ++ flat_frames c.sheet z fs
      → Stands m c words' out (onward r next used r.taken r.put) p j z vs' fs os' input put
  goes_on words' next j used vs' os' at long room many objects frames =
      record {
        is_procedure = S.is_procedure;
        procedure = S.procedure;
        next = at;
        first = S.first;
        bound = S.bound;
        variables = S.variables ∙ sym many;
        sane =
            record {
              room = room;
              frame = rw long S.sane.frame;
              small = rw long S.sane.small;
            };
        running = record { procedure = S.running.procedure; variables = many ∙ S.running.variables };
        waiting = S.waiting;
        objects = objects;
        frames = frames;
        input_left = S.input_left;
        put_words = S.put_words;
        output_is = S.output_is;
        put_fits = S.put_fits;
      }

  -- one input word fewer
  pub took : Stands m c words out (onward r r.next r.used (r.taken + 1) r.put) p i z vs fs os (rest_of input) put
  took =
      record {
        is_procedure = S.is_procedure;
        procedure = S.procedure;
        next = S.next;
        first = S.first;
        bound = S.bound;
        variables = S.variables;
        sane = record { room = S.sane.room; frame = S.sane.frame; small = S.sane.small };
        running = S.running;
        waiting = S.waiting;
        objects = S.objects;
        frames = S.frames;
        input_left = rw S.input_left (rest_drop r.taken c.input);
        put_words = S.put_words;
        output_is = S.output_is;
        put_fits = S.put_fits;
      }
    where
      rest_is : (l : List ℕ) → rest_of l ≡ drop 1 l
      rest_is [] = refl
      rest_is (x ∷ l) = refl

      rest_drop : (n : ℕ) (l : List ℕ) → rest_of (drop n l) ≡ drop (n + 1) l
      rest_drop n l = rest_is (drop n l) ∙ drop-drop 1 n l

  -- one output word more
  pub put_one : (x : ℕ) → r.put < length out
      → Stands m c words (set out r.put x) (onward r r.next r.used r.taken (r.put + 1)) p i z vs fs os input (put ++ (x ∷ []))
  put_one x h =
      let e = S.put_words in
      let l : length out ≡ length put + (length c.output - length put) = ap length S.output_is ∙ rw (length-append, length-drop) in
      let k : length put < length c.output = omega arith in
      let n : length (put ++ (x ∷ [])) ≡ suc (length put) = length-append put (x ∷ []) ∙ add-one (length put) in
      record {
        is_procedure = S.is_procedure;
        procedure = S.procedure;
        next = S.next;
        first = S.first;
        bound = S.bound;
        variables = S.variables;
        sane = record { room = S.sane.room; frame = S.sane.frame; small = S.sane.small };
        running = S.running;
        waiting = S.waiting;
        objects = S.objects;
        frames = S.frames;
        input_left = S.input_left;
        put_words = omega arith;
        output_is =
            rw (S.output_is, drop-cons c.output (length put) 0 k, set_at put _ (drop (suc (length put)) c.output) x r.put (sym e), n)
            (sym (append_assoc put (x ∷ []) (drop (suc (length put)) c.output)));
        put_fits = omega arith;
      }

-- ---- a variable is written

-- the words seen through any map, such as the slots of a machine
pub record Put {A : Type 0} (f : ℕ → A) (words words' : List ℕ) (r : Registers) (a : ℕ) (x : A) : Type 0 where
  pub named : a < variables_in r
  pub long : length words' ≡ length words
  pub objects : take r.used (map f words') ≡ take r.used (map f words)
  pub frame : drop r.base (map f words') ≡ set (drop r.base (map f words)) a x

pub puts : {A : Type 0} (f : ℕ → A) (words words' : List ℕ) (r : Registers) (a w : ℕ) (x : A) → Sane (length words) r → a < variables_in r → f w ≡ x
    → words' ≡ set words (r.base + a) w → Put f words words' r a x
puts f words words' r a w x sane named is q =
    let room = sane.room in
    record {
      named = named;
      long = rw q (length-set words (r.base + a) w);
      objects = rw q (set_before f words r.base a w r.used room);
      frame = rw (q, ← is) (set_frame f words r.base a w);
    }

module _ {m : Mode} {c : Given} {words out : List ℕ} {r : Registers} {p i : ℕ} {z : SettledSet m} {vs : List (Cell m)} {fs : List (Frame m)} {os : List (Object m)}
    {input put : List ℕ} (S : Stands m c words out r p i z vs fs os input put) where
  pub wrote : (words' : List ℕ) (a : ℕ) (d : Cell m) → Put (slot_in m (qual_of c.sheet)) words words' r a (cell d)
      → Stands m c words' out (at_next r (r.next + 1)) p (suc i) z (set vs a d) fs os input put
  wrote words' a d P =
      goes_on S words' (r.next + 1) (suc i) r.used (set vs a d) os (add-one r.next ∙ ap suc S.next) P.long S.sane.room
      (length-set vs a d) (P.objects ∙ S.objects) (P.frame ∙ rw S.frames (set_variable vs (flat_frames c.sheet z fs) a d (rw S.variables at P.named)))

  -- to another instruction
  pub went : (next j : ℕ) → next ≡ j → Stands m c words out (at_next r next) p j z vs fs os input put
  went next j e = goes_on S words next j r.used vs os e refl S.sane.room refl S.objects S.frames

pub does_write : (m : Mode) (c : Given) (words words' out : List ℕ) (r : Registers) (a : ℕ) (d : Cell m) → Put (slot_in m (qual_of c.sheet)) words words' r a (cell d)
    → Does m c words words' out out r (Ok (Go (at_next r (r.next + 1)))) (ok (M.write a d))
unfolding apply ◌>>=◌
does_write m c words words' out r a d P (state (frame p i z vs) fs os input put) S = (refl, (refl, wrote S words' a d P))

pub does_take : (m : Mode) (c : Given) (words words' out : List ℕ) (r : Registers) (a : ℕ) (d : Cell m) → Put (slot_in m (qual_of c.sheet)) words words' r a (cell d)
    → Does m c words words' out out r (Ok (Enter (onward r (r.next + 1) r.used (r.taken + 1) r.put))) (ok (M.take a d))
unfolding apply ◌>>=◌
does_take m c words words' out r a d P (state (frame p i z vs) fs os input put) S = took (wrote S words' a d P)

pub does_skip : (m : Mode) (c : Given) (words out : List ℕ) (r : Registers)
    → Does m c words words out out r (Ok (Go (at_next r (r.next + 1)))) (ok M.skip)
unfolding apply ◌>>=◌
does_skip m c words out r (state (frame p i z vs) fs os input put) S = (refl, (refl, went S (r.next + 1) (suc i) (add-one r.next ∙ ap suc S.next)))

pub does_jump : (m : Mode) (c : Given) (words out : List ℕ) (r : Registers) (k : ℕ)
    → Does m c words words out out r (Ok (Go (at_next r k))) (ok (M.jump k))
unfolding apply ◌>>=◌
does_jump m c words out r k (state (frame p i z vs) fs os input put) S = (refl, (refl, went S k k refl))

pub does_put : (m : Mode) (c : Given) (words out : List ℕ) (r : Registers) (x : ℕ) → r.put < length out
    → Does m c words words out (set out r.put x) r (Ok (Enter (onward r (r.next + 1) r.used r.taken (r.put + 1)))) (ok (M.put x))
unfolding apply ◌>>=◌
does_put m c words out r x h (state (frame p i z vs) fs os input put) S =
    put_one (went S (r.next + 1) (suc i) (add-one r.next ∙ ap suc S.next)) x h

-- ---- a cell of an object is written

module _ {m : Mode} {c : Given} {words out : List ℕ} {r : Registers} {p i : ℕ} {z : SettledSet m} {vs : List (Cell m)} {fs : List (Frame m)} {os : List (Object m)}
    {input put : List ℕ} (S : Stands m c words out r p i z vs fs os input put) where
  -- an object with a head in the objects' part is one of the state's, of that size
  pub there : (a j : ℕ) → InObject (object_part r words) a j → (o : Object m) × ((find os a ≡ some o) × (j < length (cells_of o)))
  there a j I = go (find os a) refl
    where
      go : (f : Option (Object m)) → find os a ≡ f → (o : Object m) × ((find os a ≡ some o) × (j < length (cells_of o)))
      go none e =
          let n : none ≡ some I.size = ap head_size (ap head_of (sym e) ∙ sym (head_is S a)) ∙ I.head m (qual_of c.sheet) in
          let z : ◌≡◌ {A = ℕ} 0 1 = cc in
          absurd (omega arith)
      go (some o) e =
          let n : some (length (cells_of o)) ≡ some I.size = sym (size_is o) ∙ ap head_size (ap head_of (sym e) ∙ sym (head_is S a)) ∙ I.head m (qual_of c.sheet) in
          let same : length (cells_of o) ≡ I.size = cc in
          let b = I.below in
          (o, (e, omega arith))

  pub stored_at : (words' : List ℕ) (a j w : ℕ) (d : Cell m) → slot_in m (qual_of c.sheet) w ≡ cell d → InObject (object_part r words) a j
      → words' ≡ set (object_part r words) (a + 1 + j) w ++ drop r.used words
      → Stands m c words' out (at_next r (r.next + 1)) p (suc i) z vs fs (update os a j d) input put
  stored_at words' a j w d is I e =
      let o = there a j I in
      let f = found_fits os a o.0 o.1.0 in
      let l = length_objects os in
      let u = used_is S in
      let b = o.1.1 in
      let room = S.sane.room in
      let frame = S.sane.frame in
      let k : a + 1 + j ≡ suc (a + j) = omega arith in
      let h : suc (a + j) < r.used = omega arith in
      let n : length (object_part r words) ≡ r.used = length-take-le r.used words (omega arith) in
      let h' : a + 1 + j < length (object_part r words) = omega arith in
      let q : words' ≡ set words (a + 1 + j) w =
      e ∙ sym (set-append_left (object_part r words) (drop r.used words) (a + 1 + j) w h') ∙ ap (λ (x : List ℕ). set x (a + 1 + j) w) (take-append-drop r.used words) in
      let s : slots m c words' ≡ set (slots m c words) (suc (a + j)) (cell d) = rw (q, map_set, is, k) in
      goes_on S words' (r.next + 1) (suc i) r.used vs (update os a j d) (add-one r.next ∙ ap suc S.next) (rw (q, length-set)) room refl
      (rw s (take-set-lt r.used (slots m c words) (suc (a + j)) (cell d) h ∙ rw S.objects (set_at_cell os a j o.0 d o.1.0 b)))
      (rw s (drop-set-lt r.base (slots m c words) (suc (a + j)) (cell d) (omega arith) ∙ S.frames))

pub does_store : (m : Mode) (c : Given) (words words' out : List ℕ) (r : Registers) (a j w : ℕ) (d : Cell m) → slot_in m (qual_of c.sheet) w ≡ cell d → InObject (object_part r words) a j
    → words' ≡ set (object_part r words) (a + 1 + j) w ++ drop r.used words
    → Does m c words words' out out r (Ok (Go (at_next r (r.next + 1)))) (ok (M.store a j d))
unfolding apply ◌>>=◌
does_store m c words words' out r a j w d is I e (state (frame p i z vs) fs os input put) S = (refl, (refl, stored_at S words' a j w d is I e))

-- ---- a new object

-- the words with a word w at used and n zeros after it, as the code writes them
abbrev pub laid : (words zeros : List ℕ) (used w n : ℕ) → List ℕ
laid words zeros used w n = put_mid (used + 1) (used + 1 + n - (used + 1)) (set words used w) zeros

module _ (words zeros : List ℕ) (used w n : ℕ) (fits : used + 1 + n ≤ length words)
    (cleared : zeros ≡ replicate (length (mid_of (used + 1) (used + 1 + n - (used + 1)) (set words used w))) 0) where
  zeros_are : zeros ≡ replicate n 0
  zeros_are =
      let m : length (mid_of (used + 1) (used + 1 + n - (used + 1)) (set words used w)) ≡ used + 1 + n - (used + 1) =
      mid_len (used + 1) (used + 1 + n) (set words used w) (rw length-set fits) in
      let k : length (mid_of (used + 1) (used + 1 + n - (used + 1)) (set words used w)) ≡ n = omega arith in
      cleared ∙ ap (λ (j : ℕ). replicate j 0) k

  pub length_laid : length (laid words zeros used w n) ≡ length words
  length_laid =
      let z : length zeros ≡ length (mid_of (used + 1) (used + 1 + n - (used + 1)) (set words used w)) = ap length cleared ∙ length-replicate _ 0 in
      same_len_mid (used + 1) (used + 1 + n - (used + 1)) (set words used w) zeros z ∙ length-set words used w

  pub laid_objects : (m : Mode) (q : ℕ → Qual)
      → take (used + (n + 1)) (map (slot_in m q) (laid words zeros used w n)) ≡ take used (map (slot_in m q) words) ++ (slot_in m q w ∷ replicate n (cell empty))
  laid_objects m q =
      let h : used < length words = omega arith in
      let l : length (take (used + 1) (set words used w) ++ zeros) ≡ used + (n + 1) =
      length-append (take (used + 1) (set words used w)) zeros
      ∙ omega (
        arith,
        length-take-le (used + 1) (set words used w) (rw length-set (omega arith)),
        ap length zeros_are ∙ length-replicate n 0,
      ) in
      let e : take (used + (n + 1)) (laid words zeros used w n) ≡ take (used + 1) (set words used w) ++ zeros =
      ap (take (used + (n + 1))) (sym (append_assoc (take (used + 1) (set words used w)) zeros _)) ∙ take_at (take (used + 1) (set words used w) ++ zeros) _ (used + (n + 1)) l in
      let f : take (used + 1) (set words used w) ++ zeros ≡ take used words ++ (w ∷ replicate n 0) =
      rw (add-one, take-suc-set words used w h, zeros_are) (append_assoc (take used words) (w ∷ []) (replicate n 0)) in
      sym (map_take (slot_in m q) (used + (n + 1)) (laid words zeros used w n)) ∙ ap (map (slot_in m q)) (e ∙ f) ∙ rw (map-append, map_take (slot_in m q), map_replicate (slot_in m q), slot_zero)

  pub laid_frames : {A : Type 0} (f : ℕ → A) (m : ℕ) → used + (n + 1) ≤ m → drop m (map f (laid words zeros used w n)) ≡ drop m (map f words)
  laid_frames f m h =
      let z : length zeros ≡ used + 1 + n - (used + 1) = omega (arith, ap length zeros_are ∙ length-replicate n 0) in
      let e : used + 1 + n + (m - (used + 1 + n)) ≡ m = omega arith in
      let d : drop (used + 1 + n) (laid words zeros used w n) ≡ drop (used + 1 + n) words =
      drop_put (used + 1) (used + 1 + n) (set words used w) zeros (omega arith) (rw length-set fits) z
      ∙ drop-set-lt (used + 1 + n) words used w (omega arith) in
      let g : drop m (laid words zeros used w n) ≡ drop m words =
      ap (λ (k : ℕ). drop k (laid words zeros used w n)) (sym e)
      ∙ sym (drop-drop (m - (used + 1 + n)) (used + 1 + n) (laid words zeros used w n))
      ∙ ap (drop (m - (used + 1 + n))) d
      ∙ drop-drop (m - (used + 1 + n)) (used + 1 + n) words
      ∙ ap (λ (k : ℕ). drop k words) e in
      sym (map_drop f m (laid words zeros used w n)) ∙ ap (map f) g ∙ map_drop f m words

pub allots : (m : Mode) (q : ℕ → Qual) (words zeros words' : List ℕ) (r : Registers) (a w n v : ℕ) → Sane (length words) r → a < variables_in r → r.used + (n + 1) ≤ r.base
    → zeros ≡ replicate (length (mid_of (r.used + 1) (r.used + 1 + n - (r.used + 1)) (set words r.used w))) 0
    → words' ≡ set (laid words zeros r.used w n) (r.base + a) v
    → Allotted m q words words' r a w n v
allots m q words zeros words' r a w n v sane inside room cleared e =
    let frame = sane.frame in
    let fits : r.used + 1 + n ≤ length words = omega arith in
    let l : length (laid words zeros r.used w n) ≡ length words = length_laid words zeros r.used w n fits cleared in
    let s : Sane (length (laid words zeros r.used w n)) (onward r r.next (r.used + (n + 1)) r.taken r.put) =
    record { room = room; frame = rw l frame; small = rw l sane.small } in
    let P = puts (slot_in m q) (laid words zeros r.used w n) words' (onward r r.next (r.used + (n + 1)) r.taken r.put) a v (slot_in m q v) s inside refl e in
    record {
      named = inside;
      long = P.long ∙ l;
      objects = P.objects ∙ laid_objects words zeros r.used w n fits cleared m q;
      frame = P.frame ∙ ap (λ (x : List (Slot m)). set x a (slot_in m q v)) (laid_frames words zeros r.used w n fits cleared (slot_in m q) r.base room);
    }

module _ {m : Mode} {c : Given} {words out : List ℕ} {r : Registers} {p i : ℕ} {z : SettledSet m} {vs : List (Cell m)} {fs : List (Frame m)} {os : List (Object m)}
    {input put : List ℕ} (S : Stands m c words out r p i z vs fs os input put) where
  pub made : (words' : List ℕ) (a w n v : ℕ) (o : Object m) (k : Carried m) → r.used + (n + 1) ≤ r.base
      → slot_in m (qual_of c.sheet) w ≡ head (head_of (some o)) → slot_in m (qual_of c.sheet) v ≡ cell (filled (object r.used) k)
      → cells_of o ≡ replicate n empty → Allotted m (qual_of c.sheet) words words' r a w n v
      → Stands m c words' out (onward r (r.next + 1) (r.used + (n + 1)) r.taken r.put) p (suc i) z
      (set vs a (filled (object (object_units os)) k)) fs (os ++ (o ∷ [])) input put
  made words' a w n v o k room is named new A =
      goes_on S words' (r.next + 1) (suc i) (r.used + (n + 1)) (set vs a (filled (object (object_units os)) k)) (os ++ (o ∷ []))
      (add-one r.next ∙ ap suc S.next) A.long room (length-set vs a (filled (object (object_units os)) k))
      (A.objects ∙ rw (S.objects, is, flat_snoc os o, new, map_replicate))
      (A.frame ∙ rw (named, S.frames, used_is S) (set_variable vs (flat_frames c.sheet z fs) a (filled (object (object_units os)) k) (rw S.variables at A.named)))

-- an object with that head and that name, in either machine
module _ (m : Mode) (c : Given) (words words' out : List ℕ) (r : Registers) (a w n v : ℕ) (k : Carried m) (room : r.used + (n + 1) ≤ r.base)
    (named : slot_in m (qual_of c.sheet) v ≡ cell (filled (object r.used) k)) (A : Allotted m (qual_of c.sheet) words words' r a w n v) where
  pub does_array : (e : ElementInfo m) → slot_in m (qual_of c.sheet) w ≡ head (M.array_head e n)
      → Does m c words words' out out r (Ok (Enter (onward r (r.next + 1) (r.used + (n + 1)) r.taken r.put))) (ok (M.new_array a e n k))
  unfolding apply ◌>>=◌
  does_array e is (state (frame p i z vs) fs os input put) S =
      made S words' a w n v (array_of e (replicate n empty)) k room (rw length-replicate is) named refl A

  pub does_record : (t : TypeInfo m) → slot_in m (qual_of c.sheet) w ≡ head (M.record_head t n)
      → Does m c words words' out out r (Ok (Enter (onward r (r.next + 1) (r.used + (n + 1)) r.taken r.put))) (ok (M.new_record a t n k))
  unfolding apply ◌>>=◌
  does_record t is (state (frame p i z vs) fs os input put) S =
      made S words' a w n v (record_of t (replicate n empty)) k room (rw length-replicate is) named refl A
