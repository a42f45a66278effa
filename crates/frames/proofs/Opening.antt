-- A frame that is opened, in either machine: the words below the running frame, of which nothing is said, become its own.
use Prim.Native.Nat.{ℕ, zero, suc, ◌+◌, ◌-◌, ◌≤◌, ◌<◌}
use native.Mathlib.Omega.{arith}
use native.Mathlib.Numerals.{add-one}
use mathlib.Core.Path.{◌≡◌, refl, sym, ap, ◌∙◌}
use mathlib.Core.List.{List, [], ◌∷◌, ◌++◌, map, append_assoc, map-append}
use lib.ListN.{length, get_or, set, take, drop, replicate, length-append, length-map, length-drop, length-replicate, length-set}
use borrow.Rule.Slice.PartMut.{mid_of, put_mid, post_of, mid_len, same_len_mid, Post-is}
use lib.Seq.{drop-cons, drop-set-add, set_at, take-set-le, take-append-le, take-take, take-add, drop-append-le, drop_at, drop-drop, length-take-le}
use Rattle.model.specs.Modes.{Mode, SettledSet, settled_set}
use Rattle.model.specs.Qualified.{Qual}
use Rattle.model.specs.Machine.{Cell, empty, Object, Frame, frame}
use Rattle.sheet.specs.Layout.{procedures_of, instruction_at}
use Rattle.sheet.specs.Decode.{operation_at}
use Rattle.sheet.specs.Meaning.{qual_of}
use Rattle.words.specs.Word.{cell, back, slot_in, variables_of}
use Rattle.index.specs.Indexed.{ProcedureWord}
use Rattle.words.proofs.Laws.{slot_zero, no_other_procedure}
use Rattle.writers.specs.declared.Registers.{Registers}
use Rattle.writers.specs.Memory.{Given, slots, variables_in, Sane, object_part, Stands, AllSound, kept_byte, back_to, procedure_slot, flat_frames}
use Rattle.writers.proofs.Change.{map_take, map_drop, map_replicate}
use Rattle.frames.specs.Frames.{Opened}

module _ {m : Mode} {c : Given} {words out : List ℕ} {r : Registers} {p i : ℕ} {z : SettledSet m} {vs : List (Cell m)} {fs : List (Frame m)} {os : List (Object m)}
    {input put : List ℕ} (S : Stands m c words out r p i z vs fs os input put) where
  -- n of the running frame's variables from b on, in its words
  pub actual_slots : (b n : ℕ) → n ≤ variables_in r - b → slots m c (take n (drop (r.base + b) words)) ≡ map cell (take n (drop b vs))
  actual_slots b zero h = refl
  actual_slots b (suc k) h =
      let n = suc k in
      let slot = slot_in m (qual_of c.sheet) in
      let l : length (map cell vs) ≡ variables_in r = length-map vs cell ∙ sym S.variables in
      let k : length (drop b (map cell vs)) ≡ length (map cell vs) - b = length-drop b (map cell vs) in
      map_take slot n (drop (r.base + b) words)
      ∙ ap (take n) (
      map_drop slot (r.base + b) words
      ∙ sym (drop-drop b r.base (map slot words))
      ∙ ap (drop b) S.frames
      ∙ drop-append-le b (map cell vs) (flat_frames c.sheet z fs) (omega arith)
      )
      ∙ take-append-le n (drop b (map cell vs)) (flat_frames c.sheet z fs) (omega arith)
      ∙ ap (take n) (sym (map_drop cell b vs))
      ∙ sym (map_take cell n (drop b vs))

-- ---- the words of the frame

-- those from at + f to at + v are cleared, and two words are written after them
abbrev pub opened : (words zeros : List ℕ) (at v f w x : ℕ) → List ℕ
opened words zeros at v f w x = set (set (put_mid (at + f) (at + v - (at + f)) words zeros) (at + v) w) (at + v + 1) x

module _ (words zeros : List ℕ) (at base v f w x : ℕ) (size : at + (v + 2) ≡ base) (few : f ≤ v) (inside : base ≤ length words)
    (cleared : zeros ≡ replicate (length (mid_of (at + f) (at + v - (at + f)) words)) 0) where
  zeros_are : zeros ≡ replicate (v - f) 0
  zeros_are =
      let l : length (mid_of (at + f) (at + v - (at + f)) words) ≡ at + v - (at + f) = mid_len (at + f) (at + v) words (omega arith) in
      let k : length (mid_of (at + f) (at + v - (at + f)) words) ≡ v - f = omega arith in
      cleared ∙ ap (λ (n : ℕ). replicate n 0) k

  pub length_opened : length (opened words zeros at v f w x) ≡ length words
  length_opened =
      rw (length-set, length-set) (same_len_mid (at + f) (at + v - (at + f)) words zeros (ap length cleared ∙ length-replicate _ 0))

  pub opened_before : (n : ℕ) → n ≤ at → take n (opened words zeros at v f w x) ≡ take n words
  opened_before n h =
      let l : length (take (at + f) words) ≡ at + f = length-take-le (at + f) words (omega arith) in
      take-set-le n _ (at + v + 1) x (omega arith)
      ∙ take-set-le n _ (at + v) w (omega arith)
      ∙ take-append-le n (take (at + f) words) _ (omega arith)
      ∙ take-take n (at + f) words (omega arith)

  -- before they are written there are two words of no account
  cleared_at : drop at (put_mid (at + f) (at + v - (at + f)) words zeros)
      ≡ (take f (drop at words) ++ replicate (v - f) 0) ++ (get_or words (at + v) 0 ∷ (get_or words (suc (at + v)) 0 ∷ drop base words))
  cleared_at =
      let post = post_of (at + f) (at + v - (at + f)) words in
      let kept = take f (drop at words) in
      let e : suc (suc (at + v)) ≡ base = omega arith in
      ap (λ (l : List ℕ). drop at (l ++ (zeros ++ post))) (take-add at f words)
      ∙ ap (drop at) (append_assoc (take at words) kept (zeros ++ post))
      ∙ drop_at (take at words) (kept ++ (zeros ++ post)) at (length-take-le at words (omega arith))
      ∙ ap (λ (l : List ℕ). kept ++ (zeros ++ l)) (
      Post-is (at + f) (at + v) words (omega arith)
      ∙ drop-cons words (at + v) 0 (omega arith)
      ∙ ap (λ (l : List ℕ). get_or words (at + v) 0 ∷ l) (
      drop-cons words (suc (at + v)) 0 (omega arith) ∙ ap (λ (n : ℕ). get_or words (suc (at + v)) 0 ∷ drop n words) e)
      )
      ∙ rw zeros_are (sym (append_assoc kept (replicate (v - f) 0) _))

  pub opened_at : drop at (opened words zeros at v f w x) ≡ take f (drop at words) ++ (replicate (v - f) 0 ++ (w ∷ (x ∷ drop base words)))
  opened_at =
      let kept = take f (drop at words) in
      let front = kept ++ replicate (v - f) 0 in
      let n : length kept ≡ f = length-take-le f (drop at words) (omega (arith, length-drop at words)) in
      let l : length front ≡ v = length-append kept (replicate (v - f) 0) ∙ omega (arith, length-replicate {A = ℕ} (v - f) 0) in
      let m : length (front ++ (w ∷ [])) ≡ v + 1 = length-append front (w ∷ []) ∙ ap (λ (k : ℕ). k + 1) l in
      let e : at + v + 1 ≡ at + (v + 1) = omega arith in
      let y = get_or words (at + v) 0 in
      let z = get_or words (suc (at + v)) 0 in
      let tail = drop base words in
      ap (λ (k : ℕ). drop at (set (set (put_mid (at + f) (at + v - (at + f)) words zeros) (at + v) w) k x)) e
      ∙ drop-set-add at _ (v + 1) x
      ∙ ap (λ (l : List ℕ). set l (v + 1) x) (
      drop-set-add at _ v w
      ∙ ap (λ (l : List ℕ). set l v w) cleared_at
      ∙ set_at front y (z ∷ tail) w v l
      ∙ sym (append_assoc front (w ∷ []) (z ∷ tail))
      )
      ∙ set_at (front ++ (w ∷ [])) z tail x (v + 1) m
      ∙ append_assoc front (w ∷ []) (x ∷ tail)
      ∙ append_assoc kept (replicate (v - f) 0) (w ∷ (x ∷ tail))

-- ---- and what they stand for

module _ {m : Mode} {c : Given} {words out : List ℕ} {r : Registers} {p i : ℕ} {z : SettledSet m} {vs : List (Cell m)} {fs : List (Frame m)} {os : List (Object m)}
    {input put : List ℕ} (S : Stands m c words out r p i z vs fs os input put) (words' : List ℕ) (a k y : ℕ) (held : SettledSet m) (at v f w : ℕ) (cs : List (Cell m))
    (size : at + (v + 2) ≡ r.base) (room : r.used ≤ at) (few : f ≤ v)
    (place_is : slot_in m (qual_of c.sheet) w ≡ back (r.next + 1) a held)
    (long : length words' ≡ length words) (before : object_part r words' ≡ object_part r words)
    (after : drop at words' ≡ take f (drop at words) ++ (replicate (v - f) 0 ++ (w ∷ (r.procedure ∷ drop r.base words))))
    (there : slots m c (take f (drop at words)) ≡ map cell cs)
    (keeps : a ≡ kept_byte (operation_at c.sheet (instruction_at c.sheet p i)))
    (known : k < procedures_of c.sheet) (of : ProcedureWord c.sheet k y) (many : v ≡ variables_of y) where
  waiting_slots : slots m c (drop r.base words) ≡ map cell vs ++ flat_frames c.sheet z fs
  waiting_slots = map_drop (slot_in m (qual_of c.sheet)) r.base words ∙ S.frames

  new_long : length (cs ++ replicate (v - f) empty) ≡ v
  new_long =
      let frame-fits = S.sane.frame in
      let l : length (take f (drop at words)) ≡ f = length-take-le f (drop at words) (omega (arith, length-drop at words)) in
      let n : length cs ≡ f = sym (length-map cs cell) ∙ ap length (sym there) ∙ length-map (take f (drop at words)) (slot_in m (qual_of c.sheet)) ∙ l in
      length-append cs (replicate (v - f) empty) ∙ omega (arith, length-replicate {A = Cell m} (v - f) empty)

  new_slots : drop at (slots m c words') ≡ map cell (cs ++ replicate (v - f) empty) ++ flat_frames c.sheet held (frame p (suc i) z vs ∷ fs)
  unfolding flat_frames
  new_slots =
      let here : slot_in m (qual_of c.sheet) w ≡ back_to c.sheet p (suc i) held = place_is ∙ rw (keeps, add-one, S.next) in
      let more : slot_in m (qual_of c.sheet) r.procedure ≡ procedure_slot c.sheet p (length vs) =
      S.is_procedure m (qual_of c.sheet) ∙ rw (S.procedure, S.variables, S.first, S.bound) in
      sym (map_drop (slot_in m (qual_of c.sheet)) at words')
      ∙ ap (slots m c) after
      ∙ rw (map-append, map-append, map-append, map_replicate, map_replicate, slot_zero, there, waiting_slots, here, more, append_assoc)

  stands_opened :
      Stands m c words' out
      (record { procedure = y; next = 0; base = at; used = r.used; taken = r.taken; put = r.put; steps = r.steps })
      k 0 held (cs ++ replicate (v - f) empty) (frame p (suc i) z vs ∷ fs) os input put
  unfolding AllSound
  stands_opened =
      let frame-fits = S.sane.frame in
      let slot = slot_in m (qual_of c.sheet) in
      record {
        is_procedure = no_other_procedure _ of.is_procedure;
        procedure = of.number;
        next = refl;
        first = of.first;
        bound = of.bound;
        variables = sym many ∙ sym new_long;
        sane = record { room = room; frame = rw long (omega arith); small = rw long S.sane.small };
        running = record { procedure = known; variables = new_long ∙ many ∙ of.variables };
        waiting = (S.running, S.waiting);
        objects = sym (map_take slot r.used words') ∙ ap (map slot) before ∙ map_take slot r.used words ∙ S.objects;
        frames = new_slots;
        input_left = S.input_left;
        put_words = S.put_words;
        output_is = S.output_is;
        put_fits = S.put_fits;
      }

pub opens : (m : Mode) (words zeros : List ℕ) (r : Registers) (a y held v f w : ℕ) → Sane (length words) r → v + 2 ≤ r.base - r.used → f ≤ v
    → zeros ≡ replicate (length (mid_of (r.base - (v + 2) + f) (r.base - (v + 2) + v - (r.base - (v + 2) + f)) words)) 0
    → ((q : ℕ → Qual) → slot_in m q w ≡ back (r.next + 1) a (settled_set m held))
    → Opened m words (opened words zeros (r.base - (v + 2)) v f w r.procedure) r
    (record { procedure = y; next = 0; base = r.base - (v + 2); used = r.used; taken = r.taken; put = r.put; steps = r.steps })
    a y held v f
opens m words zeros r a y held v f w sane room few cleared place_is c k p i z vs cs fs os input put out S keeps known of many there =
    let at = r.base - (v + 2) in
    let x = r.procedure in
    let frame-fits = sane.frame in
    let size : at + (v + 2) ≡ r.base = omega arith in
    let inside : r.base ≤ length words = omega arith in
    stands_opened S (opened words zeros at v f w x) a k y (settled_set m held) at v f w cs size (omega arith) few (place_is (qual_of c.sheet))
    (length_opened words zeros at r.base v f w x size few inside cleared)
    (opened_before words zeros at r.base v f w x size few inside cleared r.used (omega arith))
    (opened_at words zeros at r.base v f w x size few inside cleared) there keeps known of many
