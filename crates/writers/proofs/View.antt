-- What the code reads off the memory is what an instruction sees of the state that the memory stands for.
use Prim.Native.Nat.{ℕ, suc, ◌+◌, ◌-◌, ◌≤◌, ◌<◌}
use native.Mathlib.Omega.{arith}
use mathlib.Core.Path.{◌≡◌, refl, sym, ap, ◌∙◌}
use mathlib.Core.List.{List, [], ◌∷◌, ◌++◌, map}
use mathlib.Core.Option.{Option, none, some}
use lib.ListN.{length, get_or, drop, length-append, length-map, length-drop, get_or-map}
use lib.Seq.{get_or-drop, get_or_at, get_or-append-add, drop-drop, drop-append-add, length-take-le, take_at}
use Rattle.model.specs.Modes.{Mode, SettledSet}
use Rattle.model.specs.Machine.{Cell, empty, Object, cells_of, head_of, cell_of, find, Frame, frame, State, state, object_units, frame_units, view, first_of}
use Rattle.sheet.specs.Meaning.{qual_of}
use Rattle.words.specs.Word.{Slot, cell, slot_in, as_head}
use Rattle.words.specs.Sees.{head_size, heads_in}
use Rattle.words.proofs.Laws.{slot_at}
use Rattle.writers.specs.declared.Registers.{Registers}
use Rattle.writers.specs.Memory.{Given, slots, variables_in, object_part, frame_part, SeesIn, Stands, StandsFor, flat_objects, back_to, procedure_slot, flat_frames}
use Rattle.writers.proofs.Change.{map_take, map_drop}
use Rattle.writers.proofs.Flat.{size_is, heads, cells_at, length_objects, length_frames}

module _ {m : Mode} {c : Given} {words out : List ℕ} {r : Registers} {p i : ℕ} {z : SettledSet m} {vs : List (Cell m)} {fs : List (Frame m)} {os : List (Object m)}
    {input put : List ℕ} (S : Stands m c words out r p i z vs fs os input put) where
  pub used_is : r.used ≡ object_units os
  used_is =
      let a = S.sane.room in
      let b = S.sane.frame in
      let l : r.used ≤ length (slots m c words) = rw length-map (omega arith) in
      sym (length-take-le r.used (slots m c words) l) ∙ ap length S.objects ∙ length_objects os

  -- the units of the frames
  pub frames_are : length words - r.base ≡ (length vs + 2) + frame_units fs
  frames_are =
      let e : length words - r.base ≡ length (map cell vs ++ flat_frames c.sheet z fs) =
      omega (arith, length-drop r.base (slots m c words), length-map words (slot_in m (qual_of c.sheet)), ap length S.frames) in
      e ∙ rw (length-append, length-map, length_frames) (omega arith)

  pub objects_part : slots m c (object_part r words) ≡ flat_objects os
  objects_part = map_take (slot_in m (qual_of c.sheet)) r.used words ∙ S.objects

  pub variables_part : slots m c (frame_part r words) ≡ map cell vs
  variables_part =
      rw (map_take, map_drop, S.frames) (take_at (map cell vs) (flat_frames c.sheet z fs) (variables_in r) (length-map vs cell ∙ sym S.variables))

  pub variable_is : (x : ℕ) → slot_in m (qual_of c.sheet) (get_or (frame_part r words) x 0) ≡ cell (get_or vs x empty)
  variable_is x =
      sym (slot_at m (qual_of c.sheet) (frame_part r words) x)
      ∙ ap (λ (l : List (Slot m)). get_or l x (cell empty)) variables_part
      ∙ get_or-map cell vs x empty

  pub head_is : (a : ℕ) → heads_in m (qual_of c.sheet) (object_part r words) a ≡ head_of (find os a)
  head_is a =
      ap as_head (sym (slot_at m (qual_of c.sheet) (object_part r words) a))
      ∙ ap (λ (l : List (Slot m)). as_head (get_or l a (cell empty))) objects_part
      ∙ heads os a

  pub cell_is : (a j n : ℕ) → head_size (head_of (find os a)) ≡ some n → j < n
      → slot_in m (qual_of c.sheet) (get_or (object_part r words) (a + 1 + j) 0) ≡ cell (cell_of (find os a) j)
  cell_is a j n = go (find os a) refl
    where
      go : (f : Option (Object m)) → find os a ≡ f → head_size (head_of f) ≡ some n → j < n
          → slot_in m (qual_of c.sheet) (get_or (object_part r words) (a + 1 + j) 0) ≡ cell (cell_of f j)
      go none e size below = let z : ◌≡◌ {A = ℕ} 0 1 = cc in absurd (omega arith)
      go (some o) e size below =
          let many : some (length (cells_of o)) ≡ some n = sym (size_is o) ∙ size in
          let same : length (cells_of o) ≡ n = cc in
          let at : a + 1 + j ≡ suc (a + j) = omega arith in
          rw (at, ← slot_at m (qual_of c.sheet) (object_part r words) (suc (a + j)), objects_part) (cells_at os a j o e (omega arith))

-- ---- the frame that waits

-- main's frame ends the memory
pub alone : {m : Mode} {c : Given} {words out : List ℕ} {r : Registers} {p i : ℕ} {z : SettledSet m} {vs : List (Cell m)} {os : List (Object m)} {input put : List ℕ}
    → Stands m c words out r p i z vs [] os input put → length words ≤ r.base + (variables_in r + 2)
unfolding frame_units
alone S =
    let l = frames_are S in
    let v = S.variables in
    let s = S.sane.frame in
    omega arith

-- and a blank word follows its variables
pub alone_back : {m : Mode} {c : Given} {words out : List ℕ} {r : Registers} {p i : ℕ} {z : SettledSet m} {vs : List (Cell m)} {os : List (Object m)} {input put : List ℕ}
    → Stands m c words out r p i z vs [] os input put → slot_in m (qual_of c.sheet) (get_or words (r.base + variables_in r) 0) ≡ cell empty
unfolding flat_frames
alone_back {m} {c} {words} {r = r} {vs = vs} S =
    sym (slot_at m (qual_of c.sheet) words (r.base + variables_in r))
    ∙ sym (get_or-drop r.base (slots m c words) (variables_in r) (cell empty))
    ∙ rw S.frames (get_or_at (map cell vs) (cell empty) _ (cell empty) (variables_in r) (length-map vs cell ∙ sym S.variables))

module _ {m : Mode} {c : Given} {words out : List ℕ} {r : Registers} {p i q k : ℕ} {z y : SettledSet m} {vs us : List (Cell m)} {fs : List (Frame m)} {os : List (Object m)}
    {input put : List ℕ} (S : Stands m c words out r p i z vs (frame q k y us ∷ fs) os input put) where
  -- where it goes back stands after the running frame's variables
  pub waiting_back : slot_in m (qual_of c.sheet) (get_or words (r.base + variables_in r) 0) ≡ back_to c.sheet q k z
  unfolding flat_frames
  waiting_back =
      sym (slot_at m (qual_of c.sheet) words (r.base + variables_in r))
      ∙ sym (get_or-drop r.base (slots m c words) (variables_in r) (cell empty))
      ∙ rw S.frames (get_or_at (map cell vs) (back_to c.sheet q k z) _ (cell empty) (variables_in r) (length-map vs cell ∙ sym S.variables))

  -- and after that its procedure
  pub waiting_procedure : slot_in m (qual_of c.sheet) (get_or words (r.base + (variables_in r + 1)) 0)
      ≡ procedure_slot c.sheet q (length us)
  unfolding flat_frames
  waiting_procedure =
      let n : variables_in r + 1 ≡ length (map cell vs) + 1 = rw length-map (ap (λ (n : ℕ). n + 1) S.variables) in
      sym (slot_at m (qual_of c.sheet) words (r.base + (variables_in r + 1)))
      ∙ sym (get_or-drop r.base (slots m c words) (variables_in r + 1) (cell empty))
      ∙ rw (S.frames, n) (get_or-append-add (map cell vs) (flat_frames c.sheet z (frame q k y us ∷ fs)) 1 (cell empty))

  -- and its variables after that, with the frames that wait for it
  pub waiting_frame : drop (r.base + (variables_in r + 2)) (slots m c words) ≡ map cell us ++ flat_frames c.sheet y fs
  unfolding flat_frames
  waiting_frame =
      let n : variables_in r + 2 ≡ length (map cell vs) + 2 = rw length-map (ap (λ (n : ℕ). n + 2) S.variables) in
      sym (drop-drop (variables_in r + 2) r.base (slots m c words))
      ∙ rw (S.frames, n) (drop-append-add (map cell vs) (flat_frames c.sheet z (frame q k y us ∷ fs)) 2)

-- ---- the same of any state

module _ (m : Mode) (c : Given) (words out : List ℕ) (r : Registers) where
  pub view_sees : (t : State m) → StandsFor m c words out r t
      → SeesIn m (qual_of c.sheet) (view (length words) (length out) t) words r
  view_sees (state (frame p i z vs) fs os input put) S =
      record { variable = variable_is S; head = head_is S; cell = cell_is S }

  pub room_is : (t : State m) → StandsFor m c words out r t → r.base - r.used ≡ (view (length words) (length out) t).room
  unfolding frame_units
  room_is (state (frame p i z vs) fs os input put) S =
      let u = used_is S in
      let f = frames_are S in
      let b = S.sane.frame in
      omega arith

  pub free_is : (t : State m) → StandsFor m c words out r t → length out - r.put ≡ (view (length words) (length out) t).free
  free_is (state (frame p i z vs) fs os input put) S = rw S.put_words

  pub next_input_is : (t : State m) → StandsFor m c words out r t → first_of (drop r.taken c.input) ≡ (view (length words) (length out) t).next_input
  next_input_is (state (frame p i z vs) fs os input put) S = rw S.input_left
