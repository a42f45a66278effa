-- The objects and the frames laid out in slots: what is found at a name, what a store to a cell does, a new object, and lengths.
use Prim.Native.Nat.{ℕ, zero, suc, ◌+◌, ◌-◌, ◌≤◌, ◌<◌}
use native.Mathlib.Omega.{arith}
use native.Mathlib.Nat.{zero-add, suc-add}
use mathlib.Core.Path.{◌≡◌, refl, ap, ◌∙◌}
use mathlib.Core.Bool.{Bool, true, false, cond}
use mathlib.Core.List.{List, [], ◌∷◌, ◌++◌, map, append_assoc, append-nil}
use mathlib.Core.Option.{none, some}
use borrow.Author.Tests.{ltb-true, ltb-false}
use lib.Dec.{ltb}
use lib.ListN.{length, get_or, set, length-set, length-append, length-map, get_or-append, get_or-map}
use lib.Seq.{get_or-append-add, set-append_left}
use Rattle.model.specs.Modes.{Mode, SettledSet}
use Rattle.model.specs.Machine.{Cell, empty, Object, array_of, record_of, cells_of, with_cells, head_of, find, update, Frame, frame, object_units, frame_units}
use Rattle.words.specs.Word.{cell, head, as_head}
use Rattle.words.specs.Sees.{head_size}
use Rattle.words.proofs.Laws.{map_set}
use Rattle.writers.specs.Memory.{flat_objects, flat_frames}

-- ---- lists

pub set_append_add : {A : Type 0} (xs ys : List A) (n : ℕ) (a : A) → set (xs ++ ys) (length xs + n) a ≡ xs ++ set ys n a
set_append_add [] ys n a = rw zero-add
set_append_add {A} (x ∷ xs) ys n a = rw suc-add (ap (λ (r : List A). x ∷ r) (set_append_add xs ys n a))

-- ---- an object

pub size_is : {m : Mode} (o : Object m) → head_size (head_of (some o)) ≡ some (length (cells_of o))
size_is (array_of e cs) = refl
size_is (record_of t cs) = refl

cells_with : {m : Mode} (o : Object m) (ds : List (Cell m)) → cells_of (with_cells o ds) ≡ ds
cells_with (array_of e cs) ds = refl
cells_with (record_of t cs) ds = refl

head_with : {m : Mode} (o : Object m) (ds : List (Cell m)) → length ds ≡ length (cells_of o) → head_of (some (with_cells o ds)) ≡ head_of (some o)
head_with (array_of e cs) ds h = rw h
head_with (record_of t cs) ds h = rw h

-- ---- the objects

-- the object of a name has its head there
pub heads : {m : Mode} (os : List (Object m)) (a : ℕ) → as_head (get_or (flat_objects os) a (cell empty)) ≡ head_of (find os a)
unfolding flat_objects find
heads [] a = refl
heads (o ∷ os) zero = refl
heads (o ∷ os) (suc a) = go (ltb a (length (cells_of o))) refl (heads os (a - length (cells_of o)))
  where
    go : (t : Bool) → ltb a (length (cells_of o)) ≡ t
        → as_head (get_or (flat_objects os) (a - length (cells_of o)) (cell empty)) ≡ head_of (find os (a - length (cells_of o)))
        → as_head (get_or (map cell (cells_of o) ++ flat_objects os) a (cell empty)) ≡ head_of (cond t none (find os (a - length (cells_of o))))
    go true q ih =
        let h : a < length (map cell (cells_of o)) = rw length-map (ltb-true _ _ q) in
        rw (get_or-append (map cell (cells_of o)) (flat_objects os) (cell empty) a h, get_or-map cell (cells_of o) a empty)
    go false q ih =
        let h : length (cells_of o) ≤ a = ltb-false _ _ q in
        let e : a ≡ length (map cell (cells_of o)) + (a - length (cells_of o)) = rw length-map (omega arith) in
        ap (λ (k : ℕ). as_head (get_or (map cell (cells_of o) ++ flat_objects os) k (cell empty))) e
        ∙ rw (get_or-append-add (map cell (cells_of o)) (flat_objects os) (a - length (cells_of o)) (cell empty)) ih

-- cell i of the object of a name
pub cells_at : {m : Mode} (os : List (Object m)) (a i : ℕ) (o : Object m) → find os a ≡ some o → i < length (cells_of o)
    → get_or (flat_objects os) (suc (a + i)) (cell empty) ≡ cell (get_or (cells_of o) i empty)
unfolding flat_objects find
cells_at [] a i o e h = let z : ◌≡◌ {A = ℕ} 0 1 = cc in absurd (omega arith)
cells_at (p ∷ os) zero i o e h =
    let q : p ≡ o = cc in
    let k : i < length (map cell (cells_of p)) = rw (length-map, q) h in
    rw (zero-add, get_or-append (map cell (cells_of p)) (flat_objects os) (cell empty) i k, get_or-map cell (cells_of p) i empty, q)
cells_at (p ∷ os) (suc a) i o e h = go (ltb a (length (cells_of p))) refl e (λ f. cells_at os (a - length (cells_of p)) i o f h)
  where
    go : (t : Bool) → ltb a (length (cells_of p)) ≡ t → cond t none (find os (a - length (cells_of p))) ≡ some o
        → (find os (a - length (cells_of p)) ≡ some o → get_or (flat_objects os) (suc (a - length (cells_of p) + i)) (cell empty) ≡ cell (get_or (cells_of o) i empty))
        → get_or (map cell (cells_of p) ++ flat_objects os) (suc a + i) (cell empty) ≡ cell (get_or (cells_of o) i empty)
    go true q f ih = let z : ◌≡◌ {A = ℕ} 0 1 = cc in absurd (omega arith)
    go false q f ih =
        let g : length (cells_of p) ≤ a = ltb-false _ _ q in
        let k : suc a + i ≡ length (map cell (cells_of p)) + suc (a - length (cells_of p) + i) = rw length-map (omega arith) in
        ap (λ (n : ℕ). get_or (map cell (cells_of p) ++ flat_objects os) n (cell empty)) k
        ∙ rw (get_or-append-add (map cell (cells_of p)) (flat_objects os) (suc (a - length (cells_of p) + i)) (cell empty)) (ih f)

-- a store to cell i of the object of a name
pub set_at_cell : {m : Mode} (os : List (Object m)) (a i : ℕ) (o : Object m) (c : Cell m) → find os a ≡ some o → i < length (cells_of o)
    → set (flat_objects os) (suc (a + i)) (cell c) ≡ flat_objects (update os a i c)
unfolding flat_objects find update
set_at_cell [] a i o c e h = let z : ◌≡◌ {A = ℕ} 0 1 = cc in absurd (omega arith)
set_at_cell (p ∷ os) zero i o c e h =
    let q : p ≡ o = cc in
    let k : i < length (map cell (cells_of p)) = rw (length-map, q) h in
    rw (
      zero-add,
      set-append_left (map cell (cells_of p)) (flat_objects os) i (cell c) k,
      ← map_set cell (cells_of p) i c,
      cells_with p (set (cells_of p) i c),
      head_with p (set (cells_of p) i c) (length-set (cells_of p) i c),
    )
set_at_cell (p ∷ os) (suc a) i o c e h = go (ltb a (length (cells_of p))) refl e (λ f. set_at_cell os (a - length (cells_of p)) i o c f h)
  where
    go : (t : Bool) → ltb a (length (cells_of p)) ≡ t → cond t none (find os (a - length (cells_of p))) ≡ some o
        → (find os (a - length (cells_of p)) ≡ some o
        → set (flat_objects os) (suc (a - length (cells_of p) + i)) (cell c) ≡ flat_objects (update os (a - length (cells_of p)) i c))
        → head (head_of (some p)) ∷ set (map cell (cells_of p) ++ flat_objects os) (suc a + i) (cell c)
        ≡ flat_objects (cond t (p ∷ os) (p ∷ update os (a - length (cells_of p)) i c))
    go true q f ih = let z : ◌≡◌ {A = ℕ} 0 1 = cc in absurd (omega arith)
    go false q f ih =
        let g : length (cells_of p) ≤ a = ltb-false _ _ q in
        let k : suc a + i ≡ length (map cell (cells_of p)) + suc (a - length (cells_of p) + i) = rw length-map (omega arith) in
        ap (λ (n : ℕ). head (head_of (some p)) ∷ set (map cell (cells_of p) ++ flat_objects os) n (cell c)) k
        ∙ rw (set_append_add (map cell (cells_of p)) (flat_objects os) (suc (a - length (cells_of p) + i)) (cell c), ih f)

pub length_objects : {m : Mode} (os : List (Object m)) → length (flat_objects os) ≡ object_units os
unfolding flat_objects object_units
length_objects [] = refl
length_objects (o ∷ os) = rw (length-append, length-map, length_objects os) (omega arith)

pub length_frames : {m : Mode} (s : List ℕ) (z : SettledSet m) (fs : List (Frame m)) → length (flat_frames s z fs) ≡ frame_units fs + 2
unfolding flat_frames frame_units
length_frames s z [] = refl
length_frames s z (frame p i y vs ∷ fs) = rw (length-append, length-map, length_frames s y fs) (omega arith)

-- an object that is found lies within the slots
pub found_fits : {m : Mode} (os : List (Object m)) (a : ℕ) (o : Object m) → find os a ≡ some o → suc (a + length (cells_of o)) ≤ length (flat_objects os)
unfolding flat_objects find
found_fits [] a o e = let z : ◌≡◌ {A = ℕ} 0 1 = cc in absurd (omega arith)
found_fits (p ∷ os) zero o e =
    let q : p ≡ o = cc in
    rw (length-append, length-map, q) (omega arith)
found_fits (p ∷ os) (suc a) o e = go (ltb a (length (cells_of p))) refl e (found_fits os (a - length (cells_of p)) o)
  where
    go : (t : Bool) → ltb a (length (cells_of p)) ≡ t → cond t none (find os (a - length (cells_of p))) ≡ some o
        → (find os (a - length (cells_of p)) ≡ some o → suc (a - length (cells_of p) + length (cells_of o)) ≤ length (flat_objects os))
        → suc (suc a + length (cells_of o)) ≤ length (head (head_of (some p)) ∷ (map cell (cells_of p) ++ flat_objects os))
    go true q f ih = let z : ◌≡◌ {A = ℕ} 0 1 = cc in absurd (omega arith)
    go false q f ih =
        let g : length (cells_of p) ≤ a = ltb-false _ _ q in
        let k : suc (a - length (cells_of p) + length (cells_of o)) ≤ length (flat_objects os) = ih f in
        rw (length-append, length-map) (omega arith)

-- a new object lies after the others
pub flat_snoc : {m : Mode} (os : List (Object m)) (o : Object m)
    → flat_objects (os ++ (o ∷ [])) ≡ flat_objects os ++ (head (head_of (some o)) ∷ map cell (cells_of o))
unfolding flat_objects
flat_snoc [] o = rw append-nil
flat_snoc (p ∷ os) o = rw (flat_snoc os o, append_assoc)
