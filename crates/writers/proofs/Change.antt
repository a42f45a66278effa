-- What a write does to the objects' part and to the frames' part of the memory, seen as slots.
use Prim.Native.Nat.{ℕ, zero, suc, ◌+◌, ◌≤◌, ◌<◌}
use native.Mathlib.Omega.{arith}
use mathlib.Core.Path.{◌≡◌, refl, ap}
use mathlib.Core.List.{List, [], ◌∷◌, ◌++◌, map}
use lib.ListN.{length, set, take, drop, replicate, length-map}
use lib.Seq.{take-set-le, drop-set-add, set-append_left}
use Rattle.model.specs.Modes.{Mode}
use Rattle.model.specs.Machine.{Cell}
use Rattle.words.specs.Word.{Slot, cell}
use Rattle.words.proofs.Laws.{map_set}

-- ---- lists

pub map_take : {A B : Type 0} (f : A → B) (n : ℕ) (l : List A) → map f (take n l) ≡ take n (map f l)
map_take f zero l = refl
map_take f (suc n) [] = refl
map_take {B = B} f (suc n) (x ∷ l) = ap (λ (r : List B). f x ∷ r) (map_take f n l)

pub map_drop : {A B : Type 0} (f : A → B) (n : ℕ) (l : List A) → map f (drop n l) ≡ drop n (map f l)
map_drop f zero l = refl
map_drop f (suc n) [] = refl
map_drop f (suc n) (x ∷ l) = map_drop f n l

pub map_replicate : {A B : Type 0} (f : A → B) (n : ℕ) (a : A) → map f (replicate n a) ≡ replicate n (f a)
map_replicate f zero a = refl
map_replicate {B = B} f (suc n) a = ap (λ (r : List B). f a ∷ r) (map_replicate f n a)

-- ---- a variable is written

-- seen through any map, such as the slots of a machine
module _ {A : Type 0} (f : ℕ → A) (words : List ℕ) (base a w : ℕ) where
  -- what lies before the frame is as it was
  pub set_before : (n : ℕ) → n ≤ base → take n (map f (set words (base + a) w)) ≡ take n (map f words)
  set_before n h = rw map_set (take-set-le n (map f words) (base + a) (f w) (omega arith))

  pub set_frame : drop base (map f (set words (base + a) w)) ≡ set (drop base (map f words)) a (f w)
  set_frame = rw map_set (drop-set-add base (map f words) a (f w))

-- a frame's variables before what follows them
pub set_variable : {m : Mode} (vs : List (Cell m)) (rest : List (Slot m)) (a : ℕ) (d : Cell m) → a < length vs
    → set (map cell vs ++ rest) a (cell d) ≡ map cell (set vs a d) ++ rest
set_variable vs rest a d l =
    let h : a < length (map cell vs) = rw length-map l in
    rw (set-append_left (map cell vs) rest a (cell d) h, map_set cell vs a d)
