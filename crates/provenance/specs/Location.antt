-- Where a run keeps a value (document 02, S-4: "place"; ours is location, for a place is where a refusal or a stop is).
use Rattle.std.specs.Prelude.{ℕ, Bool, false, ◌&&◌, cond, List, [], ◌∷◌, eqb, length, get_or}
use Rattle.model.specs.Modes.{watched}
use Rattle.model.specs.Machine.{Cell, empty, Frame, frame, find, cell_of}
use Rattle.model.specs.Run.{Snapshot, snapshot}

-- variable x of the frame that stands on `depth` others, main's on none; cell or slot i of an object by its name
pub data Location : Type 0 where
  variable : (depth x : ℕ) → Location
  cell : (object i : ℕ) → Location

unfoldable pub same_location : Location → Location → Bool
same_location (variable d x) (variable e y) = eqb d e && eqb x y
same_location (cell a i) (cell b j) = eqb a b && eqb i j
same_location (variable d x) (cell b j) = false
same_location (cell a i) (variable e y) = false

-- the variables of the frame at a depth; none where no frame stands there
unfoldable pub variables_at : List (Frame watched) → (depth : ℕ) → List (Cell watched)
variables_at [] d = []
variables_at (frame p i z vs ∷ fs) d = cond (eqb d (length fs)) vs (variables_at fs d)

unfoldable pub content : Snapshot watched → Location → Cell watched
content (snapshot fs os) (variable d x) = get_or (variables_at fs d) x empty
content (snapshot fs os) (cell a i) = cell_of (find os a) i
