-- What the chain behind a right says (document 02, S-4): "each right carried by a filled place, after any number of steps, traces back through bindings that
-- all carried it to the object's creation or to an amplified formal of its own module".
use Rattle.std.specs.Prelude.{ℕ, pred, ◌≤◌, ◌<◌, ◌≡◌, true, List, [], ◌∷◌, length}
use Rattle.std.proofs.Math.Option.{none, some}
use Rattle.model.specs.Rights.{Rights, has, array_rights, record_rights}
use Rattle.model.specs.Qualified.{Qual, rights}
use Rattle.model.specs.Program.{Program}
use Rattle.model.specs.Modes.{watched, record_kind}
use Rattle.model.specs.Machine.{Value, object, Cell, filled, Object, array_of, record_of, Frame, frame, find}
use Rattle.model.specs.Run.{Snapshot, state_after}
use Rattle.model.specs.Claim.{frames, objects, kind_in}
use Rattle.provenance.specs.Location.{Location, variable, content}
use Rattle.provenance.specs.Chain.{Chain, nowhere, made_in, amplified_in, bound_in, chain}

-- ---- A value v with a right i, in one state

-- a cell holds the value with the right
pub record Carries (v : Value) (i : ℕ) (c : Cell watched) : Type 0 where
  pub carried : Rights
  pub holds : c ≡ filled v carried
  pub has_right : has i carried ≡ true

-- each of these declared types has the right
abbrev pub AllHave : (i : ℕ) → List Qual → Type 0
AllHave i [] = Unit {0}
AllHave i (q ∷ qs) = (has i (rights q) ≡ true) × AllHave i qs

-- document 01: "9 and 13 give all rights"
abbrev pub all_rights : Program → Object watched → Rights
all_rights g (array_of e cs) = array_rights
all_rights g (record_of t cs) = record_rights (g.named t)

-- "the object's creation": the value is an object that is none of those before a step and one of those after it, and the right is one that it was given
pub record Created (g : Program) (v : Value) (i : ℕ) (before after : Snapshot watched) : Type 0 where
  pub name : ℕ
  pub is_object : v ≡ object name
  pub not_before : find (objects before) name ≡ none
  pub new : Object watched
  pub there_after : find (objects after) name ≡ some new
  pub given : has i (all_rights g new) ≡ true

-- "an amplified formal of its own module": the location is formal j of a frame of procedure p that a step opened, the procedure is owned by the value's
-- type, and has the right inside
pub record OwnFormal (g : Program) (v : Value) (i : ℕ) (after : Snapshot watched) (l : Location) (p j : ℕ) : Type 0 where
  pub set : Rights
  pub variables : List (Cell watched)
  pub waiting : List (Frame watched)
  pub opened : frames after ≡ frame p 0 set variables ∷ waiting
  pub location : l ≡ variable (length waiting) j
  pub formal : j < g.formals p
  pub owner : 2 ≤ g.owner p
  pub own_type : kind_in (objects after) v ≡ record_kind (g.owner p)
  pub inside : has i (rights (g.inner p j)) ≡ true

-- ---- In a run, `after` being the state after each number of steps

module _ (g : Program) (after : ℕ → Snapshot watched) (v : Value) (i : ℕ) where
  -- step k was one of the first n, and after it and each step since the location carries the right
  pub record Since (k n : ℕ) (l : Location) : Type 0 where
    pub counted : 0 < k
    pub among : k ≤ n
    pub throughout : (j : ℕ) → k ≤ j → j ≤ n → Carries v i (content (after j) l)

  -- what a chain of location l after n steps says: it starts somewhere, and each link carried the right, on both sides and by every declared type in between
  abbrev pub Traces : (n : ℕ) → Location → Chain → Type 0
  Traces n l nowhere = ⊥
  Traces n l (made_in k) = Since k n l × Created g v i (after (pred k)) (after k)
  Traces n l (amplified_in k p j) = Since k n l × OwnFormal g v i (after k) l p j
  Traces n l (bound_in k from through c) = Since k n l × AllHave i through × Traces (pred k) from c

-- the claim, on a program, with so many words of memory and of output, an input and a fuel
abbrev pub RightsTraced : (g : Program) → (memory output : ℕ) → (input : List ℕ) → (fuel : ℕ) → Type 0
RightsTraced g memory output input fuel =
    (n : ℕ) (l : Location) (v : Value) (i : ℕ) → Carries v i (content (state_after watched g memory output input fuel n) l) →
    Traces g (state_after watched g memory output input fuel) v i n l (chain g memory output input fuel n l)
