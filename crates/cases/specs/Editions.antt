-- Document 02, S-5: one program in both editions, with the highest right that each has, 15 or 31. All that is claimed is claimed once, over the edition.
-- Bytes in decimal, one record a line; 255 is none or unused.
use Rattle.model.specs.Refusal.{Accepted, Refused}
use Rattle.std.specs.Prelude.{ℕ, ◌+◌, ◌^◌, ◌≡◌, List, [], ◌∷◌, ◌++◌}
use Rattle.model.specs.Qualified.{declared}
use Rattle.model.specs.Outcome.{done}
use Rattle.model.specs.Modes.{watched}
use Rattle.model.specs.Machine.{word, object, empty, filled, array_of, record_of, frame}
use Rattle.model.specs.declared.Reason.TheVariants.{BadEdition}
use Rattle.model.specs.Run.{stopped, Snapshot, snapshot, state_after}
use Rattle.sheet.specs.Meaning.{program_of}
use Rattle.checking.specs.Check.{check}
use Rattle.cases.specs.Accepted.{Runs}

-- ---- "Refusal 4 then means neither 1 nor 2": the smallest sheet in an edition
abbrev pub smallest_in : (edition : ℕ) → List ℕ
smallest_in edition =
    72 ∷ 68 ∷ edition ∷ 0 ∷ 0 ∷ 1 ∷
    80 ∷ 82 ∷ 0 ∷ 0 ∷ 0 ∷ 255 ∷ 1 ∷ 0 ∷
    73 ∷ 78 ∷ 17 ∷ 255 ∷ 255 ∷ 255 ∷ 0 ∷ 0 ∷
    []

pub record Editions : Type 0 where
  pub first : check (smallest_in 1) ≡ Accepted
  pub second : check (smallest_in 2) ≡ Accepted
  pub none : check (smallest_in 0) ≡ Refused BadEdition 0
  pub third : check (smallest_in 3) ≡ Refused BadEdition 0

-- ---- A call is made, stored, handed to a procedure for any rights, fetched, and read in its own module. `set` gives the bytes of a set of rights
-- by its lowest byte, `sealed` those with the highest right besides.
module _ (edition most : ℕ) (set sealed : ℕ → List ℕ) where
  abbrev qt : (base : ℕ) → List ℕ → (element : ℕ) → List ℕ
  qt base rights element = 81 ∷ 84 ∷ base ∷ (rights ++ (element ∷ []))

  abbrev types : List ℕ
  types =
      (72 ∷ 68 ∷ edition ∷ 1 ∷ 7 ∷ 4 ∷  -- HD one type, seven qualified types, four procedures
      84 ∷ 89 ∷ most ∷ 1 ∷ 0 ∷ 255 ∷ 255 ∷ 255 ∷ 255 ∷ 255 ∷ 255 ∷ 255 ∷ [])  -- TY type 2, call: all rights of the edition, one slot, an integer
      ++ (qt 0 (set 0) 255  -- QT 0: integer
      ++ (qt 2 (sealed 0) 255  -- QT 1: call{seal}
      ++ (qt 2 (sealed 3) 255  -- QT 2: call{open,read,seal}
      ++ (qt 2 (sealed 2) 255  -- QT 3: call{read,seal}
      ++ (qt 255 (set 0) 255  -- QT 4: ?R
      ++ (qt 1 (set 6) 4  -- QT 5: array[?R]{fetch,store}
      ++ qt 1 (set 6) 3))))))  -- QT 6: array[call{read,seal}]{fetch,store}

  abbrev procedures : List ℕ
  procedures =
      (80 ∷ 82 ∷ 0 ∷ 0 ∷ 4 ∷ 255 ∷ 10 ∷ 0 ∷  -- procedure 0, main: four variables, ten instructions
      86 ∷ 82 ∷ 0 ∷ 255 ∷  -- VR 0: one
      86 ∷ 82 ∷ 0 ∷ 255 ∷  -- VR 1: number
      86 ∷ 82 ∷ 6 ∷ 255 ∷  -- VR 2: calls
      86 ∷ 82 ∷ 3 ∷ 255 ∷  -- VR 3: call
      73 ∷ 78 ∷ 1 ∷ 0 ∷ 255 ∷ 255 ∷ 1 ∷ 0 ∷  -- IN 0: one := 1
      73 ∷ 78 ∷ 1 ∷ 1 ∷ 255 ∷ 255 ∷ 0 ∷ 0 ∷  -- IN 1: number := 0
      73 ∷ 78 ∷ 9 ∷ 2 ∷ 0 ∷ 255 ∷ 0 ∷ 0 ∷  -- IN 2: calls ← new array of size one
      73 ∷ 78 ∷ 16 ∷ 3 ∷ 255 ∷ 255 ∷ 1 ∷ 0 ∷  -- IN 3: call ← procedure 1 ()
      73 ∷ 78 ∷ 11 ∷ 2 ∷ 1 ∷ 3 ∷ 0 ∷ 0 ∷  -- IN 4: calls[number] ← call
      73 ∷ 78 ∷ 16 ∷ 255 ∷ 2 ∷ 255 ∷ 2 ∷ 0 ∷  -- IN 5: procedure 2 (calls)
      73 ∷ 78 ∷ 10 ∷ 3 ∷ 2 ∷ 1 ∷ 0 ∷ 0 ∷  -- IN 6: call ← calls[number]
      73 ∷ 78 ∷ 16 ∷ 1 ∷ 3 ∷ 255 ∷ 3 ∷ 0 ∷  -- IN 7: number ← procedure 3 (call)
      73 ∷ 78 ∷ 8 ∷ 1 ∷ 255 ∷ 255 ∷ 0 ∷ 0 ∷  -- IN 8: put number
      73 ∷ 78 ∷ 17 ∷ 255 ∷ 255 ∷ 255 ∷ 0 ∷ 0 ∷  -- IN 9: return
      80 ∷ 82 ∷ 2 ∷ 0 ∷ 2 ∷ 3 ∷ 4 ∷ 0 ∷  -- procedure 1, of the type call: a new call, under read and seal
      86 ∷ 82 ∷ 2 ∷ 255 ∷  -- VR 0: made
      86 ∷ 82 ∷ 0 ∷ 255 ∷  -- VR 1: number
      73 ∷ 78 ∷ 13 ∷ 0 ∷ 255 ∷ 255 ∷ 0 ∷ 0 ∷  -- IN 0: made ← new call
      73 ∷ 78 ∷ 1 ∷ 1 ∷ 255 ∷ 255 ∷ 7 ∷ 0 ∷  -- IN 1: number := 7
      73 ∷ 78 ∷ 15 ∷ 0 ∷ 1 ∷ 255 ∷ 0 ∷ 0 ∷  -- IN 2: slot 0 of made ← number
      73 ∷ 78 ∷ 17 ∷ 0 ∷ 255 ∷ 255 ∷ 0 ∷ 0 ∷  -- IN 3: return made, less open
      80 ∷ 82 ∷ 0 ∷ 1 ∷ 4 ∷ 255 ∷ 5 ∷ 0 ∷ [])  -- procedure 2, for ?R ≥ call{seal}
      ++ ((71 ∷ 78 ∷ 2 ∷ sealed 0)  -- GN base call, least set seal
      ++ (86 ∷ 82 ∷ 5 ∷ 5 ∷  -- VR 0: calls
      86 ∷ 82 ∷ 0 ∷ 255 ∷  -- VR 1: first
      86 ∷ 82 ∷ 4 ∷ 255 ∷  -- VR 2: any
      86 ∷ 82 ∷ 1 ∷ 255 ∷  -- VR 3: to be sealed
      73 ∷ 78 ∷ 1 ∷ 1 ∷ 255 ∷ 255 ∷ 0 ∷ 0 ∷  -- IN 0: first := 0
      73 ∷ 78 ∷ 10 ∷ 2 ∷ 0 ∷ 1 ∷ 0 ∷ 0 ∷  -- IN 1: any ← calls[first]
      73 ∷ 78 ∷ 6 ∷ 3 ∷ 2 ∷ 255 ∷ 0 ∷ 0 ∷  -- IN 2: to be sealed ← any, whose least right it is
      73 ∷ 78 ∷ 11 ∷ 0 ∷ 1 ∷ 2 ∷ 0 ∷ 0 ∷  -- IN 3: calls[first] ← any
      73 ∷ 78 ∷ 17 ∷ 255 ∷ 255 ∷ 255 ∷ 0 ∷ 0 ∷  -- IN 4: return
      80 ∷ 82 ∷ 2 ∷ 1 ∷ 2 ∷ 0 ∷ 2 ∷ 0 ∷  -- procedure 3, of the type call: the number of a call that may be sealed
      86 ∷ 82 ∷ 2 ∷ 1 ∷  -- VR 0: call: needs call{seal}, is call{open,read,seal} inside
      86 ∷ 82 ∷ 0 ∷ 255 ∷  -- VR 1: number
      73 ∷ 78 ∷ 14 ∷ 1 ∷ 0 ∷ 255 ∷ 0 ∷ 0 ∷  -- IN 0: number ← slot 0 of call
      73 ∷ 78 ∷ 17 ∷ 1 ∷ 255 ∷ 255 ∷ 0 ∷ 0 ∷ []))  -- IN 1: return number

  unfoldable pub sealing : List ℕ
  sealing = types ++ procedures

  -- what main holds from its first call on, where a call carries these rights
  abbrev pub main_after : (next : ℕ) → (rights : ℕ) → Snapshot watched → Snapshot watched
  main_after next rights (snapshot frames objects) =
      snapshot (frames ++ (frame 0 next 0 (filled (word 1) 0 ∷ filled (word 0) 0 ∷ filled (object 0) 6 ∷ filled (object 2) rights ∷ []) ∷ []))
      (array_of (declared 2 rights) (filled (object 2) rights ∷ []) ∷ record_of 2 (filled (word 7) 0 ∷ []) ∷ [])

  -- both machines do the same and are done after 21 steps. After 13 the procedure for any rights holds the settled set, with which its variable carries
  -- the call that it fetched, and a variable with the highest right alone; after 17 the formal of the call's own module carries open besides
  pub record Seals : Type 0 where
    pub runs : Runs sealing 40 1 [] 100 (stopped done 21 (7 ∷ []) 0 9)
    pub settled_and_fetched :
        state_after watched (program_of sealing) 40 1 [] 100 13
        ≡ main_after 6 (2 ^ most + 2) (snapshot (frame 2 3 (2 ^ most + 2) (filled (object 0) 6 ∷ filled (word 0) 0 ∷ filled (object 2) (2 ^ most + 2) ∷ filled (object 2) (2 ^ most) ∷ []) ∷ []) [])
    pub amplified :
        state_after watched (program_of sealing) 40 1 [] 100 17
        ≡ main_after 8 (2 ^ most + 2) (snapshot (frame 3 0 0 (filled (object 2) (2 ^ most + 3) ∷ empty ∷ []) ∷ []) [])

-- rights in two bytes, and in four
abbrev pub InEditionOne : Type 0
InEditionOne = Seals 1 15 (λ low. low ∷ 0 ∷ []) (λ low. low ∷ 128 ∷ [])

abbrev pub InEditionTwo : Type 0
InEditionTwo = Seals 2 31 (λ low. low ∷ 0 ∷ 0 ∷ 0 ∷ []) (λ low. low ∷ 0 ∷ 0 ∷ 128 ∷ [])
