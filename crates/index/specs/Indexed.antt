-- What it is for an index to be that of a sheet.
use Rattle.std.specs.Prelude.{ℕ, ◌≤◌, ◌<◌, ◌≡◌, true, List, cond, eqb, length, get_or}
use Rattle.std.specs.Coded.{Coded-set, coded_bool, coded_ℕ, le_prop}
use Rattle.model.specs.Set.{Qual-set}
use Rattle.sheet.specs.Layout.{quals_of, base_of, rights_field, element_field, procedures_of, formals_at, variables_field, bound_size, procedure_at, start_at, instruction_at}
use Rattle.sheet.specs.Meaning.{qual_of}
use Rattle.index.specs.Types.{rights_of, shape_of, element_of, qual_in, UseTold, UsesTold}
use Rattle.index.specs.Procedures.{procedure_in, start_of, place_of}
use Rattle.words.specs.Word.{number_of, variables_of, formals_of, bound_of, first_of, no_other}

-- the word of QT j, whose base is a byte; 255 is ?R, which has no rights of its own
pub record TypeWord (s : List ℕ) (j w : ℕ) : Type 0 where
  pub small : base_of s j < 256
  pub shape : shape_of w ≡ cond (eqb (base_of s j) 255) 511 (base_of s j)
  pub rights : rights_of w ≡ cond (eqb (base_of s j) 255) 0 (rights_field s j)
  pub element : element_of w ≡ element_field s j

-- a word that tells where the records of procedure k stand
pub record PlacedWord (s : List ℕ) (k w : ℕ) : Type 0 where
  pub bound : bound_of w ≡ bound_size s k (procedure_at s k)
  pub start : start_of w ≡ start_at s k
  pub place : place_of w ≡ procedure_at s k

-- the word of procedure k
pub record ProcedureWord (s : List ℕ) (k w : ℕ) : Type 0 where
  -- it is a procedure's: `IsProcedure w`, by the word alone (crates/words/proofs/Laws.antt leads from each to the other)
  pub is_procedure : no_other w ≡ true
  pub number : number_of w ≡ k
  pub formals : formals_of w ≡ formals_at s (procedure_at s k)
  pub variables : variables_of w ≡ variables_field s (procedure_at s k)
  pub bound : bound_of w ≡ bound_size s k (procedure_at s k)
  pub first : first_of w ≡ instruction_at s k 0
  pub start : start_of w ≡ start_at s k
  pub place : place_of w ≡ procedure_at s k

-- the words of the types that a sheet has were filled in, and no other changed
pub record TypesFilled (s old new : List ℕ) : Type 0 where
  pub long : length new ≡ length old
  pub types : (j : ℕ) → j < quals_of s → j < 64 → TypeWord s j (get_or new j 0)
  pub uses_told : (j : ℕ) → j < quals_of s → j < 64 → UseTold new j (get_or new j 0)
  pub others : (k : ℕ) → quals_of s ≤ k → get_or new k 0 ≡ get_or old k 0
  pub above : (k : ℕ) → 64 ≤ k → get_or new k 0 ≡ get_or old k 0

-- the words of the procedures were, with the place where the last one ends, and none before them changed
pub record ProceduresFilled (s old new : List ℕ) : Type 0 where
  pub places : (k : ℕ) → k ≤ procedures_of s → k ≤ 64 → place_of (procedure_in new k) ≡ procedure_at s k
  pub procedures : (k : ℕ) → k < procedures_of s → k < 64 → ProcedureWord s k (procedure_in new k)
  pub below : (k : ℕ) → k < 64 → get_or new k 0 ≡ get_or old k 0

-- the index of any bytes: as many types and procedures as there is room for
pub record Indexed (s t : List ℕ) : Type 0 where
  pub types : (j : ℕ) → j < quals_of s → j < 64 → TypeWord s j (get_or t j 0)
  pub uses_told : (j : ℕ) → j < quals_of s → j < 64 → UseTold t j (get_or t j 0)
  pub no_types : (j : ℕ) → quals_of s ≤ j → j < 64 → get_or t j 0 ≡ 0
  pub places : (k : ℕ) → k ≤ procedures_of s → k ≤ 64 → place_of (procedure_in t k) ≡ procedure_at s k
  pub procedures : (k : ℕ) → k < procedures_of s → k < 64 → ProcedureWord s k (procedure_in t k)

-- the index of a sheet that has no more of them than there is room for: all that stands above well-formedness leans on this alone
pub record Ready (s t : List ℕ) : Type 0 where
  pub few : procedures_of s ≤ 64
  pub types : (j : ℕ) → qual_in t j ≡ qual_of s j
  pub uses_told : UsesTold t
  pub places : (k : ℕ) → k ≤ procedures_of s → place_of (procedure_in t k) ≡ procedure_at s k
  pub procedures : (k : ℕ) → k < procedures_of s → ProcedureWord s k (procedure_in t k)

pub Ready-prop : (s t : List ℕ) → IsProp (Ready s t)
Ready-prop s t = hlevel (le_prop, Coded-set coded_bool, Coded-set coded_ℕ, Qual-set)
