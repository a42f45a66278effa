-- What a step of the code gives, against what the definition gives.
use Rattle.std.specs.Prelude.{ℕ, zero, suc, ◌+◌, ◌<◌, ◌≡◌, List, ◌∷◌, ◌++◌, map, leb, ltb, length, drop, set, replicate, Result, Ok, Err}
use Rattle.std.proofs.Math.Option.{Option}
use Rattle.std.proofs.Math.ListN as list
use Rattle.model.specs.declared.Halt.{Halt}
use Rattle.model.specs.Outcome.{Stop, stop_of, input_ended, output_full, memory_full, Res, ok, stop, stuck, ensure, found, ◌>>=◌, ◌>>◌}
use Rattle.model.specs.Rights.{array_rights, record_rights}
use Rattle.model.specs.Qualified.{Qual, element}
use Rattle.model.specs.Modes.{Mode, SettledSet, carried, element_info, type_info, array_kind, record_kind, bind}
use Rattle.model.specs.Machine as M
use Rattle.model.specs.Machine.{word, empty, filled, frame, State, state, go, finished, Effect, put, take, jump, skip, new_array, new_record, apply}
use Rattle.sheet.specs.Meaning.{program_of}
use Rattle.words.specs.Word.{cell, slot_in}
use Rattle.words.specs.Answers.{number_as}
use Rattle.writers.specs.declared.Registers.{Registers}
use Rattle.writers.specs.declared.Next.{Next}
use Rattle.writers.specs.declared.Next.TheVariants.{Go, Enter, Done}
use Rattle.writers.specs.Memory.{Given, StandsFor, variables_in}

-- the registers of the same frame, moved on
abbrev pub onward : Registers → (next used taken put : ℕ) → Registers
onward r i u n w =
    record {
      procedure = r.procedure;
      next = i;
      base = r.base;
      used = u;
      taken = n;
      put = w;
      steps = r.steps;
    }

-- the same registers at another instruction
abbrev pub at_next : Registers → ℕ → Registers
at_next r i = onward r i r.used r.taken r.put

-- "A step that stops changes nothing": it tells which stop, the output is as it was, and the words still stand for the state in which it stopped
pub record Unchanged (m : Mode) (c : Given) (words before output : List ℕ) (r : Registers) (t : State m) (k : Halt) (x : Stop) : Type 0 where
  pub halts : stop_of k ≡ x
  pub output_kept : output ≡ before
  pub still : StandsFor m c words output r t

-- the set of the running frame
abbrev pub running_set : {m : Mode} → State m → SettledSet m
running_set (state (frame p i z vs) fs os input output) = z

-- what a step came to
abbrev pub Stepped : Type 0
Stepped = Result Next Halt

-- the words after, the output before and after, the registers and the state before, and the answer: Go at another instruction of the same frame, whose set
-- is as it was, Enter with any registers.
-- Where the definition is stuck nothing is said: of an accepted program condition 3 says that it never is.
abbrev pub After : (m : Mode) → Given → (words before output : List ℕ) → Registers → State m → Stepped → Res (M.Next m) → Type 0
After m c words before output r t (Ok (Go q)) (ok (go u)) =
    (q ≡ at_next r q.next) × ((running_set u ≡ running_set t) × StandsFor m c words output q u)
After m c words before output r t (Ok (Go q)) (ok finished) = ⊥
After m c words before output r t (Ok (Go q)) (stop x) = ⊥
After m c words before output r t (Ok (Go q)) stuck = Unit {0}
After m c words before output r t (Ok (Enter q)) (ok (go u)) = StandsFor m c words output q u
After m c words before output r t (Ok (Enter q)) (ok finished) = ⊥
After m c words before output r t (Ok (Enter q)) (stop x) = ⊥
After m c words before output r t (Ok (Enter q)) stuck = Unit {0}
After m c words before output r t (Err k) (ok n) = ⊥
After m c words before output r t (Err k) (stop x) = Unchanged m c words before output r t k x
After m c words before output r t (Err k) stuck = Unit {0}
After m c words before output r t (Ok Done) (ok (go u)) = ⊥
After m c words before output r t (Ok Done) (ok finished) = output ≡ before
After m c words before output r t (Ok Done) (stop x) = ⊥
After m c words before output r t (Ok Done) stuck = Unit {0}

-- an effect that was planned, from every state that the words stand for
abbrev pub Does : (m : Mode) → Given → (words words' before output : List ℕ) → Registers → Stepped → Res (Effect m) → Type 0
Does m c words words' before output r o e =
    (t : State m) → StandsFor m c words before r t →
    After m c words' before output r t o (e >>= λ x. ok (apply (program_of c.sheet) t x))

-- the words after an object was allotted: its head and n blank cells after the other objects, its name in variable a; the rest is as it was
pub record Allotted (m : Mode) (qual : ℕ → Qual) (words words' : List ℕ) (r : Registers) (a head n name : ℕ) : Type 0 where
  pub named : a < variables_in r
  pub long : length words' ≡ length words
  pub objects : list.take (r.used + (n + 1)) (map (slot_in m qual) words')
      ≡ list.take r.used (map (slot_in m qual) words) ++ (slot_in m qual head ∷ replicate n (cell empty))
  pub frame : drop r.base (map (slot_in m qual) words')
      ≡ set (drop r.base (map (slot_in m qual) words)) a (slot_in m qual name)

-- ---- effects that lean on a number, as the definition plans them

-- "if a is zero go to instruction k"
unfoldable pub branched : {m : Mode} → (n k : ℕ) → Effect m
branched zero k = jump k
branched (suc n) k = skip

unfoldable pub jumped : (m : Mode) → ℕ → Result ℕ Halt → Res (Effect m)
jumped m k n = number_as m n >>= λ x. ok (branched x k)

-- an output of so many words, with so many free
unfoldable pub put_effect : (m : Mode) → (free : ℕ) → Result ℕ Halt → Res (Effect m)
put_effect m free n = number_as m n >>= λ x. (ensure output_full (ltb 0 free) >> ok (put x))

unfoldable pub take_effect : (m : Mode) → ℕ → Option ℕ → Res (Effect m)
take_effect m a next = found input_ended next >>= λ n. ok (take a (filled (word n) (carried m 0)))

-- a new array of n cells for variable a of type q, where so many units are free
unfoldable pub array_effect : (m : Mode) → (room a : ℕ) → Qual → Result ℕ Halt → Res (Effect m)
array_effect m room a q n = do
  x ← number_as m n
  ensure memory_full (leb (suc x) room)
  k ← bind m q (array_kind (element_info m (element q))) (carried m array_rights)
  ok (new_array a (element_info m (element q)) x k)

-- a new record of type t, which names so many rights, for the same
unfoldable pub record_effect : (m : Mode) → (room a : ℕ) → Qual → (t named slots : ℕ) → Res (Effect m)
record_effect m room a q t named slots = do
  ensure memory_full (leb (suc slots) room)
  k ← bind m q (record_kind (type_info m t)) (carried m (record_rights named))
  ok (new_record a (type_info m t) slots k)
