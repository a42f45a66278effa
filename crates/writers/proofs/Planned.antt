-- The effects that lean on a number, case by case: what they come to for each answer of the code.
use Prim.Native.Nat.{ℕ, zero, suc, ◌-◌, ◌≤◌, ◌<◌}
use native.Mathlib.Omega.{arith}
use mathlib.Core.Path.{◌≡◌, refl}
use mathlib.Core.List.{List}
use Rattle.std.proofs.Common.{Ok, Err}
use borrow.Author.Tests.{lt-ltb, le-ltb, le-leb, lt-leb}
use lib.ListN.{length, get_or, drop, drop_of_length-le}
use lib.Seq.{drop-cons}
use Rattle.model.specs.declared.Halt.{Halt}
use Rattle.model.specs.Outcome.{input_ended, output_full, memory_full, ok, stop, ensure, found, ◌>>=◌, ◌>>◌}
use Rattle.model.specs.Rights.{array_rights, record_rights}
use Rattle.model.specs.Qualified.{Qual, element}
use Rattle.model.specs.Modes.{Mode, plain, carried, element_info, type_info, array_kind, record_kind, bind}
use Rattle.model.specs.Machine.{word, filled, put, take, jump, skip, new_array, new_record, first_of}
use Rattle.words.specs.Answers.{number_as, halted}
use Rattle.writers.specs.Steps.{branched, jumped, put_effect, take_effect, array_effect, record_effect}
use Rattle.writers.proofs.Effects.{halted_then}

-- ---- a jump

pub jumped_zero : (m : Mode) (k x : ℕ) → x ≡ 0 → jumped m k (Ok x) ≡ ok (jump k)
unfolding jumped number_as branched ◌>>=◌
jumped_zero m k x e = rw e

pub jumped_other : (m : Mode) (k x : ℕ) → (x ≡ 0 → ⊥) → jumped m k (Ok x) ≡ ok skip
unfolding jumped number_as branched ◌>>=◌
jumped_other m k zero n = absurd (n refl)
jumped_other m k (suc x) n = refl

pub jumped_halt : (m : Mode) (k : ℕ) (j : Halt) → jumped m k (Err j) ≡ halted m j
unfolding jumped number_as
jumped_halt m k j = halted_then m j _

-- ---- an output word

pub put_there : (m : Mode) (n at x : ℕ) → at < n → put_effect m (n - at) (Ok x) ≡ ok (put x)
unfolding put_effect number_as ensure ◌>>=◌ ◌>>◌
put_there m n at x h = rw (lt-ltb 0 (n - at) (omega arith))

pub put_full : (m : Mode) (n at x : ℕ) → n ≤ at → put_effect m (n - at) (Ok x) ≡ stop output_full
unfolding put_effect number_as ensure ◌>>=◌ ◌>>◌
put_full m n at x h = rw (le-ltb 0 (n - at) (omega arith))

pub put_halt : (m : Mode) (free : ℕ) (j : Halt) → put_effect m free (Err j) ≡ halted m j
unfolding put_effect number_as
put_halt m free j = halted_then m j _

-- ---- an input word

pub take_there : (m : Mode) (a n : ℕ) (input : List ℕ) → n < length input
    → take_effect m a (first_of (drop n input)) ≡ ok (take a (filled (word (get_or input n 0)) (carried m 0)))
unfolding take_effect found ◌>>=◌
take_there m a n input h = rw (drop-cons input n 0 h)

pub take_ended : (m : Mode) (a n : ℕ) (input : List ℕ) → length input ≤ n → take_effect m a (first_of (drop n input)) ≡ stop input_ended
unfolding take_effect found ◌>>=◌
take_ended m a n input h = rw (drop_of_length-le input h)

-- ---- a new object

pub array_there : (m : Mode) (room a x : ℕ) (q : Qual) → x < room
    → array_effect m room a q (Ok x)
    ≡ (bind m q (array_kind (element_info m (element q))) (carried m array_rights) >>= λ k. ok (new_array a (element_info m (element q)) x k))
unfolding array_effect number_as ensure ◌>>=◌ ◌>>◌
array_there m room a x q h = rw (le-leb (suc x) room h)

pub array_full : (m : Mode) (room a x : ℕ) (q : Qual) → room ≤ x → array_effect m room a q (Ok x) ≡ stop memory_full
unfolding array_effect number_as ensure ◌>>=◌ ◌>>◌
array_full m room a x q h = rw (lt-leb (suc x) room (omega arith))

pub array_halt : (m : Mode) (room a : ℕ) (j : Halt) (q : Qual) → array_effect m room a q (Err j) ≡ halted m j
unfolding array_effect number_as
array_halt m room a j q = halted_then m j _

pub record_there : (m : Mode) (room a : ℕ) (q : Qual) (t named n : ℕ) → n < room
    → record_effect m room a q t named n
    ≡ (bind m q (record_kind (type_info m t)) (carried m (record_rights named)) >>= λ k. ok (new_record a (type_info m t) n k))
unfolding record_effect ensure ◌>>◌
record_there m room a q t named n h = rw (le-leb (suc n) room h)

pub record_full : (m : Mode) (room a : ℕ) (q : Qual) (t named n : ℕ) → room ≤ n → record_effect m room a q t named n ≡ stop memory_full
unfolding record_effect ensure ◌>>◌
record_full m room a q t named n h = rw (lt-leb (suc n) room (omega arith))

-- the plain machine binds nothing
pub array_plain : (room a x : ℕ) (q : Qual) → x < room → array_effect plain room a q (Ok x) ≡ ok (new_array a tt x tt)
unfolding bind ◌>>=◌
array_plain room a x q h = array_there plain room a x q h

pub record_plain : (room a : ℕ) (q : Qual) (t named n : ℕ) → n < room → record_effect plain room a q t named n ≡ ok (new_record a tt n tt)
unfolding bind ◌>>=◌
record_plain room a q t named n h = record_there plain room a q t named n h
