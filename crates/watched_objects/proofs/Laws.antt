-- A new object is what is planned. Nothing here leaves room for a stuck definition.
use Prim.Native.Nat.{ℕ, ◌-◌, ◌/◌, ◌%◌, ◌^◌, ◌<◌}
use mathlib.Core.Path.{◌≡◌, refl, sym, ap, ◌∙◌}
use mathlib.Core.Bool.{Bool, true, false, cond, false≢true}
use mathlib.Core.List.{List}
use lib.Dec.{eqb}
use lib.ListN.{length}
use Rattle.std.specs.Prelude.{Result, Ok, Err}
use Rattle.model.specs.declared.Halt.{Halt}
use Rattle.model.specs.Rights.{array_rights, record_rights}
use Rattle.model.specs.Qualified.{Qual, declared, generic, base, rights, element, is_array, is_generic}
use Rattle.model.specs.Generic.{instance}
use Rattle.model.specs.Outcome.{Res, ok, stop, stuck, ◌>>=◌, ◌>>◌}
use Rattle.model.specs.Modes.{watched, array_kind, record_kind, bind, demand}
use Rattle.model.specs.Machine as M
use Rattle.model.specs.Machine.{View, Effect, view, plan, declared_as, plan_array, plan_record, one_integer}
use Rattle.model.specs.Program.{Program}
use Rattle.model.specs.declared.Operation.{Operation}
use Rattle.model.specs.declared.Operation.TheVariants as Op
use Rattle.sheet.specs.Meaning.{program_of, qual_of}
use Rattle.index.specs.Types.{named_as}
use Rattle.index.specs.declared.procedures.Scope.{Scope}
use Rattle.words.specs.Answers.{halted, number_as}
use Rattle.binding.specs.Binds.{InScope}
use Rattle.watched_plan.specs.Spots.{made, size_for}
use Rattle.writers.specs.declared.Registers.{Registers}
use Rattle.writers.specs.Memory.{Given, SeesIn}
use Rattle.writers.specs.Steps.{Stepped, Does, array_effect, record_effect}
use Rattle.writers.proofs.Effects.{halted_then}
use Rattle.writers.proofs.Planned.{array_there, record_there}
use Rattle.writers.proofs.View.{room_is}
use Rattle.frames.specs.Performs.{Performs}
use Rattle.frames.proofs.Performs.{sees}
use Rattle.watched_calls.specs.Calls.{ScopeHere}
use Rattle.watched_calls.proofs.Laws.{in_scope, performs_exactly}

module _ (s input words words' before out : List ℕ) (r : Registers) (o : Stepped) (op : Operation) (e : List ℕ → Res (Effect watched))
    (does : (c : Given) → c.sheet ≡ s → Does watched c words words' before out r o (e c.sheet)) where
  -- a plan that leans on the room left besides the running frame's scope, the variables and the objects
  pub performs_roomy : {p : Scope} → ScopeHere s words r p
      → ((v : View watched) → InScope s v p → r.base - r.used ≡ v.room
      → SeesIn watched (qual_of s) v words r → e s ≡ plan watched (program_of s) v op)
      → Performs watched s input words words' before out r o op
  performs_roomy here planned =
      performs_exactly s input words words' before out r o op e does
      (λ c t q i S.
      let v = view (length words) (length before) t in
      planned v (in_scope here c before t q S) (room_is watched c words before r t S) (sees watched c s words before r t q S))

-- ---- a new object

module _ (room a n : ℕ) (q : Qual) {e : Result (Unit {0}) Halt} (fits : n < room) where
  module _ (is : made q e ≡ bind watched q (array_kind (element q)) array_rights) where
    pub array_made : {u : Unit {0}} → e ≡ Ok u → array_effect watched room a q (Ok n) ≡ ok (M.new_array a (element q) n (rights q))
    unfolding made ◌>>=◌
    array_made was = array_there watched room a n q fits ∙ rw (sym is, was)

    pub array_refused : {k : Halt} → e ≡ Err k → array_effect watched room a q (Ok n) ≡ halted watched k
    unfolding made
    array_refused {k} was = array_there watched room a n q fits ∙ rw (sym is, was) (halted_then watched k (λ t. ok (M.new_array a (element q) n t)))

  module _ (t named : ℕ) (is : made q e ≡ bind watched q (record_kind t) (record_rights named)) where
    pub record_made : {u : Unit {0}} → e ≡ Ok u → record_effect watched room a q t named n ≡ ok (M.new_record a t n (rights q))
    unfolding made ◌>>=◌
    record_made was = record_there watched room a q t named n fits ∙ rw (sym is, was)

    pub record_refused : {k : Halt} → e ≡ Err k → record_effect watched room a q t named n ≡ halted watched k
    unfolding made
    record_refused {k} was = record_there watched room a q t named n fits ∙ rw (sym is, was) (halted_then watched k (λ x. ok (M.new_record a t n x)))

-- as the definition plans them
tested_then : {A B : Type 0} (x : Res A) (d : Res (Unit {0})) (f : A → Res B) → ((x >>= λ n. (d >> ok n)) >>= f) ≡ (x >>= λ n. (d >> f n))
unfolding ◌>>=◌ ◌>>◌
tested_then (ok n) (ok u) f = refl
tested_then (ok n) (stop t) f = refl
tested_then (ok n) stuck f = refl
tested_then (stop t) d f = refl
tested_then stuck d f = refl

pub arrays : (g : Program) (v : View watched) (a b : ℕ) (n : Result ℕ Halt) {q : Qual} {room : ℕ} → declared_as watched g v a ≡ q → room ≡ v.room
    → number_as watched n ≡ size_for g v q b
    → array_effect watched room a q n ≡ plan watched g v (Op.NewArray a b)
unfolding plan plan_array array_effect size_for
arrays g v a b n {q} is free e = ap (λ (z : ℕ). array_effect watched z a q n) free ∙ rw (e, is) (tested_then (one_integer watched g v b) (demand watched (is_array q)) _)

pub records : (g : Program) (v : View watched) (a : ℕ) {q : Qual} {room t named n : ℕ} → declared_as watched g v a ≡ q → room ≡ v.room
    → g.owner v.procedure ≡ t → g.named t ≡ named → g.slots t ≡ n
    → record_effect watched room a q t named n ≡ plan watched g v (Op.NewRecord a)
unfolding plan plan_record record_effect
records g v a {q} {room} {t} {named} {n} is free owner names many = ap (λ (z : ℕ). record_effect watched z a q t named n) free ∙ rw (is, owner, names, many)

-- ---- the name with which an array is made

-- in a frame ?R is read as a declared type
pub framed : {s : List ℕ} (v : View watched) {p : Scope} → InScope s v p → is_generic (named_as p.name) ≡ false
unfolding instance is_generic
framed v scope = rw scope.name

pub named_declared : (n : ℕ) {b r : ℕ} → is_generic (named_as n) ≡ false → b ≡ base (named_as n) → r ≡ rights (named_as n) → declared b r ≡ named_as n
unfolding named_as is_generic base rights
named_declared n {b} {r} h is_b is-r = rw (is_b, is-r) (go _ _ (eqb (n / 2 ^ 37 % 2) 1) h)
  where
    go : (t l : ℕ) (u : Bool) → is_generic (cond u (generic t l) (declared t l)) ≡ false
        → declared (base (cond u (generic t l) (declared t l))) (rights (cond u (generic t l) (declared t l))) ≡ cond u (generic t l) (declared t l)
    go t l true h = absurd (false≢true (sym h))
    go t l false h = refl
