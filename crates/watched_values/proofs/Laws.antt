-- A take is what is planned, where there is an integer to take and where there is none. Nothing here leaves room for a stuck definition.
use Prim.Native.Nat.{ℕ}
use native.Mathlib.Omega.{arith}
use mathlib.Core.Path.{◌≡◌, refl, sym, ap, ◌∙◌}
use mathlib.Core.Bool.{Bool, true, false, ◌||◌}
use mathlib.Core.List.{List, [], ◌∷◌}
use mathlib.Core.Option.{Option}
use borrow.Author.Tests.{leb-true, leb-false}
use lib.Dec.{leb}
use lib.ListN.{length, get_or, drop, drop_of_length-le}
use lib.Seq.{drop-cons}
use Rattle.model.specs.Qualified.{Qual, is_integer}
use Rattle.model.specs.Outcome.{Stop, wrong_kind, input_ended, Res, ok, stop, stuck, found, ◌>>=◌}
use Rattle.model.specs.Modes.{watched, amiss}
use Rattle.model.specs.Machine as M
use Rattle.model.specs.Machine.{Cell, filled, word, View, Effect, view, plan, first_of, declared_as, give, gives}
use Rattle.model.specs.Program.{Program}
use Rattle.model.specs.declared.Operation.{Operation}
use Rattle.model.specs.declared.Operation.TheVariants as Op
use Rattle.sheet.specs.Meaning.{program_of}
use Rattle.index.specs.declared.procedures.Scope.{Scope}
use Rattle.words.specs.Answers.{halted, given}
use Rattle.binding.specs.Binds.{InScope}
use Rattle.watched_plan.proofs.Laws.{gives_integer, gives_misfit}
use Rattle.writers.specs.declared.Registers.{Registers}
use Rattle.writers.specs.Memory.{Given}
use Rattle.writers.specs.Steps.{Stepped, Does, take_effect}
use Rattle.writers.proofs.View.{next_input_is}
use Rattle.frames.specs.Performs.{Performs}
use Rattle.watched_calls.specs.Calls.{ScopeHere}
use Rattle.watched_calls.proofs.Laws.{in_scope, performs_exactly}

module _ (s input words words' before out : List ℕ) (r : Registers) (o : Stepped) (op : Operation) (e : List ℕ → Res (Effect watched))
    (does : (c : Given) → c.sheet ≡ s → Does watched c words words' before out r o (e c.sheet)) where
  -- a plan that leans on the running frame's scope and the next input word
  pub performs_taking : {p : Scope} → ScopeHere s words r p
      → ((v : View watched) → InScope s v p → first_of (drop r.taken input) ≡ v.next_input → e s ≡ plan watched (program_of s) v op)
      → Performs watched s input words words' before out r o op
  performs_taking here planned =
      performs_exactly s input words words' before out r o op e does
      (λ c t q i S.
      planned (view (length words) (length before) t) (in_scope here c before t q S)
      (ap (λ (l : List ℕ). first_of (drop r.taken l)) (sym i) ∙ next_input_is watched c words before r t S))

-- ---- a take

module _ (a : ℕ) where
  took : {d : Cell watched} (r : Res (Cell watched)) → ok (M.write a d) ≡ (r >>= λ x. ok (M.write a x)) → ok (M.take a d) ≡ (r >>= λ x. ok (M.take a x))
  unfolding ◌>>=◌
  took {d} (ok x) e = let same : d ≡ x = cc in ap (λ (y : Cell watched). ok (M.take a y)) same
  took (stop t) e = absurd (let z : ◌≡◌ {A = ℕ} 0 1 = cc in omega arith)
  took stuck e = absurd (let z : ◌≡◌ {A = ℕ} 0 1 = cc in omega arith)

  not_took : {t : Stop} (r : Res (Cell watched)) → stop t ≡ (r >>= λ x. ok (M.write a x)) → stop t ≡ (r >>= λ x. ok (M.take a x))
  unfolding ◌>>=◌
  not_took (ok x) e = absurd (let z : ◌≡◌ {A = ℕ} 0 1 = cc in omega arith)
  not_took (stop u) e = let same = e in cc
  not_took stuck e = absurd (let z : ◌≡◌ {A = ℕ} 0 1 = cc in omega arith)

module _ (g : Program) (v : View watched) (a n : ℕ) (input : List ℕ) {q : Qual} {t : Bool} (is : declared_as watched g v a ≡ q) (ensure : t ≡ is_integer q)
    (next : first_of (drop n input) ≡ v.next_input) where
  abbrev taking : Option ℕ → Res (Effect watched)
  taking x = found input_ended x >>= λ n. (give watched g v a n >>= λ d. ok (M.take a d))

  -- an integer, or none left
  pub takes : leb (length input) n || t ≡ true → take_effect watched a (first_of (drop n input)) ≡ plan watched g v (Op.Take a)
  unfolding plan take_effect found given gives ◌>>=◌
  takes either = by (leb (length input) n) t refl refl either ∙ ap taking next
    where
      goal : List ℕ → Type 0
      goal l =
          (found input_ended (first_of l) >>= λ n. ok (M.take a (filled (word n) 0)))
          ≡ taking (first_of l)

      none_left : (l : List ℕ) → l ≡ [] → goal l
      none_left l e = rw e

      one_more : (l : List ℕ) → is_integer q ≡ true → goal l
      one_more [] e = refl
      one_more (n ∷ l) e = took a (give watched g v a n) (gives_integer g v a n is e)

      by : (x y : Bool) → leb (length input) n ≡ x → t ≡ y → x || y ≡ true → goal (drop n input)
      by true y few e h = none_left (drop n input) (drop_of_length-le input (leb-true _ _ few))
      by false true few e h = one_more (drop n input) (sym ensure ∙ e)
      by false false few e h = absurd (let z : ◌≡◌ {A = ℕ} 0 1 = cc in omega arith)

  pub takes_misfit : leb (length input) n || t ≡ false → stop wrong_kind ≡ plan watched g v (Op.Take a)
  unfolding plan found given gives halted amiss ◌>>=◌
  takes_misfit neither = by (leb (length input) n) t refl refl neither ∙ ap taking next
    where
      goal : List ℕ → Type 0
      goal l = stop wrong_kind ≡ taking (first_of l)

      by : (x y : Bool) → leb (length input) n ≡ x → t ≡ y → x || y ≡ false → goal (drop n input)
      by true y few e h = absurd (let z : ◌≡◌ {A = ℕ} 0 1 = cc in omega arith)
      by false true few e h = absurd (let z : ◌≡◌ {A = ℕ} 0 1 = cc in omega arith)
      by false false few e h =
          rw (drop-cons input n 0 (leb-false _ _ few)) (not_took a (give watched g v a (get_or input n 0)) (gives_misfit g v a (get_or input n 0) is (sym ensure ∙ e)))
