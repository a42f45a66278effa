-- Laws of the rules of calls.
use Prim.Native.Nat.{ℕ, ◌+◌, ◌*◌}
use mathlib.Core.Path.{◌≡◌, refl, sym, ap, subst, ◌∙◌}
use mathlib.Core.Bool.{Bool, true, false, not, ◌||◌, cond}
use mathlib.Core.List.{List, ◌∷◌, ◌++◌}
use mathlib.Core.Option.{Option, none, some}
use lib.Dec.{eqb}
use Rattle.std.specs.Prelude.{Result, Ok, Err}
use Rattle.model.specs.declared.Reason.{Reason}
use Rattle.model.specs.declared.Reason.TheVariants.{TypeMismatch, Unsettled, ShortSet}
use Rattle.model.specs.Qualified.{Qual}
use Rattle.model.specs.Generic.{Bound, own, read, read_result}
use Rattle.model.specs.Refusal.{test, failure, each}
use Rattle.model.specs.Rules.{moves, optional, optional_variable, keeps, return_rule, kept_rule, Callee, settling_rule, passing_rule, call_rule}
use Rattle.model.proofs.Verdicts.{and_then, failure_append}
use Rattle.model.proofs.Read.{read_read}
use Rattle.sheet.specs.Bytes.{byte_at}
use Rattle.sheet.specs.Layout.{formals_at, result_at, inner_at, need_at}
use Rattle.sheet.specs.Meaning.{qual_of, need_in, result_in}
use Rattle.sheet.proofs.Laws.{inner_field}
use Rattle.index.specs.Types.{named_as, type_in}
use Rattle.index.specs.Scope.{inner_as, need_as, result_as}
use Rattle.index.specs.declared.procedures.Scope.{Scope}
use Rattle.index.specs.declared.sheets.Sheet.{Sheet}
use Rattle.index.proofs.Ready.{of_sheet}
use Rattle.index.proofs.Reading.{inner_type, need_type, result_type}
use Rattle.settling.specs.Settles.{callee_as, Settling, reason_of}
use Rattle.settling.specs.declared.SettleError.{SettleError}
use Rattle.settling.specs.declared.SettleError.TheVariants as Why

-- a call may keep a result: it keeps none, or there is one
pub keeps_tests : (f : ℕ → Qual) (s : List ℕ) (to : Scope) (a : ℕ)
    → eqb a 255 || not (eqb (result_at s to.head) 255) ≡ keeps (optional_variable f (optional a)) (result_as s to)
unfolding keeps optional_variable optional result_as result_in read_result
keeps_tests f s to a = go (eqb a 255) (eqb (result_at s to.head) 255)
  where
    go : (t u : Bool) → t || not u ≡ keeps (optional_variable f (cond t none (some a))) (read_result (named_as to.name) (cond u none (some (qual_of s (result_at s to.head)))))
    go true u = refl
    go false true = refl
    go false false = refl

-- ---- What the code asks, by the numbers of the types

module _ (s : Sheet) where
  -- a variable and a result, each of which may be none
  pub return_tests : (p : Scope) (a : ℕ) → failure (return_rule (optional_variable (inner_as s.bytes.now p) (optional a)) (result_as s.bytes.now p))
      ≡ cond (eqb a 255)
      (cond (eqb (byte_at s.bytes.now p.head 5) 255) (Ok tt) (Err TypeMismatch))
      (cond (not (eqb (byte_at s.bytes.now p.head 5) 255))
      (failure (moves (type_in s.index.now p.name (inner_at s.bytes.now p.start a)) (type_in s.index.now p.name (byte_at s.bytes.now p.head 5)))) (Err TypeMismatch))
  unfolding failure return_rule optional_variable optional result_at
  return_tests p a =
      rw (← result_type (of_sheet s) p, inner_type (of_sheet s) p a)
      (go (inner_as s.bytes.now p) (type_in s.index.now p.name (byte_at s.bytes.now p.head 5)) (eqb a 255) (eqb (byte_at s.bytes.now p.head 5) 255))
    where
      go : (f : ℕ → Qual) (q : Qual) (t u : Bool) → failure (return_rule (optional_variable f (cond t none (some a))) (cond u none (some q)))
          ≡ cond t (cond u (Ok tt) (Err TypeMismatch)) (cond (not u) (failure (moves (f a) q)) (Err TypeMismatch))
      go f q true true = refl
      go f q true false = refl
      go f q false true = refl
      go f q false false = refl

  pub kept_tests : (p to : Scope) (a : ℕ) → failure (kept_rule (optional_variable (inner_as s.bytes.now p) (optional a)) (result_as s.bytes.now to))
      ≡ cond (eqb a 255 || eqb (byte_at s.bytes.now to.head 5) 255) (Ok tt)
      (failure (moves (type_in s.index.now to.name (byte_at s.bytes.now to.head 5)) (type_in s.index.now p.name (inner_at s.bytes.now p.start a))))
  unfolding failure kept_rule optional_variable optional result_at
  kept_tests p to a =
      rw (← result_type (of_sheet s) to, inner_type (of_sheet s) p a)
      (go (inner_as s.bytes.now p) (type_in s.index.now to.name (byte_at s.bytes.now to.head 5)) (eqb a 255) (eqb (byte_at s.bytes.now to.head 5) 255))
    where
      go : (f : ℕ → Qual) (q : Qual) (t u : Bool) → failure (kept_rule (optional_variable f (cond t none (some a))) (cond u none (some q)))
          ≡ cond (t || u) (Ok tt) (failure (moves q (f a)))
      go f q true u = refl
      go f q false true = refl
      go f q false false = refl

  pub actual_is : (p : Scope) (x : ℕ) → type_in s.index.now p.name (byte_at s.bytes.now p.start (2 + 4 * x)) ≡ inner_as s.bytes.now p x
  actual_is p x = rw inner_field (inner_type (of_sheet s) p x)

  pub need_is : (p : Scope) (x : ℕ) → type_in s.index.now p.name (need_at s.bytes.now p.start x) ≡ need_as s.bytes.now p x
  need_is p x = need_type (of_sheet s) p x

-- ---- Needs and result of the procedure called, read again where it read ?R itself

-- its scope where ?R is read as this name has it
abbrev reading : Scope → ℕ → Scope
reading to name = record { head = to.head; start = to.start; name = name }

module _ (s : List ℕ) (bound : Bound) (to : Scope) (name : ℕ) (e : named_as to.name ≡ own bound) where
  read_again : (q : Qual) → read (named_as name) q ≡ read (named_as name) (read (named_as to.name) q)
  read_again q = sym (read_read (named_as name) (named_as to.name) q ∙ ap (λ (ρ : Qual). read (read (named_as name) ρ) q) e ∙ (unfold read own in refl))

  need_again : (j : ℕ) → need_as s (reading to name) j ≡ read (named_as name) (need_as s to j)
  unfolding need_as
  need_again j = read_again (need_in s to.start j)

  result_again : result_as s (reading to name) ≡ read_result (named_as name) (result_as s to)
  unfolding result_as
  result_again = go (result_in s to.head)
    where
      go : (r : Option Qual) → read_result (named_as name) r ≡ read_result (named_as name) (read_result (named_as to.name) r)
      go none = unfold read_result in refl
      go (some q) = unfold read_result in (ap some (read_again q))

  keeps_again : (o : Option Qual) → keeps o (result_as s (reading to name)) ≡ keeps o (result_as s to)
  unfolding result_as
  keeps_again o = go o (result_in s to.head)
    where
      go : (o r : Option Qual) → keeps o (read_result (named_as name) r) ≡ keeps o (read_result (named_as to.name) r)
      go none r = unfold keeps in refl
      go (some a) none = unfold keeps read_result in refl
      go (some a) (some q) = unfold keeps read_result in refl

  -- the movements of a call, as the code asks them
  pub passing_tests : (inner : ℕ → Qual) (a b : ℕ)
      → failure (passing_rule inner (callee_as s bound to) (named_as name) a b)
      ≡ cond (keeps (optional_variable inner (optional a)) (result_as s (reading to name)))
      (and_then (failure (each (formals_at s to.head) (λ j. moves (inner (b + j)) (need_as s (reading to name) j))))
      (failure (kept_rule (optional_variable inner (optional a)) (result_as s (reading to name)))))
      (Err TypeMismatch)
  unfolding failure passing_rule
  passing_tests inner a b =
      (λ i. failure (test TypeMismatch (sym (keeps_again (optional_variable inner (optional a))) i) ∷ (each (formals_at s to.head) (λ j. moves (inner (b + j)) (sym (need_again j) i)) ++ kept_rule (optional_variable inner (optional a)) (sym result_again i))))
      ∙ ap (λ (f : Result (Unit {0}) Reason). cond (keeps (optional_variable inner (optional a)) (result_as s (reading to name))) f (Err TypeMismatch))
      (failure_append (each (formals_at s to.head) (λ j. moves (inner (b + j)) (need_as s (reading to name) j))) (kept_rule (optional_variable inner (optional a)) (result_as s (reading to name))))

-- ---- A call, by what it settles

module _ (inner : ℕ → Qual) (c : Callee) (a b : ℕ) {x : Result ℕ SettleError} where
  pub call_refused : (e : SettleError) → x ≡ Err e → Settling inner c b x → Err (reason_of e) ≡ failure (call_rule inner c a b)
  unfolding failure call_rule settling_rule
  call_refused Why.Unsettled e s = let h = subst (λ (y : Result ℕ SettleError). Settling inner c b y) e s in rw h
  call_refused Why.Short e s = let h = subst (λ (y : Result ℕ SettleError). Settling inner c b y) e s in rw (h.0, h.1)

  pub call_unsettled : x ≡ Err Why.Unsettled → Settling inner c b x → Err Unsettled ≡ failure (call_rule inner c a b)
  call_unsettled = call_refused Why.Unsettled

  pub call_short : x ≡ Err Why.Short → Settling inner c b x → Err ShortSet ≡ failure (call_rule inner c a b)
  call_short = call_refused Why.Short

  pub call_passes : (n : ℕ) (r : Result (Unit {0}) Reason) → x ≡ Ok n → Settling inner c b x → r ≡ failure (passing_rule inner c (named_as n) a b) → r ≡ failure (call_rule inner c a b)
  unfolding failure call_rule settling_rule
  call_passes n r e s p = let h = subst (λ (y : Result ℕ SettleError). Settling inner c b y) e s in rw (h.0, h.1, ← h.2) p
