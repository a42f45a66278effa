-- What the actuals of a call settle, one after another, and what the call does.
use Prim.Native.Nat.{ℕ, zero, suc, ◌+◌}
use mathlib.Core.Path.{◌≡◌, refl, sym, ap, ap₂, ◌∙◌}
use mathlib.Core.List.{List, [], ◌∷◌, ◌++◌, append_assoc}
use mathlib.Core.Bool.{Bool, true, false, false≢true, ◌&&◌, ◌||◌, cond}
use native.Mathlib.Omega.{arith}
use Rattle.std.specs.Prelude.{Option, Some, None, is_some, unwrap_or, Ok}
use Rattle.model.specs.Rights.{within}
use Rattle.model.specs.Qualified.{Qual, base, rights, same}
use Rattle.model.specs.Refusal.{span}
use Rattle.model.specs.Generic.{Bound, no_bound, at_least, least, own, instance, uses, settles, first_or, settled, all_same, some_uses, is_settled, is_enough}
use Rattle.model.specs.Rules.{Callee, found_by}
use Rattle.model.proofs.Rights.{within_refl}
use Rattle.model.proofs.Order.{same_refl}
use Rattle.sheet.specs.Layout.{is_bounded, procedure_at}
use Rattle.sheet.specs.Meaning.{bound_in_sheet}
use Rattle.index.specs.Types.{named_as}
use Rattle.index.specs.Scope.{bound_of_procedure, ScopeOf}
use Rattle.index.specs.declared.procedures.Scope.{Scope}
use Rattle.settling.specs.Settles.{settles_as, uses_as, SettlesIs, named_or, FoundIs, least_name, has_bound, Settling, BoundOf}
use Rattle.settling.specs.declared.Settles.{Settles}
use Rattle.settling.specs.declared.Settles.TheVariants as One
use Rattle.settling.specs.declared.Found.{Found}
use Rattle.settling.proofs.Laws.{least_named}

-- ---- Lists

append_none : {A : Type 0} (l : List A) → l ++ [] ≡ l
append_none [] = refl
append_none (x ∷ l) = ap (λ r. x ∷ r) (append_none l)

or_false : (u : Bool) → u || false ≡ u
or_false true = refl
or_false false = refl

or_true : (u : Bool) → true ≡ u || true
or_true true = refl
or_true false = refl

or_assoc : (u v w : Bool) → (u || v) || w ≡ u || (v || w)
or_assoc true v w = refl
or_assoc false v w = refl

and_true : (u : Bool) → u && true ≡ u
and_true true = refl
and_true false = refl

and_assoc : (u v w : Bool) → (u && v) && w ≡ u && (v && w)
and_assoc true v w = refl
and_assoc false v w = refl

all_same_more : (p : Qual) (l : List Qual) (q : Qual) → all_same p l && same p q ≡ all_same p (l ++ (q ∷ []))
unfolding all_same
all_same_more p [] q = sym (and_true (same p q))
all_same_more p (x ∷ l) q = and_assoc (same p x) (all_same p l) (same p q) ∙ ap (λ (r : Bool). same p x && r) (all_same_more p l q)

-- one more at the end
span_more : {A : Type 0} (f : ℕ → List A) (i n : ℕ) → span f i (suc n) ≡ span f i n ++ f (i + n)
unfolding span
span_more f i zero = let e : i + 0 ≡ i = omega arith in append_none (f i) ∙ ap f (sym e)
span_more f i (suc n) =
    let e : suc i + n ≡ i + suc n = omega arith in
    ap (λ r. f i ++ r) (span_more f (suc i) n ∙ ap (λ (k : ℕ). span f (suc i) n ++ f k) e) ∙ sym (append_assoc (f i) (span f (suc i) n) (f (i + suc n)))

some_uses_more : (need : ℕ → Qual) (i n : ℕ) → some_uses need i (suc n) ≡ some_uses need i n || uses (need (i + n))
unfolding some_uses
some_uses_more need i zero = let e : i + 0 ≡ i = omega arith in or_false (uses (need i)) ∙ ap (λ (k : ℕ). uses (need k)) (sym e)
some_uses_more need i (suc n) =
    let e : suc i + n ≡ i + suc n = omega arith in
    ap (λ (r : Bool). uses (need i) || r) (some_uses_more need (suc i) n ∙ ap (λ (k : ℕ). some_uses need (suc i) n || uses (need k)) e)
    ∙ sym (or_assoc (uses (need i)) (some_uses need (suc i) n) (uses (need (i + suc n))))

-- ---- Found, with one more actual

module _ {r : Settles} {ρ : Qual} {u : Bool} where
  pub found_unused : (l : List Qual) {x : Found} → r ≡ One.Unused → FoundIs ρ l u x → FoundIs ρ (l ++ settles_as r) (u || uses_as r) x
  unfolding settles_as uses_as
  found_unused l e f = rw (e, append_none l, or_false u) f

  pub found_nothing : (l : List Qual) {x : Found} → r ≡ One.Nothing → FoundIs ρ l u x
      → FoundIs ρ (l ++ settles_as r) (u || uses_as r) record { used = true; alike = x.alike; name = x.name }
  unfolding settles_as uses_as
  found_nothing l e f =
      rw (e, append_none l) record { used_is = or_true u; some_is = f.some_is; alike_is = f.alike_is; name_is = f.name_is }

  -- the first that is settled
  pub found_first : (l : List Qual) {x : Found} {n : ℕ} → r ≡ One.To n → x.name ≡ None → FoundIs ρ l u x
      → FoundIs ρ (l ++ settles_as r) (u || uses_as r) record { used = true; alike = x.alike; name = Some n }
  unfolding settles_as uses_as first_or all_same
  found_first [] {x} {n} e h f =
      rw e record { used_is = or_true u; some_is = refl; alike_is = f.alike_is ∙ rw (same_refl (named_as n)); name_is = refl }
  found_first (q ∷ l) {x} e h f = absurd (false≢true (sym (ap is_some h) ∙ f.some_is))

  -- a later one is compared with it
  pub found_again : (l : List Qual) {x : Found} {n : ℕ} (m : ℕ) (v : Bool) → r ≡ One.To n → x.name ≡ Some m → v ≡ same (named_as m) (named_as n) → FoundIs ρ l u x
      → FoundIs ρ (l ++ settles_as r) (u || uses_as r) record { used = true; alike = x.alike && v; name = x.name }
  unfolding settles_as uses_as first_or
  found_again [] m v e h k f = absurd (false≢true (sym f.some_is ∙ ap is_some h))
  found_again (q ∷ l) {x} {n} m v e h k f =
      let named : named_as m ≡ q = sym (ap (named_or ρ) h) ∙ f.name_is in
      rw e record {
        used_is = or_true u;
        some_is = ap is_some h;
        alike_is = ap₂ (λ (y z : Bool). y && z) f.alike_is (k ∙ ap (λ (y : Qual). same y (named_as n)) named) ∙ all_same_more q (q ∷ l) (named_as n);
        name_is = f.name_is;
      }

-- ---- Those before j, of these needs and actuals

module _ (need actual : ℕ → Qual) (ρ : Qual) where
  abbrev pub FoundBefore : ℕ → Found → Type 0
  FoundBefore j x = FoundIs ρ (span (λ k. settles (need k) (actual k)) 0 j) (some_uses need 0 j) x

  pub found_start : FoundBefore 0 record { used = false; alike = true; name = None }
  unfolding span some_uses first_or all_same
  found_start = record { used_is = refl; some_is = refl; alike_is = refl; name_is = refl }

  pub found_more : (j : ℕ) (r : Settles) (x : Found) → SettlesIs (need j) (actual j) r
      → FoundIs ρ (span (λ k. settles (need k) (actual k)) 0 j ++ settles_as r) (some_uses need 0 j || uses_as r) x → FoundBefore (j + 1) x
  found_more j r x s f =
      let e : j + 1 ≡ suc j = omega arith in
      let z : 0 + j ≡ j = omega arith in
      rw (e, span_more (λ k. settles (need k) (actual k)) 0 j, some_uses_more need 0 j, z, ← s.settled, ← s.used) f

-- ---- The call, of a procedure with this bound

-- the least set, which is taken where nothing settles
least_own : (bound : Bound) (name : ℕ) → named_as name ≡ own bound → named_as (least_name name) ≡ instance bound (least bound)
unfolding own instance base rights
least_own bound name e = rw (least_named name, e)

-- the least set, where nothing is settled
least_or : (x : Option ℕ) (n : ℕ) → named_or (named_as n) x ≡ named_as (unwrap_or x n)
least_or None n = refl
least_or (Some m) n = refl

module _ {bound : Bound} {to : Scope} {x : Found} (found : List Qual) (used : Bool) where
  -- with a bound, what was found tells all
  pub settled_found : BoundOf bound true to → FoundIs (named_as (least_name to.name)) found used x
      → (x.used && x.alike ≡ is_settled bound used found) × (named_as (unwrap_or x.name (least_name to.name)) ≡ settled bound found)
  settled_found b f = go bound b.has (least_own bound to.name b.name) f
    where
      go : (c : Bound) → true ≡ has_bound c → named_as (least_name to.name) ≡ instance c (least c) → FoundIs (named_as (least_name to.name)) found used x
          → (x.used && x.alike ≡ is_settled c used found) × (named_as (unwrap_or x.name (least_name to.name)) ≡ settled c found)
      go no_bound h e f = absurd (false≢true (sym h))
      go (at_least t l) h e f = unfold is_settled settled least in
          let named : named_as (unwrap_or x.name (least_name to.name)) ≡ first_or (named_as (least_name to.name)) found = sym (least_or x.name (least_name to.name)) ∙ f.name_is in
          (rw (f.used_is, f.alike_is, e), named ∙ rw e)

pub enough_found : (bound : Bound) (found : List Qual) (own_name name : ℕ) → named_as own_name ≡ own bound → named_as name ≡ settled bound found
    → within (rights (named_as own_name)) (rights (named_as name)) ≡ is_enough bound found
unfolding is_enough own rights
enough_found bound found own_name name e f = rw (e, f)

-- without one, nothing is asked
pub unbounded : (inner : ℕ → Qual) (c : Callee) (b : ℕ) {to : Scope} (n : ℕ) → n ≡ least_name to.name → BoundOf c.bound false to → Settling inner c b (Ok n)
unbounded inner c b {to} n e of = go c.bound of.has (ap named_as e ∙ least_own c.bound to.name of.name)
  where
    go : (k : Bound) → false ≡ has_bound k → named_as n ≡ instance k (least k)
        → (is_settled k (some_uses c.need 0 c.formals) (found_by inner c b) ≡ true) × (is_enough k (found_by inner c b) ≡ true) × (named_as n ≡ settled k (found_by inner c b))
    go no_bound h e = unfold is_settled is_enough settled least instance rights in (refl, within_refl 0, e)
    go (at_least t l) h e = absurd (false≢true h)

-- the procedure called has the bound that the sheet gives it
pub bound_here : {s : List ℕ} {k : ℕ} {to : Scope} {x : Bool} → ScopeOf s k (own (bound_of_procedure s k)) to → x ≡ is_bounded s k (procedure_at s k) → BoundOf (bound_of_procedure s k) x to
unfolding bound_in_sheet
bound_here {s} {k} scope is = record { has = is ∙ told _ _ (is_bounded s k (procedure_at s k)); name = scope.name }
  where
    told : (t l : ℕ) (g : Bool) → g ≡ has_bound (cond g (at_least t l) no_bound)
    told t l true = refl
    told t l false = refl
