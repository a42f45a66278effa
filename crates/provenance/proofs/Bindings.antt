-- What a value carried before it was bound or amplified, by what it carries afterwards; and the name of a new object.
use Prim.Native.Nat.{ℕ, suc, ◌+◌, ◌-◌, ◌/◌, ◌%◌, ◌^◌, ◌≤◌}
use mathlib.Core.Path.{◌≡◌, refl, sym, ap, ◌∙◌}
use mathlib.Core.Bool.{true, false≢true}
use mathlib.Core.List.{List, [], ◌∷◌}
use mathlib.Core.Option.{none}
use native.Mathlib.Omega.{arith}
use native.Mathlib.Nat.{zero-div}
use lib.Dec.{eqb, leb}
use lib.ListN.{length}
use borrow.Author.Tests.{eqb-true, leb-true, le-ltb}
use Rattle.model.specs.Rights.{Rights, within, has}
use Rattle.model.specs.Qualified.{Qual, integer, array, declared, generic, rights}
use Rattle.model.specs.Generic.{read}
use Rattle.model.specs.Program.{Program}
use Rattle.model.specs.Rules.{amplifies}
use Rattle.model.specs.Modes.{watched, Kind, integer_kind, array_kind, record_kind, no_kind, is_record_of}
use Rattle.model.specs.Machine.{Value, Cell, filled, Object, cells_of, object_units, find, View}
use Rattle.provenance.specs.Claim.{Carries}
use Rattle.model.proofs.Verdicts.{both_true}
use Rattle.model.proofs.Rights.{within_has}
use Rattle.model.proofs.Comes.{Grants}
use Rattle.model.proofs.Planned.{Moved, Given}

-- ---- Bindings

pub has_none : (i : ℕ) → has i 0 ≡ true → ⊥
unfolding has
has_none i h = let z = zero-div (2 ^ i) in let e = eqb-true (0 / 2 ^ i % 2) 1 h in omega (arith, z, e)

-- a filled cell
pub filled_is : {x y : Value} {r s : Rights} → ◌≡◌ {A = Cell watched} (filled x r) (filled y s) → (x ≡ y) × (r ≡ s)
filled_is h = (cc, cc)

-- what a binding grants, the value carried
pub granted_back :
    (i : ℕ) (q : Qual) (k : Kind watched) (had gets : Rights) → Grants watched q k had gets → has i gets ≡ true → (has i (rights q) ≡ true) × (has i had ≡ true)
granted_back i q k had gets e h = let w : has i (rights q) ≡ true = rw (← e.2) h in (w, within_has i (rights q) had e.1 w)

pub carried_as : {x y : Value} {i : ℕ} {d : Cell watched} {r : Rights} → Carries x i d → d ≡ filled y r → (y ≡ x) × (has i r ≡ true)
carried_as {i} {r} h e = let f = filled_is (sym e ∙ h.holds) in (f.0, rw f.1 h.has_right)

-- a cell that is bound to a type: what it was before
pub moved_from :
    {g : Program} {v : View watched} {q : Qual} {c d : Cell watched} {y : Value} {s : Rights} → Moved watched g v q c d → d ≡ filled y s →
    (h : Rights) × (c ≡ filled y h) × (within (rights q) h ≡ true) × (s ≡ rights q)
moved_from m e =
    let f = filled_is (sym m.target ∙ e) in
    (m.had, rw (← f.0) m.source, m.grants.1, sym f.1 ∙ m.grants.2)

module _ {g : Program} {v : View watched} {x : Value} {i : ℕ} where
  pub moved_back : {q : Qual} {c d : Cell watched} → Moved watched g v q c d → Carries x i d → (has i (rights q) ≡ true) × Carries x i c
  moved_back {q} m h =
      let e = carried_as h m.target in
      let w = granted_back i q _ m.had m.gets m.grants e.1 in
      (w.0, record { carried = m.had; holds = rw (← e.0) m.source; has_right = w.1 })

  -- an integer carries no right
  pub given_none : (a : ℕ) {d : Cell watched} → Given watched g v a d → Carries x i d → ⊥
  given_none a m h =
      let c = (moved_back m.1 h).1 in
      has_none i (carried_as c refl).1

-- ---- Amplification

pub record_of_owner : (o : ℕ) (k : Kind watched) → is_record_of o k ≡ true → (2 ≤ o) × (k ≡ record_kind o)
unfolding is_record_of
record_of_owner o integer_kind h = absurd (false≢true h)
record_of_owner o (array_kind e) h = absurd (false≢true h)
record_of_owner o (record_kind t) h = let z = both_true (leb 2 o) (eqb t o) h in (leb-true 2 o z.0, ap record_kind (eqb-true t o z.1))
record_of_owner o no_kind h = absurd (false≢true h)

-- ?R is never amplified
pub amplified_read : (ρ : Qual) (o : ℕ) (q : Qual) → amplifies o q ≡ true → read ρ q ≡ q
unfolding amplifies read
amplified_read ρ o integer h = refl
amplified_read ρ o (array r e) h = absurd (false≢true h)
amplified_read ρ o (declared t r) h = refl
amplified_read ρ o (generic t l) h = absurd (false≢true h)

-- ---- A new object

-- its name is no other's
pub unnamed : (os : List (Object watched)) → find os (object_units os) ≡ none
unfolding find object_units
unnamed [] = refl
unnamed (o ∷ os) =
    let c = length (cells_of o) in
    let u = object_units os in
    let e : suc c + u ≡ suc (c + u) = omega arith in
    let d : c + u - c ≡ u = omega arith in
    rw (e, le-ltb (c + u) c (omega arith), d) (unnamed os)
