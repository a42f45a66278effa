-- Procedures for arrays under any rights (document 02, S-1): what a rights name, ?R, stands for, and what a call settles it to.
use Rattle.std.specs.Prelude.{ℕ, zero, suc, Bool, true, false, ◌&&◌, ◌||◌, List, [], ◌∷◌, eqb}
use Rattle.std.proofs.Math.Option.{Option, none, some}
use Rattle.model.specs.Rights.{Rights, within, less_open}
use Rattle.model.specs.Qualified.{Qual, integer, array, declared, generic, rights, element, same}
use Rattle.model.specs.Refusal.{each}

-- "A procedure but main may declare one rights name by a GN record after its PR: mark, base (a declared type), least set"
pub data Bound : Type 0 where
  no_bound : Bound
  at_least : (base : ℕ) → (least : Rights) → Bound

-- a procedure without a GN has ?R nowhere (5), so that what is said of it there is of no account
unfoldable pub bound_base : Bound → ℕ
bound_base no_bound = 2
bound_base (at_least t l) = t

unfoldable pub least : Bound → Rights
least no_bound = 0
least (at_least t l) = l

-- ?R as its procedure reads it, and as a frame with this set does: "condition 3 reads ?R as the GN's base with that set"
unfoldable pub own : Bound → Qual
own b = generic (bound_base b) (least b)

unfoldable pub instance : Bound → (set : Rights) → Qual
instance b r = declared (bound_base b) r

-- a type with ρ for ?R, "itself or as an element"
unfoldable pub read : (ρ : Qual) → Qual → Qual
read ρ integer = integer
read ρ (array r e) = array r (read ρ e)
read ρ (declared t r) = declared t r
read ρ (generic t l) = ρ

unfoldable pub read_result : (ρ : Qual) → Option Qual → Option Qual
read_result ρ none = none
read_result ρ (some q) = some (read ρ q)

-- "Used (itself or as an element)"
unfoldable pub uses : Qual → Bool
uses integer = false
uses (array r e) = uses e
uses (declared t r) = false
uses (generic t l) = true

-- ---- "A call settles ?R from the declared type of each actual whose need uses it, open left out"

unfoldable pub only : Bool → Qual → List Qual
only true q = q ∷ []
only false q = []

-- what one actual settles: "another shape or base, a caller's ?R's too, settles nothing"
unfoldable pub settles : (need actual : Qual) → List Qual
settles integer q = []
settles (declared t r) q = []
settles (array r e) q = settles e (element q)
settles (generic t l) integer = []
settles (generic t l) (array s f) = []
settles (generic t l) (declared u r) = only (eqb u t) (declared u (less_open r))
settles (generic t l) (generic u m) = only (eqb u t) (generic u m)

-- what the actuals of a call settle, in their order
unfoldable pub settlings : (formals : ℕ) → (need actual : ℕ → Qual) → List Qual
settlings n need actual = each n (λ j. settles (need j) (actual j))

unfoldable pub first_or : Qual → List Qual → Qual
first_or ρ [] = ρ
first_or ρ (q ∷ qs) = q

-- what ?R of the procedure called stands for; where nothing settles it, the least set: the movement of an actual whose need uses it is then refused
unfoldable pub settled : Bound → List Qual → Qual
settled no_bound found = instance no_bound 0
settled (at_least t l) found = first_or (instance (at_least t l) l) found

unfoldable pub all_same : Qual → List Qual → Bool
all_same ρ [] = true
all_same ρ (q ∷ qs) = same ρ q && all_same ρ qs

unfoldable pub some_uses : (need : ℕ → Qual) → (j n : ℕ) → Bool
some_uses need j zero = false
some_uses need j (suc n) = uses (need j) || some_uses need (suc j) n

-- "20 unsettled: no formal uses the name, or two actuals of a call settle differently"
unfoldable pub is_settled : Bound → (used : Bool) → List Qual → Bool
is_settled no_bound used found = true
is_settled (at_least t l) used found = used && all_same (settled (at_least t l) found) found

-- "21 short: the settled set lacks a least right"; a caller's ?R has the caller's least set
unfoldable pub is_enough : Bound → List Qual → Bool
is_enough b found = within (least b) (rights (settled b found))
