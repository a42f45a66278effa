-- What the code answers of settling (document 02, S-1), in the definition's words.
use Rattle.std.specs.Prelude.{Option, Some, None, is_some, Result, Ok, Err, ℕ, ◌/◌, ◌%◌, ◌^◌, ◌≡◌, Bool, true, false, not, List, [], ◌∷◌}
use Rattle.model.specs.Qualified.{Qual, is_array}
use Rattle.model.specs.declared.Reason.{Reason}
use Rattle.model.specs.declared.Reason.TheVariants.{Unsettled, ShortSet}
use Rattle.model.specs.declared.Halt.{Halt}
use Rattle.model.specs.declared.Halt.TheVariants.{WrongKind, MissingRight}
use Rattle.model.specs.Generic.{Bound, no_bound, at_least, own, uses, settles, first_or, settled, all_same, some_uses, is_settled, is_enough}
use Rattle.model.specs.Rules.{Callee, found_by}
use Rattle.sheet.specs.Layout.{formals_at}
use Rattle.index.specs.Types.{named_as, qual_in, type_in}
use Rattle.index.specs.Scope.{need_as, result_as}
use Rattle.index.specs.declared.procedures.Scope.{Scope}
use Rattle.settling.specs.declared.Settles.{Settles}
use Rattle.settling.specs.declared.Settles.TheVariants as One
use Rattle.settling.specs.declared.Found.{Found}
use Rattle.settling.specs.declared.SettleError.{SettleError}
use Rattle.settling.specs.declared.SettleError.TheVariants as Why

abbrev is_nil : List Qual → Bool
is_nil [] = true
is_nil (q ∷ qs) = false

-- what one actual settles
unfoldable pub settles_as : Settles → List Qual
settles_as One.Unused = []
settles_as One.Nothing = []
settles_as (One.To n) = named_as n ∷ []

unfoldable pub uses_as : Settles → Bool
uses_as One.Unused = false
uses_as One.Nothing = true
uses_as (One.To n) = true

-- an actual of this type, for a need of that one
pub record SettlesIs (need actual : Qual) (r : Settles) : Type 0 where
  pub settled : settles_as r ≡ settles need actual
  pub used : uses_as r ≡ uses need

-- what an actual of type i settles for a need of type j is what the types of the two numbers in x do, and the need's is no array
pub record Innermost (t : List ℕ) (j i x : ℕ) : Type 0 where
  pub plain : is_array (qual_in t (x / 256)) ≡ false
  pub leads : (n m : ℕ) (r : Settles) → SettlesIs (type_in t n (x / 256)) (type_in t m (x % 256)) r → SettlesIs (type_in t n j) (type_in t m i) r

-- the name of the least set, from the name of ?R as its procedure reads it
unfoldable pub least_name : ℕ → ℕ
least_name n = n % 2 ^ 37

-- what a name has, or ρ where there is none
abbrev pub named_or : Qual → Option ℕ → Qual
named_or ρ None = ρ
named_or ρ (Some n) = named_as n

-- what the actuals settled, where ρ is taken if they settle nothing, and whether a need uses ?R
pub record FoundIs (ρ : Qual) (found : List Qual) (used : Bool) (x : Found) : Type 0 where
  pub used_is : x.used ≡ used
  pub some_is : is_some x.name ≡ not (is_nil found)
  pub alike_is : x.alike ≡ all_same (first_or ρ found) found
  pub name_is : named_or ρ x.name ≡ first_or ρ found

-- a procedure with a bound, as it is called, by the scope in which it reads ?R itself
abbrev pub callee_as : List ℕ → Bound → Scope → Callee
callee_as s bound to = record { bound = bound; formals = formals_at s to.head; need = need_as s to; result = result_as s to }

abbrev pub has_bound : Bound → Bool
has_bound no_bound = false
has_bound (at_least t l) = true

module _ (inner : ℕ → Qual) (c : Callee) (b : ℕ) where
  abbrev is_settled_by : Bool
  is_settled_by = is_settled c.bound (some_uses c.need 0 c.formals) (found_by inner c b)

  -- a call with variables from b on
  abbrev pub Settling : Result ℕ SettleError → Type 0
  Settling (Err Why.Unsettled) = is_settled_by ≡ false
  Settling (Err Why.Short) = (is_settled_by ≡ true) × (is_enough c.bound (found_by inner c b) ≡ false)
  Settling (Ok n) =
      (is_settled_by ≡ true) × (is_enough c.bound (found_by inner c b) ≡ true) × (named_as n ≡ settled c.bound (found_by inner c b))

-- the procedure called has this bound, which the scope `to` reads ?R with
pub record BoundOf (bound : Bound) (bounded : Bool) (to : Scope) : Type 0 where
  pub has : bounded ≡ has_bound bound
  pub name : named_as to.name ≡ own bound

-- why check refuses the call, and why a watched run stops at it
abbrev pub reason_of : SettleError → Reason
reason_of Why.Unsettled = Unsettled
reason_of Why.Short = ShortSet

abbrev pub halt_of : SettleError → Halt
halt_of Why.Unsettled = WrongKind
halt_of Why.Short = MissingRight
