-- What a test or a plan of a machine comes to: a value of which something holds, a stop, or stuck; and what each test of Modes.antt comes to, of any program,
-- accepted or not, and in either mode.
use Prim.Native.Nat.{ℕ}
use mathlib.Core.Path.{◌≡◌, refl}
use mathlib.Core.Bool.{Bool, true, false, ◌&&◌}
use mathlib.Core.List.{List}
use mathlib.Core.Option.{Option, none, some}
use lib.Dec.{eqb}
use Rattle.model.specs.Rights.{Rights, within, has}
use Rattle.model.specs.Qualified.{Qual, rights}
use Rattle.model.specs.Generic.{Bound, settled, is_settled, is_enough}
use Rattle.model.specs.Rules.{amplifies}
use Rattle.model.specs.Outcome.{Stop, done, fuel_spent, blank, past_end, input_ended, output_full, memory_full, wrong_kind, missing_right, Res, ok, stop, stuck, ◌>>=◌, ◌>>◌, ensure, found}
use Rattle.model.specs.Modes.{Mode, plain, watched, Carried, ElementInfo, TypeInfo, SettledSet, Kind, amiss, demand, licence, is_of, fits, bind, settle_set, is_record_of, raise_if, raise, bind_element, bind_result}

-- ---- What a result may be

abbrev pub Watching : Mode → Type 0
Watching plain = ⊥
Watching watched = Unit {0}

abbrev pub Unwatched : Mode → Type 0
Unwatched plain = Unit {0}
Unwatched watched = ⊥

-- which stops, where fuel is spent only if F
abbrev pub Stops : (m : Mode) (F : Type 0) → Stop → Type 0
Stops m F done = Unit {0}
Stops m F fuel_spent = F
Stops m F blank = Unit {0}
Stops m F past_end = Unit {0}
Stops m F input_ended = Unit {0}
Stops m F output_full = Unit {0}
Stops m F memory_full = Unit {0}
Stops m F wrong_kind = Watching m
Stops m F missing_right = Watching m

-- a value of which P holds, a stop but for fuel, or stuck, but not where the machine is watched
pub data Comes (m : Mode) {A : Type 0} (P : A → Type 0) : Res A → Type 0 where
  goes : {a : A} → P a → Comes m P (ok a)
  stops : {x : Stop} → Stops m ⊥ x → Comes m P (stop x)
  sticks : Unwatched m → Comes m P stuck

abbrev pub Any : {A : Type 0} → A → Type 0
Any a = Unit {0}

module _ {m : Mode} {A : Type 0} {P : A → Type 0} where
  pub and_with : {B : Type 0} {Q : B → Type 0} {r : Res B} {f : B → Res A} → Comes m Q r → ((x : B) → Q x → Comes m P (f x)) → Comes m P (r >>= f)
  unfolding ◌>>=◌
  and_with (goes q) k = k _ q
  and_with (stops c) k = stops c
  and_with (sticks u) k = sticks u

  pub and_then : {B : Type 0} {r : Res B} {f : B → Res A} → Comes m Any r → ((x : B) → Comes m P (f x)) → Comes m P (r >>= f)
  and_then h k = and_with h λ x t. k x

  pub and_map : {Q : A → Type 0} {r : Res A} → Comes m Q r → ((x : A) → Q x → P x) → Comes m P r
  and_map (goes q) k = goes (k _ q)
  and_map (stops c) k = stops c
  and_map (sticks u) k = sticks u

  pub and_do : {r : Res (Unit {0})} {r' : Res A} → Comes m Any r → Comes m P r' → Comes m P (r >> r')
  unfolding ◌>>◌
  and_do (goes q) k = k
  and_do (stops c) k = stops c
  and_do (sticks u) k = sticks u

  pub and_test : (s : Stop) → Stops m ⊥ s → (b : Bool) {r : Res A} → (b ≡ true → Comes m P r) → Comes m P (ensure s b >> r)
  unfolding ensure ◌>>◌
  and_test s c true k = k refl
  and_test s c false k = stops c

-- ---- The tests of Modes.antt

test_comes : {m : Mode} (s : Stop) → Stops m ⊥ s → (b : Bool) → Comes m Any (ensure s b)
unfolding ensure
test_comes s c true = goes tt
test_comes s c false = stops c

pub found_comes : {m : Mode} {A : Type 0} (s : Stop) → Stops m ⊥ s → (x : Option A) → Comes m Any (found s x)
unfolding found
found_comes s c none = stops c
found_comes s c (some y) = goes tt

pub amiss_comes : (m : Mode) {A : Type 0} {P : A → Type 0} → Comes m P (amiss m)
unfolding amiss
amiss_comes plain = sticks tt
amiss_comes watched = stops tt

pub demand_comes : (m : Mode) (b : Bool) → Comes m Any (demand m b)
unfolding demand
demand_comes plain b = goes tt
demand_comes watched b = test_comes wrong_kind tt b

pub licence_comes : (m : Mode) (i : ℕ) (r : Carried m) → Comes m Any (licence m i r)
unfolding licence
licence_comes plain i r = goes tt
licence_comes watched i r = test_comes missing_right tt (has i r)

pub is_of_comes : (m : Mode) (t : ℕ) (u : TypeInfo m) → Comes m Any (is_of m t u)
unfolding is_of
is_of_comes plain t u = goes tt
is_of_comes watched t u = test_comes wrong_kind tt (eqb u t)

-- ---- Bindings: what a value carried, and what it carries then; the plain machine keeps no rights

abbrev pub Grants : (m : Mode) → Qual → Kind m → (had gets : Carried m) → Type 0
Grants plain q k had gets = Unit {0}
Grants watched q k had gets = (fits q k ≡ true) × (within (rights q) had ≡ true) × (gets ≡ rights q)

pub bind_comes : (m : Mode) (q : Qual) (k : Kind m) (r : Carried m) → Comes m (Grants m q k r) (bind m q k r)
unfolding bind
bind_comes plain q k r = goes tt
bind_comes watched q k r = and_test wrong_kind tt (fits q k) λ f. and_test missing_right tt (within (rights q) r) λ w. goes (f, w, refl)

abbrev pub Settles : (m : Mode) → Bound → List Qual → SettledSet m → Type 0
Settles plain b found z = Unit {0}
Settles watched b found z = z ≡ rights (settled b found)

pub settle_comes : (m : Mode) (b : Bound) (used : Bool) (found : List Qual) → Comes m (Settles m b found) (settle_set m b used found)
unfolding settle_set
settle_comes plain b used found = goes tt
settle_comes watched b used found =
    and_do (test_comes wrong_kind tt (is_settled b used found))
    (and_do (test_comes missing_right tt (is_enough b found))
    (goes refl))

abbrev pub RaisesIf : Bool → Qual → Kind watched → (had gets : Rights) → Type 0
RaisesIf true q k had gets = gets ≡ rights q
RaisesIf false q k had gets = Grants watched q k had gets

abbrev pub Raises : (m : Mode) → (owner : ℕ) → (inner as_read : Qual) → Kind m → (had gets : Carried m) → Type 0
Raises plain o inner q k had gets = Unit {0}
Raises watched o inner q k had gets = RaisesIf (is_record_of o k && amplifies o inner) q k had gets

pub raise_comes : (m : Mode) (o : ℕ) (inner q : Qual) (k : Kind m) (r : Carried m) → Comes m (Raises m o inner q k r) (raise m o inner q k r)
unfolding raise raise_if
raise_comes plain o inner q k r = goes tt
raise_comes watched o inner q k r = either (is_record_of o k && amplifies o inner)
  where
    either : (b : Bool) → Comes watched (RaisesIf b q k r) (raise_if b q k r)
    either true = goes refl
    either false = bind_comes watched q k r

abbrev pub ElementGrants : (m : Mode) → ElementInfo m → Kind m → (had gets : Carried m) → Type 0
ElementGrants plain e k had gets = Unit {0}
ElementGrants watched e k had gets = Grants watched e k had gets

pub element_comes : (m : Mode) (e : ElementInfo m) (k : Kind m) (r : Carried m) → Comes m (ElementGrants m e k r) (bind_element m e k r)
unfolding bind_element
element_comes plain e k r = goes tt
element_comes watched e k r = bind_comes watched e k r

abbrev pub ResultGrants : (m : Mode) → Option Qual → Kind m → (had gets : Carried m) → Type 0
ResultGrants plain q k had gets = Unit {0}
ResultGrants watched none k had gets = ⊥
ResultGrants watched (some q) k had gets = Grants watched q k had gets

pub result_comes : (m : Mode) (q : Option Qual) (k : Kind m) (r : Carried m) → Comes m (ResultGrants m q k r) (bind_result m q k r)
unfolding bind_result
result_comes plain q k r = goes tt
result_comes watched none k r = stops tt
result_comes watched (some q) k r = bind_comes watched q k r
