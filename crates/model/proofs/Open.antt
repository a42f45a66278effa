-- Open cannot leave its module: carried rights are declared rights, and rule 6 keeps open out of every declaration but an inner type of the owner.
-- An array's element is that of some declared variable, for it was made by an instruction of the program.
use Prim.Native.Nat.{ℕ, zero, suc, ◌+◌, ◌-◌, ◌<◌}
use mathlib.Core.Path.{◌≡◌, refl, sym, subst, ◌∙◌}
use mathlib.Core.Bool.{Bool, true, false, false≢true}
use mathlib.Core.List.{List, []}
use native.Mathlib.Omega.{arith}
use lib.ListN.{length, get_or}
use Rattle.model.specs.Rights.{Rights, has, open_right}
use Rattle.model.specs.Qualified.{Qual, integer, array, declared, generic, rights, element}
use Rattle.model.specs.Generic.{Bound, instance, read}
use Rattle.model.specs.Program.{Program, Record}
use Rattle.model.specs.Refusal.{Accepted, verdict}
use Rattle.model.specs.Rules.{access_rules}
use Rattle.model.specs.declared.Operation.{Operation}
use Rattle.model.specs.Modes.{plain, watched}
use Rattle.model.specs.Machine.{Cell, empty, Object, cells_of, State, Head}
use Rattle.model.specs.Run.{snapshot, shot, state_after}
use Rattle.model.specs.Claim.{heads, kind_in, Opens, Shut, OpenStays}
use Rattle.model.proofs.Formed.{Formed, FormedAt, Numbered}
use Rattle.model.proofs.Read.{Good, read_element}
use Rattle.model.proofs.Allowed.{Owned, Closed, in_set, Facts, facts}
use Rattle.model.proofs.Fits.{owned_kind, amplified_owned}
use Rattle.model.proofs.Relate.{fit, granted, CellRel, blanks, values, Row, row_nil, row_cons, ArrayMade, RecordMade, ObjectRel, arrays, records, Objects, Live, StateRel, states}
use Rattle.model.proofs.Cases.{Sound}
use Rattle.model.proofs.Typing.{live_at, object_at}
use Rattle.model.proofs.Run.{state_after_ok}

-- ---- One type: a frame's set has no open, so that a type has it in a frame only where its record has it

module _ {b : Bound} {z : Rights} (good : Good b z) where
  open_declared : (q : Qual) → has open_right (rights (read (instance b z) q)) ≡ true → has open_right (rights q) ≡ true
  unfolding read instance rights
  open_declared integer h = h
  open_declared (array r e) h = h
  open_declared (declared t r) h = h
  open_declared (generic t l) h = absurd (false≢true (sym good.shut ∙ h))

  closed_declared : (q : Qual) → Closed q → Closed (read (instance b z) q)
  unfolding read instance rights
  closed_declared integer h = h
  closed_declared (array r e) h = h
  closed_declared (declared t r) h = h
  closed_declared (generic t l) h = good.shut

  element_closed : (q : Qual) → Closed (element q) → Closed (element (read (instance b z) q))
  element_closed q h = rw (read_element (instance b z) (unfold instance element in refl) q) (closed_declared (element q) h)

-- ---- One cell

shut : {h : ℕ → Head watched} {q : Qual} {c : Cell watched} {c' : Cell plain} → CellRel h q c c' → Closed q → Shut c
shut blanks e = tt
shut (values f granted) e = e

opens :
    (os : List (Object watched)) (o : ℕ) {q : Qual} {c : Cell watched} {c' : Cell plain} → CellRel (heads os) q c c' →
    (has open_right (rights q) ≡ true → Owned o q) → Opens os o c
opens os o blanks k = tt
opens os o {q} (values {v} (fit f) granted) k = λ h. ((k h).there, owned_kind o q (kind_in os v) (k h) f)

-- ---- A row: past its end cells are empty

row_each :
    {h : ℕ → Head watched} (P : Cell watched → Type 0) {d : ℕ → Qual} {cs : List (Cell watched)} {cs' : List (Cell plain)} → P empty → Row h d cs cs' →
    ((x : ℕ) → x < length cs → (c : Cell watched) (c' : Cell plain) → CellRel h (d x) c c' → P c) → (x : ℕ) → P (get_or cs x empty)
row_each P e row_nil k x = e
row_each P e (row_cons w r) k zero = k 0 (omega arith) _ _ w
row_each P e (row_cons w r) k (suc x) = row_each P e r (λ y l. k (suc y) (omega arith)) x

-- ---- A state

module _ (g : Program) (f : Formed g) (n : Numbered g) (a : Facts g) where
  element_shut : {e : Qual} → ArrayMade g e → Closed e
  element_shut m =
      let z = n.inner_qual m.p m.a m.procedure (n.new_array m.p m.i m.a m.b m.procedure m.instruction m.operation) in
      rw m.element_is (element_closed m.good (g.inner m.p m.a) (rw z.2 (a.element_closed z.0 z.1)))

  slot_shut : {t : ℕ} → RecordMade g t → (x : ℕ) → x < g.slots t → Closed (g.slot t x)
  slot_shut {t} m x l =
      let o = (subst (λ (op : Operation). FormedAt g m.p m.i op) m.operation (f.operations m.p m.i m.procedure m.instruction)).0 in
      let w = n.owner_type m.p m.procedure o in
      let d = m.owner_is in
      let e : 2 + (t - 2) ≡ t = omega arith in
      subst (λ (u : ℕ). Closed (g.slot u x)) e (a.slot_closed (t - 2) x (omega arith) (subst (λ (u : ℕ). x < g.slots u) (sym e) l))

  object_shut : {h : ℕ → Head watched} {o : Object watched} {o' : Object plain} → ObjectRel g h o o' → (x : ℕ) → Shut (get_or (cells_of o) x empty)
  object_shut (arrays m r) x = row_each Shut tt r (λ y l c c' w. shut w (element_shut m)) x
  object_shut (records m e r) x = row_each Shut tt r (λ y l c c' w. shut w (slot_shut m y (omega arith))) x

  live_opens :
      (os : List (Object watched)) {p : ℕ} {z : Rights} {vs : List (Cell watched)} {vs' : List (Cell plain)} → Live g (heads os) p z vs vs' →
      (x : ℕ) → Opens os (g.owner p) (get_or vs x empty)
  live_opens os {p} {z} {vs} v x =
      let e = v.size in
      row_each (Opens os (g.owner p)) tt v.row
      (λ y l c c' w. opens os (g.owner p) w (λ k. amplified_owned (in_set g p z) (g.owner p) (g.inner p y) (a.variable p y v.procedure (omega arith) (open_declared v.good (g.inner p y) k)))) x

  none_stays : (os : List (Object watched)) (os' : List (Object plain)) → Objects g (heads os) os os' → OpenStays g (snapshot [] os)
  none_stays os os' ob =
      record {
        variables = λ j p i z vs e x. let n : ◌≡◌ {A = Bool} false true = cc in absurd (false≢true n);
        cells = λ j o at x. object_shut (object_at ob j o at).1 x;
      }

  state_stays : (s : State watched) (s' : State plain) → StateRel g s s' → OpenStays g (shot s)
  state_stays s s' (states {i = n} {os} l v st ob) =
      record {
        variables = λ j p i z vs at x. live_opens os (live_at n v st j p i z vs at).1 x;
        cells = λ j o at x. object_shut (object_at ob j o at).1 x;
      }

pub open_stays :
    (at : Record → ℕ) (g : Program) → Formed g → Numbered g → verdict (access_rules at g) ≡ Accepted → (memory output : ℕ) (input : List ℕ) (fuel n : ℕ) →
    OpenStays g (state_after watched g memory output input fuel n)
open_stays at g f n h memory output input fuel k =
    let a = facts at g f h in
    let s : Sound g = record { formed = f; facts = a } in
    state_after_ok g s memory output (OpenStays g) (state_stays g f n a) (none_stays g f n a) input fuel k
