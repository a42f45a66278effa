-- A step that writes one variable or one cell, of any program: a right carried after it was carried before it where the step's origin says, by every declared
-- type in between, or the step gave it to an object that it made.
use Prim.Native.Nat.{ℕ, suc}
use mathlib.Core.Path.{◌≡◌, refl, sym, ap, ap₂, ◌∙◌, subst}
use mathlib.Core.Bool.{Bool, true, false, cond}
use mathlib.Core.List.{List, [], ◌∷◌, ◌++◌}
use lib.ListN.{length, get_or, set}
use Rattle.model.specs.Rights.{Rights, has}
use Rattle.model.specs.Qualified.{Qual, rights}
use Rattle.model.specs.Program.{Program}
use Rattle.model.specs.declared.Operation.TheVariants.{Fetch, Store, GetSlot, SetSlot}
use Rattle.model.specs.Modes.{watched, Kind}
use Rattle.model.specs.Machine.{Value, object, Cell, empty, filled, Object, cells_of, update, Frame, frame, State, state, object_units, find, head_of, cell_of, View, view, declared_as}
use Rattle.model.specs.Run.{Snapshot, snapshot, shot}
use Rattle.provenance.specs.Location.{Location, variable, cell, same_location, variables_at, content}
use Rattle.provenance.specs.Origin.{Origin, stays, given_up, made, bound_from, amplified, into, number_in, own_element, origin}
use Rattle.provenance.specs.Claim.{Carries, AllHave, all_rights, Created, OwnFormal}
use Rattle.model.proofs.Table.{found_new}
use Rattle.model.proofs.Comes.{Grants}
use Rattle.model.proofs.Planned.{Moved, Given, HoldsObject, HoldsInteger, Fetched, Stored, Got, SetIn}
use Rattle.provenance.proofs.Locations.{same_is, Written, top_variables, variable_written, blank_made, cell_written}
use Rattle.provenance.proofs.Bindings.{granted_back, carried_as, moved_back, given_none, unnamed}

-- ---- What an origin says of a value with a right: s is the state before the step, t the one after it

abbrev pub Says : Program → (s t : Snapshot watched) → (x : Value) → (i : ℕ) → Location → Origin → Type 0
Says g s t x i l stays = Carries x i (content s l)
Says g s t x i l given_up = ⊥
Says g s t x i l made = Created g x i s t
Says g s t x i l (bound_from from through) = AllHave i through × Carries x i (content s from)
Says g s t x i l (amplified p j) = OwnFormal g x i t l p j

-- ---- A step that writes nothing

pub still_says :
    (g : Program) (p n k : ℕ) (z : Rights) (vs : List (Cell watched)) (fs : List (Frame watched)) (os : List (Object watched)) (x : Value) (i : ℕ) (m : Location) →
    Carries x i (content (snapshot (frame p k z vs ∷ fs) os) m) → Carries x i (content (snapshot (frame p n z vs ∷ fs) os) m)
unfolding content variables_at
still_says g p n k z vs fs os x i (variable d y) h = h
still_says g p n k z vs fs os x i (cell a j) h = h

-- ---- A location that a step writes, and all others

pub into_says :
    (g : Program) {s t : Snapshot watched} {x : Value} {i : ℕ} {l : Location} {c : Cell watched} → Written s t l c → (o : Origin) →
    ((m : Location) → Carries x i c → Says g s t x i m o) → (m : Location) → Carries x i (content t m) → Says g s t x i m (into l o m)
unfolding into
into_says g {s} {t} {x} {i} {l} {c} w o k m h = either (same_location m l) refl
  where
    either : (b : Bool) → same_location m l ≡ b → Says g s t x i m (cond b o stays)
    either true e = k m (w.there (subst (λ (n : Location). Carries x i (content t n)) (same_is m l e) h))
    either false e = subst (Carries x i) (w.elsewhere m e) h

module _
    (g : Program) (memory output : ℕ) (p n : ℕ) (z : Rights) (vs : List (Cell watched)) (fs : List (Frame watched)) (os : List (Object watched))
    (input out : List ℕ) (x : Value) (i : ℕ) where
  abbrev pub s : State watched
  s = state (frame p n z vs) fs os input out

  abbrev pub v : View watched
  v = view memory output s

  -- the variables of the running frame
  pub running_content : (a : ℕ) → content (shot s) (variable (length fs) a) ≡ get_or vs a empty
  unfolding content
  running_content a = rw (top_variables p n z vs fs)

  pub running_carries : (a : ℕ) → Carries x i (get_or vs a empty) → Carries x i (content (shot s) (variable (length fs) a))
  running_carries a h = subst (Carries x i) (sym (running_content a)) h

  -- ---- One variable is written

  abbrev written_in : (a : ℕ) (d : Cell watched) → Snapshot watched
  written_in a d = snapshot (frame p (suc n) z (set vs a d) ∷ fs) os

  pub write_says :
      (a : ℕ) (d : Cell watched) (o : Origin) → ((m : Location) → Carries x i d → Says g (shot s) (written_in a d) x i m o) →
      (m : Location) → Carries x i (content (written_in a d) m) → Says g (shot s) (written_in a d) x i m (into (variable (length fs) a) o m)
  write_says a d o k = into_says g (variable_written p n (suc n) z vs fs os os a d (λ b j. refl)) o k

  pub given_says :
      (a : ℕ) (d : Cell watched) → Given watched g v a d → (m : Location) → Carries x i (content (written_in a d) m) →
      Says g (shot s) (written_in a d) x i m (into (variable (length fs) a) given_up m)
  given_says a d e = write_says a d given_up λ m h. given_none a e h

  abbrev made_in_it : (a : ℕ) (r : Rights) (o : Object watched) → Snapshot watched
  made_in_it a r o = snapshot (frame p (suc n) z (set vs a (filled (object (object_units os)) r)) ∷ fs) (os ++ (o ∷ []))

  pub made_says :
      (a : ℕ) (r : Rights) (o : Object watched) (k : Kind watched) → ((j : ℕ) → get_or (cells_of o) j empty ≡ empty) →
      Grants watched (declared_as watched g v a) k (all_rights g o) r → (m : Location) →
      Carries x i (content (made_in_it a r o) m) → Says g (shot s) (made_in_it a r o) x i m (into (variable (length fs) a) made m)
  made_says a r o k e f =
      into_says g (variable_written p n (suc n) z vs fs os (os ++ (o ∷ [])) a (filled (object (object_units os)) r) (blank_made os o e)) made
      λ m h.
      let w = carried_as h refl in
      record {
        name = object_units os;
        is_object = sym w.0;
        not_before = unnamed os;
        new = o;
        there_after = found_new os o;
        given = (granted_back i (declared_as watched g v a) k (all_rights g o) r f w.1).1;
      }

  pub bind_says :
      (a b : ℕ) (d : Cell watched) → Moved watched g v (declared_as watched g v a) (get_or vs b empty) d → (m : Location) → Carries x i (content (written_in a d) m) →
      Says g (shot s) (written_in a d) x i m (into (variable (length fs) a) (bound_from (variable (length fs) b) (declared_as watched g v a ∷ [])) m)
  bind_says a b d e = write_says a d _ λ m h. let w = moved_back e h in ((w.0, tt), running_carries b w.1)

  -- the object and the integer that a step found in a variable
  pub object_is : (b : ℕ) {o : ℕ} → HoldsObject watched g v b o → o ≡ number_in (get_or vs b empty)
  unfolding number_in
  object_is b e = sym (ap number_in e.1)

  pub integer_is : (b : ℕ) {k : ℕ} → HoldsInteger watched g v b k → k ≡ number_in (get_or vs b empty)
  unfolding number_in
  integer_is b e = sym (ap number_in e.1)

  -- what a cell holds, by the variables that name it
  pub cell_carries : (o j : ℕ) (l : Location) → cell o j ≡ l → Carries x i (cell_of (find os o) j) → Carries x i (content (shot s) l)
  unfolding content
  cell_carries o j l e h = subst (λ (m : Location). Carries x i (content (shot s) m)) e h

  pub fetch_says :
      (a b c : ℕ) (d : Cell watched) → Fetched watched g v a b c d → (m : Location) → Carries x i (content (written_in a d) m) →
      Says g (shot s) (written_in a d) x i m (origin g v (length fs) (Fetch a b c) m)
  unfolding origin
  fetch_says a b c d e =
      write_says a d _ λ m h.
      let w = moved_back e.to_variable h in
      let u = moved_back e.to_element w.1 in
      ((u.0, (w.0, tt)), cell_carries e.name e.index _ (ap₂ cell (object_is b e.array) (integer_is c e.at)) u.1)

  pub get_says :
      (a b k : ℕ) (d : Cell watched) → Got watched g v a b k d → (m : Location) → Carries x i (content (written_in a d) m) →
      Says g (shot s) (written_in a d) x i m (origin g v (length fs) (GetSlot a b k) m)
  unfolding origin
  get_says a b k d e =
      write_says a d _ λ m h.
      let w = moved_back e.to_variable h in
      ((w.0, tt), cell_carries e.name k _ (ap (λ (o : ℕ). cell o k) (object_is b e.holder)) w.1)

  -- ---- One cell is written

  abbrev stored_in : (a j : ℕ) (d : Cell watched) → Snapshot watched
  stored_in a j d = snapshot (frame p (suc n) z vs ∷ fs) (update os a j d)

  pub written_at : (o j : ℕ) (d : Cell watched) (l : Location) → cell o j ≡ l → Written (shot s) (stored_in o j d) l d
  written_at o j d l e = subst (λ (m : Location). Written (shot s) (stored_in o j d) m d) e (cell_written p n (suc n) z vs fs os o j d)

  pub store_says :
      (a b c o j : ℕ) (d : Cell watched) → Stored watched g v a b c o j d → (m : Location) → Carries x i (content (stored_in o j d) m) →
      Says g (shot s) (stored_in o j d) x i m (origin g v (length fs) (Store a b c) m)
  unfolding origin own_element
  store_says a b c o j d e =
      let u : e.own ≡ own_element (head_of (find os (number_in (get_or vs a empty)))) =
      sym (ap own_element e.is_array_lem) ∙ ap (λ (w : ℕ). own_element (head_of (find os w))) (object_is a e.array) in
      into_says g (written_at o j d _ (ap₂ cell (object_is a e.array) (integer_is b e.at))) _ λ m h.
      let f = carried_as h e.target in
      let w = granted_back i e.own _ e.had e.gets e.grants f.1 in (
        (subst (λ (q : Qual). has i (rights q) ≡ true) u w.0, tt),
        running_carries c (record { carried = e.had; holds = rw (← f.0) e.source; has_right = w.1 }),
      )

  pub set_says :
      (a b k o : ℕ) (d : Cell watched) → SetIn watched g v a b k o d → (m : Location) → Carries x i (content (stored_in o k d) m) →
      Says g (shot s) (stored_in o k d) x i m (origin g v (length fs) (SetSlot a b k) m)
  unfolding origin
  set_says a b k o d e =
      into_says g (written_at o k d _ (ap (λ (u : ℕ). cell u k) (object_is a e.holder))) _ λ m h.
      let w = moved_back e.to_slot h in
      ((w.0, tt), running_carries b w.1)
