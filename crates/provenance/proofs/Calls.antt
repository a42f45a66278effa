-- A call and a return, of any program: a formal carries what its actual did, by need and inner, or is amplified; a kept result carries what was returned.
use Prim.Native.Nat.{ℕ, suc, ◌+◌, ◌-◌, ◌<◌}
use mathlib.Core.Path.{◌≡◌, refl, ap, subst}
use mathlib.Core.Bool.{Bool, true, false, ◌&&◌, cond}
use mathlib.Core.List.{List, [], ◌∷◌, ◌++◌}
use mathlib.Core.Option.{Option, none, some}
use native.Mathlib.Omega.{arith}
use lib.Dec.{eqb, ltb}
use lib.ListN.{length, get_or, replicate, get_or-append}
use borrow.Author.Tests.{eqb-true, ltb-true, ltb-false}
use Rattle.model.specs.Rights.{Rights, within, has}
use Rattle.model.specs.Qualified.{Qual, rights}
use Rattle.model.specs.Generic.{read_result}
use Rattle.model.specs.Program.{Program}
use Rattle.model.specs.Rules.{amplifies}
use Rattle.model.specs.declared.Operation.TheVariants.{Call}
use Rattle.model.specs.Modes.{watched, in_frame, Kind, is_record_of}
use Rattle.model.specs.Machine.{Value, Cell, empty, filled, Object, Frame, frame, State, state, View, view, read_in, kind_of, set_kept}
use Rattle.model.specs.Run.{Snapshot, snapshot, shot}
use Rattle.provenance.specs.Location.{Location, variable, cell, same_location, variables_at, content}
use Rattle.provenance.specs.Origin.{stays, given_up, bound_from, amplified, listed, kind_held, set_settled, passed, formal, opened_by, closed_frame, handed_to, origin}
use Rattle.provenance.specs.Claim.{Carries, AllHave}
use Rattle.model.proofs.Verdicts.{both_true}
use Rattle.model.proofs.Rights.{within_has}
use Rattle.model.proofs.Comes.{RaisesIf, ResultGrants}
use Rattle.model.proofs.Planned.{Passed, AllPassed, HandedOver, Returned, Resumed}
use Rattle.provenance.proofs.Locations.{blank_carries, blank_past, same_is, Written, no_variables, variable_written}
use Rattle.provenance.proofs.Bindings.{granted_back, carried_as, moved_from, moved_back, record_of_owner, amplified_read}
use Rattle.provenance.proofs.Links.{Says, running_carries}

module _
    (g : Program) (memory output : ℕ) (p n : ℕ) (z : Rights) (vs : List (Cell watched)) (fs : List (Frame watched)) (os : List (Object watched))
    (input out : List ℕ) (x : Value) (i : ℕ) where
  abbrev s : State watched
  s = state (frame p n z vs) fs os input out

  abbrev v : View watched
  v = view memory output s

  -- ---- A frame is opened

  abbrev opened_in : (k : ℕ) (y : Rights) (cs : List (Cell watched)) → Snapshot watched
  opened_in k y cs = snapshot (frame k 0 y (cs ++ replicate (g.variables k - g.formals k) empty) ∷ frame p (suc n) z vs ∷ fs) os

  -- what need and inner are read as
  abbrev needed : (k b j : ℕ) → Qual
  needed k b j = read_in watched g v k (set_settled g v (length fs) k b) (g.need k j)

  abbrev inside : (k b j : ℕ) → Qual
  inside k b j = read_in watched g v k (set_settled g v (length fs) k b) (g.inner k j)

  abbrev raised : (k j : ℕ) (y : Value) → Bool
  raised k j y = is_record_of (g.owner k) (kind_of watched g v y) && amplifies (g.owner k) (g.inner k j)

  -- an actual that held x with rights `had`, then had need's, and has `gets` inside
  pub raised_says :
      (k b j : ℕ) (y : Rights) (cs : List (Cell watched)) (m : Location) → m ≡ variable (suc (length fs)) j → j < g.formals k →
      (had between gets : Rights) → get_or vs (b + j) empty ≡ filled x had →
      within (rights (needed k b j)) had ≡ true → between ≡ rights (needed k b j) → has i gets ≡ true →
      (a : Bool) → raised k j x ≡ a → RaisesIf a (inside k b j) (kind_of watched g v x) between gets →
      Says g (shot s) (opened_in k y cs) x i m (cond a (amplified k j) (bound_from (variable (length fs) (b + j)) (passed g v (length fs) k b j)))
  raised_says k b j y cs m at l had between gets c w e h true a r =
      let f = both_true (is_record_of (g.owner k) (kind_of watched g v x)) (amplifies (g.owner k) (g.inner k j)) a in
      let o = record_of_owner (g.owner k) (kind_of watched g v x) f.0 in
      let q = amplified_read _ (g.owner k) (g.inner k j) f.1 in
      record {
        set = y;
        variables = cs ++ replicate (g.variables k - g.formals k) empty;
        waiting = frame p (suc n) z vs ∷ fs;
        opened = refl;
        location = at;
        formal = l;
        owner = o.0;
        own_type = o.1;
        inside = subst (λ (u : Qual). has i (rights u) ≡ true) q (subst (λ (u : Rights). has i u ≡ true) r h);
      }
  raised_says k b j y cs m at l had between gets c w e h false a r =
      let u = granted_back i (inside k b j) _ between gets r h in
      let d : has i (rights (needed k b j)) ≡ true = rw (← e) u.1 in
      ((d, (u.0, tt)), running_carries g memory output p n z vs fs os input out x i (b + j) (record { carried = had; holds = c; has_right = within_has i (rights (needed k b j)) had w d }))

  pub formal_says :
      (k b j : ℕ) (y : Rights) (cs : List (Cell watched)) (d : Cell watched) (m : Location) → m ≡ variable (suc (length fs)) j → j < g.formals k →
      Passed watched g v k b (set_settled g v (length fs) k b) j d → Carries x i d → Says g (shot s) (opened_in k y cs) x i m (formal g v (length fs) k b j)
  unfolding formal kind_held
  formal_says k b j y cs d m at l e h =
      let f = carried_as h e.target in
      let w = moved_from e.to_need (subst (λ (u : Value). e.between ≡ filled u e.had) f.0 e.source) in
      rw w.1
      (raised_says k b j y cs m at l w.0 e.had e.gets w.1 w.2 w.3 f.1 (raised k j x) refl
      (subst (λ (u : Value). RaisesIf (raised k j u) (inside k b j) (kind_of watched g v u) e.had e.gets) f.0 e.to_inner))

  -- variable w of the frame that a call opens
  pub opened_says :
      (k b w : ℕ) (y : Rights) (cs : List (Cell watched)) (m : Location) → m ≡ variable (suc (length fs)) w →
      AllPassed watched g v k b (set_settled g v (length fs) k b) 0 (g.formals k) cs → (f : Bool) → ltb w (g.formals k) ≡ f →
      Carries x i (get_or (cs ++ replicate (g.variables k - g.formals k) empty) w empty) →
      Says g (shot s) (opened_in k y cs) x i m (cond f (formal g v (length fs) k b w) given_up)
  opened_says k b w y cs m at e true f h =
      let l = ltb-true w (g.formals k) f in
      let j : 0 + w ≡ w = omega arith in
      formal_says k b w y cs (get_or cs w empty) m at l (subst (λ (u : ℕ). Passed watched g v k b (set_settled g v (length fs) k b) u (get_or cs w empty)) j (e.each w l))
      (subst (Carries x i) (get_or-append cs (replicate (g.variables k - g.formals k) empty) empty w (rw e.count l)) h)
  opened_says k b w y cs m at e false f h =
      blank_carries (subst (Carries x i) (blank_past cs (g.variables k - g.formals k) w (rw e.count (ltb-false w (g.formals k) f))) h)

  pub call_says :
      (a b k : ℕ) (cs : List (Cell watched)) → AllPassed watched g v k b (set_settled g v (length fs) k b) 0 (g.formals k) cs → (m : Location) →
      Carries x i (content (opened_in k (set_settled g v (length fs) k b) cs) m) →
      Says g (shot s) (opened_in k (set_settled g v (length fs) k b) cs) x i m (origin g v (length fs) (Call a b k) m)
  unfolding origin opened_by content variables_at
  call_says a b k cs e (cell o j) h = h
  call_says a b k cs e (variable d w) h = in_frame_at (eqb d (suc (length fs))) refl h
    where
      in_frame_at :
          (f : Bool) → eqb d (suc (length fs)) ≡ f →
          Carries x i (get_or (cond f (cs ++ replicate (g.variables k - g.formals k) empty) (variables_at (frame p (suc n) z vs ∷ fs) d)) w empty) →
          Says g (shot s) (opened_in k (set_settled g v (length fs) k b) cs) x i (variable d w)
          (cond f (cond (ltb w (g.formals k)) (formal g v (length fs) k b w) given_up) stays)
      in_frame_at true f c =
          opened_says k b w (set_settled g v (length fs) k b) cs (variable d w) (ap (λ (u : ℕ). variable u w) (eqb-true d (suc (length fs)) f)) e (ltb w (g.formals k)) refl c
      in_frame_at false f c = c

-- ---- A frame is given back

module _
    (g : Program) (memory output : ℕ) (p n q j : ℕ) (z y : Rights) (vs us : List (Cell watched)) (fs : List (Frame watched)) (os : List (Object watched))
    (input out : List ℕ) (x : Value) (i : ℕ) where
  abbrev waited : State watched
  waited = state (frame p n z vs) (frame q j y us ∷ fs) os input out

  abbrev seen_then : View watched
  seen_then = view memory output waited

  -- the frames that go on are as they were, and the variables of the returning one are gone
  pub closed_says :
      (t : Snapshot watched) (m : Location) → Carries x i (content (snapshot (frame q j y us ∷ fs) os) m) →
      Says g (shot waited) t x i m (closed_frame g seen_then (suc (length fs)) m)
  unfolding closed_frame content variables_at
  closed_says t (cell a k) h = h
  closed_says t (variable d w) h = in_frame_at (eqb d (suc (length fs))) refl
    where
      in_frame_at : (f : Bool) → eqb d (suc (length fs)) ≡ f → Says g (shot waited) t x i (variable d w) (cond f given_up stays)
      in_frame_at true f =
          let e = eqb-true d (suc (length fs)) f in
          blank_carries (subst (λ (ws : List (Cell watched)). Carries x i (get_or ws w empty)) (no_variables (frame q j y us ∷ fs) d (omega (arith, e))) h)
      in_frame_at false f = rw f h

  -- what the caller goes on with
  abbrev resumed_with : Option (ℕ × Cell watched) → Snapshot watched
  resumed_with w = snapshot (frame q j y (set_kept us w) ∷ fs) os

  pub result_says :
      (r : Option Qual) (k : Kind watched) (had gets : Rights) (t : Qual) → ResultGrants watched r k had gets → has i gets ≡ true → has i (rights t) ≡ true →
      AllHave i (listed r ++ (t ∷ [])) × (has i had ≡ true)
  unfolding listed
  result_says none k had gets t e h f = absurd e
  result_says (some r) k had gets t e h f = let w = granted_back i r k had gets e h in ((w.0, (f, tt)), w.1)

  pub handed_says :
      (t : Qual) (a : ℕ) (c : Cell watched) → HandedOver watched g seen_then a c → has i (rights t) ≡ true → Carries x i c →
      AllHave i (listed (read_result (in_frame watched (g.bound p) z) (g.result p)) ++ (t ∷ [])) × Carries x i (content (shot waited) (variable (suc (length fs)) a))
  handed_says t a c e f h =
      let d = carried_as h e.target in
      let w = result_says _ _ e.had e.gets t e.grants d.1 f in
      (w.0, running_carries g memory output p n z vs (frame q j y us ∷ fs) os input out x i a (record { carried = e.had; holds = rw (← d.0) e.source; has_right = w.1 }))

  pub kept_says :
      (a : ℕ) (w : ℕ × Cell watched) → Returned watched g seen_then q y a w.0 w.1 → (m : Location) → Carries x i (content (resumed_with (some w)) m) →
      Says g (shot waited) (resumed_with (some w)) x i m (handed_to g seen_then (suc (length fs)) q y (some w.0) (some a) m)
  unfolding handed_to
  kept_says a w e m h = either (same_location m (variable (length fs) w.0)) refl
    where
      one : Written (snapshot (frame q j y us ∷ fs) os) (resumed_with (some w)) (variable (length fs) w.0) w.1
      one = variable_written q j j y us fs os os w.0 w.1 (λ b k. refl)

      either :
          (f : Bool) → same_location m (variable (length fs) w.0) ≡ f →
          Says g (shot waited) (resumed_with (some w)) x i m
          (cond f
          (bound_from (variable (suc (length fs)) a) (listed (read_result (in_frame watched (g.bound p) z) (g.result p)) ++ (read_in watched g seen_then q y (g.inner q w.0) ∷ [])))
          (closed_frame g seen_then (suc (length fs)) m))
      either true f =
          let c = moved_back e.to_variable (one.there (subst (λ (l : Location). Carries x i (content (resumed_with (some w)) l)) (same_is m (variable (length fs) w.0) f) h)) in
          handed_says _ a e.between e.to_result c.0 c.1
      either false f = closed_says (resumed_with (some w)) m (subst (Carries x i) (one.elsewhere m f) h)

  pub resume_says :
      (kept_in returned : Option ℕ) (w : Option (ℕ × Cell watched)) → Resumed watched g seen_then q y kept_in returned w → (m : Location) →
      Carries x i (content (resumed_with w) m) → Says g (shot waited) (resumed_with w) x i m (handed_to g seen_then (suc (length fs)) q y kept_in returned m)
  unfolding handed_to
  resume_says none a none e m h = closed_says (resumed_with none) m h
  resume_says none a (some w) e m h = absurd e
  resume_says (some k) a none e m h = absurd e
  resume_says (some k) none (some w) e m h = absurd e
  resume_says (some k) (some a) (some w) e m h = rw (← e.0) (kept_says a w (rw (← e.0) at e.1) m h)
