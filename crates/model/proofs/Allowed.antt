-- What an accepted program says of its parts: for each operation the tests of its rule, and what rules 6 and 7 say of variables, slots, elements and results.
use Prim.Native.Nat.{ℕ, ◌+◌, ◌<◌, ◌≤◌}
use mathlib.Core.Path.{◌≡◌, refl, sym, ◌∙◌}
use mathlib.Core.Bool.{Bool, true, false, false≢true, not, ◌&&◌, ◌||◌, cond}
use mathlib.Core.List.{List, [], ◌∷◌, ◌++◌}
use mathlib.Core.Option.{Option, none, some}
use native.Mathlib.Nat.{zero-add}
use lib.Dec.{eqb, leb, ltb}
use borrow.Author.Tests.{lt-ltb, leb-true, eqb-true, not-true}
use Rattle.model.specs.Rights.{Rights, within, has, none_above, record_rights, open_right, fetch_right, store_right, size_right, array_rights}
use Rattle.model.specs.Qualified.{Qual, base, rights, element, is_integer, is_array, is_generic, same, alike, covers}
use Rattle.model.specs.Generic.{Bound, least, own, instance, read, read_result, uses, settled, some_uses, is_settled, is_enough}
use Rattle.model.specs.Program.{Program, Record, type_record, qual_record, procedure_record, variable_record, instruction_record}
use Rattle.std.specs.Prelude.{Ok}
use Rattle.model.specs.Refusal.{Accepted, Unsettled, ShortSet, TypeMismatch, InsufficientRights, OpenExposed, FalseRaise, Test, test, Tests, tests, failure, verdict, span}
use Rattle.model.specs.Rules.{optional, moves, owned_by, integer_rule, integers_rule, new_array_rule, new_record_rule, fetch_rule, store_rule, size_rule, get_slot_rule, set_slot_rule, return_rule, keeps, kept_rule, closed, closed_result, amplifies, agrees, formal_rule, local_rule, declaration_rule, optional_variable, called, found_by, settling_rule, passing_rule, call_rule, closed_rule, typed, typed_slot, rule, type_rules, qual_rules, variable_rule, variable_rules, instruction_rules, head_rules, procedure_rules, access_rules}
use Rattle.model.specs.declared.Operation.{Operation}
use Rattle.model.specs.declared.Operation.TheVariants.{Set, Add, Subtract, Less, JumpZero, Bind, Take, Put, NewArray, Fetch, Store, Size, NewRecord, GetSlot, SetSlot, Call, Return}
use Rattle.model.proofs.Verdicts.{verdict_append, failure_append, accepted_left, accepted_right, accepted_span, accepted_tests, passed_span, passed_test, both_true}
use Rattle.model.proofs.Rights.{within_all}
use Rattle.model.proofs.Order.{same_sound}
use Rattle.model.proofs.Formed.{Formed, FormedAt}
use Rattle.model.proofs.Read.{Good, Moves, no_use, integer_read, array_read, base_read, element_read, rights_read, array_rights_read, open_read, moves_read}
use Rattle.model.proofs.Settling.{is_settled_frame, is_enough_frame, good_called, call_check, call_frame}

-- a type of the owner's: an owner is 2 or more
pub record Owned (o : ℕ) (q : Qual) : Type 0 where
  pub there : 2 ≤ o
  pub base_is : base q ≡ o

-- need and inner of a formal, as their records have them: both of the owner's type, where it is amplified, or equal
pub data Raised (o : ℕ) (need inner : Qual) : Type 0 where
  amplified : amplifies o need ≡ true → amplifies o inner ≡ true → Raised o need inner
  unchanged : need ≡ inner → Raised o need inner

-- open is not among the rights
abbrev pub Closed : Qual → Type 0
Closed q = has open_right (rights q) ≡ false

-- a kept variable and the result of the procedure called
abbrev pub Kept : (ℕ → Qual) → Option ℕ → Option Qual → Type 0
Kept inner none r = Unit {0}
Kept inner (some a) none = ⊥
Kept inner (some a) (some r) = Moves r (inner a)

-- a returned variable and the result of the procedure
abbrev pub Returned : (ℕ → Qual) → Option ℕ → Option Qual → Type 0
Returned inner none none = Unit {0}
Returned inner (some a) (some r) = Moves (inner a) r
Returned inner none (some r) = ⊥
Returned inner (some a) none = ⊥

-- what ?R of procedure k stands for in a frame with set z
abbrev pub in_set : Program → (k : ℕ) → (z : Rights) → Qual
in_set g k z = instance (g.bound k) z

-- variable x of procedure p in a frame with set z
abbrev pub typed_in : Program → (p : ℕ) → (z : Rights) → (x : ℕ) → Qual
typed_in g p z x = read (in_set g p z) (g.inner p x)

-- the set that a call of procedure k settles, by the declared types of its variables
abbrev pub set_by : Program → (inner : ℕ → Qual) → (b k : ℕ) → Rights
set_by g inner b k = rights (settled (g.bound k) (found_by inner (called g k) b))

-- a call from a frame whose variables are declared so: the set that it settles, which a frame may hold, and the movements to types that are read with it
pub record Called (g : Program) (inner : ℕ → Qual) (a b k : ℕ) : Type 0 where
  pub settles : is_settled (g.bound k) (some_uses (called g k).need 0 (g.formals k)) (found_by inner (called g k) b) ≡ true
  pub enough : is_enough (g.bound k) (found_by inner (called g k) b) ≡ true
  pub good : Good (g.bound k) (set_by g inner b k)
  pub actuals : (j : ℕ) → j < g.formals k → Moves (inner (b + j)) (read (in_set g k (set_by g inner b k)) (g.need k j))
  pub kept : Kept inner (optional a) (read_result (in_set g k (set_by g inner b k)) (g.result k))

-- what the rule of an operation says of the types in a frame with set z
module _ (g : Program) (p : ℕ) (z : Rights) where
  abbrev pub Allowed : Operation → Type 0
  Allowed (Set a k) = is_integer (typed_in g p z a) ≡ true
  Allowed (Add a b c) = (is_integer (typed_in g p z a) ≡ true) × (is_integer (typed_in g p z b) ≡ true) × (is_integer (typed_in g p z c) ≡ true)
  Allowed (Subtract a b c) = (is_integer (typed_in g p z a) ≡ true) × (is_integer (typed_in g p z b) ≡ true) × (is_integer (typed_in g p z c) ≡ true)
  Allowed (Less a b c) = (is_integer (typed_in g p z a) ≡ true) × (is_integer (typed_in g p z b) ≡ true) × (is_integer (typed_in g p z c) ≡ true)
  Allowed (JumpZero a k) = is_integer (typed_in g p z a) ≡ true
  Allowed (Bind a b) = Moves (typed_in g p z b) (typed_in g p z a)
  Allowed (Take a) = is_integer (typed_in g p z a) ≡ true
  Allowed (Put a) = is_integer (typed_in g p z a) ≡ true
  Allowed (NewArray a b) =
      (is_integer (typed_in g p z b) ≡ true) × (is_array (typed_in g p z a) ≡ true) × (within (rights (typed_in g p z a)) array_rights ≡ true)
  Allowed (Fetch a b c) =
      (is_array (typed_in g p z b) ≡ true) × (is_integer (typed_in g p z c) ≡ true) × (has fetch_right (rights (typed_in g p z b)) ≡ true) × Moves (element (typed_in g p z b)) (typed_in g p z a)
  Allowed (Store a b c) =
      (is_array (typed_in g p z a) ≡ true) × (is_integer (typed_in g p z b) ≡ true) × (has store_right (rights (typed_in g p z a)) ≡ true) × Moves (typed_in g p z c) (element (typed_in g p z a))
  Allowed (Size a b) =
      (is_array (typed_in g p z b) ≡ true) × (has size_right (rights (typed_in g p z b)) ≡ true) × (is_integer (typed_in g p z a) ≡ true)
  Allowed (NewRecord a) =
      Owned (g.owner p) (typed_in g p z a) × (within (rights (typed_in g p z a)) (record_rights (g.named (g.owner p))) ≡ true)
  Allowed (GetSlot a b k) =
      Owned (g.owner p) (typed_in g p z b) × (has open_right (rights (typed_in g p z b)) ≡ true) × Moves (g.slot (g.owner p) k) (typed_in g p z a)
  Allowed (SetSlot a b k) =
      Owned (g.owner p) (typed_in g p z a) × (has open_right (rights (typed_in g p z a)) ≡ true) × Moves (typed_in g p z b) (g.slot (g.owner p) k) ×
      (read (in_set g p z) (g.slot (g.owner p) k) ≡ g.slot (g.owner p) k)
  Allowed (Call a b k) = Called g (typed_in g p z) a b k
  Allowed (Return a) = Returned (typed_in g p z) (optional a) (read_result (in_set g p z) (g.result p))

-- ---- From a passed rule to its facts

-- the tests of kind, then of a right, then the movements
kind_right : (a b : Bool) (ts : List Test) → failure (test TypeMismatch a ∷ test InsufficientRights b ∷ ts) ≡ Ok tt → (a ≡ true) × (b ≡ true) × (failure ts ≡ Ok tt)
kind_right a b ts h = let x = passed_test TypeMismatch a _ h in let y = passed_test InsufficientRights b ts x.1 in (x.0, y.0, y.1)

-- a type of a procedure with bound y, as the rules read it, and as a frame with set z does
module _ (y : Bound) (z : Rights) (good : Good y z) where
  abbrev ruled : Qual → Qual
  ruled q = read (own y) q

  abbrev framed : Qual → Qual
  framed q = read (instance y z) q

  moved : (s d : Qual) → failure (moves (ruled s) (ruled d)) ≡ Ok tt → Moves (framed s) (framed d)
  unfolding moves
  moved s d h =
      let x = kind_right (alike (ruled s) (ruled d)) (covers (ruled s) (ruled d)) [] h in
      moves_read y z good s d x.0 x.1

  one_fact : (a : Qual) → failure (integer_rule (ruled a)) ≡ Ok tt → is_integer (framed a) ≡ true
  unfolding integer_rule
  one_fact a h = integer_read y z a (passed_test TypeMismatch (is_integer (ruled a)) _ h).0

  three_fact :
      (a b c : Qual) → failure (integers_rule (ruled a) (ruled b) (ruled c)) ≡ Ok tt →
      (is_integer (framed a) ≡ true) × (is_integer (framed b) ≡ true) × (is_integer (framed c) ≡ true)
  unfolding integers_rule
  three_fact a b c h =
      let x = both_true (is_integer (ruled a) && is_integer (ruled b)) (is_integer (ruled c)) (passed_test TypeMismatch _ _ h).0 in
      let w = both_true (is_integer (ruled a)) (is_integer (ruled b)) x.0 in
      (integer_read y z a w.0, integer_read y z b w.1, integer_read y z c x.1)

  array_fact :
      (a b : Qual) → failure (new_array_rule (ruled a) (ruled b)) ≡ Ok tt →
      (is_integer (framed b) ≡ true) × (is_array (framed a) ≡ true) × (within (rights (framed a)) array_rights ≡ true)
  unfolding new_array_rule
  array_fact a b h =
      let x = kind_right (is_integer (ruled b) && is_array (ruled a)) (within (rights (ruled a)) array_rights) [] h in
      let w = both_true (is_integer (ruled b)) (is_array (ruled a)) x.0 in
      (integer_read y z b w.0, array_read y z a w.1, rw (array_rights_read y z a w.1) at x.1)

  fetch_fact :
      (a b c : Qual) → failure (fetch_rule (ruled a) (ruled b) (ruled c)) ≡ Ok tt →
      (is_array (framed b) ≡ true) × (is_integer (framed c) ≡ true) × (has fetch_right (rights (framed b)) ≡ true) ×
      Moves (element (framed b)) (framed a)
  unfolding fetch_rule
  fetch_fact a b c h =
      let x = kind_right (is_array (ruled b) && is_integer (ruled c)) (has fetch_right (rights (ruled b))) _ h in
      let w = both_true (is_array (ruled b)) (is_integer (ruled c)) x.0 in
      let e = element_read y z b in
      (array_read y z b w.0, integer_read y z c w.1, rw (array_rights_read y z b w.0) at x.1, rw e.1 (moved (element b) a (rw e.0 at x.2)))

  store_fact :
      (a b c : Qual) → failure (store_rule (ruled a) (ruled b) (ruled c)) ≡ Ok tt →
      (is_array (framed a) ≡ true) × (is_integer (framed b) ≡ true) × (has store_right (rights (framed a)) ≡ true) ×
      Moves (framed c) (element (framed a))
  unfolding store_rule
  store_fact a b c h =
      let x = kind_right (is_array (ruled a) && is_integer (ruled b)) (has store_right (rights (ruled a))) _ h in
      let w = both_true (is_array (ruled a)) (is_integer (ruled b)) x.0 in
      let e = element_read y z a in
      (array_read y z a w.0, integer_read y z b w.1, rw (array_rights_read y z a w.0) at x.1, rw e.1 (moved c (element a) (rw e.0 at x.2)))

  size_fact :
      (a b : Qual) → failure (size_rule (ruled a) (ruled b)) ≡ Ok tt →
      (is_array (framed b) ≡ true) × (has size_right (rights (framed b)) ≡ true) × (is_integer (framed a) ≡ true)
  unfolding size_rule
  size_fact a b h =
      let x = kind_right (is_array (ruled b)) (has size_right (rights (ruled b))) _ h in
      (array_read y z b x.0, rw (array_rights_read y z b x.0) at x.1, one_fact a x.2)

  owned : (o : ℕ) (q : Qual) → owned_by o (ruled q) ≡ true → Owned o (framed q)
  unfolding owned_by
  owned o q h =
      let x = both_true (leb 2 o) (eqb (base (ruled q)) o) h in
      record { there = leb-true 2 o x.0; base_is = sym (base_read y z q) ∙ eqb-true (base (ruled q)) o x.1 }

  record_fact :
      (o n : ℕ) (a : Qual) → failure (new_record_rule o n (ruled a)) ≡ Ok tt →
      Owned o (framed a) × (within (rights (framed a)) (record_rights n) ≡ true)
  unfolding new_record_rule
  record_fact o n a h =
      let x = kind_right (owned_by o (ruled a)) (not (is_generic (ruled a)) && none_above n (rights (ruled a))) [] h in
      let w = both_true (not (is_generic (ruled a))) (none_above n (rights (ruled a))) x.1 in
      (owned o a x.0, rw (rights_read y z a (not-true (is_generic (ruled a)) w.0)) at (within_all n (rights (ruled a)) w.1))

  get_fact :
      (o : ℕ) (a b slot : Qual) → has open_right (least y) ≡ false → uses slot ≡ false → failure (get_slot_rule o (ruled a) (ruled b) (ruled slot)) ≡ Ok tt →
      Owned o (framed b) × (has open_right (rights (framed b)) ≡ true) × Moves slot (framed a)
  unfolding get_slot_rule
  get_fact o a b slot k u h =
      let x = kind_right (owned_by o (ruled b)) (has open_right (rights (ruled b))) _ h in
      (owned o b x.0, open_read y z k b x.1, rw (no_use (instance y z) slot u) at (moved slot a x.2))

  set_fact :
      (o : ℕ) (a b slot : Qual) → has open_right (least y) ≡ false → uses slot ≡ false → failure (set_slot_rule o (ruled a) (ruled b) (ruled slot)) ≡ Ok tt →
      Owned o (framed a) × (has open_right (rights (framed a)) ≡ true) × Moves (framed b) slot × (framed slot ≡ slot)
  unfolding set_slot_rule
  set_fact o a b slot k u h =
      let x = kind_right (owned_by o (ruled a)) (has open_right (rights (ruled a))) _ h in
      let e = no_use (instance y z) slot u in
      (owned o a x.0, open_read y z k a x.1, rw e at (moved b slot x.2), e)

  return_fact :
      (inner : ℕ → Qual) (a : Option ℕ) (r : Option Qual) → failure (return_rule (optional_variable (λ x. ruled (inner x)) a) (read_result (own y) r)) ≡ Ok tt →
      Returned (λ x. framed (inner x)) a (read_result (instance y z) r)
  unfolding return_rule optional_variable read_result
  return_fact inner none none h = tt
  return_fact inner (some a) (some r) h = moved (inner a) r h
  return_fact inner none (some r) h = false≢true (passed_test TypeMismatch false [] h).0
  return_fact inner (some a) none h = false≢true (passed_test TypeMismatch false [] h).0

-- a call of procedure k with variables from b on, from a frame of procedure p
module _ (g : Program) (p k : ℕ) (z : Rights) (good : Good (g.bound p) z) (b : ℕ) where
  -- a type of procedure k, as the rule of the call reads it, and as the frame that the call opens does
  abbrev settled_to : Qual
  settled_to = settled (g.bound k) (found_by (typed g p) (called g k) b)

  abbrev passed : Qual → Qual
  passed q = read settled_to (read (own (g.bound k)) q)

  abbrev opened : Qual
  opened = in_set g k (set_by g (typed_in g p z) b k)

  passed_ruled : (q : Qual) → read (own (g.bound p)) (passed q) ≡ passed q
  unfolding typed
  passed_ruled = call_check (g.bound p) z good (g.bound k) (g.formals k) (g.need k) (λ j. g.inner p (b + j))

  passed_framed : (q : Qual) → read (instance (g.bound p) z) (passed q) ≡ read opened q
  unfolding typed
  passed_framed = call_frame (g.bound p) z good (g.bound k) (g.formals k) (g.need k) (λ j. g.inner p (b + j))

  into_called : (q d : Qual) → failure (moves (read (own (g.bound p)) q) (passed d)) ≡ Ok tt → Moves (read (instance (g.bound p) z) q) (read opened d)
  into_called q d h = rw (← passed_framed d) (moved (g.bound p) z good q (passed d) (rw (passed_ruled d) h))

  from_called : (q d : Qual) → failure (moves (passed q) (read (own (g.bound p)) d)) ≡ Ok tt → Moves (read opened q) (read (instance (g.bound p) z) d)
  from_called q d h = rw (← passed_framed q) (moved (g.bound p) z good (passed q) d (rw (passed_ruled q) h))

  kept_fact :
      (a : Option ℕ) (r : Option Qual) → keeps (optional_variable (typed g p) a) (read_result (own (g.bound k)) r) ≡ true →
      failure (kept_rule (optional_variable (typed g p) a) (read_result settled_to (read_result (own (g.bound k)) r))) ≡ Ok tt →
      Kept (typed_in g p z) a (read_result opened r)
  unfolding keeps kept_rule optional_variable read_result typed
  kept_fact none none h m = tt
  kept_fact none (some r) h m = tt
  kept_fact (some a) none h m = false≢true h
  kept_fact (some a) (some r) h m = from_called r (g.inner p a) m

  call_fact : has open_right (least (g.bound k)) ≡ false → (a : ℕ) → failure (call_rule (typed g p) (called g k) a b) ≡ Ok tt → Called g (typed_in g p z) a b k
  unfolding call_rule settling_rule passing_rule typed
  call_fact c a h =
      let found = found_by (typed g p) (called g k) b in
      let actual : ℕ → List Test = λ j. moves (typed g p (b + j)) (passed (g.need k j)) in
      let result = read_result (own (g.bound k)) (g.result k) in
      let kept = kept_rule (optional_variable (typed g p) (optional a)) (read_result settled_to result) in
      let x = passed_test Unsettled (is_settled (g.bound k) (some_uses (called g k).need 0 (g.formals k)) found) _ h in
      let y = passed_test ShortSet (is_enough (g.bound k) found) _ x.1 in
      let w = passed_test TypeMismatch (keeps (optional_variable (typed g p) (optional a)) result) _ y.1 in
      let v = sym (failure_append (span actual 0 (g.formals k)) kept) ∙ w.1 in
      let enough = is_enough_frame (g.bound p) z good (g.bound k) (g.formals k) (g.need k) (λ j. g.inner p (b + j)) y.0 in
      record {
        settles = is_settled_frame (g.bound p) z good (g.bound k) (g.formals k) (g.need k) (λ j. g.inner p (b + j)) _ x.0;
        enough = enough;
        good = good_called (g.bound p) z good (g.bound k) (g.formals k) (g.need k) (λ j. g.inner p (b + j)) c enough;
        actuals = λ j l. into_called (g.inner p (b + j)) (g.need k j) (rw zero-add at (passed_span actual (g.formals k) 0 (accepted_left _ (failure kept) v) j l));
        kept = kept_fact (optional a) (g.result k) w.0 (accepted_right (failure (span actual 0 (g.formals k))) _ v);
      }

module _ (g : Program) (f : Formed g) (p i : ℕ) (lp : p < g.procedures) (z : Rights) (good : Good (g.bound p) z) where
  shut : has open_right (least (g.bound p)) ≡ false
  shut = f.bound_closed p lp

  rule_fact : (op : Operation) → FormedAt g p i op → failure (rule g p op) ≡ Ok tt → Allowed g p z op
  unfolding rule typed typed_slot
  rule_fact (Set a k) l h = one_fact (g.bound p) z good (g.inner p a) h
  rule_fact (Add a b c) l h = three_fact (g.bound p) z good (g.inner p a) (g.inner p b) (g.inner p c) h
  rule_fact (Subtract a b c) l h = three_fact (g.bound p) z good (g.inner p a) (g.inner p b) (g.inner p c) h
  rule_fact (Less a b c) l h = three_fact (g.bound p) z good (g.inner p a) (g.inner p b) (g.inner p c) h
  rule_fact (JumpZero a k) l h = one_fact (g.bound p) z good (g.inner p a) h
  rule_fact (Bind a b) l h = moved (g.bound p) z good (g.inner p b) (g.inner p a) h
  rule_fact (Take a) l h = one_fact (g.bound p) z good (g.inner p a) h
  rule_fact (Put a) l h = one_fact (g.bound p) z good (g.inner p a) h
  rule_fact (NewArray a b) l h = array_fact (g.bound p) z good (g.inner p a) (g.inner p b) h
  rule_fact (Fetch a b c) l h = fetch_fact (g.bound p) z good (g.inner p a) (g.inner p b) (g.inner p c) h
  rule_fact (Store a b c) l h = store_fact (g.bound p) z good (g.inner p a) (g.inner p b) (g.inner p c) h
  rule_fact (Size a b) l h = size_fact (g.bound p) z good (g.inner p a) (g.inner p b) h
  rule_fact (NewRecord a) l h = record_fact (g.bound p) z good (g.owner p) (g.named (g.owner p)) (g.inner p a) h
  rule_fact (GetSlot a b k) l h =
      get_fact (g.bound p) z good (g.owner p) (g.inner p a) (g.inner p b) (g.slot (g.owner p) k) shut (f.slots_plain p k lp l.0 l.1) h
  rule_fact (SetSlot a b k) l h =
      set_fact (g.bound p) z good (g.owner p) (g.inner p a) (g.inner p b) (g.slot (g.owner p) k) shut (f.slots_plain p k lp l.0 l.1) h
  rule_fact (Call a b k) l h = call_fact g p k z good b (f.bound_closed k l.0) a h
  rule_fact (Return a) l h = return_fact (g.bound p) z good (g.inner p) (optional a) (g.result p) h

-- ---- From acceptance to each rule

agrees_fact : (o : ℕ) (need inner : Qual) → agrees o need inner ≡ true → Raised o need inner
unfolding agrees
agrees_fact o need inner h = go (amplifies o inner) refl h
  where
    go : (b : Bool) → amplifies o inner ≡ b → cond b (amplifies o need) (same need inner) ≡ true → Raised o need inner
    go true w x = amplified x w
    go false w x = unchanged (same_sound need inner x)

closed_fact : (q : Qual) → closed q ≡ true → Closed q
unfolding closed
closed_fact q h = not-true (has open_right (rights q)) h

inner_fact : (o : ℕ) (inner : Qual) → (amplifies o inner || closed inner) ≡ true → has open_right (rights inner) ≡ true → amplifies o inner ≡ true
inner_fact o inner h k = go (amplifies o inner) h
  where
    go : (b : Bool) → (b || closed inner) ≡ true → b ≡ true
    go true x = refl
    go false x = absurd (false≢true (sym (closed_fact inner x) ∙ k))

-- rules 6 and 7 of a variable: 7 for a formal alone
formal_fact : (o : ℕ) (need inner : Qual) → failure (formal_rule o need inner) ≡ Ok tt → (closed need ≡ true) × ((amplifies o inner || closed inner) ≡ true) × (agrees o need inner ≡ true)
unfolding formal_rule
formal_fact o need inner h =
    let x = passed_test OpenExposed (closed need && (amplifies o inner || closed inner)) _ h in
    let y = both_true (closed need) (amplifies o inner || closed inner) x.0 in
    (y.0, y.1, (passed_test FalseRaise (agrees o need inner) [] x.1).0)

declared_formal : (o f x : ℕ) (need inner : Qual) → failure (declaration_rule o f x need inner) ≡ Ok tt → x < f → failure (formal_rule o need inner) ≡ Ok tt
unfolding declaration_rule
declared_formal o f x need inner h l = rw (lt-ltb x f l) at h

open_fact : (o f x : ℕ) (need inner : Qual) → failure (declaration_rule o f x need inner) ≡ Ok tt → (amplifies o inner || closed inner) ≡ true
unfolding declaration_rule local_rule
open_fact o f x need inner h = go (ltb x f) h
  where
    go : (b : Bool) → failure (cond b (formal_rule o need inner) (local_rule o inner)) ≡ Ok tt → (amplifies o inner || closed inner) ≡ true
    go true z = (formal_fact o need inner z).1
    go false z = (passed_test OpenExposed (amplifies o inner || closed inner) [] z).0

result_fact : (r : Option Qual) (q : Qual) → closed_result r ≡ true → r ≡ some q → Closed q
unfolding closed_result
result_fact none q h e = let z : ◌≡◌ {A = Bool} false true = cc in absurd (false≢true z)
result_fact (some s) q h e = let z : s ≡ q = cc in rw z at (closed_fact s h)

pub record Facts (g : Program) : Type 0 where
  -- in every frame of the procedure
  pub allowed : (p i : ℕ) → p < g.procedures → i < g.instructions p → (z : Rights) → Good (g.bound p) z → Allowed g p z (g.operation p i)
  pub formal : (p x : ℕ) → p < g.procedures → x < g.variables p → x < g.formals p → Raised (g.owner p) (g.need p x) (g.inner p x)
  -- rule 6: open stands only in an inner type of the owner
  pub variable : (p x : ℕ) → p < g.procedures → x < g.variables p → has open_right (rights (g.inner p x)) ≡ true → amplifies (g.owner p) (g.inner p x) ≡ true
  pub need_closed : (p x : ℕ) → p < g.procedures → x < g.variables p → x < g.formals p → Closed (g.need p x)
  pub result_closed : (p : ℕ) (q : Qual) → p < g.procedures → g.result p ≡ some q → Closed q
  pub element_closed : (j : ℕ) → j < g.quals → Closed (element (g.qual j))
  pub slot_closed : (t k : ℕ) → t < g.types → k < g.slots (2 + t) → Closed (g.slot (2 + t) k)

split : (xs ys : List Tests) → verdict (xs ++ ys) ≡ Accepted → (verdict xs ≡ Accepted) × (verdict ys ≡ Accepted)
split xs ys h =
    let z = sym (verdict_append xs ys) ∙ h in
    (accepted_left (verdict xs) (verdict ys) z, accepted_right (verdict xs) (verdict ys) z)

at_each : (f : ℕ → List Tests) (n : ℕ) → verdict (span f 0 n) ≡ Accepted → (k : ℕ) → k < n → verdict (f k) ≡ Accepted
at_each f n h k l = rw zero-add at (accepted_span f n 0 h k l)

one_test : (at : ℕ) (b : Bool) → verdict (tests at (test OpenExposed b ∷ []) ∷ []) ≡ Accepted → b ≡ true
one_test at b h = (passed_test OpenExposed b [] (accepted_tests at _ h)).0

pub facts : (at : Record → ℕ) (g : Program) → Formed g → verdict (access_rules at g) ≡ Accepted → Facts g
unfolding access_rules procedure_rules head_rules instruction_rules variable_rules variable_rule qual_rules type_rules closed_rule
facts at g f h =
    record {
      allowed = λ p i hp hi z good.
          rule_fact g f p i hp z good (g.operation p i) (f.operations p i hp hi) (accepted_tests (at (instruction_record p i)) _ (at_each (instruction_rules at g p) (g.instructions p) (body p hp).1 i hi));
      formal = λ p x hp hx hf. agrees_fact (g.owner p) (g.need p x) (g.inner p x) (formal_part p x hp hx hf).2;
      variable = λ p x hp hx.
          inner_fact (g.owner p) (g.inner p x) (open_fact (g.owner p) (g.formals p) x (g.need p x) (g.inner p x) (declaration p x hp hx));
      need_closed = λ p x hp hx hf. closed_fact (g.need p x) (formal_part p x hp hx hf).0;
      result_closed = λ p q hp e. result_fact (g.result p) q (one_test (at (procedure_record p)) _ (parts p hp).0) e;
      element_closed = λ j hj. closed_fact (element (g.qual j)) (one_test (at (qual_record j)) _ (at_each (qual_rules at g) g.quals rest.0 j hj));
      slot_closed = λ t k ht hk.
          let z : failure (closed_rule (g.slot (2 + t) k)) ≡ Ok tt = rw zero-add at (passed_span (λ (k : ℕ). closed_rule (g.slot (2 + t) k)) (g.slots (2 + t)) 0 (slots t ht) k hk) in
          closed_fact (g.slot (2 + t) k) (passed_test OpenExposed (closed (g.slot (2 + t) k)) [] z).0;
    }
  where
    whole :
        (verdict (span (type_rules at g) 0 g.types) ≡ Accepted) ×
        (verdict (span (qual_rules at g) 0 g.quals ++ span (procedure_rules at g) 0 g.procedures) ≡ Accepted)
    whole = split (span (type_rules at g) 0 g.types) _ h

    rest : (verdict (span (qual_rules at g) 0 g.quals) ≡ Accepted) × (verdict (span (procedure_rules at g) 0 g.procedures) ≡ Accepted)
    rest = split (span (qual_rules at g) 0 g.quals) _ whole.1

    slots : (t : ℕ) → t < g.types → failure (span (λ (k : ℕ). closed_rule (g.slot (2 + t) k)) 0 (g.slots (2 + t))) ≡ Ok tt
    slots t ht = accepted_tests (at (type_record (2 + t))) _ (at_each (type_rules at g) g.types whole.0 t ht)

    parts :
        (p : ℕ) → p < g.procedures →
        (verdict (head_rules at g p) ≡ Accepted) ×
        (verdict (span (variable_rules at g p) 0 (g.variables p) ++ span (instruction_rules at g p) 0 (g.instructions p)) ≡ Accepted)
    parts p hp = split (head_rules at g p) _ (at_each (procedure_rules at g) g.procedures rest.1 p hp)

    body :
        (p : ℕ) → p < g.procedures →
        (verdict (span (variable_rules at g p) 0 (g.variables p)) ≡ Accepted) × (verdict (span (instruction_rules at g p) 0 (g.instructions p)) ≡ Accepted)
    body p hp = split (span (variable_rules at g p) 0 (g.variables p)) _ (parts p hp).1

    declaration : (p x : ℕ) → p < g.procedures → x < g.variables p → failure (declaration_rule (g.owner p) (g.formals p) x (g.need p x) (g.inner p x)) ≡ Ok tt
    declaration p x hp hx = accepted_tests (at (variable_record p x)) _ (at_each (variable_rules at g p) (g.variables p) (body p hp).0 x hx)

    formal_part :
        (p x : ℕ) → p < g.procedures → x < g.variables p → x < g.formals p →
        (closed (g.need p x) ≡ true) × ((amplifies (g.owner p) (g.inner p x) || closed (g.inner p x)) ≡ true) ×
        (agrees (g.owner p) (g.need p x) (g.inner p x) ≡ true)
    formal_part p x hp hx hf =
        formal_fact (g.owner p) (g.need p x) (g.inner p x)
        (declared_formal (g.owner p) (g.formals p) x (g.need p x) (g.inner p x) (declaration p x hp hx) hf)
