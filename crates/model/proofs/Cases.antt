-- One lemma for each of the seventeen operations: under its rule, both machines plan the same effect, on related views.
-- Each proof repeats the plan line by line.
use Prim.Native.Nat.{ℕ, zero, suc, ◌+◌, ◌<◌}
use mathlib.Core.Path.{◌≡◌, refl, sym, ap, subst}
use mathlib.Core.Bool.{true, false≢true}
use mathlib.Core.List.{List}
use mathlib.Core.Option.{Option, none, some}
use native.Mathlib.Omega.{arith}
use native.Mathlib.Nat.{add-zero, zero-add}
use lib.Dec.{ltb}
use lib.ListN.{length}
use borrow.Author.Tests.{lt-ltb}
use Rattle.model.specs.Rights.{Rights, fetch_right, store_right, size_right, open_right}
use Rattle.model.specs.Qualified.{Qual, rights, element, is_integer, integer, array, declared, generic, alike, elements}
use Rattle.model.specs.Program.{Program}
use Rattle.model.specs.Generic.{read, read_result}
use Rattle.model.specs.Rules.{keeps, optional}
use Rattle.model.specs.declared.Operation.{Operation}
use Rattle.model.specs.declared.Operation.TheVariants.{Set, Add, Subtract, Less, JumpZero, Bind, Take, Put, NewArray, Fetch, Store, Size, NewRecord, GetSlot, SetSlot, Call, Return}
use Rattle.model.proofs.Rights.{within_refl}
use Rattle.model.specs.Outcome.{past_end, input_ended, output_full, memory_full, Res, ◌>>=◌}
use Rattle.model.specs.Modes.{plain, watched, fits, array_kind, record_kind}
use Rattle.model.specs.Machine.{Value, word, object, Cell, filled, Head, kind_at, View, Effect, write, take, put, jump, skip, new_array, new_record, store, call, resume, finish, as_integer, moved, give, integers, one_integer, plan_array, plan_record, plan_fetch, plan_store, plan_size, plan_get, plan_set, settle_call, actual, actuals, plan_call, handed, into_caller, to_caller, plan_return, gives, branch, plan, returns_well}
use Rattle.model.proofs.Formed.{Formed, FormedAt}
use Rattle.model.proofs.Order.{same_sound, elements_order}
use Rattle.model.proofs.Read.{Good, Moves, order_moves}
use Rattle.model.proofs.Allowed.{Facts, Raised, Kept, Returned, in_set, typed_in, set_by, Allowed}
use Rattle.model.proofs.Fits.{not_object, new_array_fits, new_record_fits}
use Rattle.model.proofs.Relate.{Fit, fit, Granted, granted, CellRel, values, Row, row_nil, row_cons, row_same, ArrayMade, RecordMade, plain_place}
use Rattle.model.proofs.Table.{Seen, Target, in_array, in_record}
use Rattle.model.proofs.Agree.{Agree, both, halt, fit_move, bind_ok, element_ok, result_ok, raise_ok, raise_fit, with_rel, with_held, with_integer, with_test, with_found, with_demand, with_settled, with_licence, with_slot, with_array, with_record}

-- what the proof uses of a program
pub record Sound (g : Program) : Type 0 where
  pub formed : Formed g
  pub facts : Facts g

-- ---- What the two plans come to

-- the variable that a return hands a value to: one of the procedure that waits
abbrev pub Handed : (g : Program) (h : ℕ → Head watched) → Option (ℕ × ℕ × Rights) → Option (ℕ × Cell watched) → Option (ℕ × Cell plain) → Type 0
Handed g h none w w' = ⊥
Handed g h (some place) none none = Unit {0}
Handed g h (some place) (some w) (some w') = (w.0 ≡ w'.0) × CellRel h (typed_in g place.0 place.2 w.0) w.1 w'.1
Handed g h (some place) none (some w') = ⊥
Handed g h (some place) (some w) none = ⊥

-- effects of instruction i of procedure p in a frame with set z, for which a frame at `caller` waits
pub data EffectRel (g : Program) (h : ℕ → Head watched) (p : ℕ) (z : Rights) (i : ℕ) (caller : Option (ℕ × ℕ × Rights)) : Effect watched → Effect plain → Type 0 where
  writes : {a : ℕ} {c : Cell watched} {c' : Cell plain} → suc i < g.instructions p → CellRel h (typed_in g p z a) c c' → EffectRel g h p z i caller (write a c) (write a c')
  takes : {a : ℕ} {c : Cell watched} {c' : Cell plain} → suc i < g.instructions p → CellRel h (typed_in g p z a) c c' → EffectRel g h p z i caller (take a c) (take a c')
  puts : {n : ℕ} → suc i < g.instructions p → EffectRel g h p z i caller (put n) (put n)
  jumps : {k : ℕ} → k < g.instructions p → EffectRel g h p z i caller (jump k) (jump k)
  skips : suc i < g.instructions p → EffectRel g h p z i caller skip skip
  new_arrays :
      {a n : ℕ} {e : Qual} {r : Rights} {r' : Unit {0}} → suc i < g.instructions p → ArrayMade g e → fits (typed_in g p z a) (array_kind e) ≡ true → Granted (typed_in g p z a) r r' →
      EffectRel g h p z i caller (new_array a e n r) (new_array a tt n r')
  new_records :
      {a t : ℕ} {r : Rights} {r' : Unit {0}} → suc i < g.instructions p → RecordMade g t → fits (typed_in g p z a) (record_kind t) ≡ true → Granted (typed_in g p z a) r r' →
      EffectRel g h p z i caller (new_record a t (g.slots t) r) (new_record a tt (g.slots t) r')
  stores : {a j : ℕ} {c : Cell watched} {c' : Cell plain} → suc i < g.instructions p → Target g h (h a) j c c' → EffectRel g h p z i caller (store a j c) (store a j c')
  calls :
      {a b k : ℕ} {y : Rights} {cs : List (Cell watched)} {cs' : List (Cell plain)} → suc i < g.instructions p → k < g.procedures → g.operation p i ≡ Call a b k →
      Good (g.bound k) y → Kept (typed_in g p z) (optional a) (read_result (in_set g k y) (g.result k)) →
      length cs ≡ g.formals k → Row h (typed_in g k y) cs cs' → EffectRel g h p z i caller (call k y cs) (call k tt cs')
  resumes : {w : Option (ℕ × Cell watched)} {w' : Option (ℕ × Cell plain)} → Handed g h caller w w' → EffectRel g h p z i caller (resume w) (resume w')
  overs : EffectRel g h p z i caller finish finish

-- the frame that waits stands behind a call of the running procedure, whose frame has set y
pub data Caller (g : Program) (k : ℕ) (y : Rights) : Option (ℕ × ℕ × Rights) → Type 0 where
  no_caller : Caller g k y none
  a_caller :
      {p i a b : ℕ} {z : Rights} → g.operation p i ≡ Call a b k → Kept (typed_in g p z) (optional a) (read_result (in_set g k y) (g.result k)) →
      Caller g k y (some (p, suc i, z))

-- what a return hands over, against the result of its procedure
data ResultRel (h : ℕ → Head watched) : Option Qual → Option (Cell watched) → Option (Cell plain) → Type 0 where
  no_value : ResultRel h none none none
  a_value : {q : Qual} {c : Cell watched} {c' : Cell plain} → CellRel h q c c' → ResultRel h (some q) (some c) (some c')

module _ {A B : Type 0} {Q : A → B → Type 0} where
  -- results that are equal
  with_same : {C : Type 0} {r r' : Res C} {f : C → Res A} {f' : C → Res B} → Agree (λ (x y : C). x ≡ y) r r' → ((x : C) → Agree Q (f x) (f' x)) → Agree Q (r >>= f) (r' >>= f')
  unfolding ◌>>=◌
  with_same {f} {f'} (both {a} e) k = subst (λ x. Agree Q (f a) (f' x)) e (k a)
  with_same (halt c) k = halt c

fits_of : {h : ℕ → Head watched} {q : Qual} {x : Value} → Fit h q x → fits q (kind_at h x) ≡ true
fits_of (fit f) = f

-- a computed integer
integer_moves : (q : Qual) → is_integer q ≡ true → Moves integer q
unfolding is_integer alike
integer_moves integer e = record { kinds = refl; licensed = within_refl (rights integer) }
integer_moves (array r d) e = absurd (false≢true e)
integer_moves (declared t r) e = absurd (false≢true e)
integer_moves (generic t l) e = absurd (false≢true e)

word_rel : (h : ℕ → Head watched) (n : ℕ) → CellRel h integer (filled (word n) 0) (filled (word n) tt)
unfolding fits is_integer rights
word_rel h n = values (fit refl) granted

-- a value goes from where s is declared to where q is declared
module _ (g : Program) (v : View watched) (v' : View plain) where
  moved_ok :
      {s q : Qual} (q' : Qual) {c : Cell watched} {c' : Cell plain} → CellRel v.head s c c' → Moves s q →
      Agree (CellRel v.head q) (moved watched g v q c) (moved plain g v' q' c')
  unfolding moved
  moved_ok {q} q' rel m = with_held _ _ rel λ x w. with_rel (bind_ok q q' _ _ _ (fits_of (fit_move w m)) m.licensed) λ r r' t. both (values (fit_move w m) t)

  number_ok : {q : Qual} (q' : Qual) (n : ℕ) → is_integer q ≡ true → Agree (CellRel v.head q) (moved watched g v q (filled (word n) 0)) (moved plain g v' q' (filled (word n) tt))
  number_ok {q} q' n e = moved_ok q' (word_rel v.head n) (integer_moves q e)

-- the views: the parts that both machines share, and the parts that are related
module _
    (g : Program) (p : ℕ) (z : Rights) (i : ℕ) (caller : Option (ℕ × ℕ × Rights)) (f : ℕ → Cell watched) (f' : ℕ → Cell plain) (h : ℕ → Head watched) (h' : ℕ → Head plain)
    (k : ℕ → ℕ → Cell watched) (k' : ℕ → ℕ → Cell plain) (room free : ℕ) (next : Option ℕ) where
  abbrev pub view_of : View watched
  view_of = record { procedure = p; set_held = z; caller = caller; variable = f; head = h; cell = k; room = room; free = free; next_input = next }

  abbrev pub view_of' : View plain
  view_of' = record { procedure = p; set_held = tt; caller = plain_place caller; variable = f'; head = h'; cell = k'; room = room; free = free; next_input = next }

  abbrev pub Planned : Operation → Type 0
  Planned op = Agree (EffectRel g h p z i caller) (plan watched g view_of op) (plan plain g view_of' op)

  module _ (vars : (x : ℕ) → CellRel h (typed_in g p z x) (f x) (f' x)) (objects : (a : ℕ) → Seen g h (h a) (h' a) (k a) (k' a)) where
    integers_ok :
        (b c : ℕ) → is_integer (typed_in g p z b) ≡ true → is_integer (typed_in g p z c) ≡ true →
        Agree (λ (x y : ℕ × ℕ). x ≡ y) (integers watched g view_of b c) (integers plain g view_of' b c)
    unfolding integers
    integers_ok b c hb hc =
        with_held _ _ (vars b) λ x wx.
        with_held _ _ (vars c) λ y wy.
        with_integer wx hb λ m.
        with_integer wy hc λ n.
        both refl

    one_ok : (a : ℕ) → is_integer (typed_in g p z a) ≡ true → Agree (λ (x y : ℕ). x ≡ y) (one_integer watched g view_of a) (one_integer plain g view_of' a)
    unfolding one_integer as_integer
    one_ok a ha = with_held _ _ (vars a) λ x wx. number x wx
      where
        number : (x : Value) → Fit h (typed_in g p z a) x → Agree (λ (x y : ℕ). x ≡ y) (as_integer watched x) (as_integer plain x)
        number (word n) w = both refl
        number (object b) (fit w) = absurd (not_object (typed_in g p z a) (h b) ha w)

    gives_ok : suc i < g.instructions p → (a n : ℕ) → is_integer (typed_in g p z a) ≡ true → Agree (EffectRel g h p z i caller) (gives watched g view_of a n) (gives plain g view_of' a n)
    unfolding gives give
    gives_ok l a n ha = with_rel (number_ok g view_of view_of' _ n ha) λ d d' r. both (writes l r)

    set_ok : (a n : ℕ) → suc i < g.instructions p → Allowed g p z (Set a n) → Planned (Set a n)
    unfolding plan
    set_ok a n l r = gives_ok l a n r

    add_ok : (a b c : ℕ) → suc i < g.instructions p → Allowed g p z (Add a b c) → Planned (Add a b c)
    unfolding plan
    add_ok a b c l r = with_same (integers_ok b c r.1 r.2) λ n. gives_ok l a _ r.0

    subtract_ok : (a b c : ℕ) → suc i < g.instructions p → Allowed g p z (Subtract a b c) → Planned (Subtract a b c)
    unfolding plan
    subtract_ok a b c l r = with_same (integers_ok b c r.1 r.2) λ n. gives_ok l a _ r.0

    less_ok : (a b c : ℕ) → suc i < g.instructions p → Allowed g p z (Less a b c) → Planned (Less a b c)
    unfolding plan
    less_ok a b c l r = with_same (integers_ok b c r.1 r.2) λ n. gives_ok l a _ r.0

    branch_ok : (n to : ℕ) → to < g.instructions p → suc i < g.instructions p → EffectRel g h p z i caller (branch watched g view_of n to) (branch plain g view_of' n to)
    unfolding branch
    branch_ok zero to lt l = jumps lt
    branch_ok (suc n) to lt l = skips l

    jump_ok : (a to : ℕ) → to < g.instructions p → suc i < g.instructions p → Allowed g p z (JumpZero a to) → Planned (JumpZero a to)
    unfolding plan
    jump_ok a to lt l r = with_same (one_ok a r) λ n. both (branch_ok n to lt l)

    binding_ok : (a b : ℕ) → suc i < g.instructions p → Allowed g p z (Bind a b) → Planned (Bind a b)
    unfolding plan
    binding_ok a b l r = with_rel (moved_ok g view_of view_of' _ (vars b) r) λ d d' w. both (writes l w)

    take_ok : (a : ℕ) → suc i < g.instructions p → Allowed g p z (Take a) → Planned (Take a)
    unfolding plan give
    take_ok a l r = with_found input_ended tt next λ n. with_rel (number_ok g view_of view_of' _ n r) λ d d' w. both (takes l w)

    put_ok : (a : ℕ) → suc i < g.instructions p → Allowed g p z (Put a) → Planned (Put a)
    unfolding plan
    put_ok a l r = with_same (one_ok a r) λ n. with_test output_full tt _ λ u. both (puts l)

    new_array_ok : (a b : ℕ) → suc i < g.instructions p → ArrayMade g (element (typed_in g p z a)) → Allowed g p z (NewArray a b) → Planned (NewArray a b)
    unfolding plan plan_array
    new_array_ok a b l m r =
        with_same (one_ok b r.0) λ n.
        with_demand _ _ r.1
        (with_test memory_full tt _ λ u.
        let w = new_array_fits (typed_in g p z a) r.1 in
        with_rel (bind_ok (typed_in g p z a) _ _ _ _ w r.2) λ c c' t.
        both (new_arrays l m w t))

    new_record_ok : (a : ℕ) → suc i < g.instructions p → RecordMade g (g.owner p) → Allowed g p z (NewRecord a) → Planned (NewRecord a)
    unfolding plan plan_record
    new_record_ok a l m r =
        with_test memory_full tt _ λ u.
        let w = new_record_fits (g.owner p) (typed_in g p z a) r.0 in
        with_rel (bind_ok (typed_in g p z a) _ _ _ _ w r.1) λ c c' t.
        both (new_records l m w t)

    fetch_ok : (a b c : ℕ) → suc i < g.instructions p → Allowed g p z (Fetch a b c) → Planned (Fetch a b c)
    unfolding plan plan_fetch
    fetch_ok a b c l r =
        with_held _ _ (vars b) λ x wx.
        with_held _ _ (vars c) λ y wy.
        with_array g view_of view_of' _ _ objects wx r.0 λ o e n at above cells.
        with_integer wy r.1 λ j.
        with_licence fetch_right _ r.2
        (with_test past_end tt _ λ t.
        with_rel (moved_ok g view_of view_of' _ (cells j) (order_moves e _ (elements_order _ e _ above))) λ x x' s.
        with_rel (moved_ok g view_of view_of' _ s r.3) λ d d' w.
        both (writes l w))

    -- who has store holds no widened array: its elements are those that the variable declares
    store_ok : (a b c : ℕ) → suc i < g.instructions p → Allowed g p z (Store a b c) → Planned (Store a b c)
    unfolding plan plan_store elements
    store_ok a b c l r =
        with_held _ _ (vars a) λ x wx.
        with_held _ _ (vars b) λ y wy.
        with_array g view_of view_of' _ _ objects wx r.0 λ o e n at above cells.
        with_integer wy r.1 λ j.
        with_licence store_right _ r.2
        (with_test past_end tt _ λ t.
        with_held _ _ (vars c) λ v wv.
        let eq : e ≡ element (typed_in g p z a) = same_sound e _ (rw r.2 at above) in
        let m = subst (λ (q : Qual). Moves (typed_in g p z c) q) (sym eq) r.3 in
        with_rel (element_ok e _ _ _ (fits_of (fit_move wv m)) m.licensed) λ d d' w.
        both (stores l (subst (λ (x : Head watched). Target g h x j (filled v d) (filled v d')) (sym at) (in_array (values (fit_move wv m) w)))))

    size_ok : (a b : ℕ) → suc i < g.instructions p → Allowed g p z (Size a b) → Planned (Size a b)
    unfolding plan plan_size give
    size_ok a b l r =
        with_held _ _ (vars b) λ x wx.
        with_array g view_of view_of' _ _ objects wx r.0 λ o e n at above cells.
        with_licence size_right _ r.1
        (with_rel (number_ok g view_of view_of' _ n r.2) λ d d' w.
        both (writes l w))

    slot_in : (n j : ℕ) → n ≡ g.slots (g.owner p) → j < g.slots (g.owner p) → ltb j n ≡ true
    slot_in n j e l = lt-ltb j n (omega arith)

    get_ok : (a b j : ℕ) → j < g.slots (g.owner p) → suc i < g.instructions p → Allowed g p z (GetSlot a b j) → Planned (GetSlot a b j)
    unfolding plan plan_get
    get_ok a b j lj l r =
        with_held _ _ (vars b) λ x wx.
        with_record g view_of view_of' (g.owner p) _ _ objects wx r.0 λ o n at e cells.
        with_licence open_right _ r.1
        (with_slot g view_of view_of' (slot_in n j e lj)
        (with_rel (moved_ok g view_of view_of' _ (cells j) r.2) λ d d' w.
        both (writes l w)))

    set_slot_ok : (a b j : ℕ) → j < g.slots (g.owner p) → suc i < g.instructions p → Allowed g p z (SetSlot a b j) → Planned (SetSlot a b j)
    unfolding plan plan_set
    set_slot_ok a b j lj l r =
        with_held _ _ (vars a) λ x wx.
        with_record g view_of view_of' (g.owner p) _ _ objects wx r.0 λ o n at e cells.
        with_licence open_right _ r.1
        (with_slot g view_of view_of' (slot_in n j e lj)
        (with_rel (rw r.3 (moved_ok g view_of view_of' _ (vars b) r.2)) λ d d' w.
        both (stores l (subst (λ (x : Head watched). Target g h x j d d') (sym at) (in_record w)))))

    -- an actual, in a frame with set y of the procedure called: to need, then raised or bound to inner
    actual_ok :
        (to b : ℕ) (y : Rights) (j : ℕ) → Moves (typed_in g p z (b + j)) (read (in_set g to y) (g.need to j)) → Raised (g.owner to) (g.need to j) (g.inner to j) →
        Agree (CellRel h (typed_in g to y j)) (actual watched g view_of to b y j) (actual plain g view_of' to b tt j)
    unfolding actual
    actual_ok to b y j m a =
        with_rel (moved_ok g view_of view_of' _ (vars (b + j)) m) λ c c' wc.
        with_held _ _ wc λ x wx.
        with_rel (raise_ok (in_set g to y) _ _ _ a (fits_of wx)) λ r r' t.
        both (values (raise_fit (in_set g to y) a wx) t)

    actuals_ok :
        (to b : ℕ) (y : Rights) (j n : ℕ) → ((x : ℕ) → x < j + n → Moves (typed_in g p z (b + x)) (read (in_set g to y) (g.need to x))) →
        ((x : ℕ) → x < j + n → Raised (g.owner to) (g.need to x) (g.inner to x)) →
        Agree (λ cs cs'. (length cs ≡ n) × Row h (λ x. typed_in g to y (j + x)) cs cs') (actuals watched g view_of to b y j n) (actuals plain g view_of' to b tt j n)
    unfolding actuals
    actuals_ok to b y j zero m a = both (refl, row_nil)
    actuals_ok to b y j (suc n) m a =
        with_rel (actual_ok to b y j (m j (omega arith)) (a j (omega arith))) λ c c' w.
        with_rel (actuals_ok to b y (suc j) n (λ x l. m x (omega arith)) (λ x l. a x (omega arith))) λ cs cs' ws.
        both (ap suc ws.0, row_cons (rw (add-zero j) w) (row_same ws.1 (λ x. ap (typed_in g to y) (omega arith))))

    keeps_ok : (ρ : Qual) (a : Option ℕ) (r : Option Qual) → Kept (typed_in g p z) a (read_result ρ r) → keeps a r ≡ true
    unfolding keeps read_result
    keeps_ok ρ none none m = refl
    keeps_ok ρ none (some r) m = refl
    keeps_ok ρ (some a) none m = absurd m
    keeps_ok ρ (some a) (some r) m = refl

    call_ok : (a b to : ℕ) → Sound g → to < g.procedures → suc i < g.instructions p → g.operation p i ≡ Call a b to → Allowed g p z (Call a b to) → Planned (Call a b to)
    unfolding plan plan_call settle_call
    call_ok a b to s lt l e r =
        let y = set_by g (typed_in g p z) b to in
        with_demand _ _ (keeps_ok (in_set g to y) (optional a) (g.result to) r.kept)
        (with_settled (g.bound to) _ _ _ _ _ _ r.settles r.enough
        (with_test memory_full tt _ λ u.
        with_rel (actuals_ok to b y 0 (g.formals to) (λ x lx. r.actuals x (omega arith)) raised) λ cs cs' ws.
        both (calls l lt e r.good r.kept ws.0 (row_same ws.1 (λ x. ap (typed_in g to y) (zero-add x))))))
      where
        raised : (x : ℕ) → x < 0 + g.formals to → Raised (g.owner to) (g.need to x) (g.inner to x)
        raised x lx = let n = s.formed.formals to lt in s.facts.formal to x lt (omega arith) (omega arith)

    returns_ok : (ρ : Qual) (a : Option ℕ) (r : Option Qual) → Returned (typed_in g p z) a (read_result ρ r) → returns_well a r ≡ true
    unfolding read_result
    returns_ok ρ none none m = refl
    returns_ok ρ (some a) (some r) m = refl
    returns_ok ρ none (some r) m = absurd m
    returns_ok ρ (some a) none m = absurd m

    handed_ok :
        (a : Option ℕ) (r : Option Qual) → read_result (in_set g p z) (g.result p) ≡ r → Returned (typed_in g p z) a r →
        Agree (ResultRel h r) (handed watched g view_of a) (handed plain g view_of' a)
    unfolding handed
    handed_ok none none e m = both no_value
    handed_ok (some a) (some q) e m =
        rw e
        (with_held _ _ (vars a) λ x wx.
        with_rel (result_ok q _ _ _ _ (fits_of (fit_move wx m)) m.licensed) λ r r' t.
        both (a_value (values (fit_move wx m) t)))
    handed_ok none (some q) e m = absurd m
    handed_ok (some a) none e m = absurd m

    into_ok :
        (q j : ℕ) (x : Rights) (a : Option ℕ) {r : Option Qual} {c : Option (Cell watched)} {c' : Option (Cell plain)} → Kept (typed_in g q x) a r → ResultRel h r c c' →
        Agree (EffectRel g h p z i (some (q, j, x))) (into_caller watched g view_of q x a c) (into_caller plain g view_of' q tt a c')
    unfolding into_caller
    into_ok q j x none m no_value = both (resumes tt)
    into_ok q j x none m (a_value w) = both (resumes tt)
    into_ok q j x (some a) m no_value = absurd m
    into_ok q j x (some a) m (a_value w) = with_rel (moved_ok g view_of view_of' _ w m) λ d d' wd. both (resumes (refl, wd))

    to_ok :
        {place : Option (ℕ × ℕ × Rights)} {c : Option (Cell watched)} {c' : Option (Cell plain)} → Caller g p z place → ResultRel h (read_result (in_set g p z) (g.result p)) c c' →
        Agree (EffectRel g h p z i place) (to_caller watched g view_of place c) (to_caller plain g view_of' (plain_place place) c')
    unfolding to_caller
    to_ok no_caller w = both overs
    to_ok (a_caller {p = q} {i = j} {a} {z = x} e m) w = rw e (into_ok q (suc j) x (optional a) m w)

    return_ok : (a : ℕ) → Caller g p z caller → Allowed g p z (Return a) → Planned (Return a)
    unfolding plan plan_return
    return_ok a at r =
        with_demand _ _ (returns_ok (in_set g p z) (optional a) (g.result p) r)
        (with_rel (handed_ok (optional a) (read_result (in_set g p z) (g.result p)) refl r) λ c c' w.
        to_ok at w)

    -- ---- Any operation

    pub plan_ok :
        Sound g → Caller g p z caller → Good (g.bound p) z → p < g.procedures → i < g.instructions p →
        (op : Operation) → g.operation p i ≡ op → FormedAt g p i op → Allowed g p z op → Planned op
    plan_ok s at good lp li (Set a n) e l r = set_ok a n l r
    plan_ok s at good lp li (Add a b c) e l r = add_ok a b c l r
    plan_ok s at good lp li (Subtract a b c) e l r = subtract_ok a b c l r
    plan_ok s at good lp li (Less a b c) e l r = less_ok a b c l r
    plan_ok s at good lp li (JumpZero a to) e l r = jump_ok a to l.0 l.1 r
    plan_ok s at good lp li (Bind a b) e l r = binding_ok a b l r
    plan_ok s at good lp li (Take a) e l r = take_ok a l r
    plan_ok s at good lp li (Put a) e l r = put_ok a l r
    plan_ok s at good lp li (NewArray a b) e l r =
        new_array_ok a b l (record { p = p; i = i; a = a; b = b; procedure = lp; instruction = li; operation = e; set = z; good = good; element_is = refl }) r
    plan_ok s at good lp li (Fetch a b c) e l r = fetch_ok a b c l r
    plan_ok s at good lp li (Store a b c) e l r = store_ok a b c l r
    plan_ok s at good lp li (Size a b) e l r = size_ok a b l r
    plan_ok s at good lp li (NewRecord a) e l r =
        new_record_ok a l.1 (record { p = p; i = i; a = a; procedure = lp; instruction = li; operation = e; owner_is = refl }) r
    plan_ok s at good lp li (GetSlot a b j) e l r = get_ok a b j l.1 l.2 r
    plan_ok s at good lp li (SetSlot a b j) e l r = set_slot_ok a b j l.1 l.2 r
    plan_ok s at good lp li (Call a b to) e l r = call_ok a b to s l.0 l.1 e r
    plan_ok s at good lp li (Return a) e l r = return_ok a at r
