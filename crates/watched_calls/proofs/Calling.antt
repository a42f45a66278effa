-- The actuals of a call, bound one after another into the words between objects and frames, and the call itself.
use Prim.Native.Nat.{ℕ, suc, ◌+◌, ◌-◌, ◌≤◌, ◌<◌}
use native.Mathlib.Omega.{arith}
use native.Mathlib.Numerals.{add-one}
use mathlib.Core.Path.{◌≡◌, refl, sym, ap, subst, ◌∙◌}
use mathlib.Core.Bool.{Bool, true, false, not, ◌&&◌}
use mathlib.Core.List.{List, [], ◌∷◌, ◌++◌, map, append_assoc, append-nil, map-append}
use borrow.Author.Tests.{le-leb, lt-leb}
use lib.Dec.{eqb}
use lib.ListN.{length, take, drop, set, length-set, length-drop}
use lib.Seq.{take-set-le, drop-set-lt, drop-set-add, take-suc-set}
use Rattle.std.specs.Prelude.{Result, Ok, Err}
use Rattle.model.specs.declared.Halt.{Halt}
use Rattle.model.specs.declared.Halt.TheVariants.{MemoryFull, WrongKind, MissingRight}
use Rattle.model.specs.Rights.{Rights}
use Rattle.model.specs.Qualified.{Qual, rights}
use Rattle.model.specs.Generic.{own, settled, some_uses, is_settled, is_enough}
use Rattle.model.specs.Rules.{Callee, found_by, called, optional, keeps}
use Rattle.model.specs.Outcome.{wrong_kind, missing_right, memory_full, Res, ok, stop, stuck, ensure, ◌>>=◌, ◌>>◌}
use Rattle.model.specs.Program.{Program}
use Rattle.model.specs.Modes.{watched, demand, settle_set}
use Rattle.model.specs.Machine as M
use Rattle.model.specs.Machine.{Cell, frame, State, state, View, view, apply, operation_in, declared_as, settle_call, actual, actuals, plan, plan_call}
use Rattle.model.proofs.Settling.{settled_instance}
use Rattle.model.specs.declared.Operation.TheVariants.{Call}
use Rattle.sheet.specs.Layout.{procedure_at, start_at, formals_at, result_at}
use Rattle.sheet.specs.Decode.{operation_at}
use Rattle.sheet.specs.Meaning.{qual_of, program_of, result_in}
use Rattle.index.specs.Types.{named_as}
use Rattle.index.specs.Indexed.{ProcedureWord}
use Rattle.index.specs.Scope.{bound_of_procedure, ScopeOf, inner_as}
use Rattle.index.specs.declared.procedures.Scope.{Scope}
use Rattle.index.proofs.Reading.{inner_read, need_read, result_read}
use Rattle.settling.specs.Settles.{callee_as, Settling, halt_of}
use Rattle.settling.specs.declared.SettleError.{SettleError}
use Rattle.settling.specs.declared.SettleError.TheVariants as Why
use Rattle.words.specs.Word.{cell, slot_in, as_cell, formals_of, variables_of}
use Rattle.words.specs.Sees.{Sees}
use Rattle.words.specs.Answers.{halted, IsCell}
use Rattle.binding.specs.Binds.{FrameScope, InScope, moved_cell}
use Rattle.writers.specs.declared.Registers.{Registers}
use Rattle.writers.specs.declared.Next.TheVariants.{Enter}
use Rattle.writers.specs.Steps.{Stepped}
use Rattle.writers.specs.Memory.{Given, kept_byte, variables_in, object_part, frame_part, StandsFor, SeesIn}
use Rattle.writers.proofs.Effects.{halted_then, does_stop, stopped_after, gap_kept, gap_stands}
use Rattle.writers.proofs.View.{room_is}
use Rattle.frames.specs.Performs.{Performs}
use Rattle.frames.specs.Fetch.{place_in}
use Rattle.frames.specs.Frames.{Callable, Opened}
use Rattle.frames.proofs.Kept.{kept_here}
use Rattle.frames.proofs.Performs.{sees}
use Rattle.frames.proofs.Returning.{planned_as}
use Rattle.watched_calls.specs.Calls.{StopsBy, ScopeHere, cells_at, before, Bound, Binds, entering, Enters}
use Rattle.watched_calls.proofs.Laws.{in_scope, stopped_as, performs_exactly}

-- ---- one actual after another

before_none : (r : Res (List (Cell watched))) → r ≡ before [] r
unfolding before ◌>>=◌
before_none (ok cs) = refl
before_none (stop x) = refl
before_none stuck = refl

before_one : (cs : List (Cell watched)) (d : Cell watched) (r : Res (List (Cell watched)))
    → before cs (r >>= λ ds. ok (d ∷ ds)) ≡ before (cs ++ (d ∷ [])) r
unfolding before ◌>>=◌
before_one cs d (ok ds) = ap (λ (l : List (Cell watched)). ok l) (sym (append_assoc cs (d ∷ []) ds))
before_one cs d (stop x) = refl
before_one cs d stuck = refl

pub bound_none : (s words : List ℕ) (r : Registers) (k b : ℕ) (z : Rights) (at n : ℕ) → Bound s words words r k b z at 0 n
bound_none s words r k b z at n =
    let e : 0 + n ≡ n = omega arith in
    record {
      gap = record { long = refl; objects = refl; frames = refl };
      cells = refl;
      planned = λ v S. rw e (before_none (actuals watched (program_of s) v k b z 0 n));
    }

module _ {s words words' : List ℕ} {r : Registers} {k b : ℕ} {z : Rights} {at j n : ℕ} (B : Bound s words words' r k b z at j n) where
  sees_still : (v : View watched) → SeesIn watched (qual_of s) v words r → SeesIn watched (qual_of s) v words' r
  sees_still v S =
      subst (λ (h : List ℕ). Sees watched (qual_of s) v (frame_part r words') h) (sym B.gap.objects)
      (subst (λ (d : List ℕ). Sees watched (qual_of s) v (take (variables_in r) d) (object_part r words)) (sym B.gap.frames) S)

  module _ (m : Result ℕ Halt) (n' : ℕ) (left : n ≡ suc n')
      (is : (v : View watched) → SeesIn watched (qual_of s) v words' r → moved_cell (qual_of s) m ≡ actual watched (program_of s) v k b z j) where
    -- the next one
    next_planned : (v : View watched) → SeesIn watched (qual_of s) v words r
        → actuals watched (program_of s) v k b z 0 (j + suc n')
        ≡ before (cells_at s words' at j) (moved_cell (qual_of s) m >>= λ c. (actuals watched (program_of s) v k b z (suc j) n' >>= λ ds. ok (c ∷ ds)))
    unfolding actuals
    next_planned v S =
        let p : actuals watched (program_of s) v k b z 0 (j + suc n') ≡ before (cells_at s words' at j) (actuals watched (program_of s) v k b z j (suc n')) =
        rw left at (B.planned v S) in
        p ∙ rw (is v (sees_still v S))

    pub bound_stop : {x : Halt} → m ≡ Err x → (v : View watched) → SeesIn watched (qual_of s) v words r → actuals watched (program_of s) v k b z 0 (j + n) ≡ halted watched x
    unfolding moved_cell before
    bound_stop {x} e v S =
        let p : actuals watched (program_of s) v k b z 0 (j + n)
        ≡ before (cells_at s words' at j) (moved_cell (qual_of s) m >>= λ c. (actuals watched (program_of s) v k b z (suc j) n' >>= λ ds. ok (c ∷ ds))) =
        rw left (next_planned v S) in
        p ∙ rw (e, halted_then watched x, halted_then watched x)

    pub bound_more : {w : ℕ} → m ≡ Ok w → IsCell w → r.used ≤ at + j → at + j < r.base → r.base ≤ length words
        → Bound s words (set words' (at + j) w) r k b z at (j + 1) n'
    unfolding moved_cell ◌>>=◌
    bound_more {w} e is_cell low high fits =
        let Q = qual_of s in
        let long = B.gap.long in
        let l : length (drop at words') ≡ length words' - at = length-drop at words' in
        let taken : take (j + 1) (drop at (set words' (at + j) w)) ≡ take j (drop at words') ++ (w ∷ []) =
        ap (take (j + 1)) (drop-set-add at words' j w) ∙ rw add-one (take-suc-set (drop at words') j w (omega arith)) in
        let d = as_cell (slot_in watched Q w) in
        let cells : cells_at s (set words' (at + j) w) at (j + 1) ≡ cells_at s words' at j ++ (d ∷ []) =
        ap (map (λ (x : ℕ). as_cell (slot_in watched Q x))) taken ∙ map-append (λ (x : ℕ). as_cell (slot_in watched Q x)) (take j (drop at words')) (w ∷ []) in
        let many : j + 1 + n' ≡ j + suc n' = omega arith in
        let one : suc j ≡ j + 1 = omega arith in
        record {
          gap =
              record {
                long = length-set words' (at + j) w ∙ B.gap.long;
                objects = take-set-le r.used words' (at + j) w low ∙ B.gap.objects;
                frames = drop-set-lt r.base words' (at + j) w high ∙ B.gap.frames;
              };
          cells =
              ap (map (slot_in watched Q)) taken
              ∙ map-append (slot_in watched Q) (take j (drop at words')) (w ∷ [])
              ∙ rw (B.cells, is_cell watched Q) (sym (ap (map cell) cells ∙ map-append cell (cells_at s words' at j) (d ∷ [])));
          planned =
              λ v S.
              rw (many, cells, ← one)
              (next_planned v S ∙ rw e (before_one (cells_at s words' at j) d (actuals watched (program_of s) v k b z (suc j) n')));
        }

bound_all : {s words words' : List ℕ} {r : Registers} {k b : ℕ} {z : Rights} {at f : ℕ} → Bound s words words' r k b z at f 0
    → (v : View watched) → SeesIn watched (qual_of s) v words r → actuals watched (program_of s) v k b z 0 f ≡ ok (cells_at s words' at f)
unfolding actuals before ◌>>=◌
bound_all {s} {words} {words'} {r} {k} {b} {z} {at} {f} B v S =
    let e : f + 0 ≡ f = omega arith in
    rw e at (B.planned v S) ∙ ap (λ (l : List (Cell watched)). ok l) (append-nil (cells_at s words' at f))

-- ---- the call

-- a result is kept and is not there
keeps_is : (s : List ℕ) (pr a : ℕ) → keeps (optional a) (result_in s pr) ≡ not (not (eqb a 255) && eqb (result_at s pr) 255)
unfolding keeps optional result_in
keeps_is s pr a = go (eqb a 255) (eqb (result_at s pr) 255) refl refl
  where
    go : (x y : Bool) → eqb a 255 ≡ x → eqb (result_at s pr) 255 ≡ y
        → keeps (optional a) (result_in s pr) ≡ not (not (eqb a 255) && eqb (result_at s pr) 255)
    go true y p q = rw p
    go false true p q = rw (p, q)
    go false false p q = rw (p, q)

module _ (g : Program) (v : View watched) (a b k : ℕ) where
  plan_unkept : keeps (optional a) (g.result k) ≡ false → plan watched g v (Call a b k) ≡ stop wrong_kind
  unfolding plan plan_call demand ensure ◌>>◌
  plan_unkept e = rw e

  plan_settled : keeps (optional a) (g.result k) ≡ true → (x : Res Rights) → settle_call watched g v k b ≡ x
      → plan watched g v (Call a b k) ≡ (x >>= λ z. entering g v k b z)
  unfolding plan plan_call entering demand ensure ◌>>◌
  plan_settled e x is = rw (e, is)

-- what ?R is settled to
module _ (g : Program) (v : View watched) (k b : ℕ) where
  abbrev settles_well : Bool
  settles_well = is_settled (g.bound k) (some_uses (called g k).need 0 (g.formals k)) (found_by (declared_as watched g v) (called g k) b)

  abbrev settles_to : Qual
  settles_to = settled (g.bound k) (found_by (declared_as watched g v) (called g k) b)

  unsettled : settles_well ≡ false → settle_call watched g v k b ≡ stop wrong_kind
  unfolding settle_call settle_set ensure ◌>>◌
  unsettled e = rw e

  short : settles_well ≡ true → is_enough (g.bound k) (found_by (declared_as watched g v) (called g k) b) ≡ false
      → settle_call watched g v k b ≡ stop missing_right
  unfolding settle_call settle_set ensure ◌>>◌
  short e d = rw (e, d)

  settles : settles_well ≡ true → is_enough (g.bound k) (found_by (declared_as watched g v) (called g k) b) ≡ true
      → settle_call watched g v k b ≡ ok (rights settles_to)
  unfolding settle_call settle_set ensure ◌>>◌
  settles e d = rw (e, d)

-- ---- a procedure that is entered

module _ (g : Program) (v : View watched) (k b : ℕ) (z : Rights) where
  entering_full : v.room < g.variables k + 2 → entering g v k b z ≡ stop memory_full
  unfolding entering ensure ◌>>◌
  entering_full h = rw (lt-leb (g.variables k + 2) v.room h)

  entering_bound : g.variables k + 2 ≤ v.room → (x : Res (List (Cell watched))) → actuals watched g v k b z 0 (g.formals k) ≡ x
      → entering g v k b z ≡ (x >>= λ cs. ok (M.call k z cs))
  unfolding entering ensure ◌>>◌
  entering_bound h x e = rw (le-leb (g.variables k + 2) v.room h, e)

module _ (s words : List ℕ) (r : Registers) (a b k w : ℕ) (z : Rights) (C : ProcedureWord s k w) (v : ℕ) (many : v ≡ variables_of w) where
  variables_are : (program_of s).variables k ≡ v
  variables_are = sym (many ∙ C.variables)

  pub enter_full : r.base - r.used < v + 2 → Enters s words words r a b k z (Err MemoryFull)
  unfolding ◌>>=◌
  enter_full h c t out same known kept S =
      let n = variables_are in
      let room = room_is watched c words out r t S in
      planned_as c words out s r t (Err MemoryFull) _ (stop memory_full) (entering_full (program_of s) (view (length words) (length out) t) k b z (omega arith))
      (stopped_after watched c words out r t S MemoryFull)

  module _ (room : v + 2 ≤ r.base - r.used) (f : ℕ) (few : f ≡ formals_of w) where
    formals_are : (program_of s).formals k ≡ f
    formals_are = sym (few ∙ C.formals)

    entering_is : (v' : View watched) → r.base - r.used ≡ v'.room → (x : Res (List (Cell watched))) → actuals watched (program_of s) v' k b z 0 f ≡ x
        → entering (program_of s) v' k b z ≡ (x >>= λ cs. ok (M.call k z cs))
    entering_is v' free x e =
        let n = variables_are in
        entering_bound (program_of s) v' k b z (omega arith) x (ap (λ (j : ℕ). actuals watched (program_of s) v' k b z 0 j) formals_are ∙ e)

    pub enter_stops : (words' : List ℕ) (x : Halt) → Binds s words words' r k b z (r.base - (v + 2)) f (Err x) → Enters s words words' r a b k z (Err x)
    enter_stops words' x stops c t out same known kept S =
        let seen = view (length words) (length out) t in
        stopped_as c words' out s r t (gap_stands watched c words words' out r stops.0 t S) x _
        (entering_is seen (room_is watched c words out r t S) (halted watched x) (stops.1 seen (sees watched c s words out r t same S))
        ∙ halted_then watched x (λ cs. ok (M.call k z cs)))

    pub enter_goes : (words' words'' : List ℕ) (q : Registers) (set : ℕ) → Bound s words words' r k b z (r.base - (v + 2)) f 0
        → set ≡ z → Opened watched words' words'' r q a w set v f → Enters s words words'' r a b k z (Ok (Enter q))
    unfolding ◌>>=◌ apply
    enter_goes words' words'' q set B is_set P c (state (frame p i y vs) fs os left put) out same known kept S =
        let t = state (frame p i y vs) fs os left put in
        let seen = view (length words) (length out) t in
        let cs = cells_at s words' (r.base - (v + 2)) f in
        let is : entering (program_of s) seen k b z ≡ ok (M.call k z cs) =
        entering_is seen (room_is watched c words out r t S) (ok cs) (bound_all B seen (sees watched c s words out r t same S)) in
        rw (is, variables_are, formals_are, ← is_set)
        (P c k p i y vs cs fs os left put out (gap_kept S words' B.gap) (rw same kept) (rw same known) (rw same C) many (rw same B.cells))

-- the scope that a call enters has the set that ?R is settled to
entered : (s : List ℕ) (k : ℕ) {c : Scope} (v : View watched) (b : ℕ)
    → c.head ≡ procedure_at s k → c.start ≡ start_at s k → named_as c.name ≡ settles_to (program_of s) v k b
    → FrameScope s k (rights (settles_to (program_of s) v k b)) c
entered s k v b head start name =
    record {
      head = head;
      start = start;
      name = name ∙ settled_instance (bound_of_procedure s v.procedure) v.set_held (bound_of_procedure s k) ((program_of s).formals k) ((program_of s).need k) (λ j. (program_of s).inner v.procedure (b + j));
    }

-- what is settled, or the stop, by what `settled_by` says
module _ (inner : ℕ → Qual) (c : Callee) (b : ℕ) {x : Result ℕ SettleError} where
  pub settles_name : (n : ℕ) → x ≡ Ok n → Settling inner c b x → Settling inner c b (Ok n)
  settles_name n e h = subst (λ (y : Result ℕ SettleError). Settling inner c b y) e h

  pub stops_by : (e : SettleError) → x ≡ Err e → Settling inner c b x → StopsBy inner c b (halt_of e)
  stops_by e is h = record { why = e; stop = refl; told = subst (λ (y : Result ℕ SettleError). Settling inner c b y) is h }

  pub stops_unsettled : x ≡ Err Why.Unsettled → Settling inner c b x → StopsBy inner c b WrongKind
  stops_unsettled = stops_by Why.Unsettled

-- its needs and its result, as it reads them itself
callee_is : {s : List ℕ} {k : ℕ} {to : Scope} → ScopeOf s k (own (bound_of_procedure s k)) to → callee_as s (bound_of_procedure s k) to ≡ called (program_of s) k
callee_is {s} {k} scope =
    λ i. record { bound = bound_of_procedure s k; formals = formals_at s (scope.head i); need = λ j. need_read scope j i; result = result_read scope i }

module _ (s words : List ℕ) (r : Registers) (a b k : ℕ) {p to : Scope} (here : ScopeHere s words r p) (scope : ScopeOf s k (own (bound_of_procedure s k)) to)
    {t : ℕ} (result : t ≡ result_at s to.head) where
  keeps_told : {x : Bool} → not (eqb a 255) && eqb t 255 ≡ x → keeps (optional a) ((program_of s).result k) ≡ not x
  keeps_told e = keeps_is s (procedure_at s k) a ∙ rw (← scope.head, ← result, e)

  pub call_unkept : not (eqb a 255) && eqb t 255 ≡ true → (input out : List ℕ) → Performs watched s input words words out out r (Err WrongKind) (Call a b k)
  call_unkept e input out =
      performs_exactly s input words words out out r (Err WrongKind) (Call a b k) (λ z. stop wrong_kind) (λ c q. does_stop watched c words out r WrongKind)
      (λ c t q i S. sym (plan_unkept (program_of s) (view (length words) (length out) t) a b k (keeps_told e)))

  module _ (kept : not (eqb a 255) && eqb t 255 ≡ false) where
    -- what the code found, in every state
    settling_seen : (x : Result ℕ SettleError) → Settling (inner_as s p) (callee_as s (bound_of_procedure s k) to) b x → (v : View watched) → InScope s v p
        → Settling (declared_as watched (program_of s) v) (called (program_of s) k) b x
    settling_seen x told v in_frame =
        subst (λ (f : ℕ → Qual). Settling f (called (program_of s) k) b x) (λ i y. inner_read in_frame y i)
        (subst (λ (f : Callee). Settling (inner_as s p) f b x) (callee_is scope) told)

    -- why nothing is settled is the stop
    pub call_unsettled : Settling (inner_as s p) (callee_as s (bound_of_procedure s k) to) b (Err Why.Unsettled)
        → (input out : List ℕ) → Performs watched s input words words out out r (Err WrongKind) (Call a b k)
    unfolding ◌>>=◌
    call_unsettled told input out c t same from S =
        let v = view (length words) (length out) t in
        let h = settling_seen (Err Why.Unsettled) told v (in_scope here c out t same S) in
        planned_as c words out s r t (Err WrongKind) _ (stop wrong_kind)
        (plan_settled (program_of s) v a b k (keeps_told kept) (stop wrong_kind) (unsettled (program_of s) v k b h))
        (stopped_after watched c words out r t S WrongKind)

    pub call_short : Settling (inner_as s p) (callee_as s (bound_of_procedure s k) to) b (Err Why.Short)
        → (input out : List ℕ) → Performs watched s input words words out out r (Err MissingRight) (Call a b k)
    unfolding ◌>>=◌
    call_short told input out c t same from S =
        let v = view (length words) (length out) t in
        let h = settling_seen (Err Why.Short) told v (in_scope here c out t same S) in
        planned_as c words out s r t (Err MissingRight) _ (stop missing_right)
        (plan_settled (program_of s) v a b k (keeps_told kept) (stop missing_right) (short (program_of s) v k b h.0 h.1))
        (stopped_after watched c words out r t S MissingRight)

    pub call_stops : (e : SettleError) → Settling (inner_as s p) (callee_as s (bound_of_procedure s k) to) b (Err e)
        → (input out : List ℕ) → Performs watched s input words words out out r (Err (halt_of e)) (Call a b k)
    call_stops Why.Unsettled = call_unsettled
    call_stops Why.Short = call_short

    pub call_enters : (name : ℕ) → Settling (inner_as s p) (callee_as s (bound_of_procedure s k) to) b (Ok name)
        → (words' : List ℕ) (o : Stepped) (w : ℕ) → ProcedureWord s k w → Callable s r a b k
        → ((j : ℕ) (z : Rights) → FrameScope s j z (record { head = to.head; start = to.start; name = name }) → ProcedureWord s j w
        → Enters s words words' r a b j z o)
        → (input out : List ℕ) → Performs watched s input words words' out out r o (Call a b k)
    unfolding ◌>>=◌
    call_enters name told words' o w C callable enters input out c t same from S =
        let v = view (length words) (length out) t in
        let h = settling_seen (Ok name) told v (in_scope here c out t same S) in
        let z = rights (settles_to (program_of s) v k b) in
        planned_as c words' out s r t o _ (entering (program_of s) v k b z)
        (plan_settled (program_of s) v a b k (keeps_told kept) (ok z) (settles (program_of s) v k b h.0 h.1))
        (enters k z (entered s k v b scope.head scope.start h.2) C c t out same callable.procedure (kept_of c out t same S callable.here) S)
      where
        kept_of : (c : Given) (out : List ℕ) (t : State watched) → c.sheet ≡ s → StandsFor watched c words out r t → operation_at s (place_in r) ≡ Call a b k
            → a ≡ kept_byte (operation_in (program_of s) t)
        kept_of c out (state (frame q i y vs) fs os l put) same S is = rw same at (kept_here S a b k (rw same is))
