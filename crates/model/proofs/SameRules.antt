-- Programs that are equal wherever they have a number, and in their QT records, have the same verdict, each at the places of its own records.
use Prim.Native.Nat.{ℕ, zero, suc, ◌+◌, ◌≤◌, ◌<◌}
use mathlib.Core.Path.{◌≡◌, refl, ap, ap₂, ◌∙◌}
use mathlib.Core.Bool.{Bool, true, false, cond}
use mathlib.Core.List.{List, [], ◌∷◌, ◌++◌}
use mathlib.Core.Option.{Option, none, some}
use native.Mathlib.Omega.{arith}
use Rattle.std.specs.Prelude.{Result, Ok, Err}
use lib.Dec.{ltb}
use borrow.Author.Tests.{ltb-true}
use Rattle.model.specs.Program.{Program, Record, type_record, qual_record, procedure_record, variable_record, instruction_record}
use Rattle.model.specs.Qualified.{Qual, element}
use Rattle.model.specs.Generic.{own, read}
use Rattle.model.specs.Refusal.{Reason, Verdict, OpenExposed, Test, test, Tests, tests, refuse, verdict, span, each}
use Rattle.model.specs.Rules.{optional, moves, closed_result, formal_rule, local_rule, declaration_rule, optional_variable, settling_rule, passing_rule, call_rule, closed_rule, typed, typed_slot, called, rule, type_rules, qual_rules, variable_rule, variable_rules, instruction_rules, head_rules, procedure_rules, access_rules}
use Rattle.model.specs.Same.{Same, SameQuals, Alike, both_accepted, at_record}
use Rattle.model.specs.declared.Operation.{Operation}
use Rattle.model.specs.declared.Operation.TheVariants.{Set, Add, Subtract, Less, JumpZero, Bind, Take, Put, NewArray, Fetch, Store, Size, NewRecord, GetSlot, SetSlot, Call, Return}
use Rattle.model.proofs.Formed.{Formed, FormedAt, Operands, OperandsAt, BelowOrNone}
use Rattle.model.proofs.Same.{same_each, same_need, same_uses, same_found}

-- ---- Lists of tests

module _ (at at' : Record → ℕ) where
  -- the same tests of the same records
  data Matched : List Tests → List Tests → Type 0 where
    no_more : Matched [] []
    matched : (r : Record) {ts ts' : List Test} {more more' : List Tests} → ts ≡ ts' → Matched more more' → Matched (tests (at r) ts ∷ more) (tests (at' r) ts' ∷ more')

  refuse_alike : (f : Result (Unit {0}) Reason) (r : Record) {v v' : Verdict} → Alike at at' v v' → Alike at at' (refuse f (at r) v) (refuse f (at' r) v')
  unfolding refuse
  refuse_alike (Ok u) r a = a
  refuse_alike (Err n) r a = at_record n r

  verdict_alike : {xs xs' : List Tests} → Matched xs xs' → Alike at at' (verdict xs) (verdict xs')
  unfolding verdict
  verdict_alike no_more = both_accepted
  verdict_alike (matched r e m) = rw e (refuse_alike _ r (verdict_alike m))

  matched_append : {xs xs' ys ys' : List Tests} → Matched xs xs' → Matched ys ys' → Matched (xs ++ ys) (xs' ++ ys')
  matched_append no_more m = m
  matched_append (matched r e x) m = matched r e (matched_append x m)

  matched_span : (f f' : ℕ → List Tests) (i n : ℕ) → ((k : ℕ) → k < i + n → Matched (f k) (f' k)) → Matched (span f i n) (span f' i n)
  unfolding span
  matched_span f f' i zero m = no_more
  matched_span f f' i (suc n) m = matched_append (m i (omega arith)) (matched_span f f' (suc i) n (λ k l. m k (omega arith)))

  matched_each : {f f' : ℕ → List Tests} {n n' : ℕ} → n ≡ n' → ((k : ℕ) → k < n → Matched (f k) (f' k)) → Matched (each n f) (each n' f')
  matched_each {f} {f'} {n} e m = rw (← e) (matched_span f f' 0 n (λ k l. m k (omega arith)))

-- need is asked of formals alone
same_declared :
    (b : Bool) (o : ℕ) {need need' : Qual} (inner : Qual) → (b ≡ true → need ≡ need') →
    cond b (formal_rule o need inner) (local_rule o inner) ≡ cond b (formal_rule o need' inner) (local_rule o inner)
same_declared true o inner e = ap (λ (q : Qual). formal_rule o q inner) (e refl)
same_declared false o inner e = refl

module _ {g h : Program} (formed : Formed g) (operands : Operands g) (same : Same g h) where
  module _ (p : ℕ) (l : p < g.procedures) where
    -- ---- An instruction

    same_typed : (x : ℕ) → x < g.variables p → typed g p x ≡ typed h p x
    unfolding typed
    same_typed x n = λ i. read (own (same.bound p l i)) (same.inner p x l n i)

    same_slot : (k : ℕ) → 2 ≤ g.owner p → g.owner p < 2 + g.types → k < g.slots (g.owner p) → typed_slot g p k ≡ typed_slot h p k
    unfolding typed_slot
    same_slot k o t n = rw (same.slot (g.owner p) k o t n, same.bound p l, same.owner p l)

    same_optional : (a : Option ℕ) → BelowOrNone g p a → optional_variable (typed g p) a ≡ optional_variable (typed h p) a
    unfolding optional_variable
    same_optional none b = refl
    same_optional (some a) b = ap some (same_typed a b)

    -- where ?R of procedure k stands for the same
    same_passing :
        (a b k : ℕ) → k < g.procedures → OperandsAt g p (Call a b k) → (ρ : Qual) →
        passing_rule (typed g p) (called g k) ρ a b ≡ passing_rule (typed h p) (called h k) ρ a b
    unfolding passing_rule
    same_passing a b k q x ρ =
        let actuals : each (g.formals k) (λ j. moves (typed g p (b + j)) (read ρ ((called g k).need j))) ≡ each (h.formals k) (λ j. moves (typed h p (b + j)) (read ρ ((called h k).need j))) =
        same_each (same.formals k q) (λ j n. ap₂ moves (same_typed (b + j) (x.1 j n)) (ap (read ρ) (same_need same k q j n))) in
        rw (same_optional (optional a) x.0, actuals, same.bound k q, same.result k q)

    same_rule : (i : ℕ) (o : Operation) → FormedAt g p i o → OperandsAt g p o → rule g p o ≡ rule h p o
    unfolding rule call_rule settling_rule
    same_rule i (Set a k) f x = rw (same_typed a x)
    same_rule i (Add a b c) f x = rw (same_typed a x.0, same_typed b x.1, same_typed c x.2)
    same_rule i (Subtract a b c) f x = rw (same_typed a x.0, same_typed b x.1, same_typed c x.2)
    same_rule i (Less a b c) f x = rw (same_typed a x.0, same_typed b x.1, same_typed c x.2)
    same_rule i (JumpZero a k) f x = rw (same_typed a x)
    same_rule i (Bind a b) f x = rw (same_typed a x.0, same_typed b x.1)
    same_rule i (Take a) f x = rw (same_typed a x)
    same_rule i (Put a) f x = rw (same_typed a x)
    same_rule i (NewArray a b) f x = rw (same_typed a x.0, same_typed b x.1)
    same_rule i (Fetch a b c) f x = rw (same_typed a x.0, same_typed b x.1, same_typed c x.2)
    same_rule i (Store a b c) f x = rw (same_typed a x.0, same_typed b x.1, same_typed c x.2)
    same_rule i (Size a b) f x = rw (same_typed a x.0, same_typed b x.1)
    same_rule i (NewRecord a) f x = rw (same.named (g.owner p) f.0 x.1, same.owner p l, same_typed a x.0)
    same_rule i (GetSlot a b k) f x = rw (same_slot k f.0 x.2 f.1, same.owner p l, same_typed a x.0, same_typed b x.1)
    same_rule i (SetSlot a b k) f x = rw (same_slot k f.0 x.2 f.1, same.owner p l, same_typed a x.0, same_typed b x.1)
    same_rule i (Call a b k) f x =
        rw (same_passing a b k f.0 x _, same_found same k f.0 (typed g p) (typed h p) b (λ j n. same_typed (b + j) (x.1 j n)), same_uses same k f.0, same.bound k f.0)
    same_rule i (Return a) f x = rw (same_optional (optional a) x, same.bound p l, same.result p l)

    same_instruction : (i : ℕ) → i < g.instructions p → rule g p (g.operation p i) ≡ rule h p (h.operation p i)
    same_instruction i n = same_rule i (g.operation p i) (formed.operations p i l n) (operands.named p i l n) ∙ ap (rule h p) (same.operation p i l n)

    -- ---- A declaration

    same_variable : (x : ℕ) → x < g.variables p → variable_rule g p x ≡ variable_rule h p x
    unfolding variable_rule declaration_rule
    same_variable x b =
        rw (← same.owner p l, ← same.formals p l, ← same.inner p x l b) (same_declared (ltb x (g.formals p)) (g.owner p) (g.inner p x) (λ e. same.need p x l (ltb-true x (g.formals p) e)))

  same_slots : (t : ℕ) → 2 ≤ t → t < 2 + g.types → each (g.slots t) (λ k. closed_rule (g.slot t k)) ≡ each (h.slots t) (λ k. closed_rule (h.slot t k))
  same_slots t d l = same_each (same.slots t d l) (λ k n. ap closed_rule (same.slot t k d l n))

  -- ---- Record by record

  module _ (quals : SameQuals g h) (at at' : Record → ℕ) where
    same_procedure : (p : ℕ) → p < g.procedures → Matched at at' (procedure_rules at g p) (procedure_rules at' h p)
    unfolding procedure_rules head_rules variable_rules instruction_rules
    same_procedure p l =
        matched_append at at'
        (matched (procedure_record p) (ap (λ r. test OpenExposed (closed_result r) ∷ []) (same.result p l)) no_more)
        (matched_append at at'
        (matched_each at at' (same.variables p l) (λ x n. matched (variable_record p x) (same_variable p l x n) no_more))
        (matched_each at at' (same.instructions p l) (λ i n. matched (instruction_record p i) (same_instruction p l i n) no_more)))

    pub same_rules : Alike at at' (verdict (access_rules at g)) (verdict (access_rules at' h))
    unfolding access_rules type_rules qual_rules
    same_rules =
        verdict_alike at at'
        (matched_append at at'
        (matched_each at at' same.types (λ i l. matched (type_record (2 + i)) (same_slots (2 + i) (omega arith) (omega arith)) no_more))
        (matched_append at at'
        (matched_each at at' quals.quals (λ j l. matched (qual_record j) (ap (λ q. closed_rule (element q)) (quals.qual j l)) no_more))
        (matched_each at at' same.procedures same_procedure)))
