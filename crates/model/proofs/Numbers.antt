-- Which numbers a list of tests can refuse with, and that the access rules refuse with 6 to 9, 20 or 21.
use Prim.Native.Nat.{ℕ, zero, suc, ◌+◌, ◌≤◌}
use mathlib.Core.Path.{◌≡◌, refl}
use mathlib.Core.Bool.{Bool, true, false, ◌&&◌, ◌||◌, cond}
use Rattle.std.specs.Prelude.{Result, Ok, Err}
use mathlib.Core.List.{List, [], ◌∷◌, ◌++◌}
use mathlib.Core.Option.{Option, none, some}
use native.Mathlib.Omega.{arith}
use lib.Dec.{leb, ltb}
use borrow.Author.Tests.{leb-true, le-leb}
use Rattle.model.specs.Qualified.{Qual}
use Rattle.model.specs.Generic.{read}
use Rattle.model.specs.Program.{Program, Record, type_record, variable_record, instruction_record}
use Rattle.model.specs.Refusal.{Reason, Verdict, refusal_number, between, Gives, Test, test, Tests, tests, failure, refuse, verdict, span, each}
use Rattle.model.specs.Rules.{moves, integer_rule, integers_rule, new_array_rule, new_record_rule, fetch_rule, store_rule, size_rule, get_slot_rule, set_slot_rule, return_rule, kept_rule, formal_rule, local_rule, declaration_rule, Callee, settling_rule, passing_rule, call_rule, closed_rule, typed, called, rule, type_rules, qual_rules, variable_rule, variable_rules, instruction_rules, head_rules, procedure_rules, access_rules}
use Rattle.model.specs.declared.Operation.{Operation}
use Rattle.model.specs.declared.Operation.TheVariants.{Set, Add, Subtract, Less, JumpZero, Bind, Take, Put, NewArray, Fetch, Store, Size, NewRecord, GetSlot, SetSlot, Call, Return}
use Rattle.model.proofs.Verdicts.{both_true}

module _ (number : ℕ → Bool) where
  -- each test of a record, and of a list of records, has one of these numbers
  abbrev pub in_range : List Test → Bool
  in_range [] = true
  in_range (test r b ∷ ts) = number (refusal_number r) && in_range ts

  abbrev pub all_in_range : List Tests → Bool
  all_in_range [] = true
  all_in_range (tests at ts ∷ more) = in_range ts && all_in_range more

  -- what refuses does so with one of these numbers
  abbrev Ranged : Result (Unit {0}) Reason → Type 0
  Ranged (Ok u) = Unit {0}
  Ranged (Err r) = number (refusal_number r) ≡ true

  joined : (a b : Bool) → a ≡ true → b ≡ true → a && b ≡ true
  joined a b p q = rw (p, q)

  -- ---- lists of tests of one record
  pub range_append : (xs ys : List Test) → in_range xs ≡ true → in_range ys ≡ true → in_range (xs ++ ys) ≡ true
  range_append [] ys p q = q
  range_append (test r b ∷ xs) ys p q =
      let z = both_true (number (refusal_number r)) (in_range xs) p in
      joined (number (refusal_number r)) (in_range (xs ++ ys)) z.0 (range_append xs ys z.1 q)

  pub range_span : (f : ℕ → List Test) → ((i : ℕ) → in_range (f i) ≡ true) → (i n : ℕ) → in_range (span f i n) ≡ true
  unfolding span
  range_span f h i zero = refl
  range_span f h i (suc n) = range_append (f i) (span f (suc i) n) (h i) (range_span f h (suc i) n)

  failure_range : (ts : List Test) → in_range ts ≡ true → Ranged (failure ts)
  unfolding failure
  failure_range [] h = tt
  failure_range (test r b ∷ ts) h =
      let z = both_true (number (refusal_number r)) (in_range ts) h in
      go b (failure_range ts z.1) z.0
    where
      go : (c : Bool) → Ranged (failure ts) → number (refusal_number r) ≡ true → Ranged (cond c (failure ts) (Err r))
      go true x y = x
      go false x y = y

  -- ---- lists of records
  pub all_append : (xs ys : List Tests) → all_in_range xs ≡ true → all_in_range ys ≡ true → all_in_range (xs ++ ys) ≡ true
  all_append [] ys p q = q
  all_append (tests at ts ∷ xs) ys p q =
      let z = both_true (in_range ts) (all_in_range xs) p in
      joined (in_range ts) (all_in_range (xs ++ ys)) z.0 (all_append xs ys z.1 q)

  all_span : (f : ℕ → List Tests) → ((i : ℕ) → all_in_range (f i) ≡ true) → (i n : ℕ) → all_in_range (span f i n) ≡ true
  unfolding span
  all_span f h i zero = refl
  all_span f h i (suc n) = all_append (f i) (span f (suc i) n) (h i) (all_span f h (suc i) n)

  pub all_each : (f : ℕ → List Tests) → ((i : ℕ) → all_in_range (f i) ≡ true) → (n : ℕ) → all_in_range (each n f) ≡ true
  all_each f h n = all_span f h 0 n

  -- a record's tests alone
  pub all_one : (at : ℕ) (ts : List Test) → in_range ts ≡ true → all_in_range (tests at ts ∷ []) ≡ true
  all_one at ts h = joined (in_range ts) true h refl

  refuse_range : (f : Result (Unit {0}) Reason) (at : ℕ) (v : Verdict) → Ranged f → Gives number v → Gives number (refuse f at v)
  unfolding refuse
  refuse_range (Ok u) at v p q = q
  refuse_range (Err r) at v p q = p

  pub verdict_range : (xs : List Tests) → all_in_range xs ≡ true → Gives number (verdict xs)
  unfolding verdict
  verdict_range [] h = tt
  verdict_range (tests at ts ∷ xs) h =
      let z = both_true (in_range ts) (all_in_range xs) h in
      refuse_range (failure ts) at (verdict xs) (failure_range ts z.0) (verdict_range xs z.1)

-- more numbers
module _ (number number' : ℕ → Bool) (also : (n : ℕ) → number n ≡ true → number' n ≡ true) where
  wider : (ts : List Test) → in_range number ts ≡ true → in_range number' ts ≡ true
  wider [] h = refl
  wider (test r b ∷ ts) h =
      let z = both_true (number (refusal_number r)) (in_range number ts) h in
      rw (also (refusal_number r) z.0, wider ts z.1)

  pub all_wider : (xs : List Tests) → all_in_range number xs ≡ true → all_in_range number' xs ≡ true
  all_wider [] h = refl
  all_wider (tests at ts ∷ xs) h =
      let z = both_true (in_range number ts) (all_in_range number xs) h in
      rw (wider ts z.0, all_wider xs z.1)

pub between_true : (m n k : ℕ) → between m n k ≡ true → (m ≤ k) × (k ≤ n)
between_true m n k h = let z = both_true (leb m k) (leb k n) h in (leb-true m k z.0, leb-true k n z.1)

pub between_wider : (m n m' n' k : ℕ) → m' ≤ m → n ≤ n' → between m n k ≡ true → between m' n' k ≡ true
between_wider m n m' n' k p q h =
    let z = between_true m n k h in
    let l = z.0 in
    let r = z.1 in
    rw (le-leb m' k (omega arith), le-leb k n' (omega arith))

-- ---- the access rules

abbrev pub access_number : ℕ → Bool
access_number n = between 6 9 n || between 20 21 n

returns_range : (v r : Option Qual) → in_range access_number (return_rule v r) ≡ true
unfolding return_rule moves
returns_range none none = refl
returns_range (some v) (some r) = refl
returns_range none (some r) = refl
returns_range (some v) none = refl

kept_range : (a r : Option Qual) → in_range access_number (kept_rule a r) ≡ true
unfolding kept_rule moves
kept_range (some a) (some r) = refl
kept_range none r = refl
kept_range (some a) none = refl

declared_range : (b : Bool) (o : ℕ) (need inner : Qual) → in_range access_number (cond b (formal_rule o need inner) (local_rule o inner)) ≡ true
unfolding formal_rule local_rule
declared_range true o need inner = refl
declared_range false o need inner = refl

passing_range : (inner : ℕ → Qual) (c : Callee) (ρ : Qual) (a b : ℕ) → in_range access_number (passing_rule inner c ρ a b) ≡ true
unfolding passing_rule moves
passing_range inner c ρ a b =
    range_append access_number (each c.formals (λ j. moves (inner (b + j)) (read ρ (c.need j)))) _
    (range_span access_number (λ j. moves (inner (b + j)) (read ρ (c.need j))) (λ j. refl) 0 c.formals)
    (kept_range _ _)

module _ (g : Program) where
  rule_range : (p : ℕ) (op : Operation) → in_range access_number (rule g p op) ≡ true
  unfolding rule moves integer_rule integers_rule new_array_rule new_record_rule fetch_rule store_rule size_rule get_slot_rule set_slot_rule call_rule settling_rule
  rule_range p (Set a k) = refl
  rule_range p (Add a b c) = refl
  rule_range p (Subtract a b c) = refl
  rule_range p (Less a b c) = refl
  rule_range p (JumpZero a k) = refl
  rule_range p (Bind a b) = refl
  rule_range p (Take a) = refl
  rule_range p (Put a) = refl
  rule_range p (NewArray a b) = refl
  rule_range p (Fetch a b c) = refl
  rule_range p (Store a b c) = refl
  rule_range p (Size a b) = refl
  rule_range p (NewRecord a) = refl
  rule_range p (GetSlot a b k) = refl
  rule_range p (SetSlot a b k) = refl
  rule_range p (Call a b k) = passing_range (typed g p) (called g k) _ a b
  rule_range p (Return a) = returns_range _ _

module _ (at : Record → ℕ) (g : Program) where
  type_range : (i : ℕ) → all_in_range access_number (type_rules at g i) ≡ true
  unfolding type_rules closed_rule
  type_range i =
      all_one access_number (at (type_record (2 + i))) (each (g.slots (2 + i)) (λ k. closed_rule (g.slot (2 + i) k)))
      (range_span access_number (λ k. closed_rule (g.slot (2 + i) k)) (λ k. refl) 0 (g.slots (2 + i)))

  qual_range : (j : ℕ) → all_in_range access_number (qual_rules at g j) ≡ true
  unfolding qual_rules closed_rule
  qual_range j = refl

  variable_range : (p x : ℕ) → all_in_range access_number (variable_rules at g p x) ≡ true
  unfolding variable_rules variable_rule declaration_rule
  variable_range p x =
      all_one access_number (at (variable_record p x)) (variable_rule g p x)
      (declared_range (ltb x (g.formals p)) (g.owner p) (g.need p x) (g.inner p x))

  instruction_range : (p i : ℕ) → all_in_range access_number (instruction_rules at g p i) ≡ true
  unfolding instruction_rules
  instruction_range p i = all_one access_number (at (instruction_record p i)) (rule g p (g.operation p i)) (rule_range g p (g.operation p i))

  procedure_range : (p : ℕ) → all_in_range access_number (procedure_rules at g p) ≡ true
  unfolding procedure_rules head_rules
  procedure_range p =
      all_append access_number (head_rules at g p) (each (g.variables p) (variable_rules at g p) ++ each (g.instructions p) (instruction_rules at g p)) refl
      (all_append access_number (each (g.variables p) (variable_rules at g p)) (each (g.instructions p) (instruction_rules at g p))
      (all_each access_number (variable_rules at g p) (variable_range p) (g.variables p))
      (all_each access_number (instruction_rules at g p) (instruction_range p) (g.instructions p)))

  pub access_range : all_in_range access_number (access_rules at g) ≡ true
  unfolding access_rules
  access_range =
      all_append access_number (each g.types (type_rules at g)) (each g.quals (qual_rules at g) ++ each g.procedures (procedure_rules at g))
      (all_each access_number (type_rules at g) type_range g.types)
      (all_append access_number (each g.quals (qual_rules at g)) (each g.procedures (procedure_rules at g))
      (all_each access_number (qual_rules at g) qual_range g.quals)
      (all_each access_number (procedure_rules at g) procedure_range g.procedures))
