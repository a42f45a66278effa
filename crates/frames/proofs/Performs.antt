-- What an instruction asks for, and its writer, together are an operation, of either machine. What is asked for may be known only where the definition
-- is not stuck.
use Prim.Native.Nat.{ℕ, zero, suc, ◌-◌, ◌<◌}
use native.Mathlib.Omega.{arith}
use mathlib.Core.Path.{◌≡◌, refl, sym, ap, subst, ◌∙◌}
use mathlib.Core.List.{List}
use Rattle.std.proofs.Common.{Result, Ok, Err}
use lib.Dec.{ltb}
use lib.ListN.{length, drop}
use Rattle.model.specs.declared.Halt.{Halt}
use Rattle.model.specs.Outcome.{output_full, Res, ok, stop, stuck, ensure, ◌>>=◌, ◌>>◌}
use Rattle.model.specs.Modes.{Mode, SettledSet}
use Rattle.model.specs.Qualified.{Qual}
use Rattle.model.specs.Program.{Program}
use Rattle.model.specs.Machine as M
use Rattle.model.specs.Machine.{Cell, Object, Frame, frame, State, state, Next, View, Effect, view, plan, apply, one_integer, branch, first_of}
use Rattle.model.specs.declared.Operation.{Operation}
use Rattle.model.specs.declared.Operation.TheVariants as Op
use Rattle.sheet.specs.Layout.{procedures_of, start_from, variable_at, instruction_from, start_at, instruction_at}
use Rattle.sheet.specs.Meaning.{program_of, qual_of}
use Rattle.index.specs.Procedures.{start_of, place_of}
use Rattle.index.specs.Indexed.{PlacedWord}
use Rattle.words.specs.Sees.{Sees}
use Rattle.words.specs.Answers.{UnlessStuck, number_as}
use Rattle.writers.specs.declared.Registers.{Registers}
use Rattle.writers.specs.declared.Next.TheVariants.{Go, Enter, Done}
use Rattle.writers.specs.Memory.{Given, object_part, frame_part, SeesIn, Stands, StandsFor}
use Rattle.writers.specs.Steps.{Stepped, After, Does, branched, jumped, put_effect, take_effect}
use Rattle.writers.proofs.View.{view_sees, free_is, next_input_is}
use Rattle.frames.specs.Performs.{Performs}
use Rattle.frames.specs.Frames.{SetIn}

-- ---- what is known unless the definition is stuck

pub always : {A : Type 0} (p : Res A) (P : Type 0) → P → UnlessStuck p P
always (ok a) P h = h
always (stop x) P h = h
always stuck P h = tt

-- of a part of a plan, and so of the plan
pub unless_then : {A B : Type 0} (p : Res A) (f : A → Res B) (P Q : Type 0) → UnlessStuck p P → (P → Q) → UnlessStuck (p >>= f) Q
unfolding ◌>>=◌
unless_then (ok a) f P Q h k = always (f a) Q (k h)
unless_then (stop x) f P Q h k = k h
unless_then stuck f P Q h k = tt

pub unless_map : {A : Type 0} (p : Res A) (P Q : Type 0) → UnlessStuck p P → (P → Q) → UnlessStuck p Q
unless_map (ok a) P Q h k = k h
unless_map (stop x) P Q h k = k h
unless_map stuck P Q h k = tt

module _ (m : Mode) (c : Given) (words before out : List ℕ) (r : Registers) (t : State m) where
  after_stuck : (o : Stepped) → After m c words before out r t o stuck
  after_stuck (Ok (Go q)) = tt
  after_stuck (Ok (Enter q)) = tt
  after_stuck (Err k) = tt
  after_stuck (Ok Done) = tt

  after_plan : (o : Stepped) (f : Effect m → Res (Next m)) (p : Res (Effect m)) (P : Type 0) → UnlessStuck p P
      → (P → After m c words before out r t o (p >>= f)) → After m c words before out r t o (p >>= f)
  unfolding ◌>>=◌
  after_plan o f (ok x) P h k = k h
  after_plan o f (stop x) P h k = k h
  after_plan o f stuck P h k = after_stuck o

-- ---- an operation

-- the same, with both parts as `writers::parts` gives them
pub sees_parts : (m : Mode) (q : ℕ → Qual) (v : View m) (words : List ℕ) (r : Registers) {f h : List ℕ} → f ≡ frame_part r words → h ≡ object_part r words
    → SeesIn m q v words r → Sees m q v f h
sees_parts m q v words r e d S = rw (e, d) S

-- the word of the running procedure tells where its records stand
pub placed : {m : Mode} {c : Given} {words out : List ℕ} {r : Registers} {p i : ℕ} {z : SettledSet m} {vs : List (Cell m)} {fs : List (Frame m)} {os : List (Object m)}
    {input put : List ℕ} → Stands m c words out r p i z vs fs os input put → PlacedWord c.sheet p r.procedure
unfolding start_of place_of start_at start_from instruction_at instruction_from variable_at
placed {c = c} {r = r} {p} S =
    let s = c.sheet in
    let starts : start_of r.procedure ≡ start_at s p = rw (S.first, S.variables, S.running.variables) (omega arith) in
    record { bound = S.bound; start = starts; place = rw (starts, S.bound) (omega arith) }

-- the running procedure is one of the sheet's, the registers have its word, and its frame's set is what is read of the words
pub record Running {m : Mode} (s words : List ℕ) (r : Registers) (v : View m) : Type 0 where
  pub known : v.procedure < procedures_of s
  pub placed_at : PlacedWord s v.procedure r.procedure
  pub set_is : (z : SettledSet m) → SetIn m words r z → z ≡ v.set_held

pub runs : (m : Mode) (c : Given) (s words before : List ℕ) (r : Registers) (t : State m) → c.sheet ≡ s → StandsFor m c words before r t
    → Running s words r (view (length words) (length before) t)
runs m c s words before r (state (frame p i z vs) fs os input put) q S =
    record { known = rw q at S.running.procedure; placed_at = rw q at (placed S); set_is = λ y Z. Z c p i z vs fs os input put before S }

-- what is seen, by the sheet's map of element numbers
pub sees : (m : Mode) (c : Given) (s words before : List ℕ) (r : Registers) (t : State m) → c.sheet ≡ s → StandsFor m c words before r t
    → SeesIn m (qual_of s) (view (length words) (length before) t) words r
sees m c s words before r t q S =
    subst (λ (z : List ℕ). SeesIn m (qual_of z) (view (length words) (length before) t) words r) q (view_sees m c words before r t S)

module _ (m : Mode) (s input words words' before out : List ℕ) (r : Registers) (o : Stepped) (op : Operation) (e : (ℕ → Qual) → Res (Effect m)) where
  -- a writer that does what it is told where its answer is fine, as one that moves a word does where that is a cell's
  module _ (Fine : Type 0) (does : (c : Given) → Fine → Does m c words words' before out r o (e (qual_of c.sheet))) where
    pub performs_if :
        ((c : Given) (t : State m) → c.sheet ≡ s → c.input ≡ input → StandsFor m c words before r t
        → UnlessStuck (plan m (program_of s) (view (length words) (length before) t) op)
        (Fine × (e (qual_of s) ≡ plan m (program_of s) (view (length words) (length before) t) op)))
        → Performs m s input words words' before out r o op
    performs_if planned c t q i S =
        let p = plan m (program_of s) (view (length words) (length before) t) op in
        after_plan m c words' before out r t o (λ x. ok (apply (program_of s) t x)) p (Fine × (e (qual_of s) ≡ p)) (planned c t q i S)
        (λ w.
        subst (λ (f : Res (Effect m)). After m c words' before out r t o (f >>= λ x. ok (apply (program_of s) t x))) w.1
        (subst (λ (z : List ℕ). After m c words' before out r t o (e (qual_of z) >>= λ x. ok (apply (program_of z) t x))) q (does c w.0 t S)))

    -- a plan that leans on the running procedure, the variables and the objects alone
    pub performs_if_seeing :
        ((v : View m) → Running s words r v → SeesIn m (qual_of s) v words r
        → UnlessStuck (plan m (program_of s) v op) (Fine × (e (qual_of s) ≡ plan m (program_of s) v op)))
        → Performs m s input words words' before out r o op
    performs_if_seeing planned =
        performs_if (λ c t q i S. planned (view (length words) (length before) t) (runs m c s words before r t q S) (sees m c s words before r t q S))

  -- the three for a writer that always does what it is told
  module _ (does : (c : Given) → Does m c words words' before out r o (e (qual_of c.sheet))) where
    pub performs :
        ((c : Given) (t : State m) → c.sheet ≡ s → c.input ≡ input → StandsFor m c words before r t
        → UnlessStuck (plan m (program_of s) (view (length words) (length before) t) op)
        (e (qual_of s) ≡ plan m (program_of s) (view (length words) (length before) t) op))
        → Performs m s input words words' before out r o op
    performs planned =
        performs_if (Unit {0}) (λ c u. does c)
        (λ c t q i S.
        let p = plan m (program_of s) (view (length words) (length before) t) op in
        unless_map p (e (qual_of s) ≡ p) (Unit {0} × (e (qual_of s) ≡ p)) (planned c t q i S) (λ w. (tt, w)))

    pub performs_seeing :
        ((v : View m) → Running s words r v → SeesIn m (qual_of s) v words r
        → UnlessStuck (plan m (program_of s) v op) (e (qual_of s) ≡ plan m (program_of s) v op))
        → Performs m s input words words' before out r o op
    performs_seeing planned =
        performs (λ c t q i S. planned (view (length words) (length before) t) (runs m c s words before r t q S) (sees m c s words before r t q S))

-- ---- the writers that take an integer, an input word or an output word

-- the number n is that of variable x
abbrev pub ReadsIn : (m : Mode) → (s words : List ℕ) → Registers → Result ℕ Halt → ℕ → Type 0
ReadsIn m s words r n x =
    (v : View m) → SeesIn m (qual_of s) v words r → UnlessStuck (one_integer m (program_of s) v x) (number_as m n ≡ one_integer m (program_of s) v x)

module _ (m : Mode) (g : Program) (v : View m) (a : ℕ) (n : Result ℕ Halt)
    (reads : UnlessStuck (one_integer m g v a) (number_as m n ≡ one_integer m g v a)) where
  jumps : (k : ℕ) → UnlessStuck (plan m g v (Op.JumpZero a k)) (jumped m k n ≡ plan m g v (Op.JumpZero a k))
  unfolding plan jumped branched branch ◌>>=◌
  jumps k =
      unless_then (one_integer m g v a) (λ j. ok (branch m g v j k)) (number_as m n ≡ one_integer m g v a) (jumped m k n ≡ plan m g v (Op.JumpZero a k)) reads
      (λ e. rw e (then (one_integer m g v a)))
    where
      then : (x : Res ℕ) → (x >>= λ j. ok (branched j k)) ≡ (x >>= λ j. ok (branch m g v j k))
      then (ok zero) = refl
      then (ok (suc j)) = refl
      then (stop t) = refl
      then stuck = refl

  puts : (free : ℕ) → free ≡ v.free → UnlessStuck (plan m g v (Op.Put a)) (put_effect m free n ≡ plan m g v (Op.Put a))
  unfolding plan put_effect
  puts free f =
      unless_then (one_integer m g v a) (λ x. (ensure output_full (ltb 0 v.free) >> ok (M.put x))) (number_as m n ≡ one_integer m g v a)
      (put_effect m free n ≡ plan m g v (Op.Put a)) reads
      (λ e. rw (f, e))

module _ (m : Mode) (s input words words' before out : List ℕ) (r : Registers) (o : Stepped) (a : ℕ) where
  pub performs_jump_in : (n : Result ℕ Halt) (k : ℕ) → ((c : Given) → Does m c words words' before out r o (jumped m k n)) → ReadsIn m s words r n a
      → Performs m s input words words' before out r o (Op.JumpZero a k)
  performs_jump_in n k does reads =
      performs_seeing m s input words words' before out r o (Op.JumpZero a k) (λ q. jumped m k n) does (λ v R S. jumps m (program_of s) v a n (reads v S) k)

  pub performs_put_in : (n : Result ℕ Halt) → ((c : Given) → Does m c words words' before out r o (put_effect m (length before - r.put) n)) → ReadsIn m s words r n a
      → Performs m s input words words' before out r o (Op.Put a)
  performs_put_in n does reads =
      performs m s input words words' before out r o (Op.Put a) (λ q. put_effect m (length before - r.put) n) does
      (λ c t q i S.
      let v = view (length words) (length before) t in
      puts m (program_of s) v a n (reads v (sees m c s words before r t q S)) (length before - r.put) (free_is m c words before r t S))

  pub performs_take : ((c : Given) → Does m c words words' before out r o (take_effect m a (first_of (drop r.taken input))))
      → ((v : View m) → Running s words r v → first_of (drop r.taken input) ≡ v.next_input
      → UnlessStuck (plan m (program_of s) v (Op.Take a)) (take_effect m a (first_of (drop r.taken input)) ≡ plan m (program_of s) v (Op.Take a)))
      → Performs m s input words words' before out r o (Op.Take a)
  performs_take does planned =
      performs m s input words words' before out r o (Op.Take a) (λ q. take_effect m a (first_of (drop r.taken input))) does
      (λ c t q i S.
      planned (view (length words) (length before) t) (runs m c s words before r t q S)
      (ap (λ (l : List ℕ). first_of (drop r.taken l)) (sym i) ∙ next_input_is m c words before r t S))
