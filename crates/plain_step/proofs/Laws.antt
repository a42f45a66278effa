-- What the plain machine's writers take, as the definition plans it.
use Prim.Native.Nat.{ℕ, suc, ◌-◌}
use mathlib.Core.Path.{◌≡◌, refl, ap, subst, ◌∙◌}
use mathlib.Core.List.{List}
use mathlib.Core.Option.{Option}
use lib.Dec.{leb}
use lib.ListN.{length}
use Rattle.std.proofs.Common.{Result, Ok}
use Rattle.model.specs.declared.Halt.{Halt}
use Rattle.model.specs.Outcome.{memory_full, Res, ok, ensure, ◌>>=◌, ◌>>◌}
use Rattle.model.specs.Qualified.{Qual, integer}
use Rattle.model.specs.Modes.{plain, bind, demand}
use Rattle.model.specs.Program.{Program}
use Rattle.model.specs.Machine.{View, Effect, new_array, plan, one_integer, held, moved, give, gives, plan_array, plan_record, view}
use Rattle.model.specs.declared.Operation.{Operation}
use Rattle.model.specs.declared.Operation.TheVariants as Op
use Rattle.sheet.specs.Layout.{slots_of, owner_at}
use Rattle.sheet.specs.Meaning.{program_of, qual_of}
use Rattle.index.specs.Procedures.{place_of}
use Rattle.words.specs.Sees.{Sees}
use Rattle.words.specs.declared.Stored.{Stored}
use Rattle.words.specs.Answers.{UnlessStuck, MovedOk, StoredOk, number_as, given, moved_to, stored}
use Rattle.writers.specs.declared.Registers.{Registers}
use Rattle.writers.specs.Memory.{Given, object_part, frame_part}
use Rattle.writers.specs.Steps.{Stepped, Does, take_effect, array_effect, record_effect}
use Rattle.writers.proofs.View.{room_is}
use Rattle.frames.specs.Performs.{Performs, PerformsInside}
use Rattle.frames.proofs.Performs.{always, unless_then, ReadsIn, sees, sees_parts, runs, performs, performs_seeing, performs_if_seeing}

-- what is planned, known whether or not the definition is stuck
pub exactly : {A : Type 0} {e p : Res A} → e ≡ p → UnlessStuck p (e ≡ p)
exactly {e = e} {p = p} h = always p (e ≡ p) h

pub sets : (g : Program) (v : View plain) (a k : ℕ) → given plain a (Ok k) ≡ plan plain g v (Op.Set a k)
unfolding given plan gives give moved held bind ◌>>=◌
sets g v a k = refl

pub takes : (g : Program) (v : View plain) (a : ℕ) (next : Option ℕ) → next ≡ v.next_input → take_effect plain a next ≡ plan plain g v (Op.Take a)
unfolding plan take_effect give moved held bind ◌>>=◌
takes g v a next e = ap (λ (x : Option ℕ). take_effect plain a x) e

arrays : (g : Program) (v : View plain) (a b : ℕ) (q : Qual) (n : Result ℕ Halt) (room : ℕ) → room ≡ v.room
    → UnlessStuck (one_integer plain g v b) (number_as plain n ≡ one_integer plain g v b)
    → UnlessStuck (plan plain g v (Op.NewArray a b)) (array_effect plain room a q n ≡ plan plain g v (Op.NewArray a b))
unfolding plan plan_array array_effect demand bind ◌>>=◌ ◌>>◌
arrays g v a b q n room f reads =
    unless_then (one_integer plain g v b) (λ x. (ensure memory_full (leb (suc x) v.room) >> ok (new_array a tt x tt))) (number_as plain n ≡ one_integer plain g v b)
    (array_effect plain room a q n ≡ plan plain g v (Op.NewArray a b)) reads
    (λ e. rw (f, e))

records : (g : Program) (v : View plain) (a room : ℕ) (q : Qual) (t named n : ℕ) → room ≡ v.room → n ≡ g.slots (g.owner v.procedure)
    → record_effect plain room a q t named n ≡ plan plain g v (Op.NewRecord a)
unfolding plan plan_record record_effect bind ◌>>=◌ ◌>>◌
records g v a room q t named n f e = rw (f, e)

-- what is planned of the parts that are read, and its writer, together
module _ (s words words' : List ℕ) (r : Registers) (o : Stepped) (op : Operation) {f h : List ℕ} (frame_is : f ≡ frame_part r words) (objects_are : h ≡ object_part r words) where
  -- what is said of a plan, where the definition is not stuck
  abbrev pub OfPlan : ((ℕ → Qual) → Res (Effect plain) → Type 0) → Type 0
  OfPlan Said = (q : ℕ → Qual) (g : Program) (v : View plain) → Sees plain q v f h → UnlessStuck (plan plain g v op) (Said q (plan plain g v op))

  pub performs_number : (a : ℕ) (n : Result ℕ Halt) → ((c : Given) (out : List ℕ) → Does plain c words words' out out r o (given plain a n))
      → OfPlan (λ q e. given plain a n ≡ e) → PerformsInside plain s words words' r o op
  performs_number a n does plans input out =
      performs_seeing plain s input words words' out out r o op (λ q. given plain a n) (λ c. does c out)
      (λ v R S. plans (qual_of s) (program_of s) v (sees_parts plain (qual_of s) v words r frame_is objects_are S))

  pub performs_moved : (a : ℕ) (m : Result ℕ Halt) → ((c : Given) (out : List ℕ) → MovedOk m → Does plain c words words' out out r o (moved_to plain (qual_of c.sheet) a m))
      → OfPlan (λ q e. MovedOk m × (moved_to plain q a m ≡ e)) → PerformsInside plain s words words' r o op
  performs_moved a m does plans input out =
      performs_if_seeing plain s input words words' out out r o op (λ q. moved_to plain q a m) (MovedOk m) (λ c. does c out)
      (λ v R S. plans (qual_of s) (program_of s) v (sees_parts plain (qual_of s) v words r frame_is objects_are S))

  pub performs_stored : (m : Result Stored Halt)
      → ((c : Given) (out : List ℕ) → StoredOk (object_part r words) m → Does plain c words words' out out r o (stored plain (qual_of c.sheet) m))
      → OfPlan (λ q e. StoredOk h m × (stored plain q m ≡ e)) → PerformsInside plain s words words' r o op
  performs_stored m does plans input out =
      performs_if_seeing plain s input words words' out out r o op (λ q. stored plain q m) (StoredOk h m) (λ c fine. does c out (subst (λ (x : List ℕ). StoredOk x m) objects_are fine))
      (λ v R S. plans (qual_of s) (program_of s) v (sees_parts plain (qual_of s) v words r frame_is objects_are S))

-- the plain machine keeps no types, so that any will do
module _ (s input words words' before out : List ℕ) (r : Registers) (o : Stepped) (a : ℕ) where
  pub performs_array : (b : ℕ) (n : Result ℕ Halt) → ((c : Given) (q : Qual) → Does plain c words words' before out r o (array_effect plain (r.base - r.used) a q n))
      → ReadsIn plain s words r n b
      → Performs plain s input words words' before out r o (Op.NewArray a b)
  performs_array b n does reads =
      performs plain s input words words' before out r o (Op.NewArray a b) (λ q. array_effect plain (r.base - r.used) a integer n) (λ c. does c integer)
      (λ c t q i S.
      let v = view (length words) (length before) t in
      arrays (program_of s) v a b integer n (r.base - r.used) (room_is plain c words before r t S)
      (reads v (sees plain c s words before r t q S)))

  -- its slots are those of the owner in the procedure's PR
  pub performs_record : (pr n : ℕ) → pr ≡ place_of r.procedure → n ≡ slots_of s (owner_at s pr)
      → ((c : Given) (q : Qual) (t named : ℕ) → Does plain c words words' before out r o (record_effect plain (r.base - r.used) a q t named n))
      → Performs plain s input words words' before out r o (Op.NewRecord a)
  performs_record pr n is e does =
      performs plain s input words words' before out r o (Op.NewRecord a) (λ q. record_effect plain (r.base - r.used) a integer 0 0 n) (λ c. does c integer 0 0)
      (λ c t q i S.
      let v = view (length words) (length before) t in
      exactly (records (program_of s) v a (r.base - r.used) integer 0 0 n (room_is plain c words before r t S)
      (e ∙ ap (λ (at : ℕ). slots_of s (owner_at s at)) (is ∙ (runs plain c s words before r t q S).placed_at.place))))
