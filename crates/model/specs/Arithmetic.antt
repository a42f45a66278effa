-- The three operations that make one integer of two (document 01, "Instructions": add, subtract, less).
use Rattle.std.specs.Prelude.{ℕ, ◌≡◌, ltb}
use mathlib.Core.Path.{refl}
use Rattle.model.specs.Outcome.{◌>>=◌}
use Rattle.model.specs.Program.{Program}
use Rattle.model.specs.Modes.{Mode}
use Rattle.model.specs.Machine.{View, plan, integers, gives, plus, minus, flag}
use Rattle.model.specs.declared.Operation.{Operation}
use Rattle.model.specs.declared.Operation.TheVariants.{Add, Subtract, Less}

abbrev pub below : ℕ → ℕ → ℕ
below m n = flag (ltb m n)

-- an operation gives variable a what `of` makes of the integers in b and c
abbrev pub Planned : (ℕ → ℕ → ℕ → Operation) → (ℕ → ℕ → ℕ) → Type 0
Planned operation of =
    (m : Mode) (g : Program) (v : View m) (a b c : ℕ) → plan m g v (operation a b c) ≡ (integers m g v b c >>= λ n. gives m g v a (of n.0 n.1))

pub sum_planned : Planned Add plus
unfolding plan
sum_planned m g v a b c = refl

pub difference_planned : Planned Subtract minus
unfolding plan
difference_planned m g v a b c = refl

pub comparison_planned : Planned Less below
unfolding plan
comparison_planned m g v a b c = refl
