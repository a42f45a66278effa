use mathlib.Core.Path.{◌≡◌, refl, sym, ap}
use Prim.Native.Nat.{ℕ, zero, suc}
use lib.IntN.{pos}
use Rattle.checker.specs.declared.calls.Answer.TheVariants.{Moved}
use Rattle.checker.specs.Calls.{meant}
use Rattle.checker.proofs.calls.counted.Goals as goal

some : (n : ℕ) → (n ≡ 0 → ⊥) → Moved n ≡ meant (pos n) (pos 0)
unfolding meant
some zero h = absurd (h refl)
some (suc n) h = refl

pub returns-then-n-eq0 : goal.returns-then-n-eq0
unfolding meant
returns-then-n-eq0 c = ap (λ (n : ℕ). meant (pos n) (pos 0)) (sym c.if-n-eq0.true)

pub returns-else-n-eq0 : goal.returns-else-n-eq0
returns-else-n-eq0 c = some c.args.n c.if-n-eq0.false
