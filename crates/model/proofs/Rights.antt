-- Laws of sets of rights, over any width.
use Prim.Native.Nat.{ℕ, zero, suc, ◌+◌, ◌*◌, ◌-◌, ◌/◌, ◌%◌, ◌≤◌, ◌^◌, min}
use mathlib.Core.Path.{◌≡◌, ap, sym, ◌∙◌}
use mathlib.Core.Bool.{true}
use native.Mathlib.Omega.{arith}
use native.Mathlib.Nat.{zero-mul, div-add-mod', pow-succ', div-div-eq-div-mul}
use lib.Arith.{bin_ind}
use lib.Bits.{bit_and, and_step, and_le_l, and_self, and_zero_l, and_mask}
use borrow.Author.Tests.{eq-eqb, eqb-true}
use Rattle.model.specs.Rights.{Rights, within, has, none_above, record_rights}

-- a subset, one digit at a time
record Digit (a b : ℕ) : Type 0 where
  low : a % 2 ≤ b % 2
  high : bit_and (a / 2) (b / 2) ≡ a / 2

digit : (a b x : ℕ) → bit_and a b ≡ x * 2 + min (a % 2) (b % 2) → x ≤ a / 2 → bit_and a b ≡ a → (a % 2 ≤ b % 2) × (x ≡ a / 2)
digit a b x e l h = omega arith

digit_of : (a b : ℕ) → bit_and a b ≡ a → Digit a b
digit_of a b h =
    let d = digit a b (bit_and (a / 2) (b / 2)) (and_step a b) (and_le_l (a / 2) (b / 2)) h in
    record { low = d.0; high = d.1 }

undigit : (a b x : ℕ) → bit_and a b ≡ x * 2 + min (a % 2) (b % 2) → x ≡ a / 2 → a % 2 ≤ b % 2 → bit_and a b ≡ a
undigit a b x e h l = omega arith

of_digit : (a b : ℕ) → Digit a b → bit_and a b ≡ a
of_digit a b d = undigit a b (bit_and (a / 2) (b / 2)) (and_step a b) d.high d.low

and_trans : (a b c : ℕ) → bit_and a b ≡ a → bit_and b c ≡ b → bit_and a c ≡ a
and_trans =
    bin_ind (λ (a : ℕ). (b c : ℕ) → bit_and a b ≡ a → bit_and b c ≡ b → bit_and a c ≡ a) (λ b c h k. and_zero_l c)
    (λ a ih b c h k. let d = digit_of a b h in let e = digit_of b c k in
    of_digit a c (record { low = omega (arith, d.low, e.low); high = ih (b / 2) (c / 2) d.high e.high }))

pub within_refl : (a : Rights) → within a a ≡ true
unfolding within
within_refl a = eq-eqb (bit_and a a) a (and_self a)

pub within_trans : (a b c : Rights) → within a b ≡ true → within b c ≡ true → within a c ≡ true
unfolding within
within_trans a b c h k = eq-eqb (bit_and a c) a (and_trans a b c (eqb-true (bit_and a b) a h) (eqb-true (bit_and b c) b k))

-- a right of a subset is one of the set
digit_up : (i a : ℕ) → a / 2 ^ suc i ≡ a / 2 / 2 ^ i
digit_up i a = ap (λ (x : ℕ). a / x) (pow-succ' 2 i) ∙ sym (div-div-eq-div-mul a 2 (2 ^ i))

and_has : (i a b : ℕ) → bit_and a b ≡ a → a / 2 ^ i % 2 ≡ 1 → b / 2 ^ i % 2 ≡ 1
and_has zero a b h k = let d = (digit_of a b h).low in omega arith
and_has (suc i) a b h k =
    ap (λ (x : ℕ). x % 2) (digit_up i b) ∙ and_has i (a / 2) (b / 2) (digit_of a b h).high (ap (λ (x : ℕ). x % 2) (sym (digit_up i a)) ∙ k)

pub within_has : (i : ℕ) (a b : Rights) → within a b ≡ true → has i a ≡ true → has i b ≡ true
unfolding within has
within_has i a b h k = eq-eqb (b / 2 ^ i % 2) 1 (and_has i a b (eqb-true (bit_and a b) a h) (eqb-true (a / 2 ^ i % 2) 1 k))

-- "Declared type: bits 0..n": what has no right above n is within all rights
pub within_all : (n : ℕ) (a : Rights) → none_above n a ≡ true → within a (record_rights n) ≡ true
unfolding within none_above record_rights
within_all n a h =
    let z : a / 2 ^ (n + 1) * 2 ^ (n + 1) ≡ 0 = ap (λ (x : ℕ). x * 2 ^ (n + 1)) (eqb-true (a / 2 ^ (n + 1)) 0 h) ∙ zero-mul (2 ^ (n + 1)) in
    eq-eqb (bit_and a (2 ^ (n + 1) - 1)) a (and_mask a (n + 1) ∙ omega (arith, div-add-mod' a (2 ^ (n + 1))))
