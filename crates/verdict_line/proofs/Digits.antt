-- The digits that io's `decimal` writes are those of the definition.
use native.Mathlib.Omega.{arith}
use native.Mathlib.Nat.{mod-lt, div-lt_iff_lt-mul, le-div_iff_mul-le, pow-suc, pow-le-pow_right, one-le-pow, le_of_suc-le-suc, lt_of_not-le}
use mathlib.Core.Path.{◌≡◌, ap, subst, ◌∙◌}
use mathlib.Core.Bool.{Bool, cond}
use mathlib.Core.List.{List, [], ◌∷◌, ◌++◌}
use Prim.Native.Nat.{ℕ, zero, suc, ◌+◌, ◌*◌, ◌/◌, ◌%◌, ◌^◌, ◌-◌, ◌≤◌, ◌<◌}
use borrow.Author.Tests.{lt-ltb, le-ltb}
use Rattle.io.specs.Digits.{last_digits, hex_digit_ascii, IsDigitCount}
use Rattle.verdict_line.specs.Line.{digits_within, decimal}

glyph_digit : (n : ℕ) → hex_digit_ascii (n % 10) ≡ 48 + n % 10
glyph_digit n = ap (λ (b : Bool). cond b (48 + n % 10) (87 + n % 10)) (lt-ltb (n % 10) 10 (mod-lt n (omega arith)))

-- the least number of so many digits
least : (n k : ℕ) → IsDigitCount 10 1 n (suc (suc k)) → 10 ^ k * 10 ≤ n
least n k f =
    let e : suc (suc k) - 1 ≡ suc k = omega arith in
    subst (λ (p : ℕ). p ≤ n) (pow-suc 10 k) (subst (λ (j : ℕ). 10 ^ j ≤ n) e (f.2 (omega arith)))

-- a number of more than one digit without its last one
fewest_less : (n k : ℕ) → IsDigitCount 10 1 n (suc (suc k)) → IsDigitCount 10 1 (n / 10) (suc k)
fewest_less n k f =
    let below : n < 10 ^ suc k * 10 = subst (λ (p : ℕ). n < p) (pow-suc 10 (suc k)) f.1 in
    let above : 10 ^ k * 10 ≤ n = least n k f in
    let e : k ≡ suc k - 1 = omega arith in
    let kept : 10 ^ k ≤ n / 10 = (le-div_iff_mul-le {k = 10} {x = 10 ^ k} {y = n} (omega arith)).1 above in
    (omega arith, (div-lt_iff_lt-mul {k = 10} {x = n} {y = 10 ^ suc k} (omega arith)).1 below, λ more. subst (λ (j : ℕ). 10 ^ j ≤ n / 10) e kept)

within : (most n r : ℕ) → r ≤ most → IsDigitCount 10 1 n r → last_digits 10 r n ≡ digits_within most n
unfolding digits_within
within most n zero h f = absurd (let z : 1 ≤ 0 = f.0 in omega arith)
within zero n (suc r) h f = absurd (omega arith)
within (suc most) n (suc zero) h f =
    let small : n < 10 = f.1 in rw (lt-ltb n 10 small, glyph_digit n)
within (suc most) n (suc (suc k)) h f =
    let rest = within most (n / 10) (suc k) (omega arith) (fewest_less n k f) in
    let large : 10 ≤ n = omega (arith, least n k f, one-le-pow k 10 (omega arith)) in
    ap (λ (d : List ℕ). d ++ (hex_digit_ascii (n % 10) ∷ [])) rest ∙ rw (le-ltb n 10 large, glyph_digit n)

-- more than twenty digits are too many for 64 bits
too_many : (n r : ℕ) → n < 2 ^ 64 → IsDigitCount 10 1 n r → 20 < r → ⊥
too_many n r h f over =
    let p : 10 ^ (r - 1) ≤ n = f.2 (omega arith) in
    let q : 10 ^ 20 ≤ 10 ^ (r - 1) = pow-le-pow_right {n = 10} (omega arith) {i = 20} {j = r - 1} (omega arith) in
    omega arith

pub few : (n r : ℕ) → n < 2 ^ 64 → IsDigitCount 10 1 n r → r ≤ 20
few n r h f = le_of_suc-le-suc (lt_of_not-le (too_many n r h f))

pub digits_decimal : (n r : ℕ) → n < 2 ^ 64 → IsDigitCount 10 1 n r → last_digits 10 r n ≡ decimal n
unfolding decimal
digits_decimal n r h f = within 20 n r (few n r h f) f
