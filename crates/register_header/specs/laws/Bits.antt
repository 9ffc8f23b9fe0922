-- The bits of a number, and what bit_and, bit_or and a complement are at each bit. One law for every width.
use Rattle.std.specs.Prelude.{◌≡◌, ℕ, zero, suc, ◌-◌, ◌*◌, ◌/◌, ◌%◌, ◌^◌, ◌<◌, min, max}
use Rattle.std.proofs.Common.{sym, ap, ◌∙◌, pow-suc, not-suc-le-zero, le_of_suc-le-suc, arith, shr-shr}
use Rattle.std.specs.Int.Bits.{bit_and, bit_or, and_step, or_step}
use Rattle.std.proofs.lemmas.Nat.{and_shr, or_shr}

-- bit k of x, 0 or 1
unfoldable pub bit : ℕ → ℕ → ℕ
bit x k = x / 2 ^ k % 2

pub bit_lt : (x k : ℕ) → bit x k < 2
unfolding bit
bit_lt x k = omega arith

and_low : (a b : ℕ) → bit_and a b % 2 ≡ min (a % 2) (b % 2)
and_low a b = omega (arith, and_step a b)

or_low : (a b : ℕ) → bit_or a b % 2 ≡ max (a % 2) (b % 2)
or_low a b = omega (arith, or_step a b)

pub bit_and_lem : (a b k : ℕ) → bit (bit_and a b) k ≡ min (bit a k) (bit b k)
unfolding bit
bit_and_lem a b k = ap (λ (x : ℕ). x % 2) (and_shr a b k) ∙ and_low (a / 2 ^ k) (b / 2 ^ k)

pub bit_or_lem : (a b k : ℕ) → bit (bit_or a b) k ≡ max (bit a k) (bit b k)
unfolding bit
bit_or_lem a b k = ap (λ (x : ℕ). x % 2) (or_shr a b k) ∙ or_low (a / 2 ^ k) (b / 2 ^ k)

-- bit k + 1 of x is bit k of its half
pub bit_half : (x k : ℕ) → bit x (suc k) ≡ bit (x / 2) k
unfolding bit
bit_half x k = ap (λ (y : ℕ). y % 2) (sym (shr-shr x 1 k ∙ ap (λ (j : ℕ). x / 2 ^ j) (omega arith)))

-- bit 0 is the remainder
pub bit_zero : (x : ℕ) → bit x zero ≡ x % 2
unfolding bit
bit_zero x = omega arith

-- the complement at w bits
pub bit_not : (w x k : ℕ) → x < 2 ^ w → k < w → bit (2 ^ w - 1 - x) k ≡ 1 - bit x k
bit_not zero x k h hk = absurd (not-suc-le-zero hk)
bit_not (suc w) x zero h hk =
    omega (arith, pow-suc 2 w, bit_zero (2 ^ suc w - 1 - x), bit_zero x)
bit_not (suc w) x (suc k) h hk =
    let e : 2 ^ suc w ≡ 2 ^ w * 2 = pow-suc 2 w in
    let half : (2 ^ suc w - 1 - x) / 2 ≡ 2 ^ w - 1 - x / 2 = omega arith in
    bit_half (2 ^ suc w - 1 - x) k ∙ ap (λ (y : ℕ). bit y k) half
    ∙ bit_not w (x / 2) k (omega arith) (le_of_suc-le-suc hk)
    ∙ ap (λ (b : ℕ). 1 - b) (sym (bit_half x k))

-- two numbers below 2 ^ w that agree at every bit are equal
pub ext_bits : (w x y : ℕ) → x < 2 ^ w → y < 2 ^ w → ((k : ℕ) → k < w → bit x k ≡ bit y k) → x ≡ y
ext_bits zero x y hx hy e = omega arith
ext_bits (suc w) x y hx hy e =
    let p : 2 ^ suc w ≡ 2 ^ w * 2 = pow-suc 2 w in
    let half : x / 2 ≡ y / 2 =
    ext_bits w (x / 2) (y / 2) (omega arith) (omega arith)
    (λ k hk. sym (bit_half x k) ∙ e (suc k) (omega arith) ∙ bit_half y k) in
    omega (arith, bit_zero x, bit_zero y, e zero (omega arith))

-- what holds of 0 and of 1 holds of each number below 2: a rule on bits is its table
pub both_bits : (P : ℕ → Type 0) → P 0 → P 1 → (x : ℕ) → x < 2 → P x
both_bits P p q zero h = p
both_bits P p q (suc zero) h = q
both_bits P p q (suc (suc x)) h = absurd (not-suc-le-zero (le_of_suc-le-suc (le_of_suc-le-suc h)))

pub bit_of_zero : (k : ℕ) → bit 0 k ≡ 0
bit_of_zero zero = bit_zero 0
bit_of_zero (suc k) = bit_half 0 k ∙ bit_of_zero k
