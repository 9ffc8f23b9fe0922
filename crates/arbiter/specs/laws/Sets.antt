-- Which members a set has that is made of others, bit by bit.
use Rattle.std.specs.Prelude.{◌≡◌, refl, ℕ, zero, suc, ◌-◌, ◌*◌, ◌/◌, ◌%◌, ◌^◌, ◌≤◌, ◌<◌, min, max, Bool, false, not, ◌&&◌, ◌||◌, eqb}
use Rattle.std.proofs.Common.{sym, ap, ◌∙◌, pow-suc, not-suc-le-zero, le_of_suc-le-suc, lt_of_lt_of_le, arith, shr-shr, pow_mono}
use Rattle.std.proofs.Math.Nat.{div-eq_of_lt}
use Rattle.std.specs.Int.Bits.{bit_and, bit_or, and_step, or_step}
use Rattle.std.proofs.lemmas.Nat.{and_shr, or_shr}
use Rattle.std.proofs.Math.Dec.{eqb-zero-suc, eqb-suc-zero, eqb-suc-suc}
use Rattle.arbiter.specs.definitions.Rings.{◌has◌}

-- a rule on two bits is its table
both : (f : ℕ → ℕ → ℕ) (g : Bool → Bool → Bool) → eqb (f 0 0) 1 ≡ g (eqb 0 1) (eqb 0 1) → eqb (f 0 1) 1 ≡ g (eqb 0 1) (eqb 1 1)
    → eqb (f 1 0) 1 ≡ g (eqb 1 1) (eqb 0 1) → eqb (f 1 1) 1 ≡ g (eqb 1 1) (eqb 1 1) → (x y : ℕ) → x < 2 → y < 2
    → eqb (f x y) 1 ≡ g (eqb x 1) (eqb y 1)
both f g a b c d zero zero hx hy = a
both f g a b c d zero (suc zero) hx hy = b
both f g a b c d (suc zero) zero hx hy = c
both f g a b c d (suc zero) (suc zero) hx hy = d
both f g a b c d (suc (suc x)) y hx hy = absurd (not-suc-le-zero (le_of_suc-le-suc (le_of_suc-le-suc hx)))
both f g a b c d zero (suc (suc y)) hx hy = absurd (not-suc-le-zero (le_of_suc-le-suc (le_of_suc-le-suc hy)))
both f g a b c d (suc zero) (suc (suc y)) hx hy = absurd (not-suc-le-zero (le_of_suc-le-suc (le_of_suc-le-suc hy)))

and_low : (a b : ℕ) → bit_and a b % 2 ≡ min (a % 2) (b % 2)
and_low a b = omega (arith, and_step a b)

or_low : (a b : ℕ) → bit_or a b % 2 ≡ max (a % 2) (b % 2)
or_low a b = omega (arith, or_step a b)

pub has_and : (a b k : ℕ) → (bit_and a b has k) ≡ (a has k && b has k)
has_and a b k =
    ap (λ (x : ℕ). eqb (x % 2) 1) (and_shr a b k) ∙ ap (λ (x : ℕ). eqb x 1) (and_low (a / 2 ^ k) (b / 2 ^ k))
    ∙ both min ◌&&◌ refl refl refl refl (a / 2 ^ k % 2) (b / 2 ^ k % 2) (omega arith) (omega arith)

pub has_or : (a b k : ℕ) → (bit_or a b has k) ≡ (a has k || b has k)
has_or a b k =
    ap (λ (x : ℕ). eqb (x % 2) 1) (or_shr a b k) ∙ ap (λ (x : ℕ). eqb x 1) (or_low (a / 2 ^ k) (b / 2 ^ k))
    ∙ both max ◌||◌ refl refl refl refl (a / 2 ^ k % 2) (b / 2 ^ k % 2) (omega arith) (omega arith)

-- bit k + 1 of x is bit k of its half
has_half : (x k : ℕ) → (x has suc k) ≡ (x / 2 has k)
has_half x k = ap (λ (y : ℕ). eqb (y % 2) 1) (sym (shr-shr x 1 k ∙ ap (λ (j : ℕ). x / 2 ^ j) (omega arith)))

odd_not : (x y : ℕ) → x < 2 → y ≡ 1 - x → eqb y 1 ≡ not (eqb x 1)
odd_not zero y h e = rw e
odd_not (suc zero) y h e = rw e
odd_not (suc (suc x)) y h e = absurd (not-suc-le-zero (le_of_suc-le-suc (le_of_suc-le-suc h)))

-- the complement at w bits
pub has_not : (w x k : ℕ) → x < 2 ^ w → k < w → (2 ^ w - 1 - x has k) ≡ not (x has k)
has_not zero x k h hk = absurd (not-suc-le-zero hk)
has_not (suc w) x zero h hk =
    let e : 2 ^ suc w ≡ 2 ^ w * 2 = pow-suc 2 w in
    odd_not (x / 2 ^ 0 % 2) ((2 ^ suc w - 1 - x) / 2 ^ 0 % 2) (omega arith) (omega arith)
has_not (suc w) x (suc k) h hk =
    let e : 2 ^ suc w ≡ 2 ^ w * 2 = pow-suc 2 w in
    let half : (2 ^ suc w - 1 - x) / 2 ≡ 2 ^ w - 1 - x / 2 = omega arith in
    has_half (2 ^ suc w - 1 - x) k ∙ ap (λ (y : ℕ). y has k) half
    ∙ has_not w (x / 2) k (omega arith) (le_of_suc-le-suc hk)
    ∙ ap not (sym (has_half x k))

-- no member of a set is as high as a power of two that it is below
pub has_none : (w x k : ℕ) → x < 2 ^ w → w ≤ k → (x has k) ≡ false
has_none w x k h hk = ap (λ (y : ℕ). eqb (y % 2) 1) (div-eq_of_lt (lt_of_lt_of_le h (pow_mono hk)))

-- the set of one member
pub has_one : (m k : ℕ) → (2 ^ m has k) ≡ eqb k m
has_one zero zero = refl
has_one zero (suc k) = has_half 1 k ∙ has_none 0 0 k (omega arith) (omega arith) ∙ sym (eqb-suc-zero k)
has_one (suc m) zero =
    let e : 2 ^ suc m ≡ 2 ^ m * 2 = pow-suc 2 m in
    let even : 2 ^ suc m / 2 ^ 0 % 2 ≡ 0 = omega arith in ap (λ (x : ℕ). eqb x 1) even ∙ sym (eqb-zero-suc m)
has_one (suc m) (suc k) =
    let e : 2 ^ suc m ≡ 2 ^ m * 2 = pow-suc 2 m in
    let half : 2 ^ suc m / 2 ≡ 2 ^ m = omega arith in
    has_half (2 ^ suc m) k ∙ ap (λ (x : ℕ). x has k) half ∙ has_one m k ∙ sym (eqb-suc-suc k m)
