-- Granules of 2 to the k addresses: the ends of a window between two of them fit where an address does.
use mathlib.Core.Path.{◌≡◌, sym, ap, subst, ◌∙◌}
use Prim.Native.Nat.{ℕ, ◌+◌, ◌-◌, ◌*◌, ◌/◌, ◌%◌, ◌^◌, ◌<◌}
use native.Mathlib.Omega.{arith}
use lib.Arith.{digits_lt}
use lib.Pow.{pow-add, shl_lt, shr_lt, ones_lt}
use Rattle.std.proofs.lemmas.Nat.{one_shl}

module _ (k : ℕ) (h : k < 32) where
  whole : 64 - k + k ≡ 64
  whole = omega arith

  size : 1 * 2 ^ k % 2 ^ 64 ≡ 2 ^ k
  size = one_shl k 64 (omega arith)

  pub granule_fits : (value : ℕ) → value < 2 ^ 64 → value / 2 ^ k < 2 ^ (64 - k)
  granule_fits value fits = shr_lt (64 - k) k (subst (λ (n : ℕ). value < 2 ^ n) (sym whole) fits)

  module _ (at : ℕ) (fits : at < 2 ^ (64 - k)) where
    pub first_fits : at * (1 * 2 ^ k % 2 ^ 64) < 2 ^ 64
    first_fits = rw size (subst (λ (n : ℕ). at * 2 ^ k < 2 ^ n) whole (shl_lt (64 - k) k fits))

    pub last_fits : at * (1 * 2 ^ k % 2 ^ 64) + (1 * 2 ^ k % 2 ^ 64 - 1) < 2 ^ 64
    last_fits =
        rw size
        (subst (λ (n : ℕ). at * 2 ^ k + (2 ^ k - 1) < n) (sym (pow-add 2 (64 - k) k) ∙ ap (λ (n : ℕ). 2 ^ n) whole)
        (digits_lt fits (ones_lt k)))
