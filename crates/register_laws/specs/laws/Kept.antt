-- Bits that a byte keeps: the fixed ones under a write, and those outside a mask that is set.
use Rattle.std.specs.Prelude.{◌≡◌, refl, ℕ, zero, suc, ◌-◌, ◌^◌, ◌<◌, min, max}
use Rattle.std.proofs.Common.{sym, ap, ◌∙◌, lt_of_le_of_lt, arith}
use Rattle.std.specs.Int.Bits.{bit_and, bit_or}
use Rattle.std.proofs.lemmas.Nat.{and_le_r, or_lt}
use Rattle.register_header.specs.laws.Bits.{bit, bit_lt, bit_and_lem, bit_or_lem, bit_not, bit_of_zero, both_bits, ext_bits}
use Rattle.register_header.specs.definitions.Byte.{written_byte}
use Rattle.register_header.specs.laws.ByteLaws.{kept}

-- two numbers that agree at each bit of a byte x agree under x
and_ext : (a b x : ℕ) → x < 2 ^ 8 → ((k : ℕ) → k < 8 → min (bit a k) (bit x k) ≡ min (bit b k) (bit x k))
    → bit_and a x ≡ bit_and b x
and_ext a b x hx h =
    ext_bits 8 (bit_and a x) (bit_and b x) (lt_of_le_of_lt (and_le_r a x) hx) (lt_of_le_of_lt (and_le_r b x) hx)
    (λ k hk. bit_and_lem a x k ∙ h k hk ∙ sym (bit_and_lem b x k))

-- and the other way round
and_bits : (a b x k : ℕ) → bit_and a x ≡ bit_and b x → min (bit a k) (bit x k) ≡ min (bit b k) (bit x k)
and_bits a b x k e = sym (bit_and_lem a x k) ∙ ap (λ (y : ℕ). bit y k) e ∙ bit_and_lem b x k

-- nothing shows under a mask of fixed bits where c is set
hidden : (a b w c : ℕ) → c ≡ 1 → min a (1 - max w c) ≡ min b (1 - max w c)
hidden a b w c e = omega arith

-- a bit that the masks do not have is the reset value's, and where it has none either 0
one_unused : (a r m x : ℕ) → a < 2 → min a (1 - m) ≡ min r (1 - m) → min x (max m r) ≡ 0 → min a x ≡ min 0 x
one_unused a r m zero ha fixed none = least a
  where
    least : (b : ℕ) → min b 0 ≡ min 0 0
    least b = omega arith
one_unused a r m (suc x) ha fixed none = rw (zero_of ha fixed (meets x (max m r) none))
  where
    meets : (y z : ℕ) → min (suc y) z ≡ 0 → z ≡ 0
    meets y z e = omega arith

    zero_of : a < 2 → min a (1 - m) ≡ min r (1 - m) → max m r ≡ 0 → a ≡ 0
    zero_of h f e = omega arith

module _ (w c : ℕ) (hw : w < 2 ^ 8) (hc : c < 2 ^ 8) where
  fixed_bit : (k : ℕ) → k < 8 → bit (255 - bit_or w c) k ≡ 1 - max (bit w k) (bit c k)
  fixed_bit k hk = bit_not 8 (bit_or w c) k (or_lt 8 w c hw hc) hk ∙ ap (λ (b : ℕ). 1 - b) (bit_or_lem w c k)

  -- a write changes no bit outside both masks
  pub fixed_kept : (old put : ℕ) → put < 2 ^ 8
      → bit_and (written_byte old put w c) (255 - bit_or w c) ≡ bit_and old (255 - bit_or w c)
  fixed_kept old put hp =
      and_ext (written_byte old put w c) old (255 - bit_or w c) (omega arith) (λ k hk. rw (fixed_bit k hk) (at_bit k hk))
    where
      at_bit : (k : ℕ) → k < 8
          → min (bit (written_byte old put w c) k) (1 - max (bit w k) (bit c k)) ≡ min (bit old k) (1 - max (bit w k) (bit c k))
      at_bit k hk =
          let G : Type 0 = min (bit (written_byte old put w c) k) (1 - max (bit w k) (bit c k)) ≡ min (bit old k) (1 - max (bit w k) (bit c k)) in
          both_bits (λ (x : ℕ). bit w k ≡ x → G)
          (λ ew.
          both_bits (λ (y : ℕ). bit c k ≡ y → G)
          (λ ec. ap (λ (z : ℕ). min z (1 - max (bit w k) (bit c k))) (kept old put w c k hp hw hc hk ew ec))
          (λ ec. omega arith) (bit c k) (bit_lt c k) refl)
          (λ ew. omega arith) (bit w k) (bit_lt w k) refl

  -- what agrees outside one mask agrees outside both
  pub narrow : (a b : ℕ) → bit_and a (255 - c) ≡ bit_and b (255 - c) → bit_and a (255 - bit_or w c) ≡ bit_and b (255 - bit_or w c)
  narrow a b e = and_ext a b (255 - bit_or w c) (omega arith) (λ k hk. rw (fixed_bit k hk) (at_bit k hk))
    where
      at_bit : (k : ℕ) → k < 8 → min (bit a k) (1 - max (bit w k) (bit c k)) ≡ min (bit b k) (1 - max (bit w k) (bit c k))
      at_bit k hk =
          let r : min (bit a k) (1 - bit c k) ≡ min (bit b k) (1 - bit c k) = rw (bit_not 8 c k hc hk) at (and_bits a b (255 - c) k e) in
          let G : Type 0 = min (bit a k) (1 - max (bit w k) (bit c k)) ≡ min (bit b k) (1 - max (bit w k) (bit c k)) in
          both_bits (λ (y : ℕ). bit c k ≡ y → G)
          (λ ec. let same : bit a k ≡ bit b k = omega (arith, bit_lt a k, bit_lt b k) in rw same)
          (hidden (bit a k) (bit b k) (bit w k) (bit c k)) (bit c k) (bit_lt c k) refl

  -- bits that neither the masks nor the reset value have are 0 where the fixed bits are the reset value's
  pub unused_zero : (a reset x : ℕ) → x < 2 ^ 8 → bit_and x (bit_or (bit_or w c) reset) ≡ 0
      → bit_and a (255 - bit_or w c) ≡ bit_and reset (255 - bit_or w c) → bit_and a x ≡ 0
  unused_zero a reset x hx unused e = and_ext a 0 x hx (λ k hk. at_bit k hk)
    where
      at_bit : (k : ℕ) → k < 8 → min (bit a k) (bit x k) ≡ min (bit 0 k) (bit x k)
      at_bit k hk =
          let fixed : min (bit a k) (1 - max (bit w k) (bit c k)) ≡ min (bit reset k) (1 - max (bit w k) (bit c k)) =
          rw (fixed_bit k hk) at (and_bits a reset (255 - bit_or w c) k e) in
          let none : min (bit x k) (max (max (bit w k) (bit c k)) (bit reset k)) ≡ 0 =
          sym (bit_and_lem x (bit_or (bit_or w c) reset) k ∙ rw (bit_or_lem, bit_or_lem)) ∙ ap (λ (y : ℕ). bit y k) unused ∙ bit_of_zero k in
          one_unused (bit a k) (bit reset k) (max (bit w k) (bit c k)) (bit x k) (bit_lt a k) fixed none ∙ rw (bit_of_zero k)

-- bits set outside x change nothing under x
pub or_outside : (old m x : ℕ) → x < 2 ^ 8 → bit_and m x ≡ 0 → bit_and (bit_or old m) x ≡ bit_and old x
or_outside old m x hx e = and_ext (bit_or old m) old x hx (λ k hk. rw (bit_or_lem old m k) (at_bit k))
  where
    at_bit : (k : ℕ) → min (max (bit old k) (bit m k)) (bit x k) ≡ min (bit old k) (bit x k)
    at_bit k =
        let z : min (bit m k) (bit x k) ≡ 0 = sym (bit_and_lem m x k) ∙ ap (λ (y : ℕ). bit y k) e ∙ bit_of_zero k in
        omega (arith, bit_lt old k, bit_lt x k, bit_lt m k)
