-- What a write leaves, bit by bit: kept outside both masks, taken under write, cleared under clear.
use Rattle.std.specs.Prelude.{◌≡◌, refl, ℕ, ◌-◌, ◌^◌, ◌<◌, min, max}
use Rattle.std.proofs.Common.{◌∙◌, lt_of_le_of_lt, lit<}
use Rattle.std.specs.Int.Bits.{bit_and, bit_or}
use Rattle.std.proofs.lemmas.Nat.{and_le_l, or_lt}
use Rattle.register_header.specs.laws.Bits.{bit, bit_lt, bit_and_lem, bit_or_lem, bit_not, bit_of_zero, both_bits, ext_bits}
use Rattle.register_header.specs.definitions.Byte.{written_byte}

-- one bit of the same, in numbers 0 and 1
abbrev pub written_bit : ℕ → ℕ → ℕ → ℕ → ℕ
written_bit old put write clear = max (max (min old (1 - max write clear)) (min put write)) (min (min old clear) (1 - put))

-- the rule at a bit is a table of four rows for each kind of mask, which antt computes
module _ (o p : ℕ) (ho : o < 2) (hp : p < 2) where
  kept_bit : written_bit o p 0 0 ≡ o
  kept_bit =
      both_bits (λ (x : ℕ). written_bit x p 0 0 ≡ x) (both_bits (λ (y : ℕ). written_bit 0 y 0 0 ≡ 0) refl refl p hp)
      (both_bits (λ (y : ℕ). written_bit 1 y 0 0 ≡ 1) refl refl p hp) o ho

  taken_bit : written_bit o p 1 0 ≡ p
  taken_bit =
      both_bits (λ (x : ℕ). written_bit x p 1 0 ≡ p) (both_bits (λ (y : ℕ). written_bit 0 y 1 0 ≡ y) refl refl p hp)
      (both_bits (λ (y : ℕ). written_bit 1 y 1 0 ≡ y) refl refl p hp) o ho

  cleared_bit : written_bit o p 0 1 ≡ min o (1 - p)
  cleared_bit =
      both_bits (λ (x : ℕ). written_bit x p 0 1 ≡ min x (1 - p)) (both_bits (λ (y : ℕ). written_bit 0 y 0 1 ≡ min 0 (1 - y)) refl refl p hp)
      (both_bits (λ (y : ℕ). written_bit 1 y 0 1 ≡ min 1 (1 - y)) refl refl p hp) o ho

module _ (old put write clear k : ℕ) (hp : put < 2 ^ 8) (hw : write < 2 ^ 8) (hc : clear < 2 ^ 8) (hk : k < 8) where
  pub bit_written : bit (written_byte old put write clear) k ≡ written_bit (bit old k) (bit put k) (bit write k) (bit clear k)
  bit_written =
      rw (bit_or_lem, bit_or_lem, bit_and_lem old, bit_and_lem put, bit_and_lem (bit_and old clear), bit_and_lem old, bit_not 8 (bit_or write clear) k (or_lt 8 write clear hw hc) hk, bit_or_lem, bit_not 8 put k hp hk)

  -- a bit outside both masks keeps its value
  pub kept : bit write k ≡ 0 → bit clear k ≡ 0 → bit (written_byte old put write clear) k ≡ bit old k
  kept w c = rw (bit_written, w, c) (kept_bit _ _ (bit_lt old k) (bit_lt put k))

  -- a bit under write alone is put's
  pub taken : bit write k ≡ 1 → bit clear k ≡ 0 → bit (written_byte old put write clear) k ≡ bit put k
  taken w c = rw (bit_written, w, c) (taken_bit _ _ (bit_lt old k) (bit_lt put k))

  -- a bit under clear alone is the old one, and not put's
  pub cleared : bit write k ≡ 0 → bit clear k ≡ 1 → bit (written_byte old put write clear) k ≡ min (bit old k) (1 - bit put k)
  cleared w c = rw (bit_written, w, c) (cleared_bit _ _ (bit_lt old k) (bit_lt put k))

-- what is left is a byte, where the old one and what is written are
pub written_lt : (old put write clear : ℕ) → old < 2 ^ 8 → put < 2 ^ 8 → written_byte old put write clear < 2 ^ 8
written_lt old put write clear ho hp =
    or_lt 8 _ _ (or_lt 8 _ _ (lt_of_le_of_lt (and_le_l old _) ho) (lt_of_le_of_lt (and_le_l put write) hp))
    (lt_of_le_of_lt (and_le_l (bit_and old clear) (255 - put)) (lt_of_le_of_lt (and_le_l old clear) ho))

-- a write of what was there before undoes a write, whatever the mask, where no bit is cleared
pub restored : (old put write : ℕ) → old < 2 ^ 8 → put < 2 ^ 8 → write < 2 ^ 8 → written_byte (written_byte old put write 0) old write 0 ≡ old
restored old put write ho hp hw =
    ext_bits 8 _ _ (written_lt (written_byte old put write 0) old write 0 (written_lt old put write 0 ho hp) ho) ho
    (λ k hk.
    both_bits (λ (b : ℕ). bit write k ≡ b → bit (written_byte (written_byte old put write 0) old write 0) k ≡ bit old k)
    (λ w.
    kept (written_byte old put write 0) old write 0 k ho hw (lit< tt) hk w (bit_of_zero k)
    ∙ kept old put write 0 k hp hw (lit< tt) hk w (bit_of_zero k))
    (λ w. taken (written_byte old put write 0) old write 0 k ho hw (lit< tt) hk w (bit_of_zero k))
    (bit write k)
    (bit_lt write k)
    refl)
