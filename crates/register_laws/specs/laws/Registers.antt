-- Laws of one node's 64 register bytes: what a write, a read and a reset leave at each.
use Rattle.std.specs.Prelude.{◌≡◌, ◌≢◌, Bool, ◌&&◌, cond, List, ltb, eqb, get_or}
use Rattle.std.proofs.Math.Path.{refl}
use Rattle.std.proofs.Common.{sym, ap, ◌∙◌, not-suc-le-zero, le_of_suc-le-suc, get_or-set_same, lt-ltb, le-ltb, ltb-true, ltb-false}
use Rattle.std.proofs.Math.Bool.{true, false}
use Prim.Native.Nat.{ℕ, zero, suc, ◌+◌, ◌-◌, ◌/◌, ◌%◌, ◌^◌, ◌≤◌, ◌<◌}
use native.Mathlib.Omega.{arith}
use Rattle.std.specs.Int.Bits.{bit_and}
use Rattle.std.proofs.Math.ListN.{length, length-set, get_or-eq_default}
use Rattle.std.proofs.Math.Seq.{get_or-set_other, set_out}
use Rattle.rack.specs.declared.Node.{Node}
use Rattle.register_header.specs.declared.Side.{Side}
use Rattle.register_header.specs.declared.StatusBit.{StatusBit}
use Rattle.register_header.specs.definitions.Byte.{written_byte}
use Rattle.register_header.specs.definitions.Mask.{byte_of, write_mask, clear_mask, fixed_mask, reset_byte}
use Rattle.register_header.specs.definitions.Register.{read_register, write_byte, write_dword, write_register, set_status}
use Rattle.register_image.specs.definitions.Reset.{reset_from, reset_part}
use Rattle.rack.specs.laws.Bools.{tested}
use Rattle.register_header.proofs.Disjoint.{write_lt, clear_lt}
use Rattle.register_laws.specs.laws.Kept.{fixed_kept}

-- what a byte of a part becomes: where it is written, put by its masks
abbrev pub byte_after : Node → List ℕ → ℕ → Bool → ℕ → ℕ
byte_after n part at on put = cond on (written_byte (get_or part at 0) put (write_mask n at) (clear_mask n at)) (get_or part at 0)

module _ (n : Node) (part : List ℕ) (at : ℕ) where
  byte_length : (on : Bool) (put : ℕ) → length (write_byte n part at on put) ≡ length part
  unfolding write_byte
  byte_length true put = simp length-set
  byte_length false put = refl

  byte_same : (on : Bool) (put : ℕ)
      → get_or (write_byte n part at on put) at 0 ≡ byte_after n part at (ltb at (length part) && on) put
  unfolding write_byte
  byte_same true put =
      tested (ltb at (length part)) (λ q. rw q (get_or-set_same part at _ 0 (ltb-true at _ q)))
      (λ q. rw (q, set_out part at _ (ltb-false at _ q)))
  byte_same false put = tested (ltb at (length part)) (λ q. rw q) (λ q. rw q)

  byte_other : (on : Bool) (put k : ℕ) → k ≢ at → get_or (write_byte n part at on put) k 0 ≡ get_or part k 0
  unfolding write_byte
  byte_other true put k ne = get_or-set_other part at k _ 0 ne
  byte_other false put k ne = refl

module _ (n : Node) (part : List ℕ) (at enables put : ℕ) where
  -- a write of four bytes keeps the part's length
  pub dword_length : length (write_dword n part at enables put) ≡ length part
  unfolding write_dword
  dword_length = simp byte_length

  -- outside the four bytes nothing changes
  pub dword_off : (j : ℕ) → ((k : ℕ) → k < 4 → j ≢ at + k) → get_or (write_dword n part at enables put) j 0 ≡ get_or part j 0
  unfolding write_dword
  dword_off j ne =
      let n0 : j ≢ at = omega (arith, ne 0 (omega arith)) in
      let n1 : j ≢ at + 1 = ne 1 (omega arith) in
      let n2 : j ≢ at + 2 = ne 2 (omega arith) in
      let n3 : j ≢ at + 3 = ne 3 (omega arith) in
      simp byte_other

  -- byte k of the four takes byte k of put where bit k of the enables is set
  pub dword_at_lem : (k : ℕ) → k < 4 → at + k < length part
      → get_or (write_dword n part at enables put) (at + k) 0 ≡ byte_after n part (at + k) (eqb (enables / 2 ^ k % 2) 1) (byte_of put k)
  unfolding write_dword
  dword_at_lem zero hk h =
      let e : at + 0 ≡ at = omega arith in
      let d : enables / 1 ≡ enables = omega arith in
      let d' : put / 1 ≡ put = omega arith in
      let l : at < length part = omega arith in
      let n1 : at ≢ at + 1 = omega arith in
      let n2 : at ≢ at + 2 = omega arith in
      let n3 : at ≢ at + 3 = omega arith in
      rw (e, d, d') (simp (byte_other, byte_same, lt-ltb))
  dword_at_lem (suc zero) hk h =
      let n0 : at + 1 ≢ at = omega arith in
      let n2 : at + 1 ≢ at + 2 = omega arith in
      let n3 : at + 1 ≢ at + 3 = omega arith in
      simp (byte_other, byte_same, byte_length, lt-ltb)
  dword_at_lem (suc (suc zero)) hk h =
      let n0 : at + 2 ≢ at = omega arith in
      let n1 : at + 2 ≢ at + 1 = omega arith in
      let n3 : at + 2 ≢ at + 3 = omega arith in
      simp (byte_other, byte_same, byte_length, lt-ltb)
  dword_at_lem (suc (suc (suc zero))) hk h =
      let n0 : at + 3 ≢ at = omega arith in
      let n1 : at + 3 ≢ at + 1 = omega arith in
      let n2 : at + 3 ≢ at + 2 = omega arith in
      simp (byte_other, byte_same, byte_length, lt-ltb)
  dword_at_lem (suc (suc (suc (suc k)))) hk h = absurd (omega arith)

-- from 40h on a read is 0
pub read_past : (part : List ℕ) (register : ℕ) → 64 ≤ register → read_register part register ≡ 0
unfolding read_register
read_past part register h = rw (le-ltb register 64 h)

module _ (n : Node) (part : List ℕ) (register enables put : ℕ) where
  -- from 40h on a write is ignored
  pub write_past : 64 ≤ register → write_register n part register enables put ≡ part
  unfolding write_register
  write_past h = rw (le-ltb register 64 h)

  -- below 40h it writes the four bytes of its register
  pub write_is : register < 64 → write_register n part register enables put ≡ write_dword n part register enables put
  unfolding write_register
  write_is h = rw (lt-ltb register 64 h)

  -- a write keeps the part's length
  pub write_length : length (write_register n part register enables put) ≡ length part
  write_length =
      tested (ltb register 64) (λ q. rw (write_is (ltb-true register 64 q)) (dword_length n part register enables put))
      (λ q. rw (write_past (ltb-false register 64 q)))

  -- each byte is the old one, or a byte is put there by its masks
  pub write_each : (at : ℕ)
      → (on : Bool) × (v : ℕ) × (v < 256) × (get_or (write_register n part register enables put) at 0 ≡ byte_after n part at on v)
  write_each at =
      tested (ltb register 64)
      (λ q. let e = write_is (ltb-true register 64 q) in
      tested (ltb at (length part))
      (λ r. tested (ltb (at - register) 4)
      (λ s. tested (ltb at register)
      (λ u. (false, 0, omega arith, rw e (dword_off n part register enables put at (λ k hk. omega (arith, ltb-true at register u)))))
      (λ u.
      let up : register ≤ at = ltb-false at register u in
      let a : register + (at - register) ≡ at = omega arith in
      let b : register + (at - register) < length part = omega (arith, ltb-true at (length part) r) in (
        eqb (enables / 2 ^ (at - register) % 2) 1,
        byte_of put (at - register),
        omega arith,
        rw e (rw a at (dword_at_lem n part register enables put (at - register) (ltb-true _ 4 s) b)),
      )))
      (λ s. (false, 0, omega arith, rw e (dword_off n part register enables put at (λ k hk. omega (arith, ltb-false (at - register) 4 s))))))
      (λ r.
      let past : length part ≤ at = ltb-false at (length part) r in
      let past' : length (write_register n part register enables put) ≤ at = rw write_length past in
      (false, 0, omega arith, get_or-eq_default (write_register n part register enables put) 0 past' ∙ sym (get_or-eq_default part 0 past))))
      (λ q. (false, 0, omega arith, rw (write_past (ltb-false register 64 q))))

  -- so a write changes no fixed bit
  pub write_fixed : (at : ℕ)
      → bit_and (get_or (write_register n part register enables put) at 0) (fixed_mask n at) ≡ bit_and (get_or part at 0) (fixed_mask n at)
  write_fixed at = let s = write_each at in rw s.3 (either s.0 s.1 s.2)
    where
      either : (on : Bool) (v : ℕ) → v < 256
          → bit_and (byte_after n part at on v) (fixed_mask n at) ≡ bit_and (get_or part at 0) (fixed_mask n at)
      either true v h = fixed_kept (write_mask n at) (clear_mask n at) (write_lt n at) (clear_lt n at) (get_or part at 0) v h
      either false v h = refl

-- a status bit keeps the part's length
pub status_length : (n : Node) (part : List ℕ) (side : Side) (bit : StatusBit) → length (set_status n part side bit) ≡ length part
unfolding set_status
status_length n part side bit = simp length-set

from_length : (n : Node) (i left : ℕ) → length (reset_from n i left) ≡ left
unfolding reset_from
from_length n i zero = refl
from_length n i (suc left) = ap suc (from_length n (i + 1) left)

from_at : (n : Node) (i left k : ℕ) → k < left → get_or (reset_from n i left) k 0 ≡ reset_byte n (i + k)
unfolding reset_from
from_at n i zero k h = absurd (not-suc-le-zero h)
from_at n i (suc left) zero h = ap (λ (j : ℕ). reset_byte n j) (omega arith)
from_at n i (suc left) (suc k) h =
    from_at n (i + 1) left k (le_of_suc-le-suc h) ∙ ap (λ (j : ℕ). reset_byte n j) (omega arith)

-- a part at reset has 64 bytes
pub reset_length : (n : Node) → length (reset_part n) ≡ 64
reset_length n = from_length n 0 64

-- and they are the reset bytes
pub reset_at : (n : Node) (at : ℕ) → at < 64 → get_or (reset_part n) at 0 ≡ reset_byte n at
reset_at n at h = from_at n 0 64 at h ∙ ap (λ (j : ℕ). reset_byte n j) (omega arith)
