-- A register's read and write below 40h are those of its four bytes, one after the other; a byte's write past the end changes nothing.
use mathlib.Core.Path.{◌≡◌, refl, sym}
use mathlib.Core.Bool.{Bool, true, false}
use mathlib.Core.List.{List, [], ◌∷◌}
use Prim.Native.Nat.{ℕ, zero, suc, ◌+◌, ◌*◌, ◌^◌, ◌%◌, ◌≤◌, ◌<◌}
use borrow.Author.Tests.{lt-ltb}
use lib.ListN.{length, get_or, set}
use lib.Seq.{set_out}
use native.Mathlib.Nat.{add-zero}
use native.Mathlib.Omega.{arith}
use Rattle.std.proofs.Common.{add-one}
use Rattle.std.proofs.lemmas.Nat.{one_shl}
use Rattle.std.specs.Int.{w32, from_le_bytes, to_le_bytes}
use Rattle.rack.specs.declared.Node.{Node}
use Rattle.register_header.specs.definitions.Byte.{written_byte}
use Rattle.register_header.specs.definitions.Mask.{write_mask, clear_mask}
use Rattle.register_header.specs.definitions.Register.{bit_at, dword_of, read_register, write_byte, write_dword, write_register}

-- four bytes as a dword, as std has it
dword_is : (a b c d : ℕ) {r : ℕ} → r ≡ from_le_bytes w32 (a ∷ b ∷ c ∷ d ∷ []) → r ≡ dword_of a b c d
dword_is a b c d e = omega arith

pub four_read : (p : List ℕ) (at : ℕ) {a b c d r : ℕ} → at < 64 → a ≡ get_or p at 0 → b ≡ get_or p (at + 1) 0 → c ≡ get_or p (at + 2) 0
    → d ≡ get_or p (at + 3) 0 → r ≡ from_le_bytes w32 (a ∷ b ∷ c ∷ d ∷ []) → r ≡ read_register p at
unfolding read_register
four_read p at {a = a} {b = b} {c = c} {d = d} h ea eb ec ed er = rw (lt-ltb at 64 h, ← ea, ← eb, ← ec, ← ed) (dword_is a b c d er)

-- the lowest i of the bytes at a register, written
unfoldable pub stored : Node → List ℕ → ℕ → ℕ → List ℕ → ℕ → List ℕ
stored n p at enables bytes zero = p
stored n p at enables bytes (suc i) =
    write_byte n (stored n p at enables bytes i) (at + i) (bit_at enables (2 ^ i)) (get_or bytes i 0)

module _ (n : Node) (p : List ℕ) (at enables : ℕ) where
  pub stored_more : (bytes : List ℕ) (i : ℕ) {b : Bool} {q r : List ℕ} → i < 8 → q ≡ stored n p at enables bytes i
      → b ≡ bit_at enables (1 * 2 ^ i % 2 ^ 8) → r ≡ write_byte n q (at + i) b (get_or bytes i 0) → r ≡ stored n p at enables bytes (i + 1)
  unfolding stored
  stored_more bytes i h eq eb er = rw (add-one, ← one_shl i 8 h, ← eb, ← eq) er

  pub stored_all : (d : ℕ) {i : ℕ} {q : List ℕ} → at < 64 → i ≡ 4 → q ≡ stored n p at enables (to_le_bytes w32 d) i
      → q ≡ write_register n p at enables d
  unfolding stored write_dword write_register
  stored_all d h ei eq = rw (lt-ltb at 64 h) (rw (ei, add-zero) at eq)

module _ (n : Node) (p : List ℕ) (at : ℕ) where
  pub byte_on : (on : Bool) (put : ℕ) {m k x : ℕ} → on ≡ true → m ≡ write_mask n at → k ≡ clear_mask n at
      → x ≡ written_byte (get_or p at 0) put m k → set p at x ≡ write_byte n p at on put
  unfolding write_byte
  byte_on on put q em ek ex = rw (q, ← em, ← ek, ex)

  pub byte_past : (on : Bool) (put : ℕ) → length p ≤ at → p ≡ write_byte n p at on put
  unfolding write_byte
  byte_past true put h = sym (set_out p at _ h)
  byte_past false put h = refl
