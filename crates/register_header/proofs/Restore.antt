-- Writing all ones to a register of a device's regions, and then what was there, leaves the bytes as they were.
use Rattle.std.specs.Prelude.{◌≡◌, refl, ◌≢◌, Bool, true, false, List, ℕ, ◌+◌, ◌≤◌, ◌<◌, ltb, length, get_or, set}
use Rattle.std.proofs.Common.{sym, ◌∙◌, lit<, get_or-set_same, get_or-set_other, set-set}
use native.Mathlib.Omega.{arith}
use borrow.Author.Tests.{lt-ltb, le-leb, ltb-true, ltb-false}
use Rattle.std.proofs.lemmas.List.{set-get_or, set_comm}
use Rattle.std.proofs.Math.Seq.{set_out}
use Rattle.rack.specs.declared.Node.{Node}
use Rattle.rack.specs.definitions.Node.{is_bridge}
use Rattle.register_header.specs.definitions.PciRegs.{BASE_ADDRESS}
use Rattle.register_header.specs.laws.ByteLaws.{restored}
use Rattle.register_header.specs.definitions.Mask.{write_mask, clear_mask}
use Rattle.register_header.proofs.Disjoint.{write_lt, region_clear}
use Rattle.register_header.specs.definitions.Register.{read_register, write_byte, write_dword, write_register}
use Rattle.register_header.specs.laws.Dword.{byte0, byte1, byte2, byte3}
use Rattle.register_header.specs.definitions.Sizing.{written_back}

-- what was there before undoes a store, in the list or past it
set_back : (l : List ℕ) (i x y : ℕ) → (i < length l → y ≡ get_or l i 0) → set (set l i x) i y ≡ l
set_back l i x y same = set-set l i x y ∙ held (ltb i (length l)) refl
  where
    held : (b : Bool) → ltb i (length l) ≡ b → set l i y ≡ l
    held true e = rw (same (ltb-true i (length l) e)) (set-get_or l i 0)
    held false e = set_out l i y (ltb-false i (length l) e)

-- writes of two bytes may change places
swap : (n : Node) (i j : ℕ) → j ≢ i → (l : List ℕ) (v w : ℕ)
    → write_byte n (write_byte n l i true v) j true w ≡ write_byte n (write_byte n l j true w) i true v
unfolding write_byte
swap n i j h l v w =
    rw (get_or-set_other l i j _ 0 h, get_or-set_other l j i _ 0 (λ e. h (sym e))) (set_comm l i j _ _ (λ e. h (sym e)))

module _ (n : Node) (device : is_bridge n.kind ≡ false) (l : List ℕ) (byte : (i : ℕ) → get_or l i 0 < 256) where
  -- no bit of a region is cleared by writing 1, so a byte written there and then written back is as it was
  back : (i v : ℕ) → BASE_ADDRESS ≤ i → i < BASE_ADDRESS + 24 → v < 256 → write_byte n (write_byte n l i true v) i true (get_or l i 0) ≡ l
  unfolding write_byte
  back i v low high hv =
      let none : clear_mask n i ≡ 0 = region_clear n i (rw (device, le-leb BASE_ADDRESS i low, lt-ltb i (BASE_ADDRESS + 24) high)) in
      set_back l i _ _ (λ h. rw (get_or-set_same l i _ 0 h, none) (restored (get_or l i 0) v (write_mask n i) (byte i) hv (write_lt n i)))

  -- so the four writes of a register there are undone by four more, each moved to the one that it undoes
  pub written_back_lem : (at : ℕ) → BASE_ADDRESS ≤ at → at + 3 < BASE_ADDRESS + 24 → written_back n l at ≡ l
  unfolding written_back write_register read_register write_dword
  written_back_lem at low high =
      let inside : at < 64 = omega arith in
      rw (
        lt-ltb at 64 inside,
        byte0 _ _ _ _ (byte at) (byte (at + 1)) (byte (at + 2)) (byte (at + 3)),
        byte1 _ _ _ _ (byte at) (byte (at + 1)) (byte (at + 2)) (byte (at + 3)),
        byte2 _ _ _ _ (byte at) (byte (at + 1)) (byte (at + 2)) (byte (at + 3)),
        byte3 _ _ _ _ (byte at) (byte (at + 1)) (byte (at + 2)) (byte (at + 3)),
        swap n (at + 3) at (λ e. omega arith),
        swap n (at + 2) at (λ e. omega arith),
        swap n (at + 1) at (λ e. omega arith),
        back at 255 low (omega arith) (lit< tt),
        swap n (at + 3) (at + 1) (λ e. omega arith),
        swap n (at + 2) (at + 1) (λ e. omega arith),
        back (at + 1) 255 (omega arith) (omega arith) (lit< tt),
        swap n (at + 3) (at + 2) (λ e. omega arith),
        back (at + 2) 255 (omega arith) (omega arith) (lit< tt),
      )
      (back (at + 3) 255 (omega arith) high (lit< tt))
