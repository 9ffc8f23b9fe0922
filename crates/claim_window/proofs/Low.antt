-- What the ISA and the VGA rule ask of an address they ask of its low 16 bits.
use mathlib.Core.Path.{◌≡◌}
use mathlib.Core.Bool.{Bool, not, ◌&&◌, ◌||◌}
use Prim.Native.Nat.{ℕ, ◌+◌, ◌-◌, ◌/◌, ◌%◌, ◌<◌}
use native.Mathlib.Omega.{arith}
use borrow.Author.Tests.{lt-leb}
use lib.Dec.{ltb, eqb}
use Rattle.claim_window.specs.declared.Windows.{Windows}
use Rattle.claim_window.specs.definitions.Range.{range, within}
use Rattle.claim_window.specs.definitions.Inside.{isa_cut, in_io, in_vga_io}
use Rattle.claim_window.specs.definitions.Cut.{cut_if, cut_low}

module _ (a : ℕ) {low : ℕ} (is : low ≡ a % 0x10000) where
  -- bits 9 to 8, bits 9 to 0 and bits 15 to 10
  hole : low / 256 % 4 ≡ a / 256 % 4
  hole = omega (arith, is)

  port : low % 1024 ≡ a % 1024
  port = omega (arith, is)

  block : low / 1024 ≡ a / 1024 % 64
  block = omega (arith, is)

  pub isa_low : (w : Windows) → (w.isa && (ltb a 0x10000 && not (eqb (low / 256 % 4) 0))) ≡ isa_cut w a
  isa_low w = rw hole

  pub vga_low : (w : Windows)
      → (w.vga
      && (ltb a 0x10000
      && ((within (range 0x3B0 0x3BB) (low % 1024) || within (range 0x3C0 0x3DF) (low % 1024)) && (not w.vga16 || eqb (low / 1024) 0))))
      ≡ in_vga_io w a
  vga_low w = rw (port, block)

  -- below 64 KiB the low part is the address
  pub low_is : (isa vga : Bool) (e : ℕ) {v w x y z r : ℕ} → a < 0x10000 → v ≡ cut_if isa (low - low % 1024 + 0x100) a e
      → w ≡ cut_if vga (low - low % 1024 + 0x3B0) a v → x ≡ cut_if vga (low - low % 1024 + 0x3BC) a w
      → y ≡ cut_if vga (low - low % 1024 + 0x3C0) a x → z ≡ cut_if vga (low - low % 1024 + 0x3E0) a y
      → r ≡ cut_if (isa || vga) (low - low % 1024 + 0x400) a z → r ≡ cut_low isa vga a e
  unfolding cut_low
  low_is isa vga e h ev ew ex ey ez er =
      let same : low ≡ a = omega (arith, is) in rw (lt-leb 0x10000 a h, er, ez, ey, ex, ew, ev, same)

-- the I/O window, with what ISA cuts out of it
pub io_read : (w : Windows) (a : ℕ) {inside cut : Bool} → inside ≡ within w.io a → cut ≡ isa_cut w a → (inside && not cut) ≡ in_io w a
io_read w a i c = rw (i, c)
