-- Windows and areas from the registers that the code has read.
use mathlib.Core.Path.{◌≡◌}
use mathlib.Core.Bool.{Bool, true, false, ◌&&◌, ◌||◌}
use mathlib.Core.List.{List}
use mathlib.Core.Logic.{◌≢◌}
use Prim.Native.Nat.{ℕ, ◌+◌, ◌*◌, ◌/◌, ◌^◌, ◌<◌}
use native.Mathlib.Omega.{arith}
use borrow.Author.Tests.{leb-false, eq-eqb, ne_eqb, lt-ltb}
use lib.Dec.{eqb, ltb}
use lib.ListN.{get_or}
use Rattle.rack.specs.declared.Range.{Range}
use Rattle.rack.specs.laws.Bools.{neither}
use Rattle.register_header.specs.declared.Options.{Options}
use Rattle.register_header.specs.definitions.PciRegs as regs
use Rattle.register_header.specs.definitions.Register.{bit_at, read_register}
use Rattle.register_header.specs.definitions.Sizing.{region_register}
use Rattle.claim_window.specs.definitions.Range.{empty, window}
use Rattle.claim_window.specs.definitions.Window.{word_at, prefetchable_granule, memory_of, prefetchable_of, io_of, windows_of}
use Rattle.claim_window.specs.definitions.Area.{region_value, area_of}

module _ (part : List ℕ) where
  -- the upper register counts, where the bridge has it
  pub prefetchable_is : (on : Bool) (at upper : ℕ) {r w : ℕ} → on ≡ true → upper < 64 → r ≡ read_register part upper → w ≡ word_at part at
      → r * 4096 + w / 16 ≡ prefetchable_granule on part at upper
  unfolding read_register
  prefetchable_is on at upper q h er ew = rw (q, er, ew, lt-ltb upper 64 h)

  pub windows_is : (o : Options) {c : ℕ} {m p i : Range} {isa vga wide : Bool} → c ≡ get_or part regs.BRIDGE_CONTROL 0 → m ≡ memory_of part
      → p ≡ prefetchable_of o.prefetchable64 part → i ≡ io_of o.io32 part → isa ≡ bit_at c regs.BRIDGE_CTL_ISA → vga ≡ bit_at c regs.BRIDGE_CTL_VGA
      → wide ≡ bit_at c regs.BRIDGE_CTL_VGA16
      → record {
        memory = m;
        prefetchable = p;
        io = i;
        isa = isa;
        vga = vga;
        vga16 = o.vga16 && wide;
      } ≡ windows_of o part
  unfolding windows_of
  windows_is o ec em ep ei ea eb ew = rw (em, ep, ei, ea, eb, ew, ec)

  module _ (kind register : ℕ) (h : register < 60) {v : ℕ} where
    pub value_wide : {low high : ℕ} → kind ≡ 3 → low ≡ read_register part register → high ≡ read_register part (register + 4)
        → v ≡ high * 2 ^ 32 + low → v ≡ region_value part kind register
    unfolding read_register
    value_wide q el eh ev =
        simp (eq-eqb kind 3 q, ev, eh, el, lt-ltb (register + 4) 64 (omega arith), lt-ltb register 64 (omega arith))

    pub value_dword : kind ≢ 3 → v ≡ read_register part register → v ≡ region_value part kind register
    unfolding read_register
    value_dword q ev = simp (ne_eqb kind 3 q, ev, lt-ltb register 64 (omega arith))

  pub area_is : (kind e r : ℕ) {v : ℕ} {g : Range} → (eqb kind 0 || ltb 31 e) ≡ false → v ≡ region_value part kind (region_register r)
      → g ≡ window e (v / 2 ^ e) (v / 2 ^ e) → record { io = eqb kind 1; range = g } ≡ area_of part kind e r
  unfolding area_of
  area_is kind e r q ev eg = rw (q, eg, ev)

  pub area_none : (kind e r : ℕ) {g : Range} → (eqb kind 0 || ltb 31 e) ≡ true → g ≡ empty → record { io = eqb kind 1; range = g } ≡ area_of part kind e r
  unfolding area_of
  area_none kind e r q eg = rw (q, eg)

-- what has an area has at most 2 to the 31 addresses
pub exponent_below : (kind e : ℕ) → (eqb kind 0 || ltb 31 e) ≡ false → e < 32
exponent_below kind e q = leb-false 32 e (neither (eqb kind 0) (ltb 31 e) q).1
