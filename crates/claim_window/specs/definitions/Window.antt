-- The windows of a bridge, decoded from its options and its 64 register bytes: what an option lacks is ignored, whatever the bytes
-- hold. Nothing above reads a window register.
use Rattle.std.specs.Prelude.{ℕ, ◌+◌, ◌*◌, ◌/◌, Bool, ◌&&◌, cond, List, get_or}
use Rattle.register_header.specs.definitions.PciRegs.{IO_BASE, IO_LIMIT, MEMORY_BASE, MEMORY_LIMIT, PREF_MEMORY_BASE, PREF_MEMORY_LIMIT, PREF_BASE_UPPER32, PREF_LIMIT_UPPER32, IO_BASE_UPPER16, IO_LIMIT_UPPER16, BRIDGE_CONTROL, BRIDGE_CTL_ISA, BRIDGE_CTL_VGA, BRIDGE_CTL_VGA16}
use Rattle.register_header.specs.definitions.Register.{bit_at, dword_at}
use Rattle.register_header.specs.declared.Options.{Options}
use Rattle.rack.specs.declared.Range.{Range}
use Rattle.claim_window.specs.declared.Windows.{Windows}
use Rattle.claim_window.specs.definitions.Range.{window}

-- two bytes, lowest first
abbrev pub word_at : List ℕ → ℕ → ℕ
word_at part at = get_or part (at + 1) 0 * 256 + get_or part at 0

-- 01: 'bits 15 to 4 giving address bits 31 to 20': the granule of 1 MiB that a register names
abbrev pub memory_granule : List ℕ → ℕ → ℕ
memory_granule part at = word_at part at / 16

-- the upper half of a prefetchable base or limit. 02, E11: '28h to 2Fh are fixed 0' without 64-bit prefetchable addresses
abbrev pub upper32 : Bool → List ℕ → ℕ → ℕ
upper32 on part at = cond on (dword_at part at) 0

-- 01: 'the same with upper 32 bits'
abbrev pub prefetchable_granule : Bool → List ℕ → ℕ → ℕ → ℕ
prefetchable_granule on part at upper = upper32 on part upper * 4096 + word_at part at / 16

-- the upper half of an I/O base or limit. 02, E11: 'with 16-bit I/O, so 30h to 33h are fixed 0'
abbrev pub upper16 : Bool → List ℕ → ℕ → ℕ
upper16 on part at = cond on (word_at part at) 0

-- 01: 'bits 7 to 4 give address bits 15 to 12, upper registers bits 31 to 16': the granule of 4 KiB
abbrev pub io_granule : Bool → List ℕ → ℕ → ℕ → ℕ
io_granule on part at upper = upper16 on part upper * 16 + get_or part at 0 / 16

abbrev pub memory_of : List ℕ → Range
memory_of part = window 20 (memory_granule part MEMORY_BASE) (memory_granule part MEMORY_LIMIT)

abbrev pub prefetchable_of : Bool → List ℕ → Range
prefetchable_of on part =
    window 20 (prefetchable_granule on part PREF_MEMORY_BASE PREF_BASE_UPPER32)
    (prefetchable_granule on part PREF_MEMORY_LIMIT PREF_LIMIT_UPPER32)

abbrev pub io_of : Bool → List ℕ → Range
io_of on part = window 12 (io_granule on part IO_BASE IO_BASE_UPPER16) (io_granule on part IO_LIMIT IO_LIMIT_UPPER16)

-- 01: 'ISA enable (bridge control bit 2)', 'VGA enable (bit 3)', 'with bit 4, bits 15 to 10 must be 0'; 02, E11: 'VGA 16-bit decode,
-- new in revision 1.2'
unfoldable pub windows_of : Options → List ℕ → Windows
windows_of o part =
    record {
      memory = memory_of part;
      prefetchable = prefetchable_of o.prefetchable64 part;
      io = io_of o.io32 part;
      isa = bit_at (get_or part BRIDGE_CONTROL 0) BRIDGE_CTL_ISA;
      vga = bit_at (get_or part BRIDGE_CONTROL 0) BRIDGE_CTL_VGA;
      vga16 = o.vga16 && bit_at (get_or part BRIDGE_CONTROL 0) BRIDGE_CTL_VGA16;
    }
