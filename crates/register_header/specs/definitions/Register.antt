-- Reading and writing the 64 register bytes of a node.
use Rattle.std.specs.Prelude.{ℕ, ◌+◌, ◌*◌, ◌/◌, ◌%◌, Bool, cond, List, eqb, ltb, get_or, set}
use Rattle.std.specs.Int.Bits.{bit_or}
use Rattle.rack.specs.declared.Node.{Node}
use Rattle.rack.specs.declared.Kind.{Kind}
use Rattle.rack.specs.definitions.Node.{is_bridge}
use Rattle.register_header.specs.declared.Side.{Side}
use Rattle.register_header.specs.declared.Side.TheVariants.{Primary, Secondary}
use Rattle.register_header.specs.declared.StatusBit.{StatusBit}
use Rattle.register_header.specs.declared.StatusBit.TheVariants.{SignaledTargetAbort, ReceivedTargetAbort, ReceivedMasterAbort}
use Rattle.register_header.specs.definitions.PciRegs.{STATUS, STATUS_SIG_TARGET_ABORT, STATUS_REC_TARGET_ABORT, STATUS_REC_MASTER_ABORT, SEC_STATUS}
use Rattle.register_header.specs.definitions.Byte.{written_byte}
use Rattle.register_header.specs.definitions.Mask.{write_mask, clear_mask}

-- whether a bit of a byte is set; a bit is its value, as in linux/pci_regs.h
abbrev pub bit_at : ℕ → ℕ → Bool
bit_at byte bit = eqb (byte / bit % 2) 1

-- four bytes as a dword, lowest first
abbrev pub dword_of : ℕ → ℕ → ℕ → ℕ → ℕ
dword_of a b c d = ((d * 256 + c) * 256 + b) * 256 + a

abbrev pub dword_at : List ℕ → ℕ → ℕ
dword_at part at = dword_of (get_or part at 0) (get_or part (at + 1) 0) (get_or part (at + 2) 0) (get_or part (at + 3) 0)

-- 01: 'Registers 40h to FCh read 0'
unfoldable pub read_register : List ℕ → ℕ → ℕ
read_register part register = cond (ltb register 64) (dword_at part register) 0

-- 01: 'A byte not enabled is not written': byte at takes put by its masks
unfoldable pub write_byte : Node → List ℕ → ℕ → Bool → ℕ → List ℕ
write_byte n part at on put =
    cond on (set part at (written_byte (get_or part at 0) put (write_mask n at) (clear_mask n at))) part

-- 01: 'byte enables (bit i for byte i)': the four bytes at a register, lowest first
unfoldable pub write_dword : Node → List ℕ → ℕ → ℕ → ℕ → List ℕ
write_dword n part at enables put =
    write_byte n
    (write_byte n
    (write_byte n
    (write_byte n part at (bit_at enables 1) (put % 256))
    (at + 1) (bit_at enables 2) (put / 256 % 256))
    (at + 2) (bit_at enables 4) (put / 65536 % 256))
    (at + 3) (bit_at enables 8) (put / 16777216 % 256)

-- 01: 'Registers 40h to FCh .. ignore writes'
unfoldable pub write_register : Node → List ℕ → ℕ → ℕ → ℕ → List ℕ
write_register n part register enables put = cond (ltb register 64) (write_dword n part register enables put) part

-- 01: 'status on the primary, secondary status below; a device its status': the upper byte of that register
abbrev pub status_at : Kind → Side → ℕ
status_at k Primary = STATUS + 1
status_at k Secondary = cond (is_bridge k) (SEC_STATUS + 1) (STATUS + 1)

-- bits 11, 12 and 13 of a status register, in its upper byte
abbrev pub status_mask : StatusBit → ℕ
status_mask SignaledTargetAbort = STATUS_SIG_TARGET_ABORT
status_mask ReceivedTargetAbort = STATUS_REC_TARGET_ABORT
status_mask ReceivedMasterAbort = STATUS_REC_MASTER_ABORT

-- a status bit set, and nothing else
unfoldable pub set_status : Node → List ℕ → Side → StatusBit → List ℕ
set_status n part side bit =
    set part (status_at n.kind side) (bit_or (get_or part (status_at n.kind side) 0) (status_mask bit))
