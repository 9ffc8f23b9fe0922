-- Registers and their bits, by their names in linux/pci_regs.h; `BRIDGE-CTL-VGA16` has none there. Status bits are those of the upper
-- byte.
use Rattle.std.specs.Prelude.{ℕ}

abbrev pub COMMAND : ℕ
COMMAND = 0x04

-- claims in I/O space
abbrev pub COMMAND_IO : ℕ
COMMAND_IO = 0x01

-- claims in memory space
abbrev pub COMMAND_MEMORY : ℕ
COMMAND_MEMORY = 0x02

-- drives its bus; a bridge claims on its secondary bus
abbrev pub COMMAND_MASTER : ℕ
COMMAND_MASTER = 0x04

abbrev pub STATUS : ℕ
STATUS = 0x06

-- gave a target abort
abbrev pub STATUS_SIG_TARGET_ABORT : ℕ
STATUS_SIG_TARGET_ABORT = 0x08

-- was given a target abort
abbrev pub STATUS_REC_TARGET_ABORT : ℕ
STATUS_REC_TARGET_ABORT = 0x10

-- drove what nobody claimed
abbrev pub STATUS_REC_MASTER_ABORT : ℕ
STATUS_REC_MASTER_ABORT = 0x20

abbrev pub BASE_ADDRESS : ℕ
BASE_ADDRESS = 0x10

abbrev pub SECONDARY_BUS : ℕ
SECONDARY_BUS = 0x19

abbrev pub SUBORDINATE_BUS : ℕ
SUBORDINATE_BUS = 0x1a

abbrev pub IO_BASE : ℕ
IO_BASE = 0x1c

abbrev pub IO_LIMIT : ℕ
IO_LIMIT = 0x1d

abbrev pub SEC_STATUS : ℕ
SEC_STATUS = 0x1e

abbrev pub MEMORY_BASE : ℕ
MEMORY_BASE = 0x20

abbrev pub MEMORY_LIMIT : ℕ
MEMORY_LIMIT = 0x22

abbrev pub PREF_MEMORY_BASE : ℕ
PREF_MEMORY_BASE = 0x24

abbrev pub PREF_MEMORY_LIMIT : ℕ
PREF_MEMORY_LIMIT = 0x26

abbrev pub PREF_BASE_UPPER32 : ℕ
PREF_BASE_UPPER32 = 0x28

abbrev pub PREF_LIMIT_UPPER32 : ℕ
PREF_LIMIT_UPPER32 = 0x2c

abbrev pub IO_BASE_UPPER16 : ℕ
IO_BASE_UPPER16 = 0x30

abbrev pub IO_LIMIT_UPPER16 : ℕ
IO_LIMIT_UPPER16 = 0x32

abbrev pub BRIDGE_CONTROL : ℕ
BRIDGE_CONTROL = 0x3e

-- cuts ISA holes out of the I/O window
abbrev pub BRIDGE_CTL_ISA : ℕ
BRIDGE_CTL_ISA = 0x04

-- adds VGA addresses
abbrev pub BRIDGE_CTL_VGA : ℕ
BRIDGE_CTL_VGA = 0x08

-- decodes 16 bits of a VGA I/O address
abbrev pub BRIDGE_CTL_VGA16 : ℕ
BRIDGE_CTL_VGA16 = 0x10

-- turns an unclaimed access into a target abort
abbrev pub BRIDGE_CTL_MASTER_ABORT : ℕ
BRIDGE_CTL_MASTER_ABORT = 0x20

-- holds every node below in reset
abbrev pub BRIDGE_CTL_BUS_RESET : ℕ
BRIDGE_CTL_BUS_RESET = 0x40
