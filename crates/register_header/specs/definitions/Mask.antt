-- The masks and the reset value of each register byte of a node: its header's tables, with a device's regions over them.
use Rattle.std.specs.Prelude.{ℕ, ◌+◌, ◌-◌, ◌*◌, ◌/◌, ◌%◌, ◌^◌, Bool, not, ◌&&◌, cond, leb, ltb, eqb, get_or}
use Rattle.std.specs.Int.Bits.{bit_or}
use Rattle.rack.specs.declared.Kind.{Kind}
use Rattle.rack.specs.declared.Region.{Region}
use Rattle.rack.specs.declared.Node.{Node}
use Rattle.rack.specs.definitions.Node.{is_bridge, region_in}
use Rattle.register_header.specs.definitions.PciRegs.{BASE_ADDRESS}
use Rattle.register_header.specs.definitions.Tables.{write_table, clear_table, reset_table}

-- 01: 'region r (0 to 2) of kind 1 to 3 at 10h + 8r': whether a byte is one of a device's regions,
-- three of eight bytes, and of which
abbrev pub region_byte : Kind → ℕ → Bool
region_byte kind at = not (is_bridge kind) && (leb BASE_ADDRESS at && ltb at (BASE_ADDRESS + 24))

abbrev pub in_region : Node → ℕ → Bool
in_region n at = region_byte n.kind at

abbrev pub region_at : Node → ℕ → Region
region_at n at = region_in n ((at - BASE_ADDRESS) / 8)

-- byte k of a number, lowest first
abbrev pub byte_of : ℕ → ℕ → ℕ
byte_of x k = x / 2 ^ (8 * k) % 256

-- 01: 'bits e to 31 writable', 'the next four bytes writable for kind 3': byte k of a region's eight
unfoldable pub region_write : ℕ → ℕ → ℕ → ℕ
region_write kind e k =
    cond (eqb kind 0) 0 (cond (ltb k 4) (byte_of (2 ^ 32 - 2 ^ e) k) (cond (eqb kind 3) 255 0))

-- 01: 'low bits fixed (1 for I/O, 0 for 32-bit, 4 for 64-bit memory)'
unfoldable pub region_reset : ℕ → ℕ → ℕ
region_reset kind k = cond (eqb k 0) (cond (eqb kind 1) 1 (cond (eqb kind 3) 4 0)) 0

-- the bits of a node's byte that a write changes
unfoldable pub write_mask : Node → ℕ → ℕ
write_mask n at =
    cond (in_region n at) (region_write (region_at n at).kind (region_at n at).exponent (at % 8))
    (get_or (write_table n.kind) at 0)

-- the bits of a node's byte that writing 1 clears. These are its status bits: 06h and, of a bridge, 1Eh
unfoldable pub clear_mask : Node → ℕ → ℕ
clear_mask n at = get_or (clear_table n.kind) at 0

-- the bits that keep their reset value
abbrev pub fixed_mask : Node → ℕ → ℕ
fixed_mask n at = 255 - bit_or (write_mask n at) (clear_mask n at)

-- 01: '00h, 02h the record's IDs, fixed'
abbrev pub ids : Node → ℕ
ids n = n.device_id * 65536 + n.vendor_id

-- the reset value of a node's byte
unfoldable pub reset_byte : Node → ℕ → ℕ
reset_byte n at =
    cond (ltb at 4) (byte_of (ids n) at)
    (cond (in_region n at) (region_reset (region_at n at).kind (at % 8)) (get_or (reset_table n.kind) at 0))
