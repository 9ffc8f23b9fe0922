-- The options of a bridge, and what it has no bits for where it lacks one. 02, E11: 'The claim laws are shown over the set of options a
-- bridge has, for both editions together'.
use Rattle.std.specs.Prelude.{ℕ, ◌+◌, Bool, true, false, not, ◌&&◌, cond, leb, ltb, eqb}
use Rattle.rack.specs.declared.Kind.{Kind}
use Rattle.rack.specs.declared.Kind.TheVariants.{Bridge, OlderBridge, Device}
use Rattle.register_header.specs.declared.Options.{Options}
use Rattle.register_header.specs.definitions.PciRegs.{PREF_BASE_UPPER32, IO_BASE_UPPER16, BRIDGE_CONTROL, BRIDGE_CTL_VGA16}

-- a bridge of 01 has all
abbrev pub all_options : Options
all_options = record { io32 = true; prefetchable64 = true; vga16 = true }

abbrev pub no_options : Options
no_options = record { io32 = false; prefetchable64 = false; vga16 = false }

-- 02, E11: 'bridges of specification revision 1.1 with the smaller options'. A device has no windows
abbrev pub options_of : Kind → Options
options_of Bridge = all_options
options_of OlderBridge = no_options
options_of Device = no_options

-- byte `at` is one of `count` bytes from a register on
abbrev pub is_in : ℕ → ℕ → ℕ → Bool
is_in register count at = leb register at && ltb at (register + count)

-- 02, E11: '30h to 33h are fixed 0', '28h to 2Fh are fixed 0', 'VGA 16-bit decode .. is fixed 0': the bits of a byte that are there for
-- an option that is missing
unfoldable pub lacked : Options → ℕ → ℕ
lacked o at =
    cond (is_in IO_BASE_UPPER16 4 at && not o.io32) 255
    (cond (is_in PREF_BASE_UPPER32 8 at && not o.prefetchable64) 255
    (cond (eqb at BRIDGE_CONTROL && not o.vga16) BRIDGE_CTL_VGA16 0))
