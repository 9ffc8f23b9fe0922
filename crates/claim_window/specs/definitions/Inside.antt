-- 01: 'A bridge's windows answer yes or no for an address', and how far the answer stays the same.
use Rattle.std.specs.Prelude.{ℕ, ◌/◌, ◌%◌, Bool, not, ◌&&◌, ◌||◌, ltb, eqb}
use Rattle.rack.specs.declared.Range.{Range}
use Rattle.claim_window.specs.declared.Windows.{Windows}
use Rattle.claim_window.specs.definitions.Range.{range, within}
use Rattle.claim_window.specs.definitions.Cut.{cut_range, cut_low}

abbrev pub in_memory : Windows → ℕ → Bool
in_memory w a = within w.memory a

abbrev pub in_prefetchable : Windows → ℕ → Bool
in_prefetchable w a = within w.prefetchable a

-- 01: 'addresses below 10000h whose bits 9 to 8 are not 00 are cut out'
abbrev pub isa_cut : Windows → ℕ → Bool
isa_cut w a = w.isa && (ltb a 0x10000 && not (eqb (a / 256 % 4) 0))

abbrev pub in_io : Windows → ℕ → Bool
in_io w a = within w.io a && not (isa_cut w a)

-- 01: 'VGA enable (bit 3) adds memory A0000h to BFFFFh'
abbrev pub vga_memory : Range
vga_memory = range 0xA0000 0xBFFFF

abbrev pub in_vga_memory : Windows → ℕ → Bool
in_vga_memory w a = w.vga && within vga_memory a

-- 01: 'below 10000h, I/O whose bits 9 to 0 lie in 3B0h to 3BBh or 3C0h to 3DFh; with bit 4, bits 15 to 10 must be 0'
abbrev pub in_vga_io : Windows → ℕ → Bool
in_vga_io w a =
    w.vga
    && (ltb a 0x10000
    && ((within (range 0x3B0 0x3BB) (a % 1024) || within (range 0x3C0 0x3DF) (a % 1024))
    && (not w.vga16 || eqb (a / 1024 % 64) 0)))

-- what the windows hold of the memory and of the I/O space. ISA cuts nothing from VGA
unfoldable pub inside_memory : Windows → ℕ → Bool
inside_memory w a = in_memory w a || (in_prefetchable w a || in_vga_memory w a)

unfoldable pub inside_io : Windows → ℕ → Bool
inside_io w a = in_io w a || in_vga_io w a

-- ends up to which they stay the same
unfoldable pub memory_until : Windows → ℕ → ℕ → ℕ
memory_until w a e = cut_range vga_memory a (cut_range w.prefetchable a (cut_range w.memory a e))

unfoldable pub io_until : Windows → ℕ → ℕ → ℕ
io_until w a e = cut_low w.isa w.vga a (cut_range w.io a e)
