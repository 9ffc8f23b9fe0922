-- How far upwards a test on an address keeps its answer: `cut .. a e` brings an end e down so that it has one answer from a to it.
use Rattle.std.specs.Prelude.{ℕ, ◌+◌, ◌-◌, ◌%◌, Bool, ◌||◌, cond, leb, ltb}
use Rattle.rack.specs.declared.Range.{Range}

-- of `at ≤ x`
unfoldable pub cut_at : ℕ → ℕ → ℕ → ℕ
cut_at at a e = cond (ltb a at) (cond (leb at e) (at - 1) e) e

-- of `x ≤ last`
unfoldable pub cut_past : ℕ → ℕ → ℕ → ℕ
cut_past last a e = cond (leb a last) (cond (ltb last e) last e) e

-- of `within r x`
abbrev pub cut_range : Range → ℕ → ℕ → ℕ
cut_range r a e = cut_past r.last a (cut_at r.first a e)

unfoldable pub cut_if : Bool → ℕ → ℕ → ℕ → ℕ
cut_if on at a e = cond on (cut_at at a e) e

-- of the ISA and the VGA rule, within the block of 1 KiB that starts at b: at each place where one of them changes its answer
abbrev pub cut_block : Bool → Bool → ℕ → ℕ → ℕ → ℕ
cut_block isa vga b a e =
    cut_if (isa || vga) (b + 0x400) a
    (cut_if vga (b + 0x3E0) a
    (cut_if vga (b + 0x3C0) a (cut_if vga (b + 0x3BC) a (cut_if vga (b + 0x3B0) a (cut_if isa (b + 0x100) a e)))))

-- of the ISA and the VGA rule, which end at 64 KiB
unfoldable pub cut_low : Bool → Bool → ℕ → ℕ → ℕ
cut_low isa vga a e = cond (leb 0x10000 a) e (cut_block isa vga (a - a % 1024) a e)
