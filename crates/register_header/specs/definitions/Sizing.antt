-- The size of a region, found by writing its register.
use Rattle.std.specs.Prelude.{ℕ, ◌+◌, ◌-◌, ◌*◌, ◌%◌, ◌^◌, cond, List, eqb}
use Rattle.rack.specs.declared.Node.{Node}
use Rattle.register_header.specs.definitions.PciRegs.{BASE_ADDRESS}
use Rattle.register_header.specs.definitions.Register.{read_register, write_register}

-- 01: 'Sizing writes all ones, reads back'
unfoldable pub read_back : Node → List ℕ → ℕ → ℕ
read_back n part register = read_register (write_register n part register 15 (2 ^ 32 - 1)) register

-- 01: 'it restores the register': what was there before, written again
unfoldable pub written_back : Node → List ℕ → ℕ → List ℕ
written_back n part register =
    write_register n (write_register n part register 15 (2 ^ 32 - 1)) register 15 (read_register part register)

-- 01: 'clears the type bits (two for I/O, four for memory)': the lowest bits of x, those below the power of two m
abbrev pub cleared : ℕ → ℕ → ℕ
cleared m x = x - x % m

-- 01: 'takes zero minus that, modulo 2 to the 32 (64 for kind 3)'
abbrev pub negated : ℕ → ℕ → ℕ
negated w x = (2 ^ w - x) % 2 ^ w

-- 01: 'region r (0 to 2) of kind 1 to 3 at 10h + 8r'
abbrev pub region_register : ℕ → ℕ
region_register r = BASE_ADDRESS + 8 * r

-- by the region's kind; 01: 'A kind 0 region has size 0'
unfoldable pub size_part : Node → List ℕ → ℕ → ℕ → ℕ
size_part n part kind register =
    cond (eqb kind 1) (negated 32 (cleared 4 (read_back n part register)))
    (cond (eqb kind 2) (negated 32 (cleared 16 (read_back n part register)))
    (cond (eqb kind 3)
    (negated 64 (cleared 16 (read_back n part (register + 4) * 2 ^ 32 + read_back n part register)))
    0))
