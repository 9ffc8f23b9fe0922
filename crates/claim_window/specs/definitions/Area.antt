-- The addresses of a device's region, decoded from its registers.
use Rattle.std.specs.Prelude.{ℕ, ◌+◌, ◌*◌, ◌/◌, ◌^◌, Bool, not, ◌&&◌, ◌||◌, cond, List, ltb, eqb}
use Rattle.register_header.specs.definitions.Register.{dword_at}
use Rattle.register_header.specs.definitions.Sizing.{region_register}
use Rattle.claim_window.specs.declared.Area.{Area}
use Rattle.claim_window.specs.definitions.Range.{empty, within, window}

-- 01: 'region r .. at 10h + 8r .. the next four bytes writable for kind 3': the register's value
abbrev pub region_value : List ℕ → ℕ → ℕ → ℕ
region_value part kind register =
    cond (eqb kind 3) (dword_at part (register + 4) * 2 ^ 32 + dword_at part register) (dword_at part register)

-- 01: 'A region has 2 to the e bytes': the granule of 2 to the e bytes that the register's bits from e on name. Kind 0 has none
unfoldable pub area_of : List ℕ → ℕ → ℕ → ℕ → Area
area_of part kind e r =
    record {
      io = eqb kind 1;
      range =
          cond (eqb kind 0 || ltb 31 e) empty
          (window e (region_value part kind (region_register r) / 2 ^ e) (region_value part kind (region_register r) / 2 ^ e));
    }

-- whether an area holds an address of the I/O space, or of the memory space
unfoldable pub holds : Area → Bool → ℕ → Bool
holds s io a = (io && s.io || not io && not s.io) && within s.range a
