-- What a write leaves in one byte of a register.
use Rattle.std.specs.Prelude.{ℕ, ◌-◌}
use Rattle.std.specs.Int.Bits.{bit_and, bit_or}

-- the bits outside both masks are kept, those under write are put's, and those under clear are kept where put has 0
abbrev pub written_byte : ℕ → ℕ → ℕ → ℕ → ℕ
written_byte old put write clear =
    bit_or (bit_or (bit_and old (255 - bit_or write clear)) (bit_and put write)) (bit_and (bit_and old clear) (255 - put))
