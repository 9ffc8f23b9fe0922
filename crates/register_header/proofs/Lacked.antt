-- What a bridge's options lack is fixed 0 in its tables: one computed test over every header kind.
use Rattle.std.specs.Prelude.{◌≡◌, refl, Bool, true, not, ◌&&◌, ℕ, ◌<◌, eqb, get_or}
use Rattle.std.proofs.Common.{arith, eqb-true, ne_eqb, lit<}
use Rattle.std.proofs.lemmas.Bool.{lt-leb}
use Rattle.std.specs.Int.Bits.{bit_and, bit_or, and_zero_r}
use Rattle.rack.specs.declared.Kind.{Kind}
use Rattle.rack.specs.declared.Kind.TheVariants.{Bridge, OlderBridge, Device}
use Rattle.register_header.specs.declared.Options.{Options}
use Rattle.register_header.specs.definitions.Tables.{write_table, clear_table, reset_table}
use Rattle.register_header.specs.definitions.Options.{options_of, is_in, lacked}
use Rattle.register_header.specs.definitions.PciRegs.{PREF_BASE_UPPER32, IO_BASE_UPPER16, BRIDGE_CONTROL}
use Rattle.register_header.proofs.Disjoint.{cond_lt}
use Rattle.register_header.specs.laws.Every.{every, write_long, clear_long, reset_long, past, everywhere}

-- the bits of an entry that a write can change or that are 1 at reset
abbrev pub in_use : ℕ → ℕ → ℕ → ℕ
in_use write clear reset = bit_or (bit_or write clear) reset

abbrev test : Kind → ℕ → ℕ → Bool
test kind at write =
    eqb (bit_and (lacked (options_of kind) at) (in_use write (get_or (clear_table kind) at 0) (get_or (reset_table kind) at 0))) 0

passed : (kind : Kind) → every (test kind) 0 (write_table kind) ≡ true
unfolding lacked
passed Bridge = refl
passed OlderBridge = refl
passed Device = refl

-- no bit of an option that is missing is in use
pub lacked_unused : (kind : Kind) (at : ℕ)
    → bit_and (lacked (options_of kind) at)
    (in_use (get_or (write_table kind) at 0) (get_or (clear_table kind) at 0) (get_or (reset_table kind) at 0))
    ≡ 0
lacked_unused kind at =
    eqb-true _ 0
    (everywhere write_table write_long kind (test kind) (passed kind)
    (λ m h. rw (past clear_table clear_long kind m h, past reset_table reset_long kind m h, and_zero_r (lacked (options_of kind) m))) at)

-- they are bits of a byte
pub lacked_lt : (o : Options) (at : ℕ) → lacked o at < 256
unfolding lacked
lacked_lt o at =
    cond_lt (is_in IO_BASE_UPPER16 4 at && not o.io32) (lit< tt)
    (cond_lt (is_in PREF_BASE_UPPER32 8 at && not o.prefetchable64) (lit< tt)
    (cond_lt (eqb at BRIDGE_CONTROL && not o.vga16) (lit< tt) (lit< tt)))

-- below the upper registers every byte has all of its bits
pub lacked_none : (o : Options) (at : ℕ) → at < 0x28 → lacked o at ≡ 0
unfolding lacked
lacked_none o at h = rw (lt-leb 0x30 at (omega arith), lt-leb 0x28 at h, ne_eqb at 0x3e (λ e. omega arith))
