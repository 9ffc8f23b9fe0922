-- Comparing granules and comparing full addresses say the same, whatever a bridge's options.
use Rattle.std.specs.Prelude.{◌≡◌, Bool, ◌&&◌, ◌||◌, List, ℕ, suc, ◌+◌, ◌-◌, ◌*◌, ◌/◌, ◌^◌, ◌≤◌, ◌<◌}
use Rattle.std.proofs.Math.Path.{ap, ap₂}
use Rattle.std.proofs.Math.Bool.{not}
use Rattle.std.proofs.Common.{suc-mul, le-div_iff_mul-le, div-lt_iff_lt-mul, arith, pow_pos}
use Rattle.register_header.specs.declared.Options.{Options}
use Rattle.register_header.specs.definitions.PciRegs.{IO_BASE, IO_LIMIT, MEMORY_BASE, MEMORY_LIMIT, PREF_MEMORY_BASE, PREF_MEMORY_LIMIT, PREF_BASE_UPPER32, PREF_LIMIT_UPPER32, IO_BASE_UPPER16, IO_LIMIT_UPPER16}
use Rattle.claim_window.specs.definitions.Range.{within, window}
use Rattle.claim_window.specs.definitions.Window.{memory_granule, prefetchable_granule, io_granule, windows_of}
use Rattle.claim_window.specs.definitions.Inside.{in_memory, in_prefetchable, isa_cut, in_io, in_vga_memory, in_vga_io, inside_memory, inside_io}
use Rattle.claim_laws.specs.definitions.Granules.{in_granules, memory_granules, prefetchable_granules, io_granules}
use Rattle.claim_laws.specs.laws.Kept.{leb_by}

-- the two ways, for every width, granule and address
pub granules : (k base limit a : ℕ) → within (window k base limit) a ≡ in_granules k base limit a
granules k base limit a =
    let p = pow_pos k in
    let s = suc-mul limit (2 ^ k) in
    ap₂ ◌&&◌ (leb_by (base * 2 ^ k) a base (a / 2 ^ k) (le-div_iff_mul-le p).0 (div-lt_iff_lt-mul p).0)
    (leb_by a (limit * 2 ^ k + (2 ^ k - 1)) (a / 2 ^ k) limit
    (λ h. let l : a < suc limit * 2 ^ k = (div-lt_iff_lt-mul p).0 (omega arith) in omega arith)
    (λ h. let l : suc limit * 2 ^ k ≤ a = (le-div_iff_mul-le p).0 h in omega arith))

module _ (o : Options) (part : List ℕ) (a : ℕ) where
  -- the memory window
  pub memory_granules_lem : in_memory (windows_of o part) a ≡ memory_granules o part a
  unfolding windows_of
  memory_granules_lem = granules 20 (memory_granule part MEMORY_BASE) (memory_granule part MEMORY_LIMIT) a

  -- the prefetchable window
  pub prefetchable_granules_lem : in_prefetchable (windows_of o part) a ≡ prefetchable_granules o part a
  unfolding windows_of
  prefetchable_granules_lem =
      granules 20 (prefetchable_granule o.prefetchable64 part PREF_MEMORY_BASE PREF_BASE_UPPER32)
      (prefetchable_granule o.prefetchable64 part PREF_MEMORY_LIMIT PREF_LIMIT_UPPER32) a

  -- the I/O window, with what ISA cuts out
  pub io_granules_lem : in_io (windows_of o part) a ≡ io_granules o part a
  unfolding windows_of
  io_granules_lem =
      ap (λ (t : Bool). t && not (isa_cut (windows_of o part) a))
      (granules 12 (io_granule o.io32 part IO_BASE IO_BASE_UPPER16) (io_granule o.io32 part IO_LIMIT IO_LIMIT_UPPER16) a)

  -- what the windows hold of the memory space, either way
  pub memory_both_ways : inside_memory (windows_of o part) a ≡ (memory_granules o part a || (prefetchable_granules o part a || in_vga_memory (windows_of o part) a))
  unfolding inside_memory
  memory_both_ways =
      ap₂ (λ (m p : Bool). m || (p || in_vga_memory (windows_of o part) a)) memory_granules_lem prefetchable_granules_lem

  -- and of the I/O space
  pub io_both_ways : inside_io (windows_of o part) a ≡ (io_granules o part a || in_vga_io (windows_of o part) a)
  unfolding inside_io
  io_both_ways = ap (λ (t : Bool). t || in_vga_io (windows_of o part) a) io_granules_lem
