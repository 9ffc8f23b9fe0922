-- Windows told by granules: an address is inside where its granule is one from base to limit.
use Rattle.std.specs.Prelude.{Bool, not, ◌&&◌, List, ℕ, ◌/◌, ◌^◌, leb}
use Rattle.register_header.specs.declared.Options.{Options}
use Rattle.register_header.specs.definitions.PciRegs.{IO_BASE, IO_LIMIT, MEMORY_BASE, MEMORY_LIMIT, PREF_MEMORY_BASE, PREF_MEMORY_LIMIT, PREF_BASE_UPPER32, PREF_LIMIT_UPPER32, IO_BASE_UPPER16, IO_LIMIT_UPPER16}
use Rattle.claim_window.specs.definitions.Window.{memory_granule, prefetchable_granule, io_granule, windows_of}
use Rattle.claim_window.specs.definitions.Inside.{isa_cut}

-- the granule of 2 to the k addresses that holds a is one from `base` to `limit`
abbrev pub in_granules : ℕ → ℕ → ℕ → ℕ → Bool
in_granules k base limit a = leb base (a / 2 ^ k) && leb (a / 2 ^ k) limit

module _ (o : Options) (part : List ℕ) (a : ℕ) where
  -- the granules of the three windows
  abbrev pub memory_granules : Bool
  memory_granules = in_granules 20 (memory_granule part MEMORY_BASE) (memory_granule part MEMORY_LIMIT) a

  abbrev pub prefetchable_granules : Bool
  prefetchable_granules =
      in_granules 20 (prefetchable_granule o.prefetchable64 part PREF_MEMORY_BASE PREF_BASE_UPPER32)
      (prefetchable_granule o.prefetchable64 part PREF_MEMORY_LIMIT PREF_LIMIT_UPPER32) a

  abbrev pub io_granules : Bool
  io_granules =
      in_granules 12 (io_granule o.io32 part IO_BASE IO_BASE_UPPER16) (io_granule o.io32 part IO_LIMIT IO_LIMIT_UPPER16) a
      && not (isa_cut (windows_of o part) a)
