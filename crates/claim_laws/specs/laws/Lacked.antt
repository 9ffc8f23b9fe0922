-- What a bridge's options lack plays no part in its windows, whatever the bytes hold. 02, E11: 'The claim laws are shown over the set of
-- options a bridge has, for both editions together'.
use Rattle.std.specs.Prelude.{◌≡◌, Bool, ◌&&◌, cond, List}
use Rattle.std.proofs.Math.Path.{refl, sym, ap}
use Rattle.std.proofs.Common.{◌∙◌, arith, lit<}
use Rattle.std.proofs.Math.Bool.{true, false, and-true, and-false}
use Prim.Native.Nat.{ℕ, ◌+◌, ◌-◌, ◌*◌, ◌/◌, ◌%◌, ◌^◌, ◌≤◌, ◌<◌, min}
use Rattle.std.specs.Int.Bits.{bit_and}
use Rattle.std.proofs.lemmas.Nat.{and_mask}
use Rattle.std.proofs.Math.ListN.{get_or}
use borrow.Author.Tests.{le-ltb}
use Rattle.rack.specs.definitions.Node.{is_bridge}
use Rattle.rack.specs.definitions.Tree.{Tree}
use Rattle.rack.specs.laws.Bools.{tested}
use Rattle.register_header.specs.declared.Options.{Options}
use Rattle.register_header.specs.definitions.Options.{all_options, options_of, lacked}
use Rattle.register_header.specs.definitions.PciRegs.{IO_BASE, IO_LIMIT, MEMORY_BASE, MEMORY_LIMIT, PREF_MEMORY_BASE, PREF_MEMORY_LIMIT, PREF_BASE_UPPER32, PREF_LIMIT_UPPER32, IO_BASE_UPPER16, IO_LIMIT_UPPER16, BRIDGE_CONTROL, BRIDGE_CTL_ISA, BRIDGE_CTL_VGA, BRIDGE_CTL_VGA16}
use Rattle.register_header.specs.definitions.Register.{bit_at, dword_at}
use Rattle.register_header.specs.laws.Bits.{bit, bit_lt, bit_and_lem}
use Rattle.register_header.proofs.Lacked.{lacked_none}
use Rattle.register_image.specs.definitions.Image.{Images, view}
use Rattle.bus_reset.specs.definitions.Agreement.{image_refusal}
use Rattle.register_laws.specs.laws.Lacked.{accepted_lacked}
use Rattle.claim_window.specs.definitions.Range.{window}
use Rattle.claim_window.specs.definitions.Window.{word_at, memory_of, prefetchable_of, io_of, windows_of}
use Rattle.claim_window.specs.definitions.Inside.{in_prefetchable, in_io, vga_memory, inside_memory, inside_io}
use Rattle.claim_agent.specs.declared.Space.TheVariants.{Memory, Io}
use Rattle.claim_agent.specs.definitions.Agent.{bridge_of}
use Rattle.claim_agent.specs.definitions.Claim.{primary_claims, secondary_claims}
use Rattle.claim_agent.specs.definitions.WindowEnds.{windows_in}
use Rattle.claim_laws.specs.definitions.Same.{SameButLacked}
use Rattle.claim_laws.specs.laws.SameBytes.{outside_same}
use Rattle.claim_laws.specs.laws.WindowEnds.{above_last}

-- a bridge with all options is what it was in 01
pub all_options_lem : (part : List ℕ)
    → windows_of all_options part
    ≡ record {
      memory = memory_of part;
      prefetchable =
          window 20 (dword_at part PREF_BASE_UPPER32 * 4096 + word_at part PREF_MEMORY_BASE / 16)
          (dword_at part PREF_LIMIT_UPPER32 * 4096 + word_at part PREF_MEMORY_LIMIT / 16);
      io =
          window 12 (word_at part IO_BASE_UPPER16 * 16 + get_or part IO_BASE 0 / 16)
          (word_at part IO_LIMIT_UPPER16 * 16 + get_or part IO_LIMIT 0 / 16);
      isa = bit_at (get_or part BRIDGE_CONTROL 0) BRIDGE_CTL_ISA;
      vga = bit_at (get_or part BRIDGE_CONTROL 0) BRIDGE_CTL_VGA;
      vga16 = bit_at (get_or part BRIDGE_CONTROL 0) BRIDGE_CTL_VGA16;
    }
unfolding windows_of
all_options_lem part = refl

module _ (o : Options) (part : List ℕ) (bytes : (k : ℕ) → get_or part k 0 < 256) (a : ℕ) where
  -- without 32-bit I/O the window ends below 10000h
  pub io_16 : o.io32 ≡ false → 0x10000 ≤ a → in_io (windows_of o part) a ≡ false
  unfolding windows_of
  io_16 off h = rw (above_last (io_of o.io32 part) a (rw off (omega (arith, bytes IO_LIMIT))))

  -- and so do its VGA addresses
  pub inside_io_16 : o.io32 ≡ false → 0x10000 ≤ a → inside_io (windows_of o part) a ≡ false
  unfolding inside_io
  inside_io_16 off h = rw (io_16 off h, le-ltb a 0x10000 h) (and-false (windows_of o part).vga)

  -- so it takes no such port down, and every one up under bit 2
  pub io_not_down : o.io32 ≡ false → 0x10000 ≤ a → primary_claims (bridge_of o part) Io a ≡ false
  unfolding primary_claims bridge_of
  io_not_down off h = rw (inside_io_16 off h) (and-false (bridge_of o part).io)

  pub io_up : o.io32 ≡ false → 0x10000 ≤ a → secondary_claims (bridge_of o part) Io a ≡ (bridge_of o part).master
  unfolding secondary_claims bridge_of
  io_up off h = rw (inside_io_16 off h) (and-true (bridge_of o part).master)

  -- without 64-bit prefetchable addresses that window ends below 4 GiB
  pub prefetchable_32 : o.prefetchable64 ≡ false → 2 ^ 32 ≤ a → in_prefetchable (windows_of o part) a ≡ false
  unfolding windows_of
  prefetchable_32 off h =
      above_last (prefetchable_of o.prefetchable64 part) a
      (rw off (omega (arith, bytes PREF_MEMORY_LIMIT, bytes (PREF_MEMORY_LIMIT + 1))))

  -- and so does all that it holds of the memory space
  pub inside_memory_32 : o.prefetchable64 ≡ false → 2 ^ 32 ≤ a → inside_memory (windows_of o part) a ≡ false
  unfolding inside_memory windows_of
  inside_memory_32 off h =
      let below : (memory_of part).last < a = omega (arith, bytes MEMORY_LIMIT, bytes (MEMORY_LIMIT + 1)) in
      rw (above_last (memory_of part) a below, prefetchable_32 off h, above_last vga_memory a (omega arith))
      (and-false (windows_of o part).vga)

  -- so it takes no such address down, and every one up under bit 2
  pub memory_not_down : o.prefetchable64 ≡ false → 2 ^ 32 ≤ a → primary_claims (bridge_of o part) Memory a ≡ false
  unfolding primary_claims bridge_of
  memory_not_down off h = rw (inside_memory_32 off h) (and-false (bridge_of o part).memory)

  pub memory_up : o.prefetchable64 ≡ false → 2 ^ 32 ≤ a → secondary_claims (bridge_of o part) Memory a ≡ (bridge_of o part).master
  unfolding secondary_claims bridge_of
  memory_up off h = rw (inside_memory_32 off h) (and-true (bridge_of o part).master)

-- without VGA 16-bit decode aliases are by ten bits
pub vga_ten_bits : (o : Options) (part : List ℕ) → o.vga16 ≡ false → (windows_of o part).vga16 ≡ false
unfolding windows_of
vga_ten_bits o part off = rw off

-- an upper register, read where the option is there: two that are the same then, and one that is 0 where it is missing
read_by : (on : Bool) (x y : ℕ) → (on ≡ true → x ≡ y) → cond on x 0 ≡ cond on y 0
read_by true x y e = e refl
read_by false x y e = refl

zero_by : (on : Bool) (x : ℕ) → (on ≡ false → x ≡ 0) → cond on x 0 ≡ x
zero_by true x z = refl
zero_by false x z = sym (z refl)

-- a bit that two bytes share outside a mask
pub same_bit : (x y m k : ℕ) → bit_and x m ≡ bit_and y m → bit m k ≡ 1 → bit x k ≡ bit y k
same_bit x y m k e one =
    let r : min (bit x k) 1 ≡ min (bit y k) 1 =
    rw one at (sym (bit_and_lem x m k) ∙ ap (λ (z : ℕ). bit z k) e ∙ bit_and_lem y m k) in
    omega (arith, bit_lt x k, bit_lt y k)

module _ (o : Options) (p q : List ℕ) (s : SameButLacked o p q) where
  -- a byte of which nothing is lacked, and one below the upper registers
  whole : (k : ℕ) → lacked o k ≡ 0 → get_or p k 0 ≡ get_or q k 0
  whole = outside_same p q s

  byte : (k : ℕ) → k < 0x28 → get_or p k 0 ≡ get_or q k 0
  byte k h = whole k (lacked_none o k h)

  -- the upper registers of an option that is there
  io_base : o.io32 ≡ true → word_at p IO_BASE_UPPER16 ≡ word_at q IO_BASE_UPPER16
  unfolding lacked
  io_base on = rw (whole 0x30 (rw on), whole 0x31 (rw on))

  io_limit : o.io32 ≡ true → word_at p IO_LIMIT_UPPER16 ≡ word_at q IO_LIMIT_UPPER16
  unfolding lacked
  io_limit on = rw (whole 0x32 (rw on), whole 0x33 (rw on))

  prefetchable_base : o.prefetchable64 ≡ true → dword_at p PREF_BASE_UPPER32 ≡ dword_at q PREF_BASE_UPPER32
  unfolding lacked
  prefetchable_base on = rw (whole 0x28 (rw on), whole 0x29 (rw on), whole 0x2a (rw on), whole 0x2b (rw on))

  prefetchable_limit : o.prefetchable64 ≡ true → dword_at p PREF_LIMIT_UPPER32 ≡ dword_at q PREF_LIMIT_UPPER32
  unfolding lacked
  prefetchable_limit on = rw (whole 0x2c (rw on), whole 0x2d (rw on), whole 0x2e (rw on), whole 0x2f (rw on))

  -- bridge control: a bit that is no option's, and bit 4 where it is there
  control_bit : (k : ℕ) → bit (255 - BRIDGE_CTL_VGA16) k ≡ 1 → bit 255 k ≡ 1 → bit (get_or p BRIDGE_CONTROL 0) k ≡ bit (get_or q BRIDGE_CONTROL 0) k
  unfolding lacked
  control_bit k one all =
      tested o.vga16
      (λ on. same_bit (get_or p BRIDGE_CONTROL 0) (get_or q BRIDGE_CONTROL 0) 255 k (rw on at (s.bits BRIDGE_CONTROL)) all)
      (λ off.
      same_bit (get_or p BRIDGE_CONTROL 0) (get_or q BRIDGE_CONTROL 0) (255 - BRIDGE_CTL_VGA16) k (rw off at (s.bits BRIDGE_CONTROL)) one)

  vga_bit : (on : Bool) → o.vga16 ≡ on
      → (on && bit_at (get_or p BRIDGE_CONTROL 0) BRIDGE_CTL_VGA16) ≡ (on && bit_at (get_or q BRIDGE_CONTROL 0) BRIDGE_CTL_VGA16)
  unfolding lacked
  vga_bit true on = rw (whole BRIDGE_CONTROL (rw on))
  vga_bit false off = refl

  -- what a bridge's options lack plays no part in its windows
  pub lacked_no_part : windows_of o p ≡ windows_of o q
  unfolding windows_of bit
  lacked_no_part =
      simp (
        byte IO_BASE (lit< tt),
        byte IO_LIMIT (lit< tt),
        byte MEMORY_BASE (lit< tt),
        byte (MEMORY_BASE + 1) (lit< tt),
        byte MEMORY_LIMIT (lit< tt),
        byte (MEMORY_LIMIT + 1) (lit< tt),
        byte PREF_MEMORY_BASE (lit< tt),
        byte (PREF_MEMORY_BASE + 1) (lit< tt),
        byte PREF_MEMORY_LIMIT (lit< tt),
        byte (PREF_MEMORY_LIMIT + 1) (lit< tt),
        read_by o.io32 (word_at p IO_BASE_UPPER16) (word_at q IO_BASE_UPPER16) io_base,
        read_by o.io32 (word_at p IO_LIMIT_UPPER16) (word_at q IO_LIMIT_UPPER16) io_limit,
        read_by o.prefetchable64 (dword_at p PREF_BASE_UPPER32) (dword_at q PREF_BASE_UPPER32) prefetchable_base,
        read_by o.prefetchable64 (dword_at p PREF_LIMIT_UPPER32) (dword_at q PREF_LIMIT_UPPER32) prefetchable_limit,
        control_bit 2 refl refl,
        control_bit 3 refl refl,
        vga_bit o.vga16 refl,
      )

module _ (o : Options) (part : List ℕ) (bytes : (k : ℕ) → get_or part k 0 < 256)
    (none : (k : ℕ) → k < 64 → bit_and (get_or part k 0) (lacked o k) ≡ 0) where
  -- a byte that is lacked whole
  zero_byte : (k : ℕ) → k < 64 → lacked o k ≡ 255 → get_or part k 0 ≡ 0
  zero_byte k h e =
      let z : get_or part k 0 % 256 ≡ 0 = sym (and_mask (get_or part k 0) 8) ∙ (rw e at (none k h)) in
      omega (arith, bytes k)

  io_base_zero : o.io32 ≡ false → word_at part IO_BASE_UPPER16 ≡ 0
  unfolding lacked
  io_base_zero off = rw (zero_byte 0x30 (lit< tt) (rw off), zero_byte 0x31 (lit< tt) (rw off))

  io_limit_zero : o.io32 ≡ false → word_at part IO_LIMIT_UPPER16 ≡ 0
  unfolding lacked
  io_limit_zero off = rw (zero_byte 0x32 (lit< tt) (rw off), zero_byte 0x33 (lit< tt) (rw off))

  prefetchable_base_zero : o.prefetchable64 ≡ false → dword_at part PREF_BASE_UPPER32 ≡ 0
  unfolding lacked
  prefetchable_base_zero off =
      rw (zero_byte 0x28 (lit< tt) (rw off), zero_byte 0x29 (lit< tt) (rw off), zero_byte 0x2a (lit< tt) (rw off), zero_byte 0x2b (lit< tt) (rw off))

  prefetchable_limit_zero : o.prefetchable64 ≡ false → dword_at part PREF_LIMIT_UPPER32 ≡ 0
  unfolding lacked
  prefetchable_limit_zero off =
      rw (zero_byte 0x2c (lit< tt) (rw off), zero_byte 0x2d (lit< tt) (rw off), zero_byte 0x2e (lit< tt) (rw off), zero_byte 0x2f (lit< tt) (rw off))

  plain_vga : (on : Bool) → o.vga16 ≡ on
      → (on && bit_at (get_or part BRIDGE_CONTROL 0) BRIDGE_CTL_VGA16) ≡ bit_at (get_or part BRIDGE_CONTROL 0) BRIDGE_CTL_VGA16
  unfolding lacked bit
  plain_vga true on = refl
  plain_vga false off =
      let z : bit_and (get_or part BRIDGE_CONTROL 0) BRIDGE_CTL_VGA16 ≡ 0 = rw off at (none BRIDGE_CONTROL (lit< tt)) in
      let m : min (bit (get_or part BRIDGE_CONTROL 0) 4) 1 ≡ 0 =
      sym (bit_and_lem (get_or part BRIDGE_CONTROL 0) BRIDGE_CTL_VGA16 4) ∙ ap (λ (x : ℕ). bit x 4) z in
      let b : get_or part BRIDGE_CONTROL 0 / 16 % 2 ≡ 0 = omega (arith, bit_lt (get_or part BRIDGE_CONTROL 0) 4) in
      rw b

  -- where nothing that is lacked is set, decoding with the options and plain decoding of the same bytes agree
  pub plain : windows_of o part ≡ windows_of all_options part
  unfolding windows_of
  plain =
      simp (
        zero_by o.io32 (word_at part IO_BASE_UPPER16) io_base_zero,
        zero_by o.io32 (word_at part IO_LIMIT_UPPER16) io_limit_zero,
        zero_by o.prefetchable64 (dword_at part PREF_BASE_UPPER32) prefetchable_base_zero,
        zero_by o.prefetchable64 (dword_at part PREF_LIMIT_UPPER32) prefetchable_limit_zero,
        plain_vga o.vga16 refl,
      )

-- so they do in every bridge of accepted images
pub accepted_plain : (t : Tree) (im : Images) → image_refusal t im ≡ 0 → (i : ℕ) → i < t.count → is_bridge (t.node i).kind ≡ true
    → ((k : ℕ) → get_or (view t im i) k 0 < 256)
    → windows_in t im i ≡ windows_of all_options (view t im i)
accepted_plain t im e i h bridge bytes =
    plain (options_of (t.node i).kind) (view t im i) bytes (accepted_lacked t im e i h bridge)
