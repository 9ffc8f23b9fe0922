-- The size of a region on accepted images: 2 to its exponent.
use Rattle.std.specs.Prelude.{◌≡◌, refl, Bool, true, ◌&&◌, ◌||◌, cond, ◌⊎◌, List, ℕ, zero, suc, ◌+◌, ◌-◌, ◌/◌, ◌%◌, ◌^◌, ◌≤◌, ◌<◌, leb, length}
use Rattle.std.proofs.Common.{◌∙◌, lit<}
use Rattle.std.proofs.Math.Bool.{false}
use Rattle.std.proofs.Math.Logic.{inl, inr, ⊎_elim}
use native.Mathlib.Omega.{arith}
use Rattle.std.specs.Int.Bits.{bit_and, bit_or, and_zero_r}
use Rattle.std.proofs.Math.Dec.{eqb}
use Rattle.std.proofs.Math.ListN.{get_or}
use borrow.Author.Tests.{lt-ltb, le-ltb, le-leb, leb-true, eqb-true, ne_eqb, not-false}
use Rattle.rack.specs.declared.Region.{Region}
use Rattle.rack.specs.declared.Node.{Node}
use Rattle.rack.specs.declared.Rack.{Rack}
use Rattle.rack.specs.laws.Bools.{either, both}
use Rattle.rack.specs.definitions.Node.{is_bridge, region_in}
use Rattle.rack.specs.definitions.Tree.{Tree}
use Rattle.rack.specs.definitions.Grow.{tree}
use Rattle.rack.specs.definitions.Refusal.{region_range, regions_range, bad_region, rack_refusal}
use Rattle.rack_laws.specs.laws.Sound.{in_range}
use Rattle.rack_laws.specs.laws.Stored.{accepted_stored}
use Rattle.rack.specs.definitions.Stored.{Stored}
use Rattle.register_header.specs.definitions.PciRegs.{BASE_ADDRESS}
use Rattle.register_header.specs.definitions.Byte.{written_byte}
use Rattle.register_header.specs.definitions.Mask.{in_region, byte_of, region_write, region_reset, write_mask, clear_mask, fixed_mask, reset_byte}
use Rattle.register_header.proofs.Disjoint.{region_clear as no-clear}
use Rattle.register_header.specs.definitions.Register.{dword_of, read_register, write_dword}
use Rattle.register_header.specs.definitions.Sizing.{read_back, region_register, size_part}
use Rattle.register_header.specs.laws.SizingLaws.{kind_none}
use Rattle.register_image.specs.definitions.Image.{Images, view}
use Rattle.register_image.specs.definitions.Fixed.{byte_wrong}
use Rattle.bus_reset.specs.definitions.Agreement.{image_refusal}
use Rattle.register_image.specs.definitions.Sizing.{size_region}
use Rattle.register_laws.specs.laws.Images.{view_length}
use Rattle.register_laws.specs.laws.Registers.{byte_after, dword_at_lem, write_is}
use Rattle.register_laws.specs.laws.Accepted.{byte_right, accepted}
use Rattle.register_laws.specs.laws.Exponents.{ones_byte, ones_dword, ones_size, InRange, ones_size_lem}

-- where nothing is cleared, a written byte rests on the fixed bits alone
over_fixed : (old o put w : ℕ) → bit_and old (255 - bit_or w 0) ≡ bit_and o (255 - bit_or w 0) → written_byte old put w 0 ≡ written_byte o put w 0
over_fixed old o put w e = rw (e, and_zero_r old, and_zero_r o)

-- all four bytes of a dword are enabled, and each is FFh
all_ones : (n : Node) (part : List ℕ) (at j : ℕ) → j < 4
    → byte_after n part at (eqb (15 / 2 ^ j % 2) 1) (byte_of (2 ^ 32 - 1) j) ≡ written_byte (get_or part at 0) 255 (write_mask n at) (clear_mask n at)
all_ones n part at zero h = refl
all_ones n part at (suc zero) h = refl
all_ones n part at (suc (suc zero)) h = refl
all_ones n part at (suc (suc (suc zero))) h = refl
all_ones n part at (suc (suc (suc (suc j)))) h = absurd (omega arith)

module _ (n : Node) (r : ℕ) (device : is_bridge n.kind ≡ false) (hr : r < 3) where
  region : Region
  region = region_in n r

  -- the masks and the reset value of byte b of region r
  module _ (at b : ℕ) (place : at ≡ region_register r + b) (hb : b < 8) where
    inside : in_region n at ≡ true
    inside = rw (device, le-leb BASE_ADDRESS at (omega arith), lt-ltb at (BASE_ADDRESS + 24) (omega arith))

    region_write_lem : write_mask n at ≡ region_write region.kind region.exponent b
    unfolding write_mask region
    region_write_lem =
        let e : (at - BASE_ADDRESS) / 8 ≡ r = omega arith in
        let m : at % 8 ≡ b = omega arith in
        rw (inside, e, m)

    region_reset_lem : reset_byte n at ≡ region_reset region.kind b
    unfolding reset_byte region
    region_reset_lem =
        let e : (at - BASE_ADDRESS) / 8 ≡ r = omega arith in
        let m : at % 8 ≡ b = omega arith in
        rw (le-ltb at 4 (omega arith), inside, e, m)

    region_clear : clear_mask n at ≡ 0
    region_clear = no-clear n at inside

    -- all ones over a byte whose fixed bits are right
    region_ones : (part : List ℕ) → byte_wrong n part at ≡ false
        → written_byte (get_or part at 0) 255 (write_mask n at) (clear_mask n at) ≡ ones_byte region.kind region.exponent b
    unfolding ones_byte
    region_ones part right =
        let s : bit_and (get_or part at 0) (fixed_mask n at) ≡ bit_and (reset_byte n at) (fixed_mask n at) = byte_right n part at right in
        let s' = rw (region_clear, region_reset_lem, region_write_lem) at s in
        rw (region_clear, region_write_lem)
        (over_fixed (get_or part at 0) (region_reset region.kind b) 255 (region_write region.kind region.exponent b) s')

  module _ (part : List ℕ) (long : length part ≡ 64) (right : (at : ℕ) → at < 64 → byte_wrong n part at ≡ false) where
    -- the dword at byte b of the region, read back
    read_back_lem : (at b : ℕ) → at ≡ region_register r + b → b ≤ 4 → read_back n part at ≡ ones_dword region.kind region.exponent b
    unfolding read_back read_register ones_dword
    read_back_lem at b place hb =
        let a0 : at + 0 ≡ at = omega arith in
        let b0 : b + 0 ≡ b = omega arith in
        rw (lt-ltb at 64 (omega arith), write_is n part at 15 (2 ^ 32 - 1) (omega arith))
        (four (rw (a0, b0) at (byte 0 (lit< tt))) (byte 1 (lit< tt)) (byte 2 (lit< tt)) (byte 3 (lit< tt)))
      where
        byte : (j : ℕ) → j < 4
            → get_or (write_dword n part at 15 (2 ^ 32 - 1)) (at + j) 0 ≡ ones_byte region.kind region.exponent (b + j)
        byte j hj =
            dword_at_lem n part at 15 (2 ^ 32 - 1) j hj (omega arith) ∙ all_ones n part (at + j) j hj
            ∙ region_ones (at + j) (b + j) (omega arith) (omega arith) part (right (at + j) (omega arith))

        four : {a b c d a' b' c' d' : ℕ} → a ≡ a' → b ≡ b' → c ≡ c' → d ≡ d' → dword_of a b c d ≡ dword_of a' b' c' d'
        four ea eb ec ed = rw (ea, eb, ec, ed)

    -- a region in its range has the size 2 to its exponent
    pub size_part_lem : InRange (region_in n r)
        → size_part n part (region_in n r).kind (region_register r) ≡ 2 ^ (region_in n r).exponent
    unfolding size_part region ones_size
    size_part_lem range =
        rw (read_back_lem (region_register r) 0 (omega arith) (omega arith), read_back_lem (region_register r + 4) 4 (omega arith) (omega arith))
        (ones_size_lem region range)

module _ (t : Tree) (im : Images) (i r : ℕ) where
  -- a device's region of kind 0 has size 0
  pub region_none : i < t.count → is_bridge (t.node i).kind ≡ false → (region_in (t.node i) r).kind ≡ 0
      → size_region t im i r ≡ 0
  unfolding size_region
  region_none h d k = rw (lt-ltb i t.count h, d, k) (kind_none (t.node i) (view t im i) (region_register r))

  -- on accepted images a device's region in its range has the size 2 to its exponent
  pub region_size : Stored t → image_refusal t im ≡ 0 → i < t.count → is_bridge (t.node i).kind ≡ false → r < 3
      → InRange (region_in (t.node i) r)
      → size_region t im i r ≡ 2 ^ (region_in (t.node i) r).exponent
  unfolding size_region
  region_size pl e h d hr range =
      let a = accepted t im e in
      rw (lt-ltb i t.count h, d)
      (size_part_lem (t.node i) r d hr (view t im i) (view_length t im pl a.0 i h) (a.1 i h) range)

-- a region whose kind and exponent are in range has kind 0 or is one of `InRange`
module _ (g : Region) where
  io_exponent : Bool
  io_exponent = leb 2 g.exponent && leb g.exponent 8

  memory_exponent : Bool
  memory_exponent = leb 4 g.exponent && leb g.exponent 31

  io_range : eqb g.kind 1 && io_exponent ≡ true → InRange g
  unfolding io_exponent
  io_range e =
      let s = both (eqb g.kind 1) io_exponent e in
      let r = both (leb 2 g.exponent) (leb g.exponent 8) s.1 in
      let k : g.kind ≡ 1 = eqb-true g.kind 1 s.0 in
      record {
        given = omega arith;
        known = omega arith;
        least = rw s.0 (leb-true 2 g.exponent r.0);
        most = rw s.0 (leb-true g.exponent 8 r.1);
      }

  memory_range : (eqb g.kind 2 || eqb g.kind 3) && memory_exponent ≡ true → InRange g
  unfolding memory_exponent
  memory_range e =
      let s = both (eqb g.kind 2 || eqb g.kind 3) memory_exponent e in
      let r = both (leb 4 g.exponent) (leb g.exponent 31) s.1 in
      let k : (2 ≤ g.kind) × (g.kind ≤ 3) =
      ⊎_elim (λ a. omega (arith, eqb-true g.kind 2 a)) (λ a. omega (arith, eqb-true g.kind 3 a)) (either (eqb g.kind 2) (eqb g.kind 3) s.0) in
      let not-io : eqb g.kind 1 ≡ false = ne_eqb g.kind 1 (λ q. omega (arith, k.0)) in
      record {
        given = omega (arith, k.0);
        known = k.1;
        least = rw not-io (leb-true 4 g.exponent r.0);
        most = rw not-io (leb-true g.exponent 31 r.1);
      }

  range_cases : region_range g.kind g.exponent ≡ true → (g.kind ≡ 0) ⊎ InRange g
  unfolding io_exponent memory_exponent
  range_cases e =
      let none = eqb g.kind 0 && eqb g.exponent 0 in
      let io = eqb g.kind 1 && io_exponent in
      let memory = (eqb g.kind 2 || eqb g.kind 3) && memory_exponent in
      ⊎_elim
      (λ a.
      ⊎_elim (λ b. inl (eqb-true g.kind 0 (both (eqb g.kind 0) (eqb g.exponent 0) b).0)) (λ b. inr (io_range b))
      (either none io a))
      (λ a. inr (memory_range a))
      (either (none || io) memory e)

-- each of three regions is in range where all are
three : (n : Node) (r : ℕ) → r < 3 → regions_range n ≡ true → region_range (region_in n r).kind (region_in n r).exponent ≡ true
three n r h e = pick r h
  where
    ok : ℕ → Bool
    ok k = region_range (region_in n k).kind (region_in n k).exponent

    all : (ok 0 && ok 1 ≡ true) × (ok 2 ≡ true)
    all = both (ok 0 && ok 1) (ok 2) e

    pick : (r : ℕ) → r < 3 → ok r ≡ true
    pick zero h = (both (ok 0) (ok 1) all.0).0
    pick (suc zero) h = (both (ok 0) (ok 1) all.0).1
    pick (suc (suc zero)) h = all.1
    pick (suc (suc (suc r))) h = absurd (omega arith)

-- in an accepted rack with accepted images, sizing gives 2 to the e, and 0 for kind 0
pub accepted_size : (rack : Rack) (im : Images) (i r : ℕ) → rack_refusal (tree rack) ≡ 0 → image_refusal (tree rack) im ≡ 0
    → i < (tree rack).count → is_bridge ((tree rack).node i).kind ≡ false → r < 3
    → size_region (tree rack) im i r
    ≡ cond (eqb (region_in ((tree rack).node i) r).kind 0) 0 (2 ^ (region_in ((tree rack).node i) r).exponent)
unfolding bad_region
accepted_size rack im i r ok sound h d hr =
    let n = (tree rack).node i in
    let ranges : regions_range n ≡ true = rw d at (not-false (is_bridge n.kind || regions_range n) (in_range (tree rack) ok i h)) in
    ⊎_elim (λ z. rw (z) (region_none (tree rack) im i r h d z))
    (λ g.
    rw (ne_eqb (region_in n r).kind 0 (λ z. omega (arith, g.given)))
    (region_size (tree rack) im i r (accepted_stored rack ok) sound h d hr g))
    (range_cases (region_in n r) (three n r hr ranges))
