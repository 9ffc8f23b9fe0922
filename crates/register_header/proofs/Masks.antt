-- The masks and the reset value of a byte, from what the code has asked for.
use mathlib.Core.Path.{◌≡◌, sym, ◌∙◌}
use mathlib.Core.Bool.{Bool, true, false, not, and-eq-true_iff}
use mathlib.Core.Logic.{◌≢◌}
use mathlib.Core.List.{List}
use Prim.Native.Nat.{ℕ, zero, suc, ◌+◌, ◌-◌, ◌%◌, ◌^◌, ◌≤◌, ◌<◌}
use native.Mathlib.Omega.{arith}
use borrow.Author.Tests.{ltb-true, ne_eqb, lt-ltb, le-ltb}
use lib.Dec.{leb}
use lib.ListN.{get_or}
use Rattle.std.specs.Int.{w32, to_le_bytes}
use Rattle.rack.specs.declared.Kind.{Kind}
use Rattle.rack.specs.declared.Node.{Node}
use Rattle.rack.specs.declared.Region.{Region}
use Rattle.rack.specs.definitions.Node.{is_bridge}
use Rattle.register_header.specs.definitions.PciRegs.{BASE_ADDRESS}
use Rattle.register_header.specs.definitions.Tables.{write_table, reset_table}
use Rattle.register_header.specs.definitions.Mask.{region_byte, in_region, region_at, byte_of, region_write, region_reset, write_mask, ids, reset_byte}

-- byte k of a dword, as std has it
byte_is : (x k : ℕ) {l : List ℕ} → k < 4 → l ≡ to_le_bytes w32 x → get_or l k 0 ≡ byte_of x k
byte_is x zero h e = rw e (omega arith)
byte_is x (suc zero) h e = rw e
byte_is x (suc (suc zero)) h e = rw e
byte_is x (suc (suc (suc zero))) h e = rw e
byte_is x (suc (suc (suc (suc k)))) h e = absurd (omega arith)

-- byte k of a region
module _ (kind k : ℕ) where
  module _ (e : ℕ) where
    pub write_zero : kind ≡ 0 → 0 ≡ region_write kind e k
    unfolding region_write
    write_zero q = rw q

    pub write_low : {h : ℕ} {l : List ℕ} → kind ≢ 0 → k < 4 → h ≡ 2 ^ 32 - 2 ^ e → l ≡ to_le_bytes w32 h → get_or l k 0 ≡ region_write kind e k
    unfolding region_write
    write_low ne l eh el = rw (ne_eqb kind 0 ne, lt-ltb k 4 l, ← eh) (byte_is _ k l el)

    pub write_high : 4 ≤ k → kind ≡ 3 → 255 ≡ region_write kind e k
    unfolding region_write
    write_high l q = rw (q, le-ltb k 4 l)

    pub write_none : kind ≢ 0 → 4 ≤ k → kind ≢ 3 → 0 ≡ region_write kind e k
    unfolding region_write
    write_none ne l q = rw (ne_eqb kind 0 ne, le-ltb k 4 l, ne_eqb kind 3 q)

-- the regions end below 28h
pub region_below : (kind : Kind) (at : ℕ) {b : Bool} → b ≡ region_byte kind at → b ≡ true → at < BASE_ADDRESS + 24
region_below kind at eb q =
    ltb-true at (BASE_ADDRESS + 24)
    ((and-eq-true_iff (leb BASE_ADDRESS at) _).0 ((and-eq-true_iff (not (is_bridge kind)) _).0 (sym eb ∙ q)).1).1

module _ (n : Node) (at : ℕ) where
  pub reset_ids : {i : ℕ} {l : List ℕ} → at < 4 → i ≡ ids n → l ≡ to_le_bytes w32 i → get_or l at 0 ≡ reset_byte n at
  unfolding reset_byte
  reset_ids h ei el = rw (lt-ltb at 4 h, ← ei) (byte_is _ at h el)

  module _ {b : Bool} (eb : b ≡ in_region n at) {x : ℕ} where
    module _ (q : b ≡ true) {r : Region} (er : r ≡ region_at n at) where
      pub mask_region : x ≡ region_write r.kind r.exponent (at % 8) → x ≡ write_mask n at
      unfolding write_mask
      mask_region e = rw (← eb, q, ← er) e

      pub reset_region : 4 ≤ at → x ≡ region_reset r.kind (at % 8) → x ≡ reset_byte n at
      unfolding reset_byte
      reset_region l e = rw (le-ltb at 4 l, ← eb, q, ← er) e

    module _ (q : b ≡ false) where
      pub mask_table : x ≡ get_or (write_table n.kind) at 0 → x ≡ write_mask n at
      unfolding write_mask
      mask_table e = rw (← eb, q) e

      pub reset_table_lem : 4 ≤ at → x ≡ get_or (reset_table n.kind) at 0 → x ≡ reset_byte n at
      unfolding reset_byte
      reset_table_lem l e = rw (le-ltb at 4 l, ← eb, q) e
