-- The two words of a node: set in a table, and read back.
use mathlib.Core.Path.{◌≡◌, sym, ◌∙◌}
use mathlib.Core.Bool.{Bool, true, false}
use mathlib.Core.List.{List, [], ◌∷◌}
use Prim.Native.Nat.{ℕ, ◌+◌, ◌*◌, ◌/◌, ◌%◌, ◌<◌}
use native.Mathlib.Omega.{arith}
use borrow.Author.Tests.{lt-ltb, ltb-true}
use lib.Dec.{ltb}
use lib.ListN.{length, get_or, set, length-set}
use lib.Seq.{get_or-set_same, get_or-set_other}
use Rattle.std.specs.Int.{to_le_bytes, w64}
use Rattle.rack.specs.declared.Kind.{Kind}
use Rattle.rack.specs.declared.Region.{Region}
use Rattle.rack.specs.declared.Node.{Node}
use Rattle.rack.specs.laws.Bools.{tested}
use Rattle.rack.specs.laws.NodeLaws.{kind_back}
use Rattle.rack.specs.definitions.Node.{kind_number, kind_from, is_bridge, no_region, region_in, own_region, spelt}
use Rattle.rack.specs.definitions.Table.{Bytes, Low, High, node_from, low_at, high_at, node_at, table_with, region_of}

-- whether a node is a bridge, from its low word
pub kind_read : (table : List ℕ) (i : ℕ) {low : ℕ} {k : Kind} {is : Bool} → low ≡ low_at table i → k ≡ kind_from (low % 256) → is ≡ is_bridge k
    → is ≡ is_bridge (node_at table i).kind
unfolding node_at
kind_read table i l k e = rw (e, k, l)

-- a node from the bytes of its two words
pub node_read : (low high : ℕ) {xs ys : List ℕ} {k : Kind} {v d : ℕ} → xs ≡ to_le_bytes w64 low → ys ≡ to_le_bytes w64 high
    → k ≡ kind_from (get_or xs 0 0) → v ≡ get_or ys 2 0 + get_or ys 3 0 * 256 → d ≡ get_or ys 4 0 + get_or ys 5 0 * 256
    → record {
      kind = k;
      parent = get_or xs 1 0;
      device = get_or xs 2 0;
      vendor_id = v;
      device_id = d;
      regions =
          region_of (get_or xs 4 0) (get_or xs 5 0) ∷ region_of (get_or xs 6 0) (get_or xs 7 0)
          ∷ region_of (get_or ys 0 0) (get_or ys 1 0) ∷ [];
    } ≡ node_from low high
node_read low high lows highs kind vendor device =
    let v : high / 0x10000 % 256 + high / 0x1000000 % 256 * 256 ≡ high / 0x10000 % 65536 = omega arith in
    let d : high / 0x100000000 % 256 + high / 0x10000000000 % 256 * 256 ≡ high / 0x100000000 % 65536 = omega arith in
    rw (kind, vendor, device, lows, highs, v, d)

-- a node whose two words are those of another table
module _ (table other : List ℕ) (k : ℕ) (low : k < 96 → get_or table (2 * k) 0 ≡ get_or other (2 * k) 0)
    (high : k < 96 → get_or table (2 * k + 1) 0 ≡ get_or other (2 * k + 1) 0) where
  pub low_same : low_at table k ≡ low_at other k
  unfolding low_at
  low_same = tested (ltb k 96) (λ q. rw (q, low (ltb-true k 96 q))) (λ q. rw q)

  pub high_same : high_at table k ≡ high_at other k
  unfolding high_at
  high_same = tested (ltb k 96) (λ q. rw (q, high (ltb-true k 96 q))) (λ q. rw q)

  pub node_same : node_at table k ≡ node_at other k
  unfolding node_at
  node_same = rw (low_same, high_same)

module _ (table : List ℕ) (i lo hi end : ℕ) where
  module _ (j : ℕ) (lower : j < 194) (ne : j ≡ 2 * i → ⊥) (no : j ≡ 2 * i + 1 → ⊥) where
    -- any other word stays
    pub kept : get_or (table_with table i lo hi end) j 0 ≡ get_or table j 0
    kept =
        get_or-set_other (set (set table (2 * i) lo) (2 * i + 1) hi) 194 j end 0 (λ e. omega arith)
        ∙ get_or-set_other (set table (2 * i) lo) (2 * i + 1) j hi 0 no
        ∙ get_or-set_other table (2 * i) j lo 0 ne

  module _ (long : length table ≡ 195) (h : i < 96) where
    pub low_in : low_at (table_with table i lo hi end) i ≡ lo
    unfolding low_at
    low_in =
        rw (lt-ltb i 96 h)
        (get_or-set_other (set (set table (2 * i) lo) (2 * i + 1) hi) 194 (2 * i) end 0 (λ e. omega arith)
        ∙ get_or-set_other (set table (2 * i) lo) (2 * i + 1) (2 * i) hi 0 (λ e. omega arith)
        ∙ get_or-set_same table (2 * i) lo 0 (omega arith))

    pub high_in : high_at (table_with table i lo hi end) i ≡ hi
    unfolding high_at
    high_in =
        rw (lt-ltb i 96 h)
        (get_or-set_other (set (set table (2 * i) lo) (2 * i + 1) hi) 194 (2 * i + 1) end 0 (λ e. omega arith)
        ∙ get_or-set_same (set table (2 * i) lo) (2 * i + 1) hi 0 (simp length-set (omega arith)))

    pub end_in : get_or (table_with table i lo hi end) 194 0 ≡ end
    end_in = get_or-set_same (set (set table (2 * i) lo) (2 * i + 1) hi) 194 end 0 (simp length-set (omega arith))

-- a region of a node as the code finds it
module _ (n : Node) (r : ℕ) {b : Bool} (is : b ≡ is_bridge n.kind) where
  pub own_none : b ≡ true → no_region ≡ own_region n r
  own_none q = rw (sym is ∙ q)

  pub own_is : b ≡ false → region_in n r ≡ own_region n r
  own_is q = rw (sym is ∙ q)

-- the two words from these regions
pub low_holds : (n : Node) {place w k : ℕ} {r s : Region} → r ≡ own_region n 0 → s ≡ own_region n 1 → k ≡ kind_number n.kind
    → Bytes w k n.parent n.device place r.kind r.exponent s.kind s.exponent → Low n place w
low_holds n e f g h = rw (e, f, g) at h

pub high_holds : (n : Node) {depth w : ℕ} {r : Region} → r ≡ own_region n 2
    → Bytes w r.kind r.exponent (n.vendor_id % 256) (n.vendor_id / 256) (n.device_id % 256) (n.device_id / 256) depth 0
    → High n depth w
high_holds n e h = rw e at h

-- the node that its two words hold
pub node_back : (n : Node) (place depth lo hi : ℕ) → Low n place lo → High n depth hi → node_from lo hi ≡ spelt n
node_back n place depth lo hi l h =
    let v : hi / 0x10000 % 65536 ≡ n.vendor_id = omega (arith, h.byte_2, h.byte_3) in
    let d : hi / 0x100000000 % 65536 ≡ n.device_id = omega (arith, h.byte_4, h.byte_5) in
    rw (l.byte_0, kind_back, l.byte_1, l.byte_2, l.byte_4, l.byte_5, l.byte_6, l.byte_7, h.byte_0, h.byte_1, v, d)
