-- How a rack is stored for lending: two words for each of 96 nodes, eight bytes to a word, and three words after them. Contracts
-- of code above name `tree_of` and `node_at`; the rest is for `table.rt` and `grow.rt` alone.
use Rattle.std.specs.Prelude.{◌≡◌, ℕ, ◌+◌, ◌*◌, ◌/◌, ◌%◌, min, cond, List, [], ◌∷◌, ltb, get_or, set}
use Rattle.rack.specs.declared.Region.{Region}
use Rattle.rack.specs.declared.Node.{Node}
use Rattle.rack.specs.definitions.Node.{kind_number, kind_from, own_region}
use Rattle.rack.specs.definitions.Tree.{Tree}

-- a word holds eight bytes, lowest first
pub record Bytes (w a b c d e f g h : ℕ) : Type 0 where
  pub byte_0 : w % 256 ≡ a
  pub byte_1 : w / 0x100 % 256 ≡ b
  pub byte_2 : w / 0x10000 % 256 ≡ c
  pub byte_3 : w / 0x1000000 % 256 ≡ d
  pub byte_4 : w / 0x100000000 % 256 ≡ e
  pub byte_5 : w / 0x10000000000 % 256 ≡ f
  pub byte_6 : w / 0x1000000000000 % 256 ≡ g
  pub byte_7 : w / 0x100000000000000 % 256 ≡ h

-- what the two words of a node hold, with its place and the depth of its bus
abbrev pub Low : Node → ℕ → ℕ → Type 0
Low n place w =
    Bytes w (kind_number n.kind) n.parent n.device place
    (own_region n 0).kind (own_region n 0).exponent (own_region n 1).kind (own_region n 1).exponent

abbrev pub High : Node → ℕ → ℕ → Type 0
High n depth w =
    Bytes w (own_region n 2).kind (own_region n 2).exponent (n.vendor_id % 256) (n.vendor_id / 256)
    (n.device_id % 256) (n.device_id / 256) depth 0

-- what the last word holds
abbrev pub End : ℕ → ℕ → ℕ → Type 0
End count deepest w = Bytes w count deepest 0 0 0 0 0 0

-- the node that two words hold
abbrev pub region_of : ℕ → ℕ → Region
region_of k e = record { kind = k; exponent = e }

abbrev pub node_from : ℕ → ℕ → Node
node_from low high =
    record {
      kind = kind_from (low % 256);
      parent = low / 0x100 % 256;
      device = low / 0x10000 % 256;
      vendor_id = high / 0x10000 % 65536;
      device_id = high / 0x100000000 % 65536;
      regions =
          region_of (low / 0x100000000 % 256) (low / 0x10000000000 % 256)
          ∷ region_of (low / 0x1000000000000 % 256) (low / 0x100000000000000 % 256)
          ∷ region_of (high % 256) (high / 0x100 % 256)
          ∷ [];
    }

-- the two words of node i, 0 where a table has none
unfoldable pub low_at : List ℕ → ℕ → ℕ
low_at table i = cond (ltb i 96) (get_or table (2 * i) 0) 0

unfoldable pub high_at : List ℕ → ℕ → ℕ
high_at table i = cond (ltb i 96) (get_or table (2 * i + 1) 0) 0

unfoldable pub node_at : List ℕ → ℕ → Node
node_at table i = node_from (low_at table i) (high_at table i)

abbrev pub place_at : List ℕ → ℕ → ℕ
place_at table i = low_at table i / 0x1000000 % 256

-- whatever a table holds, no bus is deeper than there are nodes to it
abbrev pub depth_at : List ℕ → ℕ → ℕ
depth_at table i = min (i + 1) (high_at table i / 0x1000000000000 % 256)

-- the tree that a table holds
abbrev pub tree_of : List ℕ → Tree
tree_of table =
    record {
      count = get_or table 194 0 % 256;
      host_memory = record { first = get_or table 192 0; last = get_or table 193 0 };
      node = node_at table;
      place = place_at table;
      depth_of = depth_at table;
      deepest = get_or table 194 0 / 0x100 % 256;
    }

-- a table with the two words of node i set, and the last
abbrev pub table_with : List ℕ → ℕ → ℕ → ℕ → ℕ → List ℕ
table_with table i low high end = set (set (set table (2 * i) low) (2 * i + 1) high) 194 end
