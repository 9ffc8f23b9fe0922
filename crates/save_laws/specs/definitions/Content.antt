-- The content of a decoded rack, spelt out as document 02, E2 compares it.
use Rattle.std.specs.Prelude.{◌≡◌, ◌⊎◌, true, false, ℕ, ◌≤◌, ◌<◌, get_or}
use Rattle.rack.specs.declared.Grant.{Grant}
use Rattle.rack.specs.declared.Node.{Node}
use Rattle.rack.specs.declared.Range.{Range}
use Rattle.rack.specs.declared.Rack.{Rack}
use Rattle.rack.specs.definitions.Node.{is_bridge, region_in, no_node}
use Rattle.rack.specs.definitions.Grow.{tree}
use Rattle.rack.specs.definitions.Refusal.{rack_refusal}
use Rattle.seat.specs.definitions.Grants.{no_grant, slot, grants}

-- host memory, a node, and what is said of a seat and a node, as a decoded rack has them
abbrev pub memory_in : Rack → Range
memory_in rack = record { first = rack.first; last = rack.last }

abbrev pub node_of : Rack → ℕ → Node
node_of rack i = get_or rack.nodes i no_node

abbrev pub grant_of : Rack → ℕ → ℕ → Grant
grant_of rack seat node = get_or rack.grants (slot seat node) no_grant

-- 'A host without memory .. counts as equal to any other without memory'; 01: 'first above last means none'
abbrev pub SameMemory : Range → Range → Type 0
SameMemory h k = ((h.first ≡ k.first) × (h.last ≡ k.last)) ⊎ ((h.last < h.first) × (k.last < k.first))

-- a node's record; a bridge has no regions
pub record SameNode (m n : Node) : Type 0 where
  pub kind : m.kind ≡ n.kind
  pub parent : m.parent ≡ n.parent
  pub device : m.device ≡ n.device
  pub vendor : m.vendor_id ≡ n.vendor_id
  pub id : m.device_id ≡ n.device_id
  pub regions : is_bridge m.kind ≡ false → (r : ℕ) → r < 3 → region_in m r ≡ region_in n r

-- 'Grants are compared as a set': a pair is named in both or in neither, and where it is named with the same mask
pub record SameGrant (g h : Grant) : Type 0 where
  pub named : g.named ≡ h.named
  pub mask : g.named ≡ true → g.mask ≡ h.mask

pub record SameContent (a b : Rack) : Type 0 where
  pub memory : SameMemory (memory_in a) (memory_in b)
  pub count : a.count ≡ b.count
  pub nodes : (i : ℕ) → i < a.count → SameNode (node_of a i) (node_of b i)
  pub seats : (seat node : ℕ) → 1 ≤ seat → seat ≤ 15 → node < a.count → SameGrant (grant_of a seat node) (grant_of b seat node)

-- a decoded rack without a refusal of 6 to 10, and without 14
pub record Sound (rack : Rack) : Type 0 where
  pub nodes : rack_refusal (tree rack) ≡ 0
  pub seats : (grants rack).wrong ≡ false
