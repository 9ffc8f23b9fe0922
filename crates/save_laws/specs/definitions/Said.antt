-- A rack as a file says it: nothing is in its tree and its grants that no record has. The trees and grants of decoded racks and of rack
-- files are such (laws `Decoded`, `Loaded`).
use Rattle.std.specs.Prelude.{◌≡◌, true, false, ℕ, ◌≤◌, ◌<◌}
use Rattle.rack.specs.definitions.Node.{spelt, no_node}
use Rattle.rack.specs.definitions.Tree.{Tree}
use Rattle.rack.specs.definitions.Grow.{memory_of}
use Rattle.rack.specs.definitions.Refusal.{rack_refusal}
use Rattle.rack_laws.specs.laws.OnePass.{StoredBy}
use Rattle.seat.specs.definitions.Grants.{Grants, no_grant}
use Rattle.register_image.specs.definitions.Image.{Images}
use Rattle.bus_reset.specs.definitions.Agreement.{image_refusal}

-- host memory is 1 to 0 where there is none, each node is as its record says it, nothing stands after the last, and the rest is what one
-- pass over the nodes finds
pub record SaidTree (t : Tree) : Type 0 where
  pub memory : memory_of t.host_memory ≡ t.host_memory
  pub nodes : (i : ℕ) → spelt (t.node i) ≡ t.node i
  pub none : (i : ℕ) → t.count ≤ i → t.node i ≡ spelt no_node
  pub stored : StoredBy t

-- no seat record is faulty, only a seat of 1 to 15 and a node of the rack are named together, and no other pair has a mask
pub record SaidGrants (count : ℕ) (g : Grants) : Type 0 where
  pub right : g.wrong ≡ false
  pub named : (seat node : ℕ) → (g.grant seat node).named ≡ true → (1 ≤ seat) × (seat ≤ 15) × (node < count)
  pub unnamed : (seat node : ℕ) → (g.grant seat node).named ≡ false → g.grant seat node ≡ no_grant

-- what can be saved: an accepted rack that a file can say, with accepted images
pub record Savable (t : Tree) (g : Grants) (im : Images) : Type 0 where
  pub accepted : rack_refusal t ≡ 0
  pub tree : SaidTree t
  pub grants : SaidGrants t.count g
  pub images : image_refusal t im ≡ 0
