-- What the layers above use of what a table stores: each node has a place of its own in its image, and depths are those of the
-- buses. `accepted-stored` shows it of every accepted rack.
use Rattle.std.specs.Prelude.{◌≡◌, ℕ, ◌<◌}
use Rattle.rack.specs.definitions.Node.{is_bridge}
use Rattle.rack.specs.definitions.Tree.{Tree, IsBus, image_count, depth, greatest_depth}

pub record Stored (t : Tree) : Type 0 where
  -- a node's place is below the count of its image
  pub below : (i : ℕ) → i < t.count → t.place i < image_count t (t.node i).kind
  -- two nodes of one image have two places
  pub apart : (i j : ℕ) → i < t.count → j < t.count → is_bridge (t.node i).kind ≡ is_bridge (t.node j).kind
      → t.place i ≡ t.place j → i ≡ j
  -- the stored depth of a bus is its depth, and the stored greatest depth is the greatest
  pub depth_is : (bus : ℕ) → IsBus t bus → t.depth_of bus ≡ depth t bus
  pub deepest_is : t.deepest ≡ greatest_depth t
