-- The nodes with one more after the last.
use Rattle.std.specs.Prelude.{◌≡◌, refl, ℕ, zero, suc, ◌<◌}
use Rattle.std.proofs.Common.{arith, eq-eqb, ne_eqb}
use Rattle.rack.specs.declared.Node.{Node}
use Rattle.rack.specs.declared.Range.{Range}
use Rattle.rack.specs.definitions.Node.{spelt}
use Rattle.rack.specs.definitions.Tree.{Tree, bridges_below, devices_below}
use Rattle.rack.specs.laws.TreeLaws.{bridges_same, devices_same}
use Rattle.rack.specs.definitions.Grow.{nodes_with, grown, tree_with}

module _ (t : Tree) (n : Node) where
  -- the new node, and each earlier one
  pub with_new : (i : ℕ) → i ≡ t.count → nodes_with t n i ≡ spelt n
  with_new i e = rw (eq-eqb i t.count e)

  pub with_earlier : (i : ℕ) → i < t.count → nodes_with t n i ≡ t.node i
  with_earlier i h = rw (ne_eqb i t.count (λ e. omega arith))

  -- below the new node there are as many bridges and devices as before
  pub with_bridges : bridges_below (nodes_with t n) t.count ≡ bridges_below t.node t.count
  with_bridges = bridges_same (nodes_with t n) t.node t.count with_earlier

  pub with_devices : devices_below (nodes_with t n) t.count ≡ devices_below t.node t.count
  with_devices = devices_same (nodes_with t n) t.node t.count with_earlier

-- n nodes are counted as n
pub with_count : (h : Range) (node : ℕ → Node) (n : ℕ) → (tree_with h node n).count ≡ n
unfolding tree_with grown
with_count h node zero = refl
with_count h node (suc n) = omega (arith, with_count h node n)
