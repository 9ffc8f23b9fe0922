-- What is no bridge is a device: the lengths that refusal 11 asks for, from the count of bridges alone.
use mathlib.Core.Path.{◌≡◌}
use mathlib.Core.Bool.{not, ◌&&◌}
use mathlib.Core.List.{List}
use Prim.Native.Nat.{ℕ, ◌-◌, ◌*◌, ◌≤◌}
use lib.Dec.{eqb}
use lib.ListN.{length}
use Rattle.rack.specs.declared.Node.{Node}
use Rattle.rack.specs.definitions.Tree.{Tree, bridges_below}
use Rattle.rack.specs.laws.TreeLaws.{devices_left, below_le}
use Rattle.register_image.specs.definitions.Image.{images}
use Rattle.register_image.specs.definitions.Fixed.{lengths_wrong}

pub bridges_le : (node : ℕ → Node) {n b : ℕ} → b ≡ bridges_below node n → b ≤ n
bridges_le node e = rw e (below_le node _)

pub lengths : (t : Tree) (l m : List ℕ) {n b : ℕ} → n ≡ t.count → b ≡ bridges_below t.node n
    → not (eqb (length l) (64 * b) && eqb (length m) (64 * (n - b))) ≡ lengths_wrong t (images l m)
unfolding lengths_wrong
lengths t l m at e = rw (e, at, devices_left t.node t.count)
