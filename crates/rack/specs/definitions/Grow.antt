-- The tree of a rack, node by node, as a rack file is read and as a decoded rack's table is filled.
use Rattle.std.specs.Prelude.{ℕ, zero, suc, ◌+◌, min, max, cond, ltb, eqb, get_or}
use Rattle.rack.specs.declared.Node.{Node}
use Rattle.rack.specs.declared.Range.{Range}
use Rattle.rack.specs.declared.Rack.{Rack}
use Rattle.rack.specs.definitions.Node.{is_bridge, spelt, no_node}
use Rattle.rack.specs.definitions.Tree.{Tree, image_count}

-- 01: 'first above last means none'
abbrev pub no_memory : Range
no_memory = record { first = 1; last = 0 }

-- 02, E2: 'A host without memory is written as first 1, last 0, and counts as equal to any other without memory'
abbrev pub memory_of : Range → Range
memory_of h = cond (ltb h.last h.first) no_memory h

-- a tree without nodes
abbrev pub no_tree : Range → Tree
no_tree h = record { count = 0; host_memory = memory_of h; node = λ i. spelt no_node; place = λ i. 0; depth_of = λ i. 0; deepest = 0 }

-- the nodes with one more after the last
abbrev pub nodes_with : Tree → Node → ℕ → Node
nodes_with t n i = cond (eqb i t.count) (spelt n) (t.node i)

-- the depth of the bus that a node with a parent would hold after the last; a parent that is no earlier node counts as the root bus
abbrev pub new_depth : Tree → ℕ → ℕ
new_depth t parent = cond (ltb parent t.count) (t.depth_of parent + 1) 1

-- 01: 'Nodes (kinds 2 and 3) are numbered from 0 in file order', 'Bridges' registers form one image and devices' another, in node order':
-- the tree with one node more, whose place is after those of its kind; all else that is stored stays
unfoldable pub grown : Tree → Node → Tree
grown t n =
    record {
      count = t.count + 1;
      host_memory = t.host_memory;
      node = nodes_with t n;
      place = λ i. cond (eqb i t.count) (image_count t n.kind) (t.place i);
      depth_of = λ i. cond (eqb i t.count) (new_depth t n.parent) (t.depth_of i);
      deepest = max t.deepest (cond (is_bridge n.kind) (new_depth t n.parent) 0);
    }

-- the tree of n nodes
unfoldable pub tree_with : Range → (ℕ → Node) → ℕ → Tree
tree_with h node zero = no_tree h
tree_with h node (suc n) = grown (tree_with h node n) (node n)

-- a tree with another count
abbrev pub counting : ℕ → Tree → Tree
counting n t = record { count = n; host_memory = t.host_memory; node = t.node; place = t.place; depth_of = t.depth_of; deepest = t.deepest }

-- the tree of a decoded rack, which has room for 96 nodes
abbrev pub tree : Rack → Tree
tree rack =
    counting rack.count
    (tree_with (record { first = rack.first; last = rack.last }) (λ i. get_or rack.nodes i no_node) (min 96 rack.count))
