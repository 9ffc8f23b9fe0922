-- The tree of a rack. Everything above is defined over `Tree`, which does not say how the nodes are stored.
use Rattle.std.specs.Prelude.{◌≡◌, ◌⊎◌, ℕ, zero, suc, ◌+◌, ◌<◌, max, true, not, cond, List, [], ◌∷◌, eqb}
use Rattle.rack.specs.declared.Kind.{Kind}
use Rattle.rack.specs.declared.Node.{Node}
use Rattle.rack.specs.declared.Range.{Range}
use Rattle.rack.specs.definitions.Node.{is_bridge}
use Rattle.rack.specs.definitions.Count.{count_of}

-- how many nodes there are, host memory, and each node by its number. Of each node a table stores its place in its image and the
-- depth of the bus that it holds, and the greatest depth: `Stored` says that they are those defined below
pub record Tree : Type 0 where
  pub count : ℕ
  pub host_memory : Range
  pub node : ℕ → Node
  pub place : ℕ → ℕ
  pub depth_of : ℕ → ℕ
  pub deepest : ℕ

-- 01: '255, the root bus; 255 also names the host'. A bus is named by its holder
abbrev pub host : ℕ
host = 255

-- how many bridges, and how many devices, are among the first n nodes
abbrev pub bridges_below : (ℕ → Node) → ℕ → ℕ
bridges_below node n = count_of (λ i. is_bridge (node i).kind) n

abbrev pub devices_below : (ℕ → Node) → ℕ → ℕ
devices_below node n = count_of (λ i. not (is_bridge (node i).kind)) n

abbrev pub bridge_count : Tree → ℕ
bridge_count t = bridges_below t.node t.count

abbrev pub device_count : Tree → ℕ
device_count t = devices_below t.node t.count

-- how many nodes the image holds that has nodes of a kind
abbrev pub image_count : Tree → Kind → ℕ
image_count t k = cond (is_bridge k) (bridge_count t) (device_count t)

-- the bus that a node sits on
abbrev pub parent_of : Tree → ℕ → ℕ
parent_of t i = (t.node i).parent

-- 01: 'the nodes on it by number': of the `left` nodes from i on, those on a bus
unfoldable pub nodes_from : Tree → ℕ → ℕ → ℕ → List ℕ
nodes_from t bus i zero = []
nodes_from t bus i (suc left) =
    cond (eqb (parent_of t i) bus) (i ∷ nodes_from t bus (i + 1) left) (nodes_from t bus (i + 1) left)

abbrev pub nodes_on : Tree → ℕ → List ℕ
nodes_on t bus = nodes_from t bus 0 t.count

-- 01: 'Agents of a bus: its holder (the host, or the bridge above it), then the nodes on it by number'
abbrev pub agents : Tree → ℕ → List ℕ
agents t bus = bus ∷ nodes_on t bus

-- of the `left` nodes from i on, the bridges
unfoldable pub bridges_from : Tree → ℕ → ℕ → List ℕ
bridges_from t i zero = []
bridges_from t i (suc left) =
    cond (is_bridge (t.node i).kind) (i ∷ bridges_from t (i + 1) left) (bridges_from t (i + 1) left)

-- 01: 'Buses in order (root, then bridges by number)'
abbrev pub buses : Tree → List ℕ
buses t = host ∷ bridges_from t 0 t.count

-- a bus of the rack: the root bus or a bridge's
abbrev pub IsBus : Tree → ℕ → Type 0
IsBus t bus = (bus ≡ host) ⊎ ((bus < t.count) × (is_bridge (t.node bus).kind ≡ true))

-- an agent of a bus: its holder, or a node on it
abbrev pub OnBus : Tree → ℕ → ℕ → Type 0
OnBus t bus g = (g ≡ bus) ⊎ ((g < t.count) × (parent_of t g ≡ bus))

-- 01: 'The root bus has depth 0, a bridge's bus one more than the bus it sits on', at most `steps` up
unfoldable pub depth_in : Tree → ℕ → ℕ → ℕ
depth_in t zero bus = 0
depth_in t (suc steps) bus = cond (eqb bus host) 0 (depth_in t steps (parent_of t bus) + 1)

-- a parent is an earlier node, so a way up from node i has at most i + 1 steps (`depth-step`)
abbrev pub depth : Tree → ℕ → ℕ
depth t bus = depth_in t (bus + 1) bus

unfoldable pub greatest_of : Tree → List ℕ → ℕ
greatest_of t [] = 0
greatest_of t (bus ∷ rest) = max (depth t bus) (greatest_of t rest)

-- 01: 'The greatest depth is taken over all buses, those without nodes too'
abbrev pub greatest_depth : Tree → ℕ
greatest_depth t = greatest_of t (buses t)
