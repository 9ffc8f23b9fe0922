-- Refusals 6 to 10 of a decoded rack, node by node as a file would meet them. Each number is a predicate of its own.
use Rattle.std.specs.Prelude.{ℕ, Bool, not, ◌&&◌, ◌||◌, cond, List, [], ◌∷◌, leb, ltb, eqb}
use Rattle.rack.specs.declared.Node.{Node}
use Rattle.rack.specs.definitions.Node.{is_bridge, region_in}
use Rattle.rack.specs.definitions.Count.{some}
use Rattle.rack.specs.definitions.First.{◌when◌, first, first_from, First}
use Rattle.rack.specs.definitions.Tree.{Tree, host, bridges_below, devices_below}

-- 6: 'A 33rd bridge or 65th device appears'
unfoldable pub too_many : (ℕ → Node) → ℕ → Bool
too_many node i =
    cond (is_bridge (node i).kind) (leb 32 (bridges_below node i)) (leb 64 (devices_below node i))

-- 7: 'The parent is neither 255 nor an earlier bridge'
unfoldable pub bad_parent : (ℕ → Node) → ℕ → Bool
bad_parent node i =
    not (eqb (node i).parent host || (ltb (node i).parent i && is_bridge (node (node i).parent).kind))

-- 8: 'The device number exceeds 15'
unfoldable pub high_device : (ℕ → Node) → ℕ → Bool
high_device node i = ltb 15 (node i).device

-- 9: 'The device number is taken on that bus', by an earlier node
abbrev pub same_slot : Node → Node → Bool
same_slot m n = eqb m.parent n.parent && eqb m.device n.device

unfoldable pub taken_device : (ℕ → Node) → ℕ → Bool
taken_device node i = some (λ j. same_slot (node j) (node i)) i

-- 10: 'A region's kind or exponent is out of range': 'Region kinds: 0 none (e = 0), 1 I/O (e 2 to 8), 2 32-bit memory (e 4 to
-- 31), 3 64-bit memory (e 4 to 31)'. A bridge has no regions
abbrev pub region_range : ℕ → ℕ → Bool
region_range kind e =
    eqb kind 0 && eqb e 0 || eqb kind 1 && (leb 2 e && leb e 8)
    || (eqb kind 2 || eqb kind 3) && (leb 4 e && leb e 31)

abbrev pub regions_range : Node → Bool
regions_range n =
    region_range (region_in n 0).kind (region_in n 0).exponent && region_range (region_in n 1).kind (region_in n 1).exponent
    && region_range (region_in n 2).kind (region_in n 2).exponent

unfoldable pub bad_region : (ℕ → Node) → ℕ → Bool
bad_region node i = not (is_bridge (node i).kind || regions_range (node i))

-- each number with its test, in this order
abbrev pub node_faults : (ℕ → Node) → ℕ → List ℕ
node_faults node i =
    6 when too_many node i ∷ 7 when bad_parent node i ∷ 8 when high_device node i ∷ 9 when taken_device node i
    ∷ 10 when bad_region node i ∷ []

-- the first that applies to a node, 0 where none does
unfoldable pub node_refusal : (ℕ → Node) → ℕ → ℕ
node_refusal node i = first (node_faults node i)

-- 01: '6 to 10 .. node by node': that of the first faulty node, 0 where there is none. A rack of more than 96 nodes has a 33rd bridge
-- or a 65th device among its first 97
abbrev pub rack_refusal : Tree → ℕ
rack_refusal t = first_from (node_refusal t.node) 0 t.count

-- number n is given at the first faulty node
abbrev pub FirstFaultyNode : Tree → ℕ → Type 0
FirstFaultyNode t n = First (node_refusal t.node) t.count n
