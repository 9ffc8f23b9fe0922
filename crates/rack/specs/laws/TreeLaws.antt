-- Laws of how many bridges and devices there are.
use Rattle.std.specs.Prelude.{◌≡◌, not, ℕ, ◌-◌, ◌≤◌, ◌<◌}
use Rattle.std.proofs.Common.{ap, arith}
use Rattle.std.proofs.Math.Path.{fun_ext}
use Rattle.rack.specs.declared.Range.{Range}
use Rattle.rack.specs.declared.Node.{Node}
use Rattle.rack.specs.definitions.Node.{is_bridge}
use Rattle.rack.specs.laws.CountLaws.{count_both, count_le, count_same}
use Rattle.rack.specs.definitions.Tree.{Tree, bridges_below, devices_below}

-- trees are the same whose parts are
pub tree_same : {c d g e : ℕ} {h i : Range} {node mode : ℕ → Node} {place plot depth drop : ℕ → ℕ} → c ≡ d → h ≡ i
    → ((k : ℕ) → node k ≡ mode k) → ((k : ℕ) → place k ≡ plot k) → ((k : ℕ) → depth k ≡ drop k) → g ≡ e
    → ◌≡◌ {A = Tree} (record { count = c; host_memory = h; node = node; place = place; depth_of = depth; deepest = g })
    (record { count = d; host_memory = i; node = mode; place = plot; depth_of = drop; deepest = e })
tree_same {node = node} {mode = mode} {place = place} {plot = plot} {depth = depth} {drop = drop} ec eh en ep ed eg =
    let n : node ≡ mode = fun_ext en in
    let p : place ≡ plot = fun_ext ep in
    let d : depth ≡ drop = fun_ext ed in
    rw (ec, eh, n, p, d, eg)

-- the devices are the nodes that are no bridges
pub devices_left : (node : ℕ → Node) (n : ℕ) → devices_below node n ≡ n - bridges_below node n
devices_left node n = omega (arith, count_both (λ i. is_bridge (node i).kind) n)

pub below_le : (node : ℕ → Node) (n : ℕ) → bridges_below node n ≤ n
below_le node n = count_le (λ i. is_bridge (node i).kind) n

-- nodes that are the same below n: as many bridges and as many devices
pub bridges_same : (f g : ℕ → Node) (n : ℕ) → ((i : ℕ) → i < n → f i ≡ g i) → bridges_below f n ≡ bridges_below g n
bridges_same f g n s =
    count_same (λ i. is_bridge (f i).kind) (λ i. is_bridge (g i).kind) n (λ i h. ap (λ (m : Node). is_bridge m.kind) (s i h))

pub devices_same : (f g : ℕ → Node) (n : ℕ) → ((i : ℕ) → i < n → f i ≡ g i) → devices_below f n ≡ devices_below g n
devices_same f g n s =
    count_same (λ i. not (is_bridge (f i).kind)) (λ i. not (is_bridge (g i).kind)) n (λ i h. ap (λ (m : Node). not (is_bridge m.kind)) (s i h))
