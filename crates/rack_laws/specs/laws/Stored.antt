-- What is stored of an accepted rack.
use Rattle.std.specs.Prelude.{◌≡◌, ℕ, ◌<◌, min}
use Rattle.std.proofs.Common.{ap, ◌∙◌, arith, lt-ltb}
use Rattle.rack.specs.declared.Rack.{Rack}
use Rattle.rack.specs.definitions.Tree.{Tree}
use Rattle.rack.specs.definitions.Grow.{counting, tree}
use Rattle.rack.specs.laws.GrowLaws.{with_count}
use Rattle.rack.specs.definitions.Stored.{Stored}
use Rattle.rack.specs.definitions.Refusal.{rack_refusal}
use Rattle.rack_laws.specs.laws.OnePass.{place_of, bus_depth, StoredBy, with_stored}
use Rattle.rack_laws.specs.laws.Sound.{nodes_le}
use Rattle.rack_laws.specs.laws.Places.{below, apart}
use Rattle.rack_laws.specs.laws.Depths.{depth_found, greatest_found}

-- a tree that stores what one pass finds stores, accepted, what the layers above use
pub by_stored : (t : Tree) → StoredBy t → rack_refusal t ≡ 0 → Stored t
by_stored t by ok =
    record {
      below = below t places;
      apart = apart t places;
      depth_is = λ bus is. depths bus ∙ depth_found t ok bus is;
      deepest_is = ap (λ (u : Tree). u.deepest) by ∙ greatest_found t ok;
    }
  where
    places : (i : ℕ) → i < t.count → t.place i ≡ place_of t.node i
    places i h = ap (λ (u : Tree). u.place i) by ∙ rw (lt-ltb i t.count h)

    depths : (bus : ℕ) → t.depth_of bus ≡ bus_depth t.node t.count bus
    depths bus = ap (λ (u : Tree). u.depth_of bus) by

-- as a decoded rack does
pub accepted_stored : (rack : Rack) → rack_refusal (tree rack) ≡ 0 → Stored (tree rack)
accepted_stored rack ok =
    let e : min 96 rack.count ≡ rack.count = omega (arith, nodes_le (tree rack) ok) in
    by_stored (tree rack) (rw e (counted (with_stored _ _ rack.count) (with_count _ _ rack.count))) ok
  where
    counted : {t : Tree} {n : ℕ} → StoredBy t → t.count ≡ n → StoredBy (counting n t)
    counted {t} by c = rw (← c) by
