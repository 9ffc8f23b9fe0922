-- What a node is, and the node that stands where a rack has none.
use Rattle.std.specs.Prelude.{ℕ, Bool, true, false, cond, [], ◌∷◌, eqb, get_or}
use Rattle.rack.specs.declared.Kind.{Kind}
use Rattle.rack.specs.declared.Kind.TheVariants.{Device, Bridge, OlderBridge}
use Rattle.rack.specs.declared.Region.{Region}
use Rattle.rack.specs.declared.Node.{Node}

-- 01: '2 bridge', '3 device'; 02, E11: 'Kind 13 has kind 2's body'
abbrev pub kind_number : Kind → ℕ
kind_number Device = 3
kind_number Bridge = 2
kind_number OlderBridge = 13

-- the kind that has a number; asked of these three alone
abbrev pub kind_from : ℕ → Kind
kind_from n = cond (eqb n 2) Bridge (cond (eqb n 13) OlderBridge Device)

-- 01: 'Bridges' registers form one image and devices' another'; 02, E11: 'an older bridge is in all else a node and bridge as kind 2
-- is, in numbering and image too'
abbrev pub is_bridge : Kind → Bool
is_bridge Device = false
is_bridge Bridge = true
is_bridge OlderBridge = true

-- 01: 'Region kinds: 0 none (e = 0)'
abbrev pub no_region : Region
no_region = record { kind = 0; exponent = 0 }

abbrev pub region_in : Node → ℕ → Region
region_in n r = get_or n.regions r no_region

-- a region that a record can say: a bridge's record has none, so those of a decoded bridge are no content of its rack
abbrev pub own_region : Node → ℕ → Region
own_region n r = cond (is_bridge n.kind) no_region (region_in n r)

-- a node as its record says it, with its three regions written out
abbrev pub spelt : Node → Node
spelt n =
    record {
      kind = n.kind;
      parent = n.parent;
      device = n.device;
      vendor_id = n.vendor_id;
      device_id = n.device_id;
      regions = own_region n 0 ∷ own_region n 1 ∷ own_region n 2 ∷ [];
    }

-- what stands where a rack has no node
abbrev pub no_node : Node
no_node = record { kind = Device; parent = 0; device = 0; vendor_id = 0; device_id = 0; regions = [] }
