-- The bridges that an access passes, bus by bus, each of them the one claimant there.
use Rattle.std.specs.Prelude.{◌≡◌, Bool, true, false, List, [], ◌∷◌, ℕ, eqb, length}
use Rattle.rack.specs.definitions.Node.{is_bridge}
use Rattle.rack.specs.definitions.Tree.{Tree, host, OnBus}
use Rattle.register_image.specs.definitions.Image.{Images, Result, gives}
use Rattle.claim_agent.specs.definitions.Claimants.{claimants}
use Rattle.route_bus.specs.declared.Access.{Access}
use Rattle.route_bus.specs.declared.End.TheVariants.{Special}
use Rattle.route_bus.specs.declared.Route.{Route}
use Rattle.route_bus.specs.definitions.Cross.{other_bus, turns_type0}

-- bridge g takes an access on from a bus: it is an agent of the bus and does not drive there
pub record Taken (t : Tree) (bus driver g : ℕ) : Type 0 where
  pub bridge : is_bridge (t.node g).kind ≡ true
  pub node : g ≡ host → ⊥
  pub other : g ≡ driver → ⊥
  pub agent : OnBus t bus g

module _ (t : Tree) (im : Images) (x : Access) where
  -- who claims the access on a bus
  abbrev pub claimants_on : ℕ → ℕ → List ℕ
  claimants_on bus driver = claimants t im x.space bus driver x.address

  -- the bridges that take an access on from a bus to bus `last`, where `by` drives it, as Type 0 or not: on every bus that it passes one
  -- claims, the bridge that takes it on
  unfoldable pub Path : ℕ → ℕ → Bool → List ℕ → ℕ → ℕ → Bool → Type 0
  Path bus driver type0 [] last by type0' = (last ≡ bus) × (by ≡ driver) × (type0' ≡ type0)
  Path bus driver type0 (g ∷ gs) last by type0' =
      (type0 ≡ false) × (claimants_on bus driver ≡ g ∷ []) × Taken t bus driver g
      × Path (other_bus t bus g) g (turns_type0 t im x bus g) gs last by type0'

  -- 02, E4: 'on the root bus for bus 0 and otherwise on the secondary bus where the access would turn into Type 0': a configuration
  -- access comes over these bridges to a Type 0 on the bus of that holder
  abbrev pub ToType0 : List ℕ → ℕ → Type 0
  ToType0 gs holder = (by : ℕ) × Path host host (eqb x.address 0) gs holder by true

  -- or to a Type 1 there
  abbrev pub ToType1 : List ℕ → ℕ → Type 0
  ToType1 gs holder = (by : ℕ) × Path host host (eqb x.address 0) gs holder by false

  -- 02, E4: 'It ends as `special` with crossings and holder, and sets no master-abort bit', nor anything else
  abbrev pub special_at : List ℕ → ℕ → Result Route
  special_at gs holder = gives (record { crossings = length gs; end = Special holder }) im

-- the same access to another device and register, with other enables and data: it goes the same way
abbrev pub elsewhere : Access → ℕ → ℕ → ℕ → ℕ → Access
elsewhere x devfn register enables put =
    record { space = x.space; write = x.write; address = x.address; devfn = devfn; register = register; enables = enables; «data» = put }
