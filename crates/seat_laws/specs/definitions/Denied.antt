-- A write that is denied. 02, E1: 'A write that reaches a register outside the grant ends as `denied` with its crossings, and stores
-- nothing'
use Rattle.std.specs.Prelude.{◌≡◌, true, false, List, ℕ, ◌<◌, length}
use Rattle.rack.specs.definitions.Tree.{Tree}
use Rattle.seat.specs.definitions.Grants.{Grants, Acting, acting, is_granted}
use Rattle.register_image.specs.definitions.Image.{Images}
use Rattle.bus_reset.specs.definitions.Store.{store_node}
use Rattle.route_bus.specs.declared.Access.{Access}
use Rattle.route_bus.specs.declared.End.TheVariants as end
use Rattle.route_bus.specs.definitions.Look.{found}
use Rattle.route.specs.definitions.Route.{configure}
use Rattle.route_laws.specs.definitions.Path.{ToType0}
use Rattle.route_laws.specs.laws.Type0.{arrived}
use Rattle.event_run.specs.declared.Ending.TheVariants.{Stored, Denied}
use Rattle.event_run.specs.definitions.Run.{answers, configured}

-- a configuration access comes over these bridges to a Type 0 on the bus of that holder, and there to node g
pub record Arrives (t : Tree) (im : Images) (x : Access) (gs : List ℕ) (holder g : ℕ) : Type 0 where
  pub path : ToType0 t im x gs holder
  pub node : found t im holder x.devfn ≡ g
  pub some : g ≡ 255 → ⊥
  pub route : configure t im x ≡ arrived im gs (end.Node g)

-- a write by a seat other than 0 that arrives at a register below 40h outside its grant: it is denied, where seat 0's is stored
pub record Denial (t : Tree) (by : Acting) (im : Images) (x : Access) : Type 0 where
  pub bridges : List ℕ
  pub holder : ℕ
  pub node : ℕ
  pub arrives : Arrives t im x bridges holder node
  pub write : x.write ≡ true
  pub seat : by.seat ≡ 0 → ⊥
  pub low : x.register < 64
  pub outside : is_granted by node x.register ≡ false
  pub denied : configured t by im x ≡ answers (length bridges) Denied im
  pub stores : (g : Grants)
      → configured t (acting g 0) im x ≡ answers (length bridges) Stored (store_node t im node x.register x.enables x.«data»)
