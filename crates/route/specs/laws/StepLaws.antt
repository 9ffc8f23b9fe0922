-- The steps of a route as the code takes them, and that its crossings are at most the number it was given.
use Rattle.std.specs.Prelude.{◌≡◌, Bool}
use Prim.Native.Nat.{ℕ, zero, suc, ◌+◌, ◌-◌, ◌≤◌}
use Rattle.std.proofs.Math.Nat.{le_refl}
use native.Mathlib.Omega.{arith}
use Rattle.rack.specs.definitions.Tree.{Tree}
use Rattle.register_image.specs.definitions.Image.{Images, Result, gives}
use Rattle.route_bus.specs.declared.Access.{Access}
use Rattle.route_bus.specs.declared.End.{End}
use Rattle.route_bus.specs.declared.End.TheVariants.{Silent}
use Rattle.route_bus.specs.declared.Route.{Route}
use Rattle.route_bus.specs.declared.Sight.{Sight}
use Rattle.route_bus.specs.declared.Sight.TheVariants.{Ends, Crosses}
use Rattle.route_bus.specs.definitions.End.{ends}
use Rattle.route_bus.specs.definitions.Look.{look}
use Rattle.route_bus.specs.definitions.Cross.{other_bus, turns_type0, crossed}
use Rattle.route.specs.definitions.Route.{follow, bus_step, bridge_step}

module _ (t : Tree) (im : Images) (x : Access) (bus driver : ℕ) (type0 : Bool) where
  -- an end that is seen on the bus is the bus's
  pub bus_ends : (n : ℕ) {e : End} {v : Images} → look t im x bus driver type0 ≡ gives (Ends e) v
      → bus_step (suc n) t im x bus driver type0 ≡ ends e v
  unfolding bus_step
  bus_ends n s = rw s

  -- the same, for a number of crossings that are left
  pub bus_ends_left : (left : ℕ) {e : End} {v : Images} → look t im x bus driver type0 ≡ gives (Ends e) v
      → bus_step (left + left + 1) t im x bus driver type0 ≡ ends e v
  bus_ends_left left s = let p : left + left + 1 ≡ suc (left + left) = omega arith in rw p (bus_ends (left + left) s)

  -- a bridge that takes the access across is followed while crossings are left
  pub bus_on : (left : ℕ) {g : ℕ} {v : Images} → look t im x bus driver type0 ≡ gives (Crosses g) v
      → (left ≡ 0 → ⊥)
      → bus_step (left + left + 1) t im x bus driver type0 ≡ bridge_step ((left - 1) + (left - 1) + 2) t v x bus g
  unfolding bus_step
  bus_on left s f =
      let p : left + left + 1 ≡ suc ((left - 1) + (left - 1) + 2) = omega arith in
      rw (p, s)

  -- where none are left there is no route
  pub bus_spent : (left : ℕ) {g : ℕ} {v : Images} → look t im x bus driver type0 ≡ gives (Crosses g) v
      → left ≡ 0 → bus_step (left + left + 1) t im x bus driver type0 ≡ ends Silent v
  unfolding bus_step
  bus_spent left s z = rw (z, s)

-- a bridge makes its own of the route from the bus on its other side
pub bridge_on : (t : Tree) (im : Images) (x : Access) (bus g left : ℕ)
    → bridge_step (left + left + 2) t im x bus g
    ≡ crossed t (bus_step (left + left + 1) t im x (other_bus t bus g) g (turns_type0 t im x bus g)).after x bus g
    (bus_step (left + left + 1) t im x (other_bus t bus g) g (turns_type0 t im x bus g)).answer
unfolding bus_step
bridge_on t im x bus g left = let p : left + left + 2 ≡ suc (left + left + 1) = omega arith in rw p

follow_le : (n : ℕ) (cross : ℕ → Images → Result Route) (s : Sight) (v : Images)
    → ((g : ℕ) (u : Images) → (cross g u).answer.crossings ≤ n) → (follow cross s v).answer.crossings ≤ n
follow_le n cross (Ends e) v b = omega arith
follow_le n cross (Crosses g) v b = b g v

module _ (t : Tree) (x : Access) where
  step_le : (left : ℕ) (im : Images) (bus driver : ℕ) (type0 : Bool)
      → (bus_step (suc (left + left)) t im x bus driver type0).answer.crossings ≤ left
  unfolding bus_step crossed
  step_le zero im bus driver type0 =
      follow_le 0 (λ g v. bridge_step 0 t v x bus g) (look t im x bus driver type0).answer (look t im x bus driver type0).after
      (λ g u. le_refl 0)
  step_le (suc left) im bus driver type0 =
      let p : suc left + suc left ≡ suc (suc (left + left)) = omega arith in
      rw p
      (follow_le (suc left) (λ g v. bridge_step (suc (suc (left + left))) t v x bus g) (look t im x bus driver type0).answer
      (look t im x bus driver type0).after
      (λ g u. omega (arith, step_le left u (other_bus t bus g) g (turns_type0 t u x bus g))))

  -- a route crosses no more bridges than it may
  pub bus_le : (left : ℕ) (im : Images) (bus driver : ℕ) (type0 : Bool)
      → (bus_step (left + left + 1) t im x bus driver type0).answer.crossings ≤ left
  bus_le left im bus driver type0 =
      let p : left + left + 1 ≡ suc (left + left) = omega arith in rw p (step_le left im bus driver type0)
