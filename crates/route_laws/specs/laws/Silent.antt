-- In an accepted rack no access that is driven ends in silence; one that is not driven changes nothing.
use Rattle.std.specs.Prelude.{◌≡◌, refl, Bool, true, eqb}
use Rattle.std.proofs.Common.{◌∙◌, inl, ne_eqb}
use Rattle.std.proofs.Math.Bool.{false}
use Prim.Native.Nat.{ℕ, zero, suc, ◌+◌, ◌-◌, ◌<◌}
use native.Mathlib.Omega.{arith}
use Rattle.rack.specs.definitions.Tree.{Tree, host, parent_of, IsBus}
use Rattle.rack.specs.definitions.Stored.{Stored}
use Rattle.rack.specs.definitions.Refusal.{rack_refusal}
use Rattle.rack_laws.specs.laws.Sound.{not_host}
use Rattle.register_image.specs.definitions.Image.{Images}
use Rattle.claim_agent.specs.definitions.Claimants.{claimants, first_two}
use Rattle.route_bus.specs.declared.Access.{Access}
use Rattle.route_bus.specs.declared.End.TheVariants.{Silent}
use Rattle.route_bus.specs.definitions.End.{ends}
use Rattle.route_bus.specs.definitions.Look.{unclaimed, look}
use Rattle.route_bus.specs.laws.LookLaws.{by_direct}
use Rattle.route_bus.specs.definitions.Cross.{other_bus, turns_type0, crossed}
use Rattle.route.specs.definitions.Route.{drives, bus_step, bridge_step, possible, from, configure, access}
use Rattle.route_laws.specs.definitions.Ends.{is_silent}
use Rattle.route_laws.specs.laws.Takers.{look_follows}
use Rattle.route_laws.specs.laws.Failing.{Failing, Fails, passed_is, claimed_fails, follow_fails}
use Rattle.route_laws.specs.laws.Possible.{Enough, onward, parent_bus, possible_is}

-- a device whose command bit 2 is clear drives nothing, and nothing changes
pub access_silent : (t : Tree) (im : Images) (x : Access) (i : ℕ) → (i ≡ host → ⊥)
    → drives t im i ≡ false → access t im x i ≡ ends Silent im
unfolding access
access_silent t im x i ne off = rw (ne_eqb i host ne, off)

silent_fails : Failing is_silent
silent_fails = record { owner = λ g r o. refl; at_host = λ o. refl; unclaimed = λ holder o. refl; clash = λ holder y z. refl }

look_driven : (t : Tree) (im : Images) (x : Access) (bus driver : ℕ) (type0 : Bool)
    → Fails is_silent (look t im x bus driver type0).answer
unfolding look unclaimed
look_driven t im x bus driver true =
    by_direct t im x bus driver (λ r. Fails is_silent r.answer) (λ s. refl) (λ s q. refl) (λ s q. refl)
look_driven t im x bus driver false =
    claimed_fails is_silent silent_fails t im x bus driver (first_two (claimants t im x.space bus driver x.address))

module _ (t : Tree) (ok : rack_refusal t ≡ 0) (x : Access) where
  steps_driven : (m : ℕ) (im : Images) (bus driver : ℕ) (type0 : Bool) → IsBus t bus → Enough t bus driver m
      → is_silent (bus_step (suc (m + m)) t im x bus driver type0).answer.end ≡ false
  unfolding bus_step crossed
  steps_driven zero im bus driver type0 is a =
      follow_fails is_silent t im x bus driver type0 (λ g v. bridge_step 0 t v x bus g) (look t im x bus driver type0).answer
      (look t im x bus driver type0).after (look_follows t bus im x driver type0) (look_driven t im x bus driver type0)
      (λ g k. absurd ((onward t ok bus driver 0 g is a k).left refl))
  steps_driven (suc m) im bus driver type0 is a =
      let p : suc m + suc m ≡ suc (suc (m + m)) = omega arith in
      rw p
      (follow_fails is_silent t im x bus driver type0 (λ g v. bridge_step (suc (suc (m + m))) t v x bus g) (look t im x bus driver type0).answer
      (look t im x bus driver type0).after (look_follows t bus im x driver type0) (look_driven t im x bus driver type0)
      (λ g k.
      let o = onward t ok bus driver (suc m) g is a k in
      let s : suc m - 1 ≡ m = omega arith in
      let r = bus_step (suc (m + m)) t im x (other_bus t bus g) g (turns_type0 t im x bus g) in
      passed_is is_silent silent_fails t r.after x bus g r.answer.end
      ∙ steps_driven m im (other_bus t bus g) g (turns_type0 t im x bus g) o.place (rw s at o.enough)))

  -- with enough crossings left no route ends in silence
  pub bus_driven : (left : ℕ) (im : Images) (bus driver : ℕ) (type0 : Bool) → IsBus t bus → Enough t bus driver left
      → is_silent (bus_step (left + left + 1) t im x bus driver type0).answer.end ≡ false
  bus_driven left im bus driver type0 is a =
      let p : left + left + 1 ≡ suc (left + left) = omega arith in rw p (steps_driven left im bus driver type0 is a)

  module _ (st : Stored t) where
    -- nor does one with those that are possible
    pub from_driven : (im : Images) (bus driver : ℕ) (type0 : Bool) → IsBus t bus
        → is_silent (from t im x bus driver type0).answer.end ≡ false
    from_driven im bus driver type0 is = bus_driven (possible t bus) im bus driver type0 is (inl (omega (arith, possible_is t st bus is)))

    -- nor does a configuration access
    pub configure_driven : (im : Images) → is_silent (configure t im x).answer.end ≡ false
    unfolding configure
    configure_driven im = from_driven im host host (eqb x.address 0) (inl refl)

    -- nor an access of the host
    pub host_driven : (im : Images) → is_silent (access t im x host).answer.end ≡ false
    unfolding access
    host_driven im = from_driven im host host false (inl refl)

    -- nor one of a device that drives
    pub access_driven : (im : Images) (i : ℕ) → i < t.count → drives t im i ≡ true
        → is_silent (access t im x i).answer.end ≡ false
    unfolding access
    access_driven im i below on =
        rw (ne_eqb i host (not_host t ok i below), on) (from_driven im (parent_of t i) i false (parent_bus t ok i below))
