-- Ends that only configuration has: a node's registers, and a special cycle.
use Rattle.std.specs.Prelude.{◌≡◌, refl, Bool, true, false, eqb}
use Rattle.std.proofs.Common.{◌∙◌}
use Prim.Native.Nat.{ℕ, zero, suc, ◌+◌}
use Rattle.rack.specs.laws.Bools.{tested}
use Rattle.rack.specs.definitions.Tree.{Tree, host, parent_of}
use Rattle.register_image.specs.definitions.Image.{Images}
use Rattle.claim_agent.specs.definitions.Claimants.{claimants, first_two}
use Rattle.route_bus.specs.declared.Access.{Access}
use Rattle.route_bus.specs.declared.End.{End}
use Rattle.route_bus.specs.declared.End.TheVariants.{Silent}
use Rattle.route_bus.specs.definitions.Look.{is_special_cycle, look}
use Rattle.route_bus.specs.laws.LookLaws.{look_special}
use Rattle.route_bus.specs.definitions.Cross.{other_bus, is_configuration, turns_type0, crossed}
use Rattle.route.specs.definitions.Route.{drives, bus_step, bridge_step, possible, configure, access}
use Rattle.route_laws.specs.definitions.Ends.{ends_at_node, is_special}
use Rattle.route_laws.specs.laws.Takers.{look_follows}
use Rattle.route_laws.specs.laws.Failing.{Failing, Fails, passed_is, claimed_fails, follow_fails}

pub node_fails : Failing ends_at_node
node_fails = record { owner = λ g r o. refl; at_host = λ o. refl; unclaimed = λ holder o. refl; clash = λ holder y z. refl }

pub special_fails : Failing is_special
special_fails = record { owner = λ g r o. refl; at_host = λ o. refl; unclaimed = λ holder o. refl; clash = λ holder y z. refl }

-- a test that fails on every bus where the access may be Type 0 or not, as `On` has it, fails for its route
module _ (is : End → Bool) (fails : Failing is) (not-silent : is Silent ≡ false) (t : Tree) (x : Access) where
  module _ (On : Bool → Type 0) (turns : (im : Images) (bus g : ℕ) → On (turns_type0 t im x bus g))
      (seen : (im : Images) (bus driver : ℕ) (type0 : Bool) → On type0 → Fails is (look t im x bus driver type0).answer) where
    bus_none : (n : ℕ) (im : Images) (bus driver : ℕ) (type0 : Bool) → On type0
        → is (bus_step n t im x bus driver type0).answer.end ≡ false
    unfolding bus_step crossed
    bus_none zero im bus driver type0 on = not-silent
    bus_none (suc zero) im bus driver type0 on =
        follow_fails is t im x bus driver type0 (λ g v. bridge_step 0 t v x bus g) (look t im x bus driver type0).answer
        (look t im x bus driver type0).after (look_follows t bus im x driver type0) (seen im bus driver type0 on) (λ g k. not-silent)
    bus_none (suc (suc n)) im bus driver type0 on =
        follow_fails is t im x bus driver type0 (λ g v. bridge_step (suc n) t v x bus g) (look t im x bus driver type0).answer
        (look t im x bus driver type0).after (look_follows t bus im x driver type0) (seen im bus driver type0 on)
        (λ g k.
        let r = bus_step n t im x (other_bus t bus g) g (turns_type0 t im x bus g) in
        passed_is is fails t r.after x bus g r.answer.end
        ∙ bus_none n im (other_bus t bus g) g (turns_type0 t im x bus g) (turns im bus g))

  claimed_seen : (im : Images) (bus driver : ℕ) → Fails is (look t im x bus driver false).answer
  unfolding look
  claimed_seen im bus driver = claimed_fails is fails t im x bus driver (first_two (claimants t im x.space bus driver x.address))

  module _ (other : is_configuration x.space ≡ false) where
    never : (im : Images) (bus g : ℕ) → turns_type0 t im x bus g ≡ false
    unfolding turns_type0
    never im bus g = rw other

    address_none : (n : ℕ) (im : Images) (bus driver : ℕ) → is (bus_step n t im x bus driver false).answer.end ≡ false
    address_none n im bus driver =
        bus_none (λ type0. type0 ≡ false) never (λ v b d type0 e. rw e (claimed_seen v b d)) n im bus driver false refl

    -- a memory or I/O access of the host or of a device has no such end
    pub access_none : (im : Images) (i : ℕ) → is (access t im x i).answer.end ≡ false
    unfolding access
    access_none im i =
        tested (eqb i host) (λ a. rw a (address_none (possible t host + possible t host + 1) im host host))
        (λ a.
        tested (drives t im i)
        (λ b. rw (a, b) (address_none (possible t (parent_of t i) + possible t (parent_of t i) + 1) im (parent_of t i) i))
        (λ b. rw (a, b) not-silent))

-- a special cycle reaches no register
pub cycle_none : (t : Tree) (im : Images) (x : Access) → is_special_cycle x ≡ true → ends_at_node (configure t im x).answer.end ≡ false
unfolding configure
cycle_none t im x cycle =
    bus_none ends_at_node node_fails refl t x (λ type0. Unit {0}) (λ v b g. tt) seen (possible t host + possible t host + 1) im host host
    (eqb x.address 0) tt
  where
    seen : (v : Images) (b d : ℕ) (type0 : Bool) → Unit {0} → Fails ends_at_node (look t v x b d type0).answer
    seen v b d true on = rw (look_special t v x b d cycle) refl
    seen v b d false on = claimed_seen ends_at_node node_fails refl t x v b d
