-- A test of ends that fails for whatever a claimed or unclaimed access comes to: it fails on every bus that asks for claimants, and
-- no bridge on the way back changes it.
use Rattle.std.specs.Prelude.{◌≡◌, Bool, false, ℕ, eqb}
use Rattle.std.proofs.Math.Path.{ap, sym}
use Rattle.std.proofs.Common.{◌∙◌}
use Rattle.rack.specs.definitions.Node.{is_bridge}
use Rattle.rack.specs.laws.Bools.{tested}
use Rattle.rack.specs.definitions.Tree.{Tree, host}
use Rattle.register_image.specs.definitions.Image.{Images, Result}
use Rattle.claim_agent.specs.declared.Claimants.{Claimants}
use Rattle.claim_agent.specs.declared.Claimants.TheVariants.{Nobody, One, Two}
use Rattle.route_bus.specs.declared.Access.{Access}
use Rattle.route_bus.specs.declared.Outcome.{Outcome}
use Rattle.route_bus.specs.declared.End.{End}
use Rattle.route_bus.specs.declared.End.TheVariants.{Owner, Host, Unclaimed, Clash}
use Rattle.route_bus.specs.declared.Route.{Route}
use Rattle.route_bus.specs.declared.Sight.{Sight}
use Rattle.route_bus.specs.declared.Sight.TheVariants.{Ends, Crosses}
use Rattle.route_bus.specs.definitions.End.{if_unclaimed}
use Rattle.route_bus.specs.laws.EndLaws.{by_end}
use Rattle.route_bus.specs.definitions.Look.{unclaimed, owned, claimed}
use Rattle.route_bus.specs.definitions.Cross.{passed, passed_end}
use Rattle.route.specs.definitions.Route.{follow}
use Rattle.route_laws.specs.definitions.Path.{Taken}
use Rattle.route_laws.specs.laws.Takers.{Follows}

pub record Failing (is : End → Bool) : Type 0 where
  pub owner : (g r o : ℕ) → is (Owner g r o) ≡ false
  pub at_host : (o : ℕ) → is (Host o) ≡ false
  pub unclaimed : (holder : ℕ) (o : Outcome) → is (Unclaimed holder o) ≡ false
  pub clash : (holder y z : ℕ) → is (Clash holder y z) ≡ false

module _ (is : End → Bool) where
  -- what is seen on a bus is an end for which the test fails, or a bridge
  abbrev pub Fails : Sight → Type 0
  Fails (Ends e) = is e ≡ false
  Fails (Crosses g) = Unit {0}

  pub follow_fails : (t : Tree) (im : Images) (x : Access) (bus driver : ℕ) (type0 : Bool) (cross : ℕ → Images → Result Route)
      (s : Sight) (v : Images) → Follows t im x bus driver type0 s v → Fails s → ((g : ℕ) → Taken t bus driver g → is (cross g im).answer.end ≡ false)
      → is (follow cross s v).answer.end ≡ false
  follow_fails t im x bus driver type0 cross (Ends e) v f s b = s
  follow_fails t im x bus driver type0 cross (Crosses g) v f s b = rw f.1 (b g f.0)

  module _ (fails : Failing is) (t : Tree) (im : Images) (x : Access) where
    pub passed_is : (bus g : ℕ) (e : End) → is (passed_end t im x bus g e) ≡ is e
    unfolding if_unclaimed
    passed_is bus g e =
        by_end e (λ holder o q. rw q (fails.unclaimed holder _ ∙ sym (fails.unclaimed holder o)))
        (λ other. ap is (other End (λ holder o. Unclaimed holder (passed t im x bus g o).answer) e))

    owned_fails : (g : ℕ) → Fails (owned t im x g)
    unfolding owned
    owned_fails g =
        tested (eqb g host) (λ a. rw a (fails.at_host _))
        (λ a. tested (is_bridge (t.node g).kind) (λ b. rw (a, b) tt) (λ b. rw (a, b) (fails.owner g _ _)))

    pub claimed_fails : (bus driver : ℕ) (c : Claimants) → Fails (claimed t im x bus driver c).answer
    unfolding claimed unclaimed
    claimed_fails bus driver Nobody = fails.unclaimed bus _
    claimed_fails bus driver (One g) = owned_fails g
    claimed_fails bus driver (Two y z) = fails.clash bus y z
