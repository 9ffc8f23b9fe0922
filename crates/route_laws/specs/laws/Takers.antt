-- Which bridge takes an access on from a bus: an agent of the bus that does not drive it. Until then no image has changed.
use Rattle.std.specs.Prelude.{◌≡◌, Bool, not, ◌&&◌, ℕ, eqb}
use Rattle.std.proofs.Math.Path.{refl}
use Rattle.std.proofs.Math.Bool.{true, false}
use Rattle.std.proofs.lemmas.Bool.{false≢true}
use mathlib.Core.List.{List, [], ◌∷◌}
use Rattle.std.proofs.Common.{inl, arith}
use Rattle.std.proofs.Math.Logic.{inr}
use borrow.Author.Tests.{eq-eqb, eqb-false}
use Rattle.rack.specs.definitions.Node.{is_bridge}
use Rattle.rack.specs.laws.Bools.{tested, both}
use Rattle.rack.specs.definitions.Tree.{Tree, host, agents, OnBus}
use Rattle.rack_laws.specs.laws.Agents.{All, all_on}
use Rattle.register_image.specs.definitions.Image.{Images, Result}
use Rattle.claim_agent.specs.definitions.Claim.{claims}
use Rattle.claim_agent.specs.definitions.Claimants.{claimants_in, first_two}
use Rattle.route_bus.specs.declared.Access.{Access}
use Rattle.route_bus.specs.declared.Route.{Route}
use Rattle.route_bus.specs.declared.Sight.{Sight}
use Rattle.route_bus.specs.declared.Sight.TheVariants.{Ends, Crosses}
use Rattle.route_bus.specs.definitions.Look.{unclaimed, owned, claimed, direct, look}
use Rattle.route_bus.specs.laws.LookLaws.{by_direct}
use Rattle.route.specs.definitions.Route.{follow}
use Rattle.route_laws.specs.definitions.Path.{Taken, claimants_on}

-- what is seen on a bus: an ending, or a bridge that takes the access on, its one claimant, and the images as they were
abbrev pub Follows : Tree → Images → Access → ℕ → ℕ → Bool → Sight → Images → Type 0
Follows t im x bus driver type0 (Ends e) v = Unit {0}
Follows t im x bus driver type0 (Crosses g) v =
    Taken t bus driver g × (v ≡ im) × (type0 ≡ false) × (claimants_on t im x bus driver ≡ g ∷ [])

-- what holds of agents holds of those that claim, and none of these drives
claiming : (P : ℕ → Type 0) (claim : ℕ → Bool) (driver : ℕ) (l : List ℕ) → All P l
    → All (λ g. P g × (g ≡ driver → ⊥)) (claimants_in claim driver l)
unfolding All claimants_in
claiming P claim driver [] a = tt
claiming P claim driver (g ∷ gs) a =
    tested (claim g && not (eqb g driver))
    (λ q. rw q ((a.0, λ e. off (eqb g driver) (both (claim g) _ q).1 (eq-eqb g driver e)), claiming P claim driver gs a.1))
    (λ q. rw q (claiming P claim driver gs a.1))
  where
    off : (b : Bool) → not b ≡ true → b ≡ true → ⊥
    off true n e = false≢true n
    off false n e = false≢true e

module _ (t : Tree) (bus : ℕ) where
  agents_on : All (OnBus t bus) (agents t bus)
  unfolding All
  agents_on = (inl refl, all_on t bus (OnBus t bus) 0 t.count (λ k a b p. inr (omega (arith, b), p)))

  module _ (im : Images) (x : Access) (driver : ℕ) where
    owned_follows : (g : ℕ) → OnBus t bus g × (g ≡ driver → ⊥) → claimants_on t im x bus driver ≡ g ∷ []
        → Follows t im x bus driver false (owned t im x g) im
    unfolding owned
    owned_follows g s one =
        tested (eqb g host) (λ a. rw a tt)
        (λ a.
        tested (is_bridge (t.node g).kind)
        (λ b.
        let k : Taken t bus driver g = record { bridge = b; node = eqb-false g host a; other = s.1; agent = s.0 } in
        rw (a, b) (k, refl, refl, one))
        (λ b. rw (a, b) tt))

    claimed_follows : (l : List ℕ) → All (λ g. OnBus t bus g × (g ≡ driver → ⊥)) l → claimants_on t im x bus driver ≡ l
        → Follows t im x bus driver false (claimed t im x bus driver (first_two l)).answer (claimed t im x bus driver (first_two l)).after
    unfolding claimed unclaimed All
    claimed_follows [] a e = tt
    claimed_follows (y ∷ []) a e = owned_follows y a.0 e
    claimed_follows (y ∷ (z ∷ l)) a e = tt

    direct_follows : Follows t im x bus driver true (direct t im x bus driver).answer (direct t im x bus driver).after
    unfolding unclaimed
    direct_follows =
        by_direct t im x bus driver (λ r. Follows t im x bus driver true r.answer r.after) (λ s. tt) (λ s q. tt) (λ s q. tt)

    -- a look sees one or the other
    pub look_follows : (type0 : Bool)
        → Follows t im x bus driver type0 (look t im x bus driver type0).answer (look t im x bus driver type0).after
    unfolding look
    look_follows true = direct_follows
    look_follows false =
        claimed_follows (claimants_on t im x bus driver)
        (claiming (OnBus t bus) (λ g. claims t im x.space bus g x.address) driver (agents t bus) agents_on) refl

-- so two ways to go on that agree on such a bridge agree
pub follow_same : (t : Tree) (im : Images) (x : Access) (bus driver : ℕ) (type0 : Bool) (cross cross' : ℕ → Images → Result Route)
    (s : Sight) (v : Images) → Follows t im x bus driver type0 s v
    → ((g : ℕ) → Taken t bus driver g → cross g im ≡ cross' g im)
    → follow cross s v ≡ follow cross' s v
follow_same t im x bus driver type0 cross cross' (Ends e) v f same = refl
follow_same t im x bus driver type0 cross cross' (Crosses g) v f same = rw f.1 (same g f.0)
