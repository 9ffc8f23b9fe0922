-- 02, E5: 'configuration finds nobody on a held bus, though a special cycle still ends as one': a Type 0 access selects no node there, and
-- a Type 1 access is claimed by none.
use Rattle.std.specs.Prelude.{◌≡◌, refl, Bool, ℕ, ◌+◌, ◌-◌, ◌≤◌, eqb}
use Rattle.std.proofs.Common.{sym, ◌∙◌, inl}
use Rattle.std.proofs.Math.Path.{ap}
use Rattle.std.proofs.Math.Bool.{true, false}
use mathlib.Core.List.{List, [], ◌∷◌}
use native.Mathlib.Omega.{arith}
use Rattle.std.proofs.Math.ListN.{length}
use borrow.Author.Tests.{eqb-false}
use Rattle.rack.specs.definitions.Tree.{Tree, host, IsBus}
use Rattle.rack.specs.definitions.Stored.{Stored}
use Rattle.rack.specs.definitions.Refusal.{rack_refusal}
use Rattle.rack.specs.laws.Bools.{tested}
use Rattle.register_image.specs.definitions.Image.{Images, Result, gives}
use Rattle.bus_reset.specs.definitions.Held.{held_bus}
use Rattle.bus_reset.specs.definitions.Agreement.{disagrees}
use Rattle.claim_agent.specs.declared.Space.TheVariants.{Configuration}
use Rattle.claim_laws.specs.laws.Held.{held_numbers}
use Rattle.route_bus.specs.declared.Access.{Access}
use Rattle.route_bus.specs.declared.Outcome.{Outcome}
use Rattle.route_bus.specs.declared.Outcome.TheVariants.{Abort}
use Rattle.route_bus.specs.declared.End.TheVariants.{Unclaimed}
use Rattle.route_bus.specs.declared.Route.{Route}
use Rattle.route_bus.specs.declared.Sight.{Sight}
use Rattle.route_bus.specs.declared.Sight.TheVariants.{Ends}
use Rattle.route_bus.specs.definitions.End.{if_unclaimed}
use Rattle.route_bus.specs.definitions.Look.{master_abort, unclaimed, claimed, found, selects, is_special_cycle, look}
use Rattle.route_bus.specs.laws.LookLaws.{other_selects}
use Rattle.route_bus.specs.definitions.Cross.{other_bus, turns_type0, passed, crossed}
use Rattle.route.specs.definitions.Route.{bus_step, possible, configure}
use Rattle.route.specs.laws.StepLaws.{bus_ends_left, bus_on, bridge_on}
use Rattle.route_laws.specs.definitions.Path.{Path, ToType0, ToType1}
use Rattle.route_laws.specs.laws.Possible.{Enough, onward, possible_is}
use Rattle.route_laws.specs.laws.Special.{look_crosses}

-- on a held bus nobody is found
pub held_none : (t : Tree) (im : Images) (bus devfn : ℕ) → held_bus t im bus ≡ true → found t im bus devfn ≡ 255
unfolding found
held_none t im bus devfn h = rw h

-- and who is found is on a bus that is not held
pub found_free : (t : Tree) (im : Images) (bus devfn : ℕ) → (found t im bus devfn ≡ 255 → ⊥) → held_bus t im bus ≡ false
found_free t im bus devfn ne = tested (held_bus t im bus) (λ h. absurd (ne (held_none t im bus devfn h))) (λ h. h)

-- what an access comes to that ends unclaimed on a bus, after so many crossings
abbrev pub EndsUnclaimed : Route → ℕ → ℕ → Type 0
EndsUnclaimed r crossings holder = (o : Outcome) × (r ≡ record { crossings = crossings; end = Unclaimed holder o })

-- what is seen on a bus where nobody claims
abbrev seen_none : Tree → Images → ℕ → ℕ → Result Sight
seen_none t im bus driver = gives (Ends (Unclaimed bus Abort)) (master_abort t im bus driver)

module _ (t : Tree) (im : Images) (x : Access) where
  crossed_unclaimed : (bus g n holder : ℕ) (o : Result Route) → EndsUnclaimed o.answer n holder
      → EndsUnclaimed (crossed t o.after x bus g o.answer).answer (n + 1) holder
  unfolding crossed if_unclaimed
  crossed_unclaimed bus g n holder o u =
      ((passed t o.after x bus g u.0).answer, rw u.1)

  module _ (ok : rack_refusal t ≡ 0) where
    -- an access that comes as such a Type to a held bus, on which it sees nobody, ends there
    module _ (kind : Bool)
        (none : (bus driver : ℕ) → IsBus t bus → held_bus t im bus ≡ true → look t im x bus driver kind ≡ seen_none t im bus driver) where
      bus_unclaimed : (gs : List ℕ) (m bus driver : ℕ) (type0 : Bool) (holder by : ℕ) → IsBus t bus → Enough t bus driver m
          → Path t im x bus driver type0 gs holder by kind → held_bus t im holder ≡ true
          → EndsUnclaimed (bus_step (m + m + 1) t im x bus driver type0).answer (length gs) holder
      unfolding Path
      bus_unclaimed [] m bus driver type0 holder by is en p h =
          let h' : held_bus t im bus ≡ true = rw p.0 at h in
          let seen = ap (λ (b : Bool). look t im x bus driver b) (sym p.2) ∙ none bus driver is h' in (
            Abort,
            ap (λ (o : Result Route). o.answer) (bus_ends_left t im x bus driver type0 m seen)
                ∙ ap (λ (k : ℕ). record { crossings = 0; end = Unclaimed k Abort }) (sym p.0),
          )
      bus_unclaimed (g ∷ gs) m bus driver type0 holder by is en p h =
          let o = onward t ok bus driver m g is en p.2 in
          let e = bus_on t im x bus driver type0 m (look_crosses t im x bus driver g type0 p.0 p.1 p.2) o.left
          ∙ bridge_on t im x bus g (m - 1) in
          let n : length gs + 1 ≡ length (g ∷ gs) = omega arith in
          rw (e, ← n)
          (crossed_unclaimed bus g (length gs) holder (bus_step ((m - 1) + (m - 1) + 1) t im x (other_bus t bus g) g (turns_type0 t im x bus g))
          (bus_unclaimed gs (m - 1) (other_bus t bus g) g (turns_type0 t im x bus g) holder by o.place o.enough p.3 h))

      from_unclaimed : Stored t → (gs : List ℕ) (holder by : ℕ) → Path t im x host host (eqb x.address 0) gs holder by kind
          → held_bus t im holder ≡ true → EndsUnclaimed (configure t im x).answer (length gs) holder
      unfolding configure
      from_unclaimed st gs holder by p h =
          bus_unclaimed gs (possible t host) host host (eqb x.address 0) holder by (inl refl)
          (inl (omega (arith, possible_is t st host (inl refl)))) p h

    -- a configuration access that comes to a Type 0 on a held bus and is no special cycle ends unclaimed there
    pub held_unclaimed : is_special_cycle x ≡ false → Stored t → (gs : List ℕ) (holder : ℕ) → ToType0 t im x gs holder
        → held_bus t im holder ≡ true → EndsUnclaimed (configure t im x).answer (length gs) holder
    unfolding look selects unclaimed
    held_unclaimed other st gs holder w h = from_unclaimed true look_none st gs holder w.0 w.1 h
      where
        look_none : (bus driver : ℕ) → IsBus t bus → held_bus t im bus ≡ true → look t im x bus driver true ≡ seen_none t im bus driver
        look_none bus driver is h = rw (other_selects t im x bus driver other, held_none t im bus x.devfn h)

    -- bus 0 is never Type 1
    type1_number : (gs : List ℕ) (holder : ℕ) → ToType1 t im x gs holder → 1 ≤ x.address
    unfolding Path
    type1_number [] holder w = omega (arith, eqb-false x.address 0 (sym w.1.2))
    type1_number (g ∷ gs) holder w = omega (arith, eqb-false x.address 0 w.1.0)

    -- and one that comes to a held bus as Type 1 ends unclaimed there too, a special cycle or not: nobody takes it on
    pub held_type1 : disagrees t im ≡ false → x.space ≡ Configuration → Stored t → (gs : List ℕ) (holder : ℕ) → ToType1 t im x gs holder
        → held_bus t im holder ≡ true → EndsUnclaimed (configure t im x).answer (length gs) holder
    unfolding look claimed unclaimed
    held_type1 agrees config st gs holder w h = from_unclaimed false look_none st gs holder w.0 w.1 h
      where
        look_none : (bus driver : ℕ) → IsBus t bus → held_bus t im bus ≡ true → look t im x bus driver false ≡ seen_none t im bus driver
        look_none bus driver is h =
            rw (config, held_numbers t im ok agrees bus h is x.address (type1_number gs holder w) driver)
