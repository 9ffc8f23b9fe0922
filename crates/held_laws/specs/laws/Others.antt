-- What the agents of a bus claim and drive with held nodes left out, in images that agree.
use Rattle.std.specs.Prelude.{◌≡◌, Bool, false, ◌&&◌, ◌⊎◌, ℕ, ◌≤◌, ◌<◌, eqb, length}
use Rattle.std.proofs.Math.Path.{refl}
use Rattle.std.proofs.Common.{sym, ap, ◌∙◌, ⊎_elim}
use Rattle.std.proofs.Math.Bool.{true, not, cond, and-false}
use Rattle.std.proofs.lemmas.Bool.{false≢true, eqb-false}
use Rattle.std.proofs.Math.Logic.{inl, inr}
use mathlib.Core.List.{List, [], ◌∷◌}
use native.Mathlib.Omega.{arith}
use Rattle.rack.specs.definitions.Tree.{Tree, host, agents, IsBus, OnBus}
use Rattle.rack.specs.definitions.Refusal.{rack_refusal}
use Rattle.rack.specs.laws.Bools.{tested, opposite, both, neither}
use Rattle.rack_laws.specs.laws.Agents.{All, all_on}
use Rattle.register_image.specs.definitions.Image.{Images}
use Rattle.bus_reset.specs.definitions.Held.{resets, held_bus, is_held}
use Rattle.bus_reset.specs.definitions.Agreement.{disagrees}
use Rattle.register_laws.specs.laws.Above.{above_step}
use Rattle.claim_agent.specs.declared.Space.{Space}
use Rattle.claim_agent.specs.declared.Space.TheVariants.{Memory, Io, Configuration}
use Rattle.claim_agent.specs.definitions.Claim.{claims}
use Rattle.claim_agent.specs.definitions.Claimants.{claimants_in, claimants}
use Rattle.claim_laws.specs.laws.Held.{Asked, held_claims, held_nodes}
use Rattle.check_search.specs.definitions.Check.{drivers_of}
use Rattle.held_laws.specs.definitions.Others.{held_agent, others, other_claimants, other_drivers}

module _ (t : Tree) (im : Images) where
  -- where no held agent of a list claims, its claimants are those of the others
  left_out : (claim : ℕ → Bool) (driver : ℕ) (l : List ℕ) → All (λ g. held_agent t im g ≡ true → claim g ≡ false) l
      → claimants_in claim driver (others t im l) ≡ claimants_in claim driver l
  unfolding others claimants_in All
  left_out claim driver [] q = refl
  left_out claim driver (g ∷ gs) q =
      tested (held_agent t im g) (λ h. rw (h, q.0 h) (left_out claim driver gs q.1))
      (λ h. rw h (ap (λ (l : List ℕ). cond (claim g && not (eqb g driver)) (g ∷ l) l) (left_out claim driver gs q.1)))

  -- where no agent of a list is held, it is the list of the others
  all_others : (l : List ℕ) → All (λ g. held_agent t im g ≡ false) l → others t im l ≡ l
  unfolding others All
  all_others [] q = refl
  all_others (g ∷ gs) q = rw q.0 (ap (λ (l : List ℕ). g ∷ l) (all_others gs q.1))

  module _ (agrees : disagrees t im ≡ false) (space : Space) (bus a : ℕ) (asked : Asked space a) where
    quiet : (g : ℕ) → (g ≡ host) ⊎ (g < t.count) → held_agent t im g ≡ true → claims t im space bus g a ≡ false
    quiet g (inl e) h = absurd (false≢true (sym (rw e) ∙ h))
    quiet g (inr n) h =
        let s = both (not (eqb g host)) (is_held t im g) h in
        held_claims t im agrees g n s.1 (eqb-false g host (opposite (eqb g host) s.0)) space bus a asked

    -- 02, E5: 'The check counts no held node as claimant': it need not, for none claims
    pub others_claim : IsBus t bus → (driver : ℕ) → other_claimants t im space bus driver a ≡ claimants t im space bus driver a
    unfolding All
    others_claim is driver =
        left_out (λ g. claims t im space bus g a) driver (agents t bus) (
          quiet bus (⊎_elim inl (λ r. inr r.0) is),
          all_on t bus (λ g. held_agent t im g ≡ true → claims t im space bus g a ≡ false) 0 t.count (λ k l m p. quiet k (inr (omega arith))),
        )

    -- all nodes on a held bus are held, so its holder alone may claim there, whoever drives
    pub held_bus_one : rack_refusal t ≡ 0 → held_bus t im bus ≡ true → (driver : ℕ) → length (claimants t im space bus driver a) ≤ 1
    unfolding claimants_in
    held_bus_one ok held driver =
        let none = held_nodes t im ok agrees bus held space a asked driver in
        tested (claims t im space bus bus a && not (eqb bus driver)) (λ q. rw (q, none) (omega arith)) (λ q. rw (q, none) (omega arith))

  module _ (ok : rack_refusal t ≡ 0) (bus : ℕ) (is : IsBus t bus) (free : held_bus t im bus ≡ false) where
    -- on a bus that is not held no agent is
    pub free_agent : (g : ℕ) → OnBus t bus g → held_agent t im g ≡ false
    free_agent g (inr n) = rw (n.1, free) (and-false (not (eqb g host)))
    free_agent g (inl e) =
        rw e
        (⊎_elim (λ r. rw r)
        (λ r.
        let s = neither (resets t im bus) (is_held t im bus) (sym (above_step t ok (resets t im) bus r.0) ∙ free) in
        rw s.1 (and-false (not (eqb bus host))))
        is)

    -- so the others are all of its agents, as claimants and as drivers
    pub free_agents : others t im (agents t bus) ≡ agents t bus
    unfolding All
    free_agents =
        all_others (agents t bus)
        (free_agent bus (inl refl), all_on t bus (λ g. held_agent t im g ≡ false) 0 t.count (λ k l m p. free_agent k (inr (omega arith, p))))

    pub free_drivers : (space : Space) → other_drivers t im bus space ≡ drivers_of t bus space
    unfolding All
    free_drivers Memory = free_agents
    free_drivers Io = free_agents
    free_drivers Configuration = all_others (bus ∷ []) (free_agent bus (inl refl), tt)

  -- where the others are at most one for every driver that is not held, so are all claimants for every driver
  pub at_most_one : rack_refusal t ≡ 0 → disagrees t im ≡ false → (space : Space) (bus driver a : ℕ) → IsBus t bus → OnBus t bus driver
      → Asked space a → (held_agent t im driver ≡ false → length (other_claimants t im space bus driver a) ≤ 1)
      → length (claimants t im space bus driver a) ≤ 1
  at_most_one ok agrees space bus driver a is on asked few =
      tested (held_bus t im bus) (λ q. held_bus_one agrees space bus a asked ok q driver)
      (λ q. rw (← others_claim agrees space bus a asked is driver) (few (free_agent ok bus is q driver on)))
