-- Demand 3: where every access goes in a passed rack, for images that differ from the passed ones at most in status bits.
use Rattle.std.specs.Prelude.{◌≡◌, refl, ◌⊎◌, ℕ, ◌+◌, ◌≤◌, eqb, length}
use Rattle.std.proofs.Math.Path.{sym}
use Rattle.std.proofs.Common.{ap, ◌∙◌, ⊎_elim, arith}
use Rattle.std.proofs.Math.Bool.{false}
use Rattle.std.proofs.Math.Logic.{inl, inr}
use borrow.Author.Tests.{eqb-true, eqb-false, ne_eqb}
use Rattle.rack.specs.laws.Bools.{tested}
use Rattle.rack.specs.definitions.Tree.{Tree, host, parent_of, IsBus, depth, greatest_depth, OnBus}
use Rattle.rack.specs.definitions.Stored.{Stored}
use Rattle.rack.specs.definitions.Refusal.{rack_refusal}
use Rattle.rack_laws.specs.laws.Sound.{nodes_le, not_host}
use Rattle.register_image.specs.definitions.Image.{Images}
use Rattle.claim_agent.specs.declared.Space.{Space}
use Rattle.claim_agent.specs.declared.Space.TheVariants.{Memory, Io, Configuration}
use Rattle.claim_agent.specs.definitions.Claimants.{claimants}
use Rattle.claim_laws.specs.laws.Apart.{claimants_same}
use Rattle.claim_laws.specs.definitions.Same.{SameButStatus}
use Rattle.route_bus.specs.declared.Access.{Access}
use Rattle.route_bus.specs.definitions.Cross.{other_bus}
use Rattle.route.specs.definitions.Route.{drives, from, configure, access}
use Rattle.route_laws.specs.definitions.Ends.{is_clash}
use Rattle.route_laws.specs.definitions.Path.{Taken}
use Rattle.route_laws.specs.laws.Possible.{parent_bus, crossings_le, configure_le}
use Rattle.check_search.specs.definitions.Report.{Pass}
use Rattle.check_search.specs.definitions.Check.{check}
use Rattle.demand_passed.specs.laws.Clear.{passed}
use Rattle.demand_passed.specs.laws.Ways.{Gone, from_gone, started_gone, gone_no_clash}
use Rattle.demand_passed.specs.definitions.OneClaimant.{OneClaimant}
use Rattle.demand_passed.specs.definitions.Way.{Went, start_of, Initiator, Address, BusNumber, Silenced}
use Rattle.register_image.specs.definitions.Fixed.{lengths_wrong}
use Rattle.route_laws.specs.laws.Changes.{access_same, configure_same}

module _ (t : Tree) (ok : rack_refusal t ≡ 0) (st : Stored t) where
  -- who drives: for an address an agent of the bus, for a bus number the bus's holder. It holds of each bridge that takes on
  drives_on : (bus driver g : ℕ) → IsBus t bus → OnBus t bus driver → Taken t bus driver g → OnBus t (other_bus t bus g) g
  unfolding other_bus
  drives_on bus driver g is on k =
      tested (eqb g bus)
      (λ q.
      let e : g ≡ bus = eqb-true g bus q in
      rw q (inr (⊎_elim (λ r. absurd (k.node (e ∙ r))) (λ r. omega (arith, r.0)) is, refl)))
      (λ q. rw q (inl refl))

  holder_on : (bus driver g : ℕ) → IsBus t bus → driver ≡ bus → Taken t bus driver g → g ≡ other_bus t bus g
  unfolding other_bus
  holder_on bus driver g is e k = rw (ne_eqb g bus (λ q. k.other (q ∙ sym e)))

  module _ (im : Images) (pass : check t im ≡ Pass) (im' : Images) (same : SameButStatus t im im') where
    one : OneClaimant t im
    one = passed t im pass

    few : t.count ≤ 255
    few = omega (arith, nodes_le t ok)

    claimants_as : (x : Access) (bus driver : ℕ) (s : Space) → x.space ≡ s
        → length (claimants t im s bus driver x.address) ≤ 1 → length (claimants t im' x.space bus driver x.address) ≤ 1
    claimants_as x bus driver s e n = rw (e, sym (claimants_same t im im' same s bus driver x.address)) n

    -- every memory and I/O access from a bus of an agent of that bus
    address_gone : (x : Access) → Address x → (bus driver : ℕ) → IsBus t bus → OnBus t bus driver
        → Gone t im' x bus driver false (from t im' x bus driver false)
    address_gone x (inl a) bus driver is on =
        from_gone t im' x few ok st (λ b d type0. OnBus t b d)
        (λ b d s o. claimants_as x b d Memory a.0 (one.memory b s d o x.address a.1)) drives_on bus driver false is on
    address_gone x (inr a) bus driver is on =
        from_gone t im' x few ok st (λ b d type0. OnBus t b d)
        (λ b d s o. claimants_as x b d Io a.0 (one.io b s d o x.address a.1)) drives_on bus driver false is on

    access_gone : (x : Access) → Address x → (i : ℕ) → Initiator t i
        → Silenced t im' i (access t im' x i).answer.end ⊎ Gone t im' x (start_of t i) i false (access t im' x i)
    unfolding access start_of
    access_gone x a i (inl e) = inr (rw e (address_gone x a host host (inl refl) (inl refl)))
    access_gone x a i (inr d) =
        tested (drives t im' i)
        (λ q. inr (rw (ne_eqb i host (not_host t ok i d.0), q) (started_gone t im' x (parent_of t i) i false i (from t im' x (parent_of t i) i false) (address_gone x a (parent_of t i) i (parent_bus t ok i d.0) (inr (d.0, refl))))))
        (λ q. inl (record { device = d.0; off = q; end = rw (ne_eqb i host (not_host t ok i d.0), q) }))

    configure_gone : (x : Access) → BusNumber x → Gone t im' x host host (eqb x.address 0) (configure t im' x)
    unfolding configure
    configure_gone x n =
        from_gone t im' x few ok st (λ b d type0. (d ≡ b) × (type0 ≡ false → 1 ≤ x.address))
        (λ b d s o.
        claimants_as x b d Configuration n.0 (rw o.0 (one.configuration b s x.address (o.1 refl) n.1)))
        (λ b d g s o k. (holder_on b d g s o.0 k, λ e. o.1 refl)) host host (eqb x.address 0) (inl refl)
        (refl, λ e. omega (arith, eqb-false x.address 0 e))

    -- 'and never in a clash'
    pub access_no_clash : (x : Access) → Address x → (i : ℕ) → Initiator t i → is_clash (access t im' x i).answer.end ≡ false
    access_no_clash x a i is =
        ⊎_elim (λ s. ap is_clash s.end) (λ w. gone_no_clash t im' x (start_of t i) i false (access t im' x i) w) (access_gone x a i is)

    pub configure_no_clash : (x : Access) → BusNumber x → is_clash (configure t im' x).answer.end ≡ false
    configure_no_clash x n = gone_no_clash t im' x host host (eqb x.address 0) (configure t im' x) (configure_gone x n)

    module _ (right : lengths_wrong t im' ≡ false) where
      -- 'every accepted configuration, memory or I/O access, whichever party starts it, is never driven, ends unclaimed, or ends at its
      -- one owner'
      pub access_goes : (x : Access) → Address x → (i : ℕ) → Initiator t i
          → Silenced t im' i (access t im' x i).answer.end ⊎ Went t im' x (start_of t i) i false (access t im' x i)
      access_goes x a i is = ⊎_elim inl (λ w. inr (w.0, w.1, w.2, access_same t st x im' right i)) (access_gone x a i is)

      pub configure_goes : (x : Access) → BusNumber x → Went t im' x host host (eqb x.address 0) (configure t im' x)
      configure_goes x n = let w = configure_gone x n in (w.0, w.1, w.2, configure_same t st x im' right)

-- 'The crossings carried in its answer are at most the depth of the starting bus plus the greatest depth in the rack'
module _ (t : Tree) (ok : rack_refusal t ≡ 0) (st : Stored t) (im : Images) (x : Access) where
  pub access_crossings : (i : ℕ) → Initiator t i → (access t im x i).answer.crossings ≤ depth t (start_of t i) + greatest_depth t
  unfolding access start_of
  access_crossings i (inl e) = rw e (crossings_le t ok x st im host host false (inl refl))
  access_crossings i (inr d) =
      let ne = ne_eqb i host (not_host t ok i d.0) in
      tested (drives t im i)
      (λ b. rw (ne, b) (crossings_le t ok x st im (parent_of t i) i false (parent_bus t ok i d.0))) (λ b. rw (ne, b) (omega arith))

  pub configure_crossings : (configure t im x).answer.crossings ≤ depth t host + greatest_depth t
  configure_crossings = omega (arith, configure_le t ok x st im)
