-- 02, E4: which configuration accesses end as special cycles, and where; all others end as they did before.
use Rattle.std.specs.Prelude.{◌≡◌, Bool, eqb}
use Rattle.std.proofs.Math.Path.{refl, sym, ap}
use Rattle.std.proofs.Common.{◌∙◌, true≢false, inl, arith}
use Rattle.std.proofs.Math.Bool.{true, false}
use Rattle.std.proofs.lemmas.Bool.{false≢true}
use mathlib.Core.List.{List, [], ◌∷◌}
use Prim.Native.Nat.{ℕ, zero, suc, ◌+◌, ◌-◌}
use borrow.Author.Tests.{ne_eqb}
use Rattle.rack.specs.definitions.Tree.{Tree, host, IsBus}
use Rattle.rack.specs.definitions.Stored.{Stored}
use Rattle.rack.specs.definitions.Refusal.{rack_refusal}
use Rattle.register_image.specs.definitions.Image.{Images, Result, gives}
use Rattle.claim_agent.specs.declared.Claimants.{Claimants}
use Rattle.claim_agent.specs.declared.Claimants.TheVariants.{Nobody, One, Two}
use Rattle.claim_agent.specs.definitions.Claimants.{first_two}
use Rattle.route_bus.specs.declared.Access.{Access}
use Rattle.route_bus.specs.declared.Outcome.{Outcome}
use Rattle.route_bus.specs.declared.Outcome.TheVariants.{Abort, Done, Target}
use Rattle.route_bus.specs.declared.End.{End}
use Rattle.route_bus.specs.declared.End.TheVariants.{Unclaimed, Special}
use Rattle.route_bus.specs.declared.Route.{Route}
use Rattle.route_bus.specs.declared.Sight.{Sight}
use Rattle.route_bus.specs.declared.Sight.TheVariants.{Ends, Crosses}
use Rattle.route_bus.specs.definitions.End.{if_unclaimed}
use Rattle.route_bus.specs.laws.EndLaws.{by_end}
use Rattle.route_bus.specs.definitions.Look.{unclaimed, owned, claimed, is_special_cycle, look}
use Rattle.route_bus.specs.laws.LookLaws.{look_special, by_direct}
use Rattle.route_bus.specs.definitions.Cross.{other_bus, turns_type0, last_outcome, passed, crossed}
use Rattle.route.specs.definitions.Route.{follow, bus_step, bridge_step, possible, configure}
use Rattle.route.specs.laws.StepLaws.{bus_ends, bus_ends_left, bus_on, bridge_on}
use Rattle.route_laws.specs.definitions.Ends.{is_special}
use Rattle.route_laws.specs.definitions.Path.{Taken, claimants_on, Path, ToType0, special_at, elsewhere}
use Rattle.route_laws.specs.laws.Takers.{Follows, look_follows}
use Rattle.route_laws.specs.laws.Failing.{passed_is}
use Rattle.route_laws.specs.laws.Arrives.{special_fails}
use Rattle.route_laws.specs.laws.Possible.{Enough, onward, possible_is}
use Rattle.route_laws.specs.laws.Type0.{arrived, end_seen, crossed_on, came}

module _ (t : Tree) (im : Images) (x : Access) where
  -- a configuration access that ends special is that write, and came to a Type 0 on the bus of that holder; no image changed
  pub only_special : is_special (configure t im x).answer.end ≡ true
      → (is_special_cycle x ≡ true) × ((gs : List ℕ) × (holder : ℕ) × ToType0 t im x gs holder × (configure t im x ≡ special_at t im x gs holder))
  unfolding look unclaimed
  only_special i =
      let c = came is_special special_fails t im x refl i in
      let s = seen_special c.holder c.by (rw (← c.seen) c.such) in (
        s.0,
        (c.bridges, c.holder, (c.by, c.path), c.result ∙ ap (arrived im c.bridges) (c.seen ∙ s.1)),
      )
    where
      seen_special : (bus driver : ℕ) → is_special (end_seen (look t im x bus driver true).answer) ≡ true
          → (is_special_cycle x ≡ true) × (end_seen (look t im x bus driver true).answer ≡ Special bus)
      seen_special bus driver =
          by_direct t im x bus driver
          (λ r. is_special (end_seen r.answer) ≡ true → (is_special_cycle x ≡ true) × (end_seen r.answer ≡ Special bus))
          (λ s i. (s, refl)) (λ s q i. absurd (false≢true i)) (λ s q i. absurd (false≢true i))

  look_type0 : (bus driver : ℕ) (type0 : Bool) → type0 ≡ true → is_special_cycle x ≡ true
      → look t im x bus driver type0 ≡ gives (Ends (Special bus)) im
  look_type0 bus driver type0 e s = rw e (look_special t im x bus driver s)

  -- the one claimant takes an access on
  pub look_crosses : (bus driver g : ℕ) (type0 : Bool) → type0 ≡ false → claimants_on t im x bus driver ≡ g ∷ [] → Taken t bus driver g
      → look t im x bus driver type0 ≡ gives (Crosses g) im
  unfolding look claimed owned
  look_crosses bus driver g type0 e one k = rw (e, one, ne_eqb g host k.node, k.bridge)

  module _ (ok : rack_refusal t ≡ 0) (cycle : is_special_cycle x ≡ true) where
    bus_arrives : (gs : List ℕ) (m bus driver : ℕ) (type0 : Bool) (holder by : ℕ) → IsBus t bus → Enough t bus driver m
        → Path t im x bus driver type0 gs holder by true → bus_step (m + m + 1) t im x bus driver type0 ≡ special_at t im x gs holder
    unfolding Path
    bus_arrives [] m bus driver type0 holder by is en p =
        bus_ends_left t im x bus driver type0 m (look_type0 bus driver type0 (sym p.2) cycle)
        ∙ ap (λ (k : ℕ). special_at t im x [] k) (sym p.0)
    bus_arrives (g ∷ gs) m bus driver type0 holder by is en p =
        let o = onward t ok bus driver m g is en p.2 in
        bus_on t im x bus driver type0 m (look_crosses bus driver g type0 p.0 p.1 p.2) o.left
        ∙ bridge_on t im x bus g (m - 1)
        ∙ crossed_on is_special special_fails t im x bus g gs (Special holder) refl (bus_arrives gs (m - 1) (other_bus t bus g) g (turns_type0 t im x bus g) holder by o.place o.enough p.3)

    -- and that write ends so wherever its way comes to a Type 0
    pub special_arrives : Stored t → (gs : List ℕ) (holder : ℕ) → ToType0 t im x gs holder → configure t im x ≡ special_at t im x gs holder
    unfolding configure
    special_arrives st gs holder w =
        bus_arrives gs (possible t host) host host (eqb x.address 0) holder w.0 (inl refl)
        (inl (omega (arith, possible_is t st host (inl refl)))) w.1

-- a special cycle that does not come to a Type 0 ends as every other write to that bus number
module _ (t : Tree) (im : Images) (x : Access) (devfn register enables put : ℕ) (cycle : is_special_cycle x ≡ true) where
  abbrev other : Access
  other = elsewhere x devfn register enables put

  claimed_same : (bus driver : ℕ) (c : Claimants) → claimed t im x bus driver c ≡ claimed t im other bus driver c
  unfolding claimed owned
  claimed_same bus driver Nobody = refl
  claimed_same bus driver (One g) = refl
  claimed_same bus driver (Two y z) = refl

  look_same : (bus driver : ℕ) → look t im x bus driver false ≡ look t im other bus driver false
  unfolding look
  look_same bus driver = claimed_same bus driver (first_two (claimants_on t im x bus driver))

  passed_same : (v : Images) (bus g : ℕ) (o : Outcome) → passed t v x bus g o ≡ passed t v other bus g o
  unfolding passed last_outcome
  passed_same v bus g Abort = refl
  passed_same v bus g Done = refl
  passed_same v bus g Target = refl

  crossed_same : (bus g : ℕ) (o : Result Route) → crossed t o.after x bus g o.answer ≡ crossed t o.after other bus g o.answer
  unfolding crossed if_unclaimed
  crossed_same bus g o =
      let v = o.after in
      by_end o.answer.end
      (λ holder u q.
      rw q
      (ap (λ (p : Result Outcome). gives (record { crossings = o.answer.crossings + 1; end = Unclaimed holder p.answer }) p.after)
      (passed_same v bus g u)))
      (λ none.
      rw (
        none End (λ holder u. Unclaimed holder (passed t v x bus g u).answer) o.answer.end,
        none End (λ holder u. Unclaimed holder (passed t v other bus g u).answer) o.answer.end,
        none Images (λ holder u. (passed t v x bus g u).after) v,
        none Images (λ holder u. (passed t v other bus g u).after) v,
      ))

  turns_same : (bus g : ℕ) → turns_type0 t im x bus g ≡ turns_type0 t im other bus g
  unfolding turns_type0
  turns_same bus g = refl

  follow_other : (bus driver : ℕ) (type0 : Bool) (cross cross' : ℕ → Images → Result Route) (s : Sight) (v : Images)
      → Follows t im x bus driver type0 s v
      → ((g : ℕ) → is_special (cross g im).answer.end ≡ false → cross g im ≡ cross' g im)
      → is_special (follow cross s v).answer.end ≡ false → follow cross s v ≡ follow cross' s v
  follow_other bus driver type0 cross cross' (Ends e) v f on i = refl
  follow_other bus driver type0 cross cross' (Crosses g) v f on i = rw f.1 (on g (rw f.1 at i))

  -- one bus: an end that is not special is not that of a Type 0
  bus_by : (n bus driver : ℕ) (type0 : Bool)
      → ((g : ℕ) → is_special (bridge_step n t im x bus g).answer.end ≡ false → bridge_step n t im x bus g ≡ bridge_step n t im other bus g)
      → is_special (bus_step (suc n) t im x bus driver type0).answer.end ≡ false
      → bus_step (suc n) t im x bus driver type0 ≡ bus_step (suc n) t im other bus driver type0
  unfolding bus_step
  bus_by n bus driver true on i =
      let e = bus_ends t im x bus driver true n (look_type0 t im x bus driver true refl cycle) in
      absurd (true≢false (sym (ap (λ (o : Result Route). is_special o.answer.end) e) ∙ i))
  bus_by n bus driver false on i =
      let s = look t im x bus driver false in
      follow_other bus driver false (λ g v. bridge_step n t v x bus g) (λ g v. bridge_step n t v other bus g) s.answer s.after
      (look_follows t bus im x driver false) on i
      ∙ ap (λ (r : Result Sight). follow (λ g v. bridge_step n t v other bus g) r.answer r.after) (look_same bus driver)

  bus_other : (n bus driver : ℕ) (type0 : Bool) → is_special (bus_step n t im x bus driver type0).answer.end ≡ false
      → bus_step n t im x bus driver type0 ≡ bus_step n t im other bus driver type0
  unfolding bus_step crossed
  bus_other zero bus driver type0 i = refl
  bus_other (suc zero) bus driver type0 i = bus_by 0 bus driver type0 (λ g k. refl) i
  bus_other (suc (suc n)) bus driver type0 i =
      bus_by (suc n) bus driver type0
      (λ g k.
      let o = bus_step n t im x (other_bus t bus g) g (turns_type0 t im x bus g) in
      let j = sym (passed_is is_special special_fails t o.after x bus g o.answer.end) ∙ k in
      crossed_same bus g o
      ∙ ap (λ (r : Result Route). crossed t r.after other bus g r.answer)
      (bus_other n (other_bus t bus g) g (turns_type0 t im x bus g) j
      ∙ ap (λ (b : Bool). bus_step n t im other (other_bus t bus g) g b) (turns_same bus g)))
      i

  pub otherwise : is_special (configure t im x).answer.end ≡ false → configure t im x ≡ configure t im other
  unfolding configure
  otherwise i = bus_other (possible t host + possible t host + 1) host host (eqb x.address 0) i
