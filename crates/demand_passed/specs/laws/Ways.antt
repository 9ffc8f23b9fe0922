-- The way of an access, bus by bus, where no bus that it passes has two claimants.
use Rattle.std.proofs.Math.Path.{◌≡◌, refl, sym, ap}
use Rattle.std.proofs.Common.{◌∙◌, inl, ⊎_elim, eq-or-lt_of_le}
use Rattle.std.specs.Prelude.{Bool, ◌&&◌, eqb}
use Rattle.std.proofs.Math.Bool.{true, false, not, true≢false}
use Rattle.std.proofs.lemmas.Bool.{false≢true}
use mathlib.Core.List.{List, [], ◌∷◌}
use Prim.Native.Nat.{ℕ, zero, suc, ◌+◌, ◌-◌, ◌/◌, ◌%◌, ◌≤◌, ◌<◌}
use native.Mathlib.Omega.{arith}
use Rattle.std.proofs.Math.ListN.{length}
use borrow.Author.Tests.{eqb-true, eqb-false, eq-eqb, ne_eqb}
use Rattle.rack.specs.definitions.Node.{is_bridge}
use Rattle.rack.specs.laws.Bools.{tested, both}
use Rattle.rack.specs.definitions.Tree.{Tree, host, parent_of, agents, IsBus}
use Rattle.rack.specs.definitions.Stored.{Stored}
use Rattle.rack.specs.definitions.Refusal.{rack_refusal}
use Rattle.rack_laws.specs.laws.Sound.{devices_differ}
use Rattle.register_image.specs.definitions.Image.{Images, Result, view}
use Rattle.bus_reset.specs.definitions.Held.{held_bus}
use Rattle.claim_agent.specs.declared.Space.{Space}
use Rattle.claim_agent.specs.declared.Space.TheVariants.{Memory, Io, Configuration}
use Rattle.claim_agent.specs.declared.DeviceClaims.{DeviceClaims}
use Rattle.claim_agent.specs.definitions.Agent.{device_of, agent_of}
use Rattle.claim_agent.specs.definitions.Claim.{in_regions, device_claims, claims_of, claims}
use Rattle.claim_agent.specs.definitions.Claimants.{claimants_in, first_two, next_from}
use Rattle.claim_agent.specs.laws.ClaimantLaws.{next_below}
use Rattle.claim_laws.specs.laws.Reach.{reach}
use Rattle.route_bus.specs.declared.Access.{Access}
use Rattle.route_bus.specs.declared.Outcome.{Outcome}
use Rattle.route_bus.specs.declared.End.{End}
use Rattle.route_bus.specs.declared.End.TheVariants.{Node, Owner, Host, Unclaimed, Clash, Special, Silent}
use Rattle.route_bus.specs.declared.Route.{Route}
use Rattle.route_bus.specs.declared.Sight.{Sight}
use Rattle.route_bus.specs.declared.Sight.TheVariants.{Ends, Crosses}
use Rattle.route_bus.specs.definitions.End.{if_unclaimed, ends}
use Rattle.route_bus.specs.laws.EndLaws.{by_end}
use Rattle.route_bus.specs.definitions.Look.{is_io, unclaimed, owned, claimed, target, found, direct, look}
use Rattle.route_bus.specs.laws.LookLaws.{by_direct}
use Rattle.route_bus.specs.definitions.Cross.{other_bus, turns_type0, crossed}
use Rattle.route.specs.definitions.Route.{follow, bus_step, bridge_step, possible, from, returned, started}
use Rattle.route_laws.specs.definitions.Ends.{is_clash}
use Rattle.route_laws.specs.definitions.Path.{Taken, claimants_on, Path}
use Rattle.route_laws.specs.laws.Takers.{Follows, look_follows}
use Rattle.route_laws.specs.laws.HeldBus.{found_free}
use Rattle.route_laws.specs.laws.Possible.{Enough, onward, possible_is}
use Rattle.demand_passed.specs.definitions.Way.{Selected, NoneSelected, Last, Way}

-- in an accepted rack it is the only one
pub selected_one : (t : Tree) (im : Images) → rack_refusal t ≡ 0 → (bus devfn g k : ℕ) → Selected t im bus devfn g
    → Selected t im bus devfn k → g ≡ k
selected_one t im ok bus devfn g k s r =
    tested (eqb g k) (λ q. eqb-true g k q)
    (λ q.
    absurd
    (devices_differ t ok g k s.node r.node (eqb-false g k q) (s.on_bus_lem ∙ sym r.on_bus_lem) (s.number ∙ sym r.number)))

-- a search for the next number: it passes the test, and where there is none, none does
next_passes : (f : ℕ → Bool) (i left : ℕ) → (next_from f i left ≡ 255 → ⊥) → f (next_from f i left) ≡ true
unfolding next_from
next_passes f i zero ne = absurd (ne refl)
next_passes f i (suc left) ne =
    tested (f i) (λ q. rw q q)
    (λ q. let m : next_from f (i + 1) left ≡ 255 → ⊥ = rw q at ne in rw q (next_passes f (i + 1) left m))

next_fails : (f : ℕ → Bool) (i left : ℕ) → i + left ≤ 255 → next_from f i left ≡ 255 → (k : ℕ) → i ≤ k → k < i + left → f k ≡ false
unfolding next_from
next_fails f i zero few e k l m = absurd (omega arith)
next_fails f i (suc left) few e k l m =
    tested (f i) (λ q. let z : i ≡ 255 = rw q at e in absurd (omega arith))
    (λ q.
    ⊎_elim (λ u. ap f (sym u) ∙ q) (λ u. next_fails f (i + 1) left (omega arith) (rw q at e) k (omega arith) (omega arith))
    (eq-or-lt_of_le l))

module _ (t : Tree) (im : Images) (bus devfn : ℕ) where
  sits : ℕ → Bool
  sits i = eqb (parent_of t i) bus && eqb (t.node i).device (devfn / 8)

  found_is : held_bus t im bus ≡ false → eqb (devfn % 8) 0 ≡ true → found t im bus devfn ≡ next_from sits 0 t.count
  unfolding found target sits
  found_is free q = rw (free, q)

  found_none : held_bus t im bus ≡ false → eqb (devfn % 8) 0 ≡ false → found t im bus devfn ≡ 255
  unfolding found target
  found_none free q = rw (free, q)

  next_selected : held_bus t im bus ≡ false → eqb (devfn % 8) 0 ≡ true → (next_from sits 0 t.count ≡ 255 → ⊥)
      → Selected t im bus devfn (next_from sits 0 t.count)
  unfolding sits
  next_selected free q m =
      let p = both (eqb (parent_of t (next_from sits 0 t.count)) bus) _ (next_passes sits 0 t.count m) in
      record {
        free = free;
        node = omega (arith, next_below sits 0 t.count m);
        on_bus_lem = eqb-true _ bus p.0;
        number = eqb-true _ (devfn / 8) p.1;
        function = eqb-true (devfn % 8) 0 q;
      }

  -- a node that is found is that node
  pub found_selected : (found t im bus devfn ≡ 255 → ⊥) → Selected t im bus devfn (found t im bus devfn)
  found_selected ne =
      let free = found_free t im bus devfn ne in
      tested (eqb (devfn % 8) 0) (λ q. rw (found_is free q) (next_selected free q (λ e. ne (found_is free q ∙ e))))
      (λ q. absurd (ne (found_none free q)))

  -- and where none is found there is none
  none_selected : t.count ≤ 255 → found t im bus devfn ≡ 255 → NoneSelected t im bus devfn
  unfolding sits
  none_selected few e g s =
      let z : next_from sits 0 t.count ≡ 255 = sym (found_is s.free (eq-eqb (devfn % 8) 0 s.function)) ∙ e in
      let n = next_fails sits 0 t.count (omega arith) z g (omega arith) (omega (arith, s.node)) in
      true≢false (sym (rw (eq-eqb (parent_of t g) bus s.on_bus_lem, eq-eqb (t.node g).device (devfn / 8) s.number)) ∙ n)

module _ (t : Tree) (im : Images) (x : Access) where
  -- the way alone, whatever the images that are left
  abbrev pub Gone : ℕ → ℕ → Bool → Result Route → Type 0
  Gone bus driver type0 o =
      (gs : List ℕ) × (length gs ≡ o.answer.crossings) × Way t im x bus driver type0 gs o.answer.end o.after

  -- whatever changes the outcome and the images of an unclaimed access alone leaves the way as it is
  abbrev Kept : End → End → Images → Images → Type 0
  Kept e e' u u' = (bus driver : ℕ) (type0 : Bool) → Last t im x bus driver type0 e u → Last t im x bus driver type0 e' u'

  way_kept : (e e' : End) (u u' : Images) → Kept e e' u u' → (gs : List ℕ) (bus driver : ℕ) (type0 : Bool)
      → Way t im x bus driver type0 gs e u → Way t im x bus driver type0 gs e' u'
  way_kept e e' u u' k gs bus driver type0 w = (w.0, w.1, w.2, w.3, k w.0 w.1 w.2 w.4)

  unclaimed_kept : (k : ℕ) (o o' : Outcome) (u u' : Images) → Kept (Unclaimed k o) (Unclaimed k o') u u'
  unclaimed_kept k o o' u u' bus driver true l = l
  unclaimed_kept k o o' u u' bus driver false l = l

  -- so do the bridges on the way back, and the return to an initiating device
  passed_kept : (f : ℕ → Outcome → Outcome) (v : ℕ → Outcome → Images) (e : End) (u : Images)
      → Kept e (if_unclaimed (λ k o. Unclaimed k (f k o)) e e) u (if_unclaimed v u e)
  unfolding if_unclaimed
  passed_kept f v e u bus driver type0 l =
      by_end e (λ k o q. rw q (unclaimed_kept k o (f k o) u (v k o) bus driver type0 (rw q at l)))
      (λ other. rw (other End (λ k o. Unclaimed k (f k o)) e, other Images v u) l)

  returned_kept : (v : ℕ → Outcome → Images) (e : End) (u : Images) → Kept e e u (if_unclaimed v u e)
  unfolding if_unclaimed
  returned_kept v e u bus driver type0 l =
      by_end e (λ k o q. rw q (unclaimed_kept k o o u (v k o) bus driver type0 (rw q at l))) (λ other. rw (other Images v u) l)

  pub started_gone : (bus driver : ℕ) (type0 : Bool) (i : ℕ) (o : Result Route) → Gone bus driver type0 o
      → Gone bus driver type0 (started t i o)
  unfolding returned
  started_gone bus driver type0 i o w =
      let e = o.answer.end in
      (w.0, w.1, way_kept e e o.after _ (returned_kept _ e o.after) w.0 bus driver type0 w.2)

  ended : (bus driver : ℕ) (type0 : Bool) (e : End) (u : Images) → Last t im x bus driver type0 e u → Gone bus driver type0 (ends e u)
  unfolding Path
  ended bus driver type0 e u l = ([], refl, (bus, driver, type0, (refl, refl, refl), l))

  -- one bridge more
  across : (bus driver g : ℕ) (o : Result Route) → claimants_on t im x bus driver ≡ g ∷ [] → Taken t bus driver g
      → Gone (other_bus t bus g) g (turns_type0 t im x bus g) o → Gone bus driver false (crossed t o.after x bus g o.answer)
  unfolding Path crossed
  across bus driver g o one k w =
      let n : length (g ∷ w.0) ≡ o.answer.crossings + 1 = omega (arith, w.1) in
      let e = o.answer.end in
      let v = way_kept e _ o.after _ (passed_kept _ _ e o.after) w.0 (other_bus t bus g) g (turns_type0 t im x bus g) w.2 in
      (g ∷ w.0, n, (v.0, v.1, v.2, (refl, one, k, v.3), v.4))

  -- never in a clash
  last_no_clash : (bus driver : ℕ) (type0 : Bool) (e : End) (u : Images) → Last t im x bus driver type0 e u → is_clash e ≡ false
  last_no_clash bus driver type0 (Node g) u l = refl
  last_no_clash bus driver type0 (Owner g r o) u l = refl
  last_no_clash bus driver type0 (Host o) u l = refl
  last_no_clash bus driver type0 (Unclaimed k o) u l = refl
  last_no_clash bus driver true (Clash k y z) u l = absurd l
  last_no_clash bus driver false (Clash k y z) u l = absurd l
  last_no_clash bus driver type0 (Special k) u l = refl
  last_no_clash bus driver type0 Silent u l = refl

  -- an access that went its way did not clash
  pub gone_no_clash : (bus driver : ℕ) (type0 : Bool) (o : Result Route) → Gone bus driver type0 o → is_clash o.answer.end ≡ false
  gone_no_clash bus driver type0 o w =
      let v = w.2 in last_no_clash v.0 v.1 v.2 o.answer.end o.after v.4

  -- a claimant claims
  claimants_claim : (claim : ℕ → Bool) (driver : ℕ) (l : List ℕ) (g : ℕ) (rest : List ℕ) → claimants_in claim driver l ≡ g ∷ rest
      → claim g ≡ true
  unfolding claimants_in
  claimants_claim claim driver [] g rest e = let z : ◌≡◌ {A = ℕ} 0 1 = cc in absurd (omega arith)
  claimants_claim claim driver (k ∷ ks) g rest e =
      tested (claim k && not (eqb k driver))
      (λ q. let s : k ∷ claimants_in claim driver ks ≡ g ∷ rest = rw q at e in let kg : k ≡ g = cc in ap claim (sym kg) ∙ (both (claim k) _ q).0)
      (λ q. claimants_claim claim driver ks g rest (rw q at e))

  -- a device that claims an address has it in a region
  in_region_lem : (d : DeviceClaims) (s : Space) (a : ℕ) → device_claims d s a ≡ true → in_regions d (is_io s) a ≡ true
  unfolding device_claims
  in_region_lem d Memory a c = (both d.memory _ c).1
  in_region_lem d Io a c = (both d.io _ c).1
  in_region_lem d Configuration a c = absurd (false≢true c)

  device_reaches : (bus g : ℕ) → (g ≡ host → ⊥) → is_bridge (t.node g).kind ≡ false → claims t im x.space bus g x.address ≡ true
      → in_regions (device_of (t.node g) (view t im g)) (is_io x.space) x.address ≡ true
  unfolding agent_of claims_of
  device_reaches bus g ne is c =
      in_region_lem (device_of (t.node g) (view t im g)) x.space x.address (rw (ne_eqb g host ne, is) at c)

  module _ (few : t.count ≤ 255) where
    -- what is seen on a bus with at most one claimant: the last bus, or a bridge that takes the access on
    abbrev Seeing : ℕ → ℕ → Bool → Sight → Images → Type 0
    Seeing bus driver type0 (Ends e) u = Last t im x bus driver type0 e u
    Seeing bus driver type0 (Crosses g) u = Unit {0}

    owned_sees : (bus driver g : ℕ) → claimants_on t im x bus driver ≡ g ∷ [] → Seeing bus driver false (owned t im x g) im
    unfolding owned
    owned_sees bus driver g one =
        tested (eqb g host) (λ a. rw a (one ∙ ap (λ (k : ℕ). k ∷ []) (eqb-true g host a), refl, refl))
        (λ a.
        tested (is_bridge (t.node g).kind) (λ b. rw (a, b) tt)
        (λ b.
        let c = claimants_claim (λ k. claims t im x.space bus k x.address) driver (agents t bus) g [] one in
        let r = reach (device_of (t.node g) (view t im g)) (is_io x.space) x.address (device_reaches bus g (eqb-false g host a) b c) in
        rw (a, b) (one, r, r.offset, refl)))

    claimed_sees : (bus driver : ℕ) (l : List ℕ) → claimants_on t im x bus driver ≡ l → length l ≤ 1
        → Seeing bus driver false (claimed t im x bus driver (first_two l)).answer (claimed t im x bus driver (first_two l)).after
    unfolding claimed unclaimed
    claimed_sees bus driver [] e n = (refl, e)
    claimed_sees bus driver (g ∷ []) e n = owned_sees bus driver g e
    claimed_sees bus driver (g ∷ (k ∷ l)) e n = absurd (omega arith)

    direct_sees : (bus driver : ℕ) → Seeing bus driver true (direct t im x bus driver).answer (direct t im x bus driver).after
    unfolding unclaimed
    direct_sees bus driver =
        by_direct t im x bus driver (λ r. Seeing bus driver true r.answer r.after) (λ s. (refl, s, refl))
        (λ s q. (refl, none_selected t im bus x.devfn few q, s))
        (λ s q. (found_selected t im bus x.devfn q, refl))

    look_sees : (bus driver : ℕ) (type0 : Bool) → (type0 ≡ false → length (claimants_on t im x bus driver) ≤ 1)
        → Seeing bus driver type0 (look t im x bus driver type0).answer (look t im x bus driver type0).after
    unfolding look
    look_sees bus driver true one = direct_sees bus driver
    look_sees bus driver false one = claimed_sees bus driver (claimants_on t im x bus driver) refl (one refl)

    follow_gone : (bus driver : ℕ) (type0 : Bool) (cross : ℕ → Images → Result Route) (s : Sight) (v : Images)
        → Follows t im x bus driver type0 s v → Seeing bus driver type0 s v
        → ((g : ℕ) → type0 ≡ false → Taken t bus driver g → claimants_on t im x bus driver ≡ g ∷ [] → Gone bus driver false (cross g im))
        → Gone bus driver type0 (follow cross s v)
    follow_gone bus driver type0 cross (Ends e) v f s on = ended bus driver type0 e v s
    follow_gone bus driver type0 cross (Crosses g) v f s on = rw (f.1, f.2) (on g f.2 f.0 f.3)

    -- a rule for who may drive on a bus, Type 0 or not, which holds for every bridge that takes the access on; under it an access
    -- that is claimed has one claimant
    module _ (ok : rack_refusal t ≡ 0) (st : Stored t) (Drives : ℕ → ℕ → Bool → Type 0)
        (one : (bus driver : ℕ) → IsBus t bus → Drives bus driver false → length (claimants_on t im x bus driver) ≤ 1)
        (next : (bus driver g : ℕ) → IsBus t bus → Drives bus driver false → Taken t bus driver g
        → Drives (other_bus t bus g) g (turns_type0 t im x bus g)) where
      gone : (m bus driver : ℕ) (type0 : Bool) → IsBus t bus → Enough t bus driver m → Drives bus driver type0
          → Gone bus driver type0 (bus_step (suc (m + m)) t im x bus driver type0)
      unfolding bus_step
      gone zero bus driver type0 is en dr =
          follow_gone bus driver type0 (λ g v. bridge_step 0 t v x bus g) (look t im x bus driver type0).answer
          (look t im x bus driver type0).after (look_follows t bus im x driver type0)
          (look_sees bus driver type0 (λ e. one bus driver is (rw e at dr)))
          (λ g e k c. absurd ((onward t ok bus driver 0 g is en k).left refl))
      gone (suc m) bus driver type0 is en dr =
          let p : suc m + suc m ≡ suc (suc (m + m)) = omega arith in
          rw p
          (follow_gone bus driver type0 (λ g v. bridge_step (suc (suc (m + m))) t v x bus g) (look t im x bus driver type0).answer
          (look t im x bus driver type0).after (look_follows t bus im x driver type0)
          (look_sees bus driver type0 (λ e. one bus driver is (rw e at dr)))
          (λ g e k c.
          let o = onward t ok bus driver (suc m) g is en k in
          let s : suc m - 1 ≡ m = omega arith in
          let r = bus_step (suc (m + m)) t im x (other_bus t bus g) g (turns_type0 t im x bus g) in
          across bus driver g r c k
          (gone m (other_bus t bus g) g (turns_type0 t im x bus g) o.place (rw s at o.enough) (next bus driver g is (rw e at dr) k))))

      -- then an access goes its way from a bus, however it is driven
      pub from_gone : (bus driver : ℕ) (type0 : Bool) → IsBus t bus → Drives bus driver type0
          → Gone bus driver type0 (from t im x bus driver type0)
      from_gone bus driver type0 is dr =
          let p : possible t bus + possible t bus + 1 ≡ suc (possible t bus + possible t bus) = omega arith in
          rw p (gone (possible t bus) bus driver type0 is (inl (omega (arith, possible_is t st bus is))) dr)
