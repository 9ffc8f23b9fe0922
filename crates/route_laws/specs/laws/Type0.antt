-- An end that only Type 0 has: where the access was Type 0, and that no bridge on the way back changes it or any image.
use Rattle.std.specs.Prelude.{◌≡◌, Bool, List, [], ◌∷◌, eqb}
use Rattle.std.proofs.Math.Path.{refl, sym, ap}
use Rattle.std.proofs.Common.{◌∙◌}
use Rattle.std.proofs.Math.Bool.{true, false}
use Rattle.std.proofs.lemmas.Bool.{false≢true}
use Prim.Native.Nat.{ℕ, zero, suc, ◌+◌}
use native.Mathlib.Omega.{arith}
use Rattle.std.proofs.Math.ListN.{length}
use Rattle.rack.specs.definitions.Tree.{Tree, host}
use Rattle.register_image.specs.definitions.Image.{Images, Result, gives}
use Rattle.claim_agent.specs.definitions.Claimants.{first_two}
use Rattle.route_bus.specs.declared.Access.{Access}
use Rattle.route_bus.specs.declared.End.{End}
use Rattle.route_bus.specs.declared.End.TheVariants.{Node, Unclaimed, Silent}
use Rattle.route_bus.specs.declared.Route.{Route}
use Rattle.route_bus.specs.declared.Sight.{Sight}
use Rattle.route_bus.specs.declared.Sight.TheVariants.{Ends, Crosses}
use Rattle.route_bus.specs.definitions.End.{ends}
use Rattle.route_bus.specs.laws.EndLaws.{by_end}
use Rattle.route_bus.specs.definitions.Look.{unclaimed, found, look}
use Rattle.route_bus.specs.laws.LookLaws.{by_direct}
use Rattle.route_bus.specs.definitions.Cross.{other_bus, turns_type0, passed, passed_end, crossed}
use Rattle.route.specs.definitions.Route.{follow, bus_step, bridge_step, possible, configure}
use Rattle.route_laws.specs.definitions.Ends.{ends_at_node}
use Rattle.route_laws.specs.definitions.Path.{claimants_on, Path, ToType0}
use Rattle.route_laws.specs.laws.Takers.{Follows, look_follows}
use Rattle.route_laws.specs.laws.Failing.{Failing, Fails, passed_is, claimed_fails}
use Rattle.route_laws.specs.laws.Arrives.{node_fails}

-- a route over these bridges to an end, which leaves both images as they were
abbrev pub arrived : Images → List ℕ → End → Result Route
arrived im gs e = gives (record { crossings = length gs; end = e }) im

-- the end that is seen on a bus
abbrev pub end_seen : Sight → End
end_seen (Ends e) = e
end_seen (Crosses g) = Silent

module _ (is : End → Bool) (fails : Failing is) (t : Tree) (im : Images) (x : Access) where
  -- a bridge on the way back counts a crossing and leaves the rest as it is
  pub crossed_on : (bus g : ℕ) (gs : List ℕ) (e : End) {o : Result Route} → is e ≡ true → o ≡ arrived im gs e
      → crossed t o.after x bus g o.answer ≡ arrived im (g ∷ gs) e
  unfolding crossed
  crossed_on bus g gs e i q =
      ap (λ (o : Result Route). crossed t o.after x bus g o.answer) q
      ∙ by_end e (λ holder u k. absurd (false≢true (sym (fails.unclaimed holder u) ∙ sym (ap is k) ∙ i)))
      (λ other.
      let n : length gs + 1 ≡ length (g ∷ gs) = omega arith in
      rw (
        other End (λ holder u. Unclaimed holder (passed t im x bus g u).answer) e,
        other Images (λ holder u. (passed t im x bus g u).after) im,
      )
      (ap (λ (c : ℕ). gives (record { crossings = c; end = e }) im) n))

  -- what a route that ends so has: it came to a Type 0, where that end is seen
  pub record Came (bus driver : ℕ) (type0 : Bool) (o : Result Route) : Type 0 where
    pub bridges : List ℕ
    pub holder : ℕ
    pub by : ℕ
    pub path : Path t im x bus driver type0 bridges holder by true
    pub end : End
    pub such : is end ≡ true
    pub seen : end ≡ end_seen (look t im x holder by true).answer
    pub result : o ≡ arrived im bridges end

  -- the same of what is seen on one bus
  abbrev Here : Bool → Sight → Images → Type 0
  Here type0 (Ends e) v = is e ≡ true → (type0 ≡ true) × (v ≡ im)
  Here type0 (Crosses g) v = Unit {0}

  fails_here : (type0 : Bool) (s : Sight) (v : Images) → Fails is s → Here type0 s v
  fails_here type0 (Ends e) v f = λ i. absurd (false≢true (sym f ∙ i))
  fails_here type0 (Crosses g) v f = tt

  look_here : (bus driver : ℕ) (type0 : Bool) → Here type0 (look t im x bus driver type0).answer (look t im x bus driver type0).after
  unfolding look unclaimed
  look_here bus driver true =
      by_direct t im x bus driver (λ r. Here true r.answer r.after) (λ s i. (refl, refl))
      (λ s q i. absurd (false≢true (sym (fails.unclaimed bus _) ∙ i))) (λ s q i. (refl, refl))
  look_here bus driver false =
      fails_here false (look t im x bus driver false).answer (look t im x bus driver false).after
      (claimed_fails is fails t im x bus driver (first_two (claimants_on t im x bus driver)))

  follow_came : (bus driver : ℕ) (type0 : Bool) (cross : ℕ → Images → Result Route) (s : Sight) (v : Images)
      → (look t im x bus driver type0).answer ≡ s → Follows t im x bus driver type0 s v → Here type0 s v
      → ((g : ℕ) → Follows t im x bus driver type0 (Crosses g) im → is (cross g im).answer.end ≡ true
      → Came bus driver type0 (cross g im))
      → is (follow cross s v).answer.end ≡ true → Came bus driver type0 (follow cross s v)
  unfolding Path
  follow_came bus driver type0 cross (Ends e) v q f h on i =
      record {
        bridges = [];
        holder = bus;
        by = driver;
        path = (refl, refl, sym (h i).0);
        end = e;
        such = i;
        seen = sym (ap end_seen (rw (h i).0 at q));
        result = ap (ends e) (h i).1;
      }
  follow_came bus driver type0 cross (Crosses g) v q f h on i =
      rw f.1 (on g (f.0, refl, f.2, f.3) (rw f.1 at i))

  -- one bridge more
  across : (bus driver g : ℕ) (type0 : Bool) (o : Result Route) → Follows t im x bus driver type0 (Crosses g) im
      → is (passed_end t o.after x bus g o.answer.end) ≡ true
      → (is o.answer.end ≡ true → Came (other_bus t bus g) g (turns_type0 t im x bus g) o)
      → Came bus driver type0 (crossed t o.after x bus g o.answer)
  unfolding Path
  across bus driver g type0 o f i on =
      let c = on (sym (passed_is is fails t o.after x bus g o.answer.end) ∙ i) in
      record {
        bridges = g ∷ c.bridges;
        holder = c.holder;
        by = c.by;
        path = (f.2, f.3, f.0, c.path);
        end = c.end;
        such = c.such;
        seen = c.seen;
        result = crossed_on bus g c.bridges c.end c.such c.result;
      }

  module _ (not-silent : is Silent ≡ false) where
    bus_came : (n bus driver : ℕ) (type0 : Bool) → is (bus_step n t im x bus driver type0).answer.end ≡ true
        → Came bus driver type0 (bus_step n t im x bus driver type0)
    unfolding bus_step crossed
    bus_came zero bus driver type0 i = absurd (false≢true (sym not-silent ∙ i))
    bus_came (suc zero) bus driver type0 i =
        follow_came bus driver type0 (λ g v. bridge_step 0 t v x bus g) (look t im x bus driver type0).answer
        (look t im x bus driver type0).after refl (look_follows t bus im x driver type0) (look_here bus driver type0)
        (λ g f k. absurd (false≢true (sym not-silent ∙ k))) i
    bus_came (suc (suc n)) bus driver type0 i =
        follow_came bus driver type0 (λ g v. bridge_step (suc n) t v x bus g) (look t im x bus driver type0).answer
        (look t im x bus driver type0).after refl (look_follows t bus im x driver type0) (look_here bus driver type0)
        (λ g f k.
        across bus driver g type0 (bus_step n t im x (other_bus t bus g) g (turns_type0 t im x bus g)) f k
        (bus_came n (other_bus t bus g) g (turns_type0 t im x bus g)))
        i

    pub came : is (configure t im x).answer.end ≡ true → Came host host (eqb x.address 0) (configure t im x)
    unfolding configure
    came i = bus_came (possible t host + possible t host + 1) host host (eqb x.address 0) i

module _ (t : Tree) (im : Images) (x : Access) where
  -- a configuration access that reaches a node came to a Type 0 and found the node of that device number, function 0; no image changed
  pub only_node : ends_at_node (configure t im x).answer.end ≡ true
      → (gs : List ℕ) × (holder : ℕ) × ToType0 t im x gs holder × (found t im holder x.devfn ≡ 255 → ⊥)
      × (configure t im x ≡ arrived im gs (Node (found t im holder x.devfn)))
  unfolding look unclaimed
  only_node i =
      let c = came ends_at_node node_fails t im x refl i in
      let s = seen_node c.holder c.by (rw (← c.seen) c.such) in
      (c.bridges, c.holder, (c.by, c.path), s.0, c.result ∙ ap (arrived im c.bridges) (c.seen ∙ s.1))
    where
      seen_node : (bus driver : ℕ) → ends_at_node (end_seen (look t im x bus driver true).answer) ≡ true
          → (found t im bus x.devfn ≡ 255 → ⊥) × (end_seen (look t im x bus driver true).answer ≡ Node (found t im bus x.devfn))
      seen_node bus driver =
          by_direct t im x bus driver
          (λ r. ends_at_node (end_seen r.answer) ≡ true → (found t im bus x.devfn ≡ 255 → ⊥) × (end_seen r.answer ≡ Node (found t im bus x.devfn)))
          (λ s i. absurd (false≢true i)) (λ s q i. absurd (false≢true i)) (λ s q i. (q, refl))
