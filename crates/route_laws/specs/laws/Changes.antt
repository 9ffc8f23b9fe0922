-- A route changes nothing but status bits.
use Rattle.std.specs.Prelude.{◌≡◌, refl, Bool, [], ◌∷◌, eqb}
use Rattle.std.proofs.Math.Bool.{true, false}
use Prim.Native.Nat.{ℕ, zero, suc, ◌+◌}
use borrow.Author.Tests.{eqb-false}
use Rattle.rack.specs.laws.Bools.{tested}
use Rattle.rack.specs.definitions.Tree.{Tree, host, parent_of}
use Rattle.rack.specs.definitions.Stored.{Stored}
use Rattle.register_header.specs.declared.Side.{Side}
use Rattle.register_header.specs.declared.Side.TheVariants.{Primary}
use Rattle.register_header.specs.declared.StatusBit.{StatusBit}
use Rattle.register_header.specs.declared.StatusBit.TheVariants.{SignaledTargetAbort, ReceivedTargetAbort, ReceivedMasterAbort}
use Rattle.register_image.specs.definitions.Image.{Images, Result, status_node}
use Rattle.register_image.specs.definitions.Fixed.{lengths_wrong}
use Rattle.claim_agent.specs.declared.Claimants.{Claimants}
use Rattle.claim_agent.specs.declared.Claimants.TheVariants.{Nobody, One, Two}
use Rattle.claim_agent.specs.definitions.Claimants.{claimants, first_two}
use Rattle.claim_laws.specs.laws.Apart.{same_refl, same_trans, same_right, status_same}
use Rattle.claim_laws.specs.definitions.Same.{SameButStatus}
use Rattle.route_bus.specs.declared.Access.{Access}
use Rattle.route_bus.specs.declared.Outcome.{Outcome}
use Rattle.route_bus.specs.declared.Outcome.TheVariants.{Abort, Done, Target}
use Rattle.route_bus.specs.declared.End.{End}
use Rattle.route_bus.specs.declared.Route.{Route}
use Rattle.route_bus.specs.declared.Sight.{Sight}
use Rattle.route_bus.specs.declared.Sight.TheVariants.{Ends, Crosses}
use Rattle.route_bus.specs.definitions.End.{if_unclaimed}
use Rattle.route_bus.specs.laws.EndLaws.{by_end}
use Rattle.route_bus.specs.definitions.Look.{side_on, master_abort, unclaimed, claimed, direct, look}
use Rattle.route_bus.specs.laws.LookLaws.{by_direct}
use Rattle.route_bus.specs.definitions.Cross.{other_bus, turns_type0, towards_later, last_outcome, signalled, last_images, passed, passed_images, crossed}
use Rattle.route_laws.specs.definitions.Path.{Taken, claimants_on}
use Rattle.route_laws.specs.laws.Takers.{Follows, look_follows}
use Rattle.route.specs.definitions.Route.{drives, follow, bus_step, bridge_step, possible, from, configure, received, returned, access}

-- a relation of images that holds over a status bit set in a node that is fit for it holds over a route, if who drives it is fit and who
-- takes it on is. `A` is what is known of an access that is claimed, not Type 0
module _ (t : Tree) (x : Access) (A : Type 0) (Fit : Images → ℕ → Type 0) (R : Images → Images → Type 0) (stay : (im : Images) → R im im)
    (chain : (u v w : Images) → R u v → R v w → R u w)
    (kept : (u v : Images) (i : ℕ) → R u v → Fit u i → Fit v i)
    (status : (im : Images) (i : ℕ) (side : Side) (bit : StatusBit) → (i ≡ host → ⊥) → Fit im i → R im (status_node t im i side bit))
    (taker : (im : Images) (bus driver g : ℕ) → A → Fit im driver → Taken t bus driver g → claimants_on t im x bus driver ≡ g ∷ [] → Fit im g)
  where
    abort_keeps : (im : Images) (bus driver : ℕ) → Fit im driver → R im (master_abort t im bus driver)
    unfolding master_abort
    abort_keeps im bus driver fit =
        tested (eqb driver host) (λ q. rw q (stay im))
        (λ q. rw q (status im driver (side_on bus driver) ReceivedMasterAbort (eqb-false driver host q) fit))

    claimed_keeps : (im : Images) (bus driver : ℕ) → Fit im driver → (c : Claimants) → R im (claimed t im x bus driver c).after
    unfolding claimed unclaimed
    claimed_keeps im bus driver fit Nobody = abort_keeps im bus driver fit
    claimed_keeps im bus driver fit (One g) = stay im
    claimed_keeps im bus driver fit (Two y z) = stay im

    direct_keeps : (im : Images) (bus driver : ℕ) → Fit im driver → R im (direct t im x bus driver).after
    unfolding unclaimed
    direct_keeps im bus driver fit =
        by_direct t im x bus driver (λ r. R im r.after) (λ s. stay im) (λ s q. abort_keeps im bus driver fit) (λ s q. stay im)

    look_keeps : (im : Images) (bus driver : ℕ) (type0 : Bool) → Fit im driver → R im (look t im x bus driver type0).after
    unfolding look
    look_keeps im bus driver true fit = direct_keeps im bus driver fit
    look_keeps im bus driver false fit =
        claimed_keeps im bus driver fit (first_two (claimants t im x.space bus driver x.address))

    follow_keeps : (im : Images) (bus driver : ℕ) (type0 : Bool) (cross : ℕ → Images → Result Route) (s : Sight) (v : Images)
        → Follows t im x bus driver type0 s v → R im v
        → ((g : ℕ) → Follows t im x bus driver type0 (Crosses g) im → R im (cross g im).after) → R im (follow cross s v).after
    follow_keeps im bus driver type0 cross (Ends e) v f r b = r
    follow_keeps im bus driver type0 cross (Crosses g) v f r b = rw f.1 (b g (f.0, refl, f.2, f.3))

    signalled_keeps : (im : Images) (bus g : ℕ) → (g ≡ host → ⊥) → Fit im g → R im (signalled t im bus g)
    unfolding signalled
    signalled_keeps im bus g ne fit = status im g (side_on bus g) SignaledTargetAbort ne fit

    last_keeps : (im : Images) (bus g : ℕ) → (g ≡ host → ⊥) → Fit im g → (o : Outcome) → R im (last_images t im bus g o)
    last_keeps im bus g ne fit Abort = stay im
    last_keeps im bus g ne fit Done = stay im
    last_keeps im bus g ne fit Target = signalled_keeps im bus g ne fit

    passed_keeps : (im : Images) (bus g : ℕ) → (g ≡ host → ⊥) → Fit im g → (o : Outcome) → R im (passed t im x bus g o).after
    unfolding passed
    passed_keeps im bus g ne fit Abort = last_keeps im bus g ne fit (last_outcome t im x g)
    passed_keeps im bus g ne fit Done = stay im
    passed_keeps im bus g ne fit Target =
        let v = status_node t im g (towards_later bus g) ReceivedTargetAbort in
        let r = status im g (towards_later bus g) ReceivedTargetAbort ne fit in
        chain im v (signalled t v bus g) r (signalled_keeps v bus g ne (kept im v g r fit))

    -- what is made of an unclaimed access alone
    unclaimed_keeps : (im : Images) (f : ℕ → Outcome → Images) (e : End) → ((holder : ℕ) (o : Outcome) → R im (f holder o))
        → R im (if_unclaimed f im e)
    unfolding if_unclaimed
    unclaimed_keeps im f e k =
        by_end e (λ holder o q. rw q (k holder o)) (λ other. rw (other Images f im) (stay im))

    bus_keeps : (n : ℕ) (im : Images) (bus driver : ℕ) (type0 : Bool) → (type0 ≡ false → A) → Fit im driver
        → R im (bus_step n t im x bus driver type0).after
    unfolding bus_step crossed
    bus_keeps zero im bus driver type0 a fit = stay im
    bus_keeps (suc zero) im bus driver type0 a fit =
        follow_keeps im bus driver type0 (λ g v. bridge_step 0 t v x bus g) (look t im x bus driver type0).answer
        (look t im x bus driver type0).after (look_follows t bus im x driver type0) (look_keeps im bus driver type0 fit) (λ g f. stay im)
    bus_keeps (suc (suc n)) im bus driver type0 a fit =
        follow_keeps im bus driver type0 (λ g v. bridge_step (suc n) t v x bus g) (look t im x bus driver type0).answer
        (look t im x bus driver type0).after (look_follows t bus im x driver type0) (look_keeps im bus driver type0 fit)
        (λ g f.
        let o = bus_step n t im x (other_bus t bus g) g (turns_type0 t im x bus g) in
        let fits = taker im bus driver g (a f.2) fit f.0 f.3 in
        let r = bus_keeps n im (other_bus t bus g) g (turns_type0 t im x bus g) (λ q. a f.2) fits in
        chain im o.after (passed_images t o.after x bus g o.answer.end) r
        (unclaimed_keeps o.after _ o.answer.end
        (λ holder p. passed_keeps o.after bus g f.0.node (kept im o.after g r fits) p)))

    received_keeps : (im : Images) (i : ℕ) → (i ≡ host → ⊥) → Fit im i → (o : Outcome) → R im (received t im i o)
    received_keeps im i ne fit Abort = stay im
    received_keeps im i ne fit Done = stay im
    received_keeps im i ne fit Target = status im i Primary ReceivedTargetAbort ne fit

    pub configure_keeps : (im : Images) → (eqb x.address 0 ≡ false → A) → Fit im host → R im (configure t im x).after
    unfolding configure
    configure_keeps im a fit = bus_keeps (possible t host + possible t host + 1) im host host (eqb x.address 0) a fit

    pub access_keeps : (im : Images) (i : ℕ) → A → Fit im host → ((i ≡ host → ⊥) → drives t im i ≡ true → Fit im i)
        → R im (access t im x i).after
    unfolding access returned
    access_keeps im i a fit-host fit =
        tested (eqb i host)
        (λ h. rw h (bus_keeps (possible t host + possible t host + 1) im host host false (λ q. a) fit-host))
        (λ h.
        tested (drives t im i)
        (λ b.
        let o = from t im x (parent_of t i) i false in
        let ne = eqb-false i host h in
        let r = bus_keeps (possible t (parent_of t i) + possible t (parent_of t i) + 1) im (parent_of t i) i false (λ q. a) (fit ne b) in
        rw (h, b)
        (chain im o.after (returned t o.after i o.answer.end) r
        (unclaimed_keeps o.after _ o.answer.end
        (λ holder p. received_keeps o.after i ne (kept im o.after i r (fit ne b)) p))))
        (λ b. rw (h, b) (stay im)))

-- images whose lengths are right differ in status bits alone
StatusOnly : Tree → Images → Images → Type 0
StatusOnly t u v = lengths_wrong t u ≡ false → SameButStatus t u v

module _ (t : Tree) (pl : Stored t) (x : Access) where
  status_only_stay : (im : Images) → StatusOnly t im im
  unfolding StatusOnly
  status_only_stay im r = same_refl t im

  status_only_chain : (u v w : Images) → StatusOnly t u v → StatusOnly t v w → StatusOnly t u w
  unfolding StatusOnly
  status_only_chain u v w a b r = same_trans (a r) (b (same_right (a r) r))

  status_only_status : (im : Images) (i : ℕ) (side : Side) (bit : StatusBit) → (i ≡ host → ⊥) → Unit {0}
      → StatusOnly t im (status_node t im i side bit)
  unfolding StatusOnly
  status_only_status im i side bit ne fit r = status_same t im i side bit pl r

  module _ (im : Images) (right : lengths_wrong t im ≡ false) where
    -- a configuration access changes status bits alone
    pub configure_same : SameButStatus t im (configure t im x).after
    unfolding StatusOnly
    configure_same =
        configure_keeps t x (Unit {0}) (λ u i. Unit {0}) (StatusOnly t) status_only_stay status_only_chain (λ u v i r f. tt) status_only_status
        (λ u bus driver g a f k one. tt) im (λ q. tt) tt right

    -- so does a memory or I/O access, whoever starts it
    pub access_same : (i : ℕ) → SameButStatus t im (access t im x i).after
    unfolding StatusOnly
    access_same i =
        access_keeps t x (Unit {0}) (λ u i. Unit {0}) (StatusOnly t) status_only_stay status_only_chain (λ u v i r f. tt) status_only_status
        (λ u bus driver g a f k one. tt) im i tt tt (λ ne on. tt) right
