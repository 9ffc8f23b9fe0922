-- In an accepted rack the number is never spent: once it allows the crossings that are possible, it plays no part.
use Rattle.std.specs.Prelude.{◌≡◌, refl, Bool, ◌⊎◌, eqb}
use Rattle.std.proofs.Common.{sym, ◌∙◌, inl, inr, ⊎_elim, eq-eqb, ne_eqb}
use Rattle.std.proofs.Math.Path.{ap}
use Prim.Native.Nat.{ℕ, zero, suc, ◌+◌, ◌-◌, ◌≤◌, ◌<◌}
use native.Mathlib.Omega.{arith}
use Rattle.rack.specs.definitions.Tree.{Tree, host, parent_of, IsBus, depth, greatest_depth}
use Rattle.rack.specs.definitions.Stored.{Stored}
use Rattle.rack.specs.definitions.Refusal.{rack_refusal}
use Rattle.rack_laws.specs.laws.Sound.{parent_is, not_own}
use Rattle.rack_laws.specs.laws.Depths.{depth_step, depth_root, depth_greatest}
use Rattle.register_image.specs.definitions.Image.{Images, Result}
use Rattle.route_bus.specs.declared.Access.{Access}
use Rattle.route_bus.specs.declared.Route.{Route}
use Rattle.route_bus.specs.definitions.Look.{look}
use Rattle.route_bus.specs.definitions.Cross.{other_bus, turns_type0, crossed}
use Rattle.route.specs.definitions.Route.{bus_step, bridge_step, possible, from, configure}
use Rattle.route.specs.laws.StepLaws.{bus_le}
use Rattle.route_laws.specs.definitions.Path.{Taken}
use Rattle.route_laws.specs.laws.Takers.{look_follows, follow_same}

-- the crossings that are possible by the depths that are stored are those of the depths themselves
pub possible_is : (t : Tree) → Stored t → (bus : ℕ) → IsBus t bus → possible t bus ≡ depth t bus + greatest_depth t
possible_is t st bus is = omega (arith, st.depth_is bus is, st.deepest_is)

-- crossings that are enough: all the way up and down, or, where the bus's holder drives, the way down
abbrev pub Enough : Tree → ℕ → ℕ → ℕ → Type 0
Enough t bus driver m = (depth t bus + greatest_depth t ≤ m) ⊎ ((driver ≡ bus) × (greatest_depth t ≤ depth t bus + m))

-- what is left past a bridge that takes the access on
pub record Onward (t : Tree) (bus m g : ℕ) : Type 0 where
  pub left : m ≡ 0 → ⊥
  pub place : IsBus t (other_bus t bus g)
  pub enough : Enough t (other_bus t bus g) g (m - 1)

other_up : (t : Tree) (bus g : ℕ) → g ≡ bus → other_bus t bus g ≡ parent_of t bus
unfolding other_bus
other_up t bus g e = rw (eq-eqb g bus e, e)

other_down : (t : Tree) (bus g : ℕ) → (g ≡ bus → ⊥) → other_bus t bus g ≡ g
unfolding other_bus
other_down t bus g ne = rw (ne_eqb g bus ne)

module _ (t : Tree) (ok : rack_refusal t ≡ 0) where
  -- every node sits on a bus
  pub parent_bus : (i : ℕ) → i < t.count → IsBus t (parent_of t i)
  parent_bus i h = ⊎_elim (λ r. inl r) (λ r. inr (omega (arith, r.0), r.1)) (parent_is t ok i h)

  module _ (bus driver m g : ℕ) (is : IsBus t bus) (en : Enough t bus driver m) (k : Taken t bus driver g) where
    up : g ≡ bus → Onward t bus m g
    up e =
        ⊎_elim (λ r. absurd (k.node (e ∙ r)))
        (λ r.
        let d : depth t bus ≡ depth t (parent_of t bus) + 1 = depth_step t ok bus r.0 in
        ⊎_elim
        (λ q.
        let p : other_bus t bus g ≡ parent_of t bus = other_up t bus g e in
        let b : IsBus t (parent_of t bus) = parent_bus bus r.0 in
        let n : depth t (parent_of t bus) + greatest_depth t ≤ m - 1 = omega arith in
        record { left = λ z. omega arith; place = rw p b; enough = inl (rw p n) })
        (λ q. absurd (k.other (e ∙ sym q.0)))
        en)
        is

    down : (g < t.count) × (parent_of t g ≡ bus) → Onward t bus m g
    down e =
        let p : other_bus t bus g ≡ g = other_down t bus g (λ s. not_own t ok g e.0 (e.1 ∙ sym s)) in
        let d : depth t g ≡ depth t bus + 1 = depth_step t ok g e.0 ∙ ap (λ (b : ℕ). depth t b + 1) e.1 in
        let top : depth t g ≤ greatest_depth t = depth_greatest t g e.0 k.bridge in
        let n : greatest_depth t ≤ depth t bus + m = ⊎_elim (λ q. omega arith) (λ q. q.1) en in
        let n' : greatest_depth t ≤ depth t g + (m - 1) = omega arith in
        record { left = λ z. omega arith; place = rw p (inr (e.0, k.bridge)); enough = inr (sym p, rw p n') }

    -- a bridge takes an access up from the bus that it holds, or down to a deeper one
    pub onward : Onward t bus m g
    onward = ⊎_elim (λ e. up e) (λ e. down e) k.agent

  module _ (x : Access) where
    steps_same : (m m' : ℕ) (im : Images) (bus driver : ℕ) (type0 : Bool) → IsBus t bus → Enough t bus driver m
        → Enough t bus driver m'
        → bus_step (suc (m + m)) t im x bus driver type0 ≡ bus_step (suc (m' + m')) t im x bus driver type0
    unfolding bus_step
    steps_same zero m' im bus driver type0 is a b =
        follow_same t im x bus driver type0 (λ g v. bridge_step 0 t v x bus g) (λ g v. bridge_step (m' + m') t v x bus g)
        (look t im x bus driver type0).answer (look t im x bus driver type0).after (look_follows t bus im x driver type0)
        (λ g k. absurd ((onward bus driver 0 g is a k).left refl))
    steps_same (suc m) zero im bus driver type0 is a b =
        follow_same t im x bus driver type0 (λ g v. bridge_step (suc m + suc m) t v x bus g) (λ g v. bridge_step 0 t v x bus g)
        (look t im x bus driver type0).answer (look t im x bus driver type0).after (look_follows t bus im x driver type0)
        (λ g k. absurd ((onward bus driver 0 g is b k).left refl))
    steps_same (suc m) (suc m') im bus driver type0 is a b =
        let p : suc m + suc m ≡ suc (suc (m + m)) = omega arith in
        let p' : suc m' + suc m' ≡ suc (suc (m' + m')) = omega arith in
        rw (p, p')
        (follow_same t im x bus driver type0 (λ g v. bridge_step (suc (suc (m + m))) t v x bus g)
        (λ g v. bridge_step (suc (suc (m' + m'))) t v x bus g) (look t im x bus driver type0).answer
        (look t im x bus driver type0).after (look_follows t bus im x driver type0)
        (λ g k.
        let o = onward bus driver (suc m) g is a k in
        let o' = onward bus driver (suc m') g is b k in
        let s : suc m - 1 ≡ m = omega arith in
        let s' : suc m' - 1 ≡ m' = omega arith in
        ap (λ (out : Result Route). crossed t out.after x bus g out.answer)
        (steps_same m m' im (other_bus t bus g) g (turns_type0 t im x bus g) o.place (rw s at o.enough) (rw s' at o'.enough))))

    -- once crossings are enough, their number plays no part
    pub enough_same : (left left' : ℕ) (im : Images) (bus driver : ℕ) (type0 : Bool) → IsBus t bus → Enough t bus driver left
        → Enough t bus driver left'
        → bus_step (left + left + 1) t im x bus driver type0 ≡ bus_step (left' + left' + 1) t im x bus driver type0
    enough_same left left' im bus driver type0 is a b =
        let p : left + left + 1 ≡ suc (left + left) = omega arith in
        let p' : left' + left' + 1 ≡ suc (left' + left') = omega arith in
        rw (p, p') (steps_same left left' im bus driver type0 is a b)

    -- all the way up and down is enough, whoever drives
    pub enough : (left left' : ℕ) (im : Images) (bus driver : ℕ) (type0 : Bool) → IsBus t bus → depth t bus + greatest_depth t ≤ left
        → depth t bus + greatest_depth t ≤ left'
        → bus_step (left + left + 1) t im x bus driver type0 ≡ bus_step (left' + left' + 1) t im x bus driver type0
    enough left left' im bus driver type0 is a b = enough_same left left' im bus driver type0 is (inl a) (inl b)

    -- a route has as many as are possible
    module _ (st : Stored t) where
      -- its crossings are at most the bus's depth and the greatest depth
      pub crossings_le : (im : Images) (bus driver : ℕ) (type0 : Bool) → IsBus t bus
          → (from t im x bus driver type0).answer.crossings ≤ depth t bus + greatest_depth t
      crossings_le im bus driver type0 is = omega (arith, bus_le t x (possible t bus) im bus driver type0, possible_is t st bus is)

      -- from the host at most the greatest depth
      pub configure_le : (im : Images) → (configure t im x).answer.crossings ≤ greatest_depth t
      unfolding configure
      configure_le im = omega (arith, crossings_le im host host (eqb x.address 0) (inl refl), depth_root t)
