-- What a bus does with an access, after the code has asked for what it rests on.
use mathlib.Core.Path.{◌≡◌, ap, sym, ◌∙◌}
use mathlib.Core.Bool.{Bool, true, false}
use mathlib.Core.Logic.{◌≢◌}
use Prim.Native.Nat.{ℕ, ◌<◌}
use native.Mathlib.Omega.{arith}
use borrow.Author.Tests.{eq-eqb, ne_eqb}
use Rattle.rack.specs.definitions.Tree.{Tree}
use Rattle.register_header.specs.declared.Side.{Side}
use Rattle.register_header.specs.declared.StatusBit.TheVariants.{ReceivedMasterAbort}
use Rattle.register_image.specs.definitions.Image.{Images, Result, status_node, gives}
use Rattle.bus_reset.specs.definitions.Held.{held_bus}
use Rattle.claim_agent.specs.declared.Claimants.{Claimants}
use Rattle.claim_agent.specs.declared.Claimants.TheVariants.{Nobody, One, Two}
use Rattle.claim_agent.specs.definitions.Claimants.{claimants, first_two}
use Rattle.route_bus.specs.declared.Access.{Access}
use Rattle.route_bus.specs.declared.Outcome.TheVariants.{Abort}
use Rattle.route_bus.specs.declared.End.TheVariants.{Node, Unclaimed, Clash, Special}
use Rattle.route_bus.specs.declared.Sight.{Sight}
use Rattle.route_bus.specs.declared.Sight.TheVariants.{Ends}
use Rattle.route_bus.specs.definitions.Look.{side_on, master_abort, unclaimed, owned, claimed, target, found, selects, is_special_cycle, direct, look}
use Rattle.route_bus.specs.laws.LookLaws.{special_ends, other_selects}

module _ (t : Tree) (im : Images) (bus driver : ℕ) where
  pub abort_host : driver ≡ 255 → im ≡ master_abort t im bus driver
  unfolding master_abort
  abort_host e = rw (eq-eqb driver 255 e)

  pub abort_other : {s : Side} {v : Images} → (driver ≡ 255 → ⊥) → s ≡ side_on bus driver
      → v ≡ status_node t im driver s ReceivedMasterAbort → v ≡ master_abort t im bus driver
  unfolding master_abort
  abort_other ne es ev = rw (ne_eqb driver 255 ne, ← es) ev

  pub abort_seen : {v : Images} → v ≡ master_abort t im bus driver → gives (Ends (Unclaimed bus Abort)) v ≡ unclaimed t im bus driver
  unfolding unclaimed
  abort_seen ev = rw ev

module _ (t : Tree) (im : Images) (bus devfn : ℕ) {held : Bool} (eh : held ≡ held_bus t im bus) where
  pub found_held : held ≡ true → 255 ≡ found t im bus devfn
  unfolding found
  found_held q = rw (← eh, q)

  pub found_free : {g : ℕ} → held ≡ false → g ≡ target t bus devfn → g ≡ found t im bus devfn
  unfolding found
  found_free q e = rw (← eh, q) e

module _ (t : Tree) (im : Images) (x : Access) (bus driver : ℕ) where
  pub selects_none : {v : Result Sight} → 255 ≡ found t im bus x.devfn → v ≡ unclaimed t im bus driver → v ≡ selects t im x bus driver
  unfolding selects
  selects_none e ev = rw (← e) ev

  pub selects_node : {g : ℕ} → g ≡ found t im bus x.devfn → g < 255 → gives (Ends (Node g)) im ≡ selects t im x bus driver
  unfolding selects
  selects_node {g} eg below = let ne : g ≢ 255 = omega arith in rw (← eg, ne_eqb g 255 ne)

  module _ {b : Bool} (eb : b ≡ is_special_cycle x) where
    pub direct_special : b ≡ true → gives (Ends (Special bus)) im ≡ direct t im x bus driver
    direct_special q = sym (special_ends t im x bus driver (sym eb ∙ q))

    pub direct_selects : {v : Result Sight} → b ≡ false → v ≡ selects t im x bus driver → v ≡ direct t im x bus driver
    direct_selects q ev = ev ∙ sym (other_selects t im x bus driver (sym eb ∙ q))

  module _ {c : Claimants} where
    pub claimed_none : {v : Result Sight} → c ≡ Nobody → v ≡ unclaimed t im bus driver → v ≡ claimed t im x bus driver c
    unfolding claimed
    claimed_none e ev = rw e ev

    pub claimed_one : {g : ℕ} {s : Sight} → c ≡ One g → s ≡ owned t im x g → gives s im ≡ claimed t im x bus driver c
    unfolding claimed
    claimed_one e es = rw (e, es)

    pub claimed_two : {y z : ℕ} → c ≡ Two y z → gives (Ends (Clash bus y z)) im ≡ claimed t im x bus driver c
    unfolding claimed
    claimed_two e = rw e

  module _ {type0 : Bool} {v : Result Sight} where
    pub look_direct : type0 ≡ true → v ≡ direct t im x bus driver → v ≡ look t im x bus driver type0
    unfolding look
    look_direct e ev = rw e ev

    pub look_claimed : {c : Claimants} → type0 ≡ false → c ≡ first_two (claimants t im x.space bus driver x.address)
        → v ≡ claimed t im x bus driver c → v ≡ look t im x bus driver type0
    unfolding look
    look_claimed e ec ev = rw e (ev ∙ ap (claimed t im x bus driver) ec)
