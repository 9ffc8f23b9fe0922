-- A route on its way back through a bridge, after the code has set its bits.
use Rattle.register_header.specs.definitions.Register.{bit_at}
use mathlib.Core.Path.{◌≡◌, ap, ap₂, ◌∙◌}
use mathlib.Core.Bool.{Bool, true, false}
use Prim.Native.Nat.{ℕ, ◌+◌}
use lib.ListN.{get_or}
use types.Run.{OneOf}
use denote.Enum.Declared as declared
use Rattle.rack.specs.definitions.Tree.{Tree}
use Rattle.register_header.specs.definitions.PciRegs.{BRIDGE_CONTROL, BRIDGE_CTL_MASTER_ABORT}
use Rattle.register_header.specs.declared.Side.{Side}
use Rattle.register_header.specs.declared.StatusBit.TheVariants.{ReceivedTargetAbort, SignaledTargetAbort}
use Rattle.register_image.specs.definitions.Image.{Images, Result, view, status_node, gives}
use Rattle.route_bus.specs.declared.Access.{Access}
use Rattle.route_bus.specs.declared.Outcome.{Outcome}
use Rattle.route_bus.specs.declared.Outcome.TheVariants.{Abort, Done, Target}
use Rattle.route_bus.specs.contracts.End as end
use Rattle.route_bus.specs.declared.End.{End}
use Rattle.route_bus.specs.declared.End.TheVariants.{Unclaimed}
use Rattle.route_bus.specs.declared.Route.{Route}
use Rattle.route_bus.specs.definitions.End.{if_unclaimed}
use Rattle.route_bus.specs.definitions.Look.{side_on}
use Rattle.route_bus.specs.definitions.Cross.{is_posted, towards_later, last_outcome, signalled, last_images, passed, crossed}
use Rattle.route_bus.proofs.Ended.{others, not_unclaimed}

abbrev routed : ℕ → End → Images → Result Route
routed c e v = gives (record { crossings = c; end = e }) v

module _ (t : Tree) (im : Images) (x : Access) (g : ℕ) {posted : Bool} (ep : posted ≡ is_posted x.space x.write) where
  pub last_posted : posted ≡ true → Done ≡ last_outcome t im x g
  unfolding last_outcome
  last_posted e = rw (← ep, e)

  module _ {control : ℕ} {on : Bool} (e : posted ≡ false) (ec : control ≡ get_or (view t im g) BRIDGE_CONTROL 0)
      (eo : on ≡ bit_at control BRIDGE_CTL_MASTER_ABORT) where
    pub last_target : on ≡ true → Target ≡ last_outcome t im x g
    unfolding last_outcome
    last_target b = rw (← ep, e, ← ec, ← eo, b)

    pub last_done : on ≡ false → Done ≡ last_outcome t im x g
    unfolding last_outcome
    last_done b = rw (← ep, e, ← ec, ← eo, b)

module _ (t : Tree) (im : Images) (bus g : ℕ) {v : Images} where
  pub signal_set : {s : Side} → s ≡ side_on bus g → v ≡ status_node t im g s SignaledTargetAbort → v ≡ signalled t im bus g
  unfolding signalled
  signal_set es ev = rw (← es) ev

module _ (t : Tree) (im : Images) (x : Access) (bus g : ℕ) where
  -- the last bridge
  pub at_last : {o w : Outcome} {v : Images} → o ≡ Abort → w ≡ last_outcome t im x g → v ≡ last_images t im bus g w
      → gives w v ≡ passed t im x bus g o
  unfolding passed
  at_last eo ew ev = rw eo (ap₂ gives ew (ev ∙ ap (last_images t im bus g) ew))

  pub at_done : {o : Outcome} → o ≡ Done → gives Done im ≡ passed t im x bus g o
  unfolding passed
  at_done eo = rw eo

  -- an earlier bridge
  pub at_earlier : {o : Outcome} {s : Side} {u v : Images} → o ≡ Target → s ≡ towards_later bus g
      → u ≡ status_node t im g s ReceivedTargetAbort → v ≡ signalled t u bus g → gives Target v ≡ passed t im x bus g o
  unfolding passed
  at_earlier eo es eu ev =
      rw eo
      (ap (gives Target)
      (ev ∙ ap (λ (k : Images). signalled t k bus g) (eu ∙ ap (λ (k : Side). status_node t im g k ReceivedTargetAbort) es)))

  -- an access that was claimed, or not driven
  pub crossed_other : (r : Route) → OneOf others (declared.tag_of end.the_type r.end)
      → routed (r.crossings + 1) r.end im ≡ crossed t im x bus g r
  unfolding crossed
  crossed_other r k = rw (not_unclaimed _ _ r.end k, not_unclaimed _ _ r.end k)

  -- and one that was not claimed
  pub crossed_unclaimed : (r : Route) {holder : ℕ} {o w : Outcome} {v : Images} → r.end ≡ Unclaimed holder o
      → gives w v ≡ passed t im x bus g o → routed (r.crossings + 1) (Unclaimed holder w) v ≡ crossed t im x bus g r
  unfolding crossed if_unclaimed
  crossed_unclaimed r {holder} e p =
      rw e (ap (λ (k : Result Outcome). routed (r.crossings + 1) (Unclaimed holder k.answer) k.after) p)
