-- A bus step and a bridge step from what the code saw and what the other step answered.
use Rattle.register_header.specs.definitions.Register.{bit_at}
use mathlib.Core.Path.{◌≡◌, sym, ap, ap₂, ◌∙◌}
use mathlib.Core.Bool.{Bool, false, true}
use Prim.Native.Nat.{ℕ, ◌+◌, ◌-◌, ◌<◌}
use native.Mathlib.Omega.{arith}
use lib.ListN.{get_or}
use borrow.Author.Tests.{eq-eqb, ne_eqb}
use Rattle.rack.specs.definitions.Tree.{Tree}
use Rattle.register_header.specs.definitions.PciRegs.{COMMAND, COMMAND_MASTER}
use Rattle.register_image.specs.definitions.Image.{Images, Result, view, gives}
use Rattle.route_bus.specs.declared.Access.{Access}
use types.Run.{OneOf}
use denote.Enum.Declared as declared
use Rattle.route_bus.specs.contracts.End as end
use Rattle.route_bus.specs.declared.Outcome.{Outcome}
use Rattle.route_bus.specs.declared.End.{End}
use Rattle.route_bus.specs.declared.End.TheVariants.{Unclaimed, Silent}
use Rattle.route_bus.specs.declared.Route.{Route}
use Rattle.route_bus.specs.declared.Sight.{Sight}
use Rattle.route_bus.specs.declared.Sight.TheVariants.{Ends, Crosses}
use Rattle.route_bus.specs.definitions.End.{ends, if_unclaimed}
use Rattle.route_bus.specs.definitions.Look.{look}
use Rattle.route_bus.specs.definitions.Cross.{other_bus, turns_type0, crossed}
use Rattle.route_bus.proofs.Ended.{others, not_unclaimed}
use Rattle.route.specs.definitions.Route.{bus_step, bridge_step, from, received, returned, driven, access}
use Rattle.route.specs.laws.StepLaws.{bus_ends_left, bus_on, bus_spent, bridge_on, bus_le}

module _ (t : Tree) (im : Images) (x : Access) (bus driver : ℕ) (type0 : Bool) (left : ℕ) {s : Sight} {v : Images}
    (el : gives s v ≡ look t im x bus driver type0) where
  seen_as : {k : Sight} → s ≡ k → look t im x bus driver type0 ≡ gives k v
  seen_as e = sym el ∙ ap (λ (k : Sight). gives k v) e

  pub step_ends : {e : End} → s ≡ Ends e → ends e v ≡ bus_step (left + left + 1) t im x bus driver type0
  step_ends e = sym (bus_ends_left t im x bus driver type0 left (seen_as e))

  pub step_spent : {g : ℕ} → s ≡ Crosses g → left ≡ 0 → ends Silent v ≡ bus_step (left + left + 1) t im x bus driver type0
  step_spent e z = sym (bus_spent t im x bus driver type0 left (seen_as e) z)

  pub step_on : {g : ℕ} {o : Result Route} → s ≡ Crosses g → (left ≡ 0 → ⊥) → o ≡ bridge_step (left - 1 + (left - 1) + 2) t v x bus g
      → o ≡ bus_step (left + left + 1) t im x bus driver type0
  step_on e z eo = eo ∙ sym (bus_on t im x bus driver type0 left (seen_as e) z)

pub step_across : (t : Tree) (im : Images) (x : Access) (bus g left : ℕ) {other : ℕ} {type0 : Bool} {r : Route}
    {v : Images} {o : Result Route} → other ≡ other_bus t bus g → type0 ≡ turns_type0 t im x bus g
    → gives r v ≡ bus_step (left + left + 1) t im x other g type0 → o ≡ crossed t v x bus g r
    → o ≡ bridge_step (left + left + 2) t im x bus g
step_across t im x bus g left eb et es eo =
    eo
    ∙ ap (λ (k : Result Route). crossed t k.after x bus g k.answer)
    (es ∙ ap₂ (λ (b : ℕ) (y : Bool). bus_step (left + left + 1) t im x b g y) eb et)
    ∙ sym (bridge_on t im x bus g left)

-- a route that may cross fewer than 4,096 bridges crosses fewer
pub few_crossed : (t : Tree) (im : Images) (x : Access) (bus driver : ℕ) (type0 : Bool) (left : ℕ) {r : Route} {v : Images}
    → gives r v ≡ bus_step (left + left + 1) t im x bus driver type0 → left < 4096 → r.crossings < 4096
few_crossed t im x bus driver type0 left e l =
    omega (arith, bus_le t x left im bus driver type0, ap (λ (o : Result Route). o.answer.crossings) e)

-- what comes back to an initiator: nothing of an access that was claimed
pub returned_other : (t : Tree) (im : Images) (i : ℕ) (e : End) → OneOf others (declared.tag_of end.the_type e)
    → im ≡ returned t im i e
unfolding returned
returned_other t im i e k = rw (not_unclaimed (λ holder o. received t im i o) im e k)

pub returned_unclaimed : (t : Tree) (im : Images) (i : ℕ) (e : End) {holder : ℕ} {o : Outcome} {v : Images} → e ≡ Unclaimed holder o
    → v ≡ received t im i o → v ≡ returned t im i e
unfolding returned if_unclaimed
returned_unclaimed t im i e q r = rw q r

-- an access of the host, and of a device that drives or does not
pub access_host : (t : Tree) (im : Images) (x : Access) (i : ℕ) {o : Result Route} → i ≡ 255 → o ≡ from t im x 255 255 false
    → o ≡ access t im x i
unfolding access
access_host t im x i e eo = rw (eq-eqb i 255 e) eo

module _ (t : Tree) (im : Images) (x : Access) (i : ℕ) {command : ℕ} {on : Bool} (ne : i ≡ 255 → ⊥)
    (ec : command ≡ get_or (view t im i) COMMAND 0) (eo : on ≡ bit_at command COMMAND_MASTER) where
  pub access_driven : {o : Result Route} → on ≡ true → o ≡ driven t im x i → o ≡ access t im x i
  unfolding access
  access_driven e es = rw (ne_eqb i 255 ne, ← ec, ← eo, e) es

  pub access_silent : on ≡ false → ends Silent im ≡ access t im x i
  unfolding access
  access_silent e = rw (ne_eqb i 255 ne, ← ec, ← eo, e)
