-- What the one claimant does with an access, after the code has asked for what it rests on.
use mathlib.Core.Path.{◌≡◌, sym, ◌∙◌}
use mathlib.Core.Bool.{Bool, true, false}
use mathlib.Core.List.{List}
use Prim.Native.Nat.{ℕ, ◌-◌}
use borrow.Author.Tests.{eq-eqb, ne_eqb}
use Rattle.rack.specs.declared.Node.{Node}
use Rattle.rack.specs.declared.Range.{Range}
use Rattle.rack.specs.definitions.Node.{is_bridge}
use Rattle.rack.specs.definitions.Tree.{Tree}
use Rattle.register_image.specs.definitions.Image.{Images, view}
use Rattle.claim_agent.specs.declared.DeviceClaims.{DeviceClaims}
use Rattle.claim_agent.specs.definitions.Agent.{device_of}
use Rattle.claim_agent.specs.definitions.Claim.{reached, offset_in}
use Rattle.route_bus.specs.declared.Access.{Access}
use Rattle.route_bus.specs.declared.End.TheVariants.{Owner, Host}
use Rattle.route_bus.specs.declared.Sight.TheVariants.{Ends, Crosses}
use Rattle.route_bus.specs.definitions.Look.{is_io, owned}

module _ (t : Tree) (im : Images) (x : Access) (g : ℕ) where
  pub owned_host : {h : Range} {o : ℕ} → g ≡ 255 → h ≡ t.host_memory → o ≡ x.address - h.first → Ends (Host o) ≡ owned t im x g
  unfolding owned
  owned_host e eh eo = rw (eq-eqb g 255 e, eo, eh)

  module _ (ne : g ≡ 255 → ⊥) {n : Node} (en : n ≡ t.node g) {b : Bool} (eb : b ≡ is_bridge n.kind) where
    pub owned_bridge : b ≡ true → Crosses g ≡ owned t im x g
    unfolding owned
    owned_bridge q = rw (ne_eqb g 255 ne, ← en, sym eb ∙ q)

    pub owned_device : {part : List ℕ} {d : DeviceClaims} {io : Bool} {region offset : ℕ} → b ≡ false → part ≡ view t im g
        → d ≡ device_of n part → io ≡ is_io x.space → region ≡ reached d io x.address → offset ≡ offset_in d io x.address
        → Ends (Owner g region offset) ≡ owned t im x g
    unfolding owned
    owned_device q ep ed ei er eo = rw (ne_eqb g 255 ne, ← en, sym eb ∙ q, ← ep, ← ed, ← ei, er, eo)
