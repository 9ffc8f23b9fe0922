-- Agents and nodes of a bus, after the code has looked them up.
use mathlib.Core.Path.{◌≡◌, ap, ◌∙◌}
use mathlib.Core.Logic.{◌≢◌}
use mathlib.Core.Bool.{Bool, true, false, and-true}
use mathlib.Core.List.{List}
use Prim.Native.Nat.{ℕ}
use borrow.Author.Tests.{eq-eqb, ne_eqb}
use Rattle.rack.specs.declared.Node.{Node}
use Rattle.rack.specs.declared.Range.{Range}
use Rattle.rack.specs.definitions.Node.{is_bridge}
use Rattle.rack.specs.definitions.Tree.{Tree}
use Rattle.register_header.specs.definitions.Options.{options_of}
use Rattle.register_image.specs.definitions.Image.{Images, view}
use Rattle.claim_agent.specs.declared.Space.{Space}
use Rattle.claim_agent.specs.declared.BridgeClaims.{BridgeClaims}
use Rattle.claim_agent.specs.declared.DeviceClaims.{DeviceClaims}
use Rattle.claim_agent.specs.declared.Agent.{Agent}
use Rattle.claim_agent.specs.declared.Agent.TheVariants.{Primary, Secondary, Device, Host}
use Rattle.claim_agent.specs.definitions.Agent.{bridge_of, device_of, agent_of}
use Rattle.claim_agent.specs.definitions.Claim.{host_claims, primary_claims, secondary_claims, device_claims, claims_of}
use Rattle.claim_agent.specs.definitions.Claimants.{counted}

module _ (t : Tree) (im : Images) (bus g : ℕ) where
  pub agent_host : {h : Range} → g ≡ 255 → h ≡ t.host_memory → Host h ≡ agent_of t im bus g
  unfolding agent_of
  agent_host e eh = rw (eq-eqb g 255 e, eh)

  -- a node n and its part
  module _ {n : Node} {part : List ℕ} {bridge : Bool} (ne : g ≢ 255) (en : n ≡ t.node g) (ep : part ≡ view t im g)
      (eb : bridge ≡ is_bridge n.kind) where
    pub agent_secondary : {b : BridgeClaims} → bridge ≡ true → g ≡ bus → b ≡ bridge_of (options_of n.kind) part → Secondary b ≡ agent_of t im bus g
    unfolding agent_of
    agent_secondary q e r = simp (ne_eqb g 255 ne, ← en, ← eb, q, eq-eqb g bus e, ← ep, r)

    pub agent_primary : {b : BridgeClaims} → bridge ≡ true → g ≢ bus → b ≡ bridge_of (options_of n.kind) part → Primary b ≡ agent_of t im bus g
    unfolding agent_of
    agent_primary q e r = simp (ne_eqb g 255 ne, ← en, ← eb, q, ne_eqb g bus e, ← ep, r)

    pub agent_device : {d : DeviceClaims} → bridge ≡ false → d ≡ device_of n part → Device d ≡ agent_of t im bus g
    unfolding agent_of
    agent_device q r = simp (ne_eqb g 255 ne, ← en, ← eb, q, ← ep, r)

-- the same agents, asked at once
module _ (t : Tree) (im : Images) (bus g : ℕ) (space : Space) (a : ℕ) {r : Bool} where
  pub host_asked : {h : Range} → g ≡ 255 → h ≡ t.host_memory → r ≡ host_claims h space a → r ≡ claims_of (agent_of t im bus g) space a
  unfolding claims_of
  host_asked e eh er = er ∙ ap (λ (x : Agent). claims_of x space a) (agent_host t im bus g e eh)

  module _ {n : Node} {part : List ℕ} {bridge : Bool} (ne : g ≢ 255) (en : n ≡ t.node g) (ep : part ≡ view t im g)
      (eb : bridge ≡ is_bridge n.kind) where
    pub secondary_asked : {b : BridgeClaims} → bridge ≡ true → g ≡ bus → b ≡ bridge_of (options_of n.kind) part → r ≡ secondary_claims b space a
        → r ≡ claims_of (agent_of t im bus g) space a
    unfolding claims_of
    secondary_asked q e s er = er ∙ ap (λ (x : Agent). claims_of x space a) (agent_secondary t im bus g ne en ep eb q e s)

    pub primary_asked : {b : BridgeClaims} → bridge ≡ true → g ≢ bus → b ≡ bridge_of (options_of n.kind) part → r ≡ primary_claims b space a
        → r ≡ claims_of (agent_of t im bus g) space a
    unfolding claims_of
    primary_asked q e s er = er ∙ ap (λ (x : Agent). claims_of x space a) (agent_primary t im bus g ne en ep eb q e s)

    pub device_asked : {d : DeviceClaims} → bridge ≡ false → d ≡ device_of n part → r ≡ device_claims d space a
        → r ≡ claims_of (agent_of t im bus g) space a
    unfolding claims_of
    device_asked q s er = er ∙ ap (λ (x : Agent). claims_of x space a) (agent_device t im bus g ne en ep eb q s)

-- an agent that does not drive counts if it claims
pub counted_is : (t : Tree) (im : Images) (space : Space) (bus driver a g : ℕ) {r : Bool} → g ≢ driver
    → r ≡ claims_of (agent_of t im bus g) space a → r ≡ counted t im space bus driver a g
counted_is t im space bus driver a g ne er = simp (ne_eqb g driver ne, and-true, er)
