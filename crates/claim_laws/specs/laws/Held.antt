-- 02, E5: 'A held node claims nothing and drives nothing': it is at reset, and a node at reset does neither. So nobody claims a bus number
-- on a held bus.
use Rattle.std.specs.Prelude.{◌≡◌, Bool, true, false, not, List, [], ◌∷◌, ℕ, ◌≤◌, ◌<◌, leb, eqb, get_or}
use Rattle.std.proofs.Math.Path.{refl}
use Rattle.std.proofs.Common.{ap, ◌∙◌, inl, inr, arith}
use Rattle.std.proofs.Math.Bool.{and-false}
use borrow.Author.Tests.{ne_eqb, eq-eqb, lt-leb}
use Rattle.rack.specs.declared.Node.{Node}
use Rattle.rack.specs.definitions.Node.{is_bridge}
use Rattle.rack.specs.definitions.Tree.{Tree, host, nodes_on, IsBus}
use Rattle.rack.specs.definitions.Refusal.{rack_refusal}
use Rattle.rack.specs.laws.Bools.{tested}
use Rattle.rack_laws.specs.laws.Agents.{All, all_on}
use Rattle.rack_laws.specs.laws.Sound.{not_host}
use Rattle.register_header.specs.declared.Options.{Options}
use Rattle.register_header.specs.definitions.Options.{options_of}
use Rattle.register_header.specs.definitions.PciRegs.{COMMAND, COMMAND_MASTER, SECONDARY_BUS, SUBORDINATE_BUS}
use Rattle.register_header.specs.definitions.Mask.{reset_byte}
use Rattle.register_header.specs.definitions.Register.{bit_at}
use Rattle.register_image.specs.definitions.Image.{Images, view}
use Rattle.bus_reset.specs.definitions.Held.{held_bus, is_held}
use Rattle.bus_reset.specs.definitions.Agreement.{disagrees}
use Rattle.register_laws.specs.laws.Images.{view_missing}
use Rattle.register_laws.specs.laws.Resets.{zero_reset}
use Rattle.register_laws.specs.laws.Held.{held_byte}
use Rattle.claim_agent.specs.declared.Space.{Space}
use Rattle.claim_agent.specs.declared.Space.TheVariants as space
use Rattle.claim_agent.specs.definitions.Agent.{bridge_of, device_of, agent_of}
use Rattle.claim_agent.specs.definitions.Claim.{primary_claims, secondary_claims, device_claims, host_claims, claims_of, claims}
use Rattle.claim_agent.specs.definitions.Claimants.{claimants_in, claimants}

-- the command byte, and a bridge's two bus numbers, are 0 at reset
command_reset : (n : Node) → reset_byte n COMMAND ≡ 0
command_reset n = zero_reset n COMMAND refl (and-false (not (is_bridge n.kind))) refl refl refl

module _ (n : Node) (bridge : is_bridge n.kind ≡ true) where
  secondary_reset : reset_byte n SECONDARY_BUS ≡ 0
  secondary_reset = zero_reset n SECONDARY_BUS refl (rw bridge) refl refl refl

  subordinate_reset : reset_byte n SUBORDINATE_BUS ≡ 0
  subordinate_reset = zero_reset n SUBORDINATE_BUS refl (rw bridge) refl refl refl

-- an address, or a bus number 1 to 255: bus 0 is the root bus, which no bridge is asked for
abbrev pub Asked : Space → ℕ → Type 0
Asked space.Memory a = Unit {0}
Asked space.Io a = Unit {0}
Asked space.Configuration a = 1 ≤ a

pub asked : (s : Space) (a : ℕ) → (s ≡ space.Configuration → 1 ≤ a) → Asked s a
asked space.Memory a n = tt
asked space.Io a n = tt
asked space.Configuration a n = n refl

-- a part whose command byte is 0, and of a bridge its bus numbers
module _ (part : List ℕ) (command : get_or part COMMAND 0 ≡ 0) where
  quiet_device : (n : Node) (s : Space) (a : ℕ) → device_claims (device_of n part) s a ≡ false
  unfolding device_claims device_of
  quiet_device n space.Memory a = rw command
  quiet_device n space.Io a = rw command
  quiet_device n space.Configuration a = refl

  module _ (o : Options) where
    quiet_secondary : (s : Space) (a : ℕ) → secondary_claims (bridge_of o part) s a ≡ false
    unfolding secondary_claims bridge_of
    quiet_secondary space.Memory a = rw command
    quiet_secondary space.Io a = rw command
    quiet_secondary space.Configuration a = refl

    quiet_primary : get_or part SECONDARY_BUS 0 ≡ 0 → get_or part SUBORDINATE_BUS 0 ≡ 0 → (s : Space) (a : ℕ) → Asked s a
        → primary_claims (bridge_of o part) s a ≡ false
    unfolding primary_claims bridge_of
    quiet_primary first last space.Memory a h = rw command
    quiet_primary first last space.Io a h = rw command
    quiet_primary first last space.Configuration a h = rw (first, last, lt-leb a 0 (omega arith)) (and-false (leb 0 a))

-- nor does a node claim that is missing, whose part is empty
pub missing_claims : (t : Tree) (im : Images) (g : ℕ) → t.count ≤ g → (g ≡ host → ⊥) → (s : Space) (bus a : ℕ) → Asked s a
    → claims t im s bus g a ≡ false
unfolding agent_of claims_of
missing_claims t im g past ne s bus a h =
    tested (is_bridge (t.node g).kind)
    (λ b.
    tested (eqb g bus)
    (λ q. rw (ne_eqb g host ne, b, q, view_missing t im g past) (quiet_secondary [] refl (options_of (t.node g).kind) s a))
    (λ q. rw (ne_eqb g host ne, b, q, view_missing t im g past) (quiet_primary [] refl (options_of (t.node g).kind) refl refl s a h)))
    (λ b. rw (ne_eqb g host ne, b, view_missing t im g past) (quiet_device [] refl (t.node g) s a))

module _ (t : Tree) (im : Images) (agrees : disagrees t im ≡ false) (g : ℕ) (node : g < t.count) (held : is_held t im g ≡ true) where
  held_command : get_or (view t im g) COMMAND 0 ≡ 0
  held_command = held_byte t im agrees g node held COMMAND (omega arith) ∙ command_reset (t.node g)

  -- a held node claims nothing on any bus
  pub held_claims : (g ≡ host → ⊥) → (s : Space) (bus a : ℕ) → Asked s a → claims t im s bus g a ≡ false
  unfolding agent_of claims_of
  held_claims ne s bus a h =
      tested (is_bridge (t.node g).kind)
      (λ b.
      tested (eqb g bus)
      (λ q. rw (ne_eqb g host ne, b, q) (quiet_secondary (view t im g) held_command (options_of (t.node g).kind) s a))
      (λ q.
      rw (ne_eqb g host ne, b, q)
      (quiet_primary (view t im g) held_command (options_of (t.node g).kind)
      (held_byte t im agrees g node held SECONDARY_BUS (omega arith) ∙ secondary_reset (t.node g) b)
      (held_byte t im agrees g node held SUBORDINATE_BUS (omega arith) ∙ subordinate_reset (t.node g) b) s a h)))
      (λ b. rw (ne_eqb g host ne, b) (quiet_device (view t im g) held_command (t.node g) s a))

  -- and its command bit 2 is clear
  pub held_master : bit_at (get_or (view t im g) COMMAND 0) COMMAND_MASTER ≡ false
  held_master = rw held_command

-- agents none of which claims
none_claim : (claim : ℕ → Bool) (driver : ℕ) (l : List ℕ) → All (λ g. claim g ≡ false) l → claimants_in claim driver l ≡ []
unfolding claimants_in All
none_claim claim driver [] q = refl
none_claim claim driver (g ∷ gs) q = rw q.0 (none_claim claim driver gs q.1)

module _ (t : Tree) (im : Images) (ok : rack_refusal t ≡ 0) where
  -- the holder of a bus claims no bus number there
  holder_claims : (bus a : ℕ) → IsBus t bus → claims t im space.Configuration bus bus a ≡ false
  unfolding agent_of claims_of host_claims secondary_claims
  holder_claims bus a (inl e) = rw e
  holder_claims bus a (inr q) = rw (ne_eqb bus host (not_host t ok bus q.0), q.1, eq-eqb bus bus refl)

  module _ (agrees : disagrees t im ≡ false) (bus : ℕ) (held : held_bus t im bus ≡ true) where
    -- all nodes on a held bus are held, so none of them claims
    pub held_nodes : (s : Space) (a : ℕ) → Asked s a → (driver : ℕ)
        → claimants_in (λ g. claims t im s bus g a) driver (nodes_on t bus) ≡ []
    held_nodes s a h driver =
        none_claim (λ g. claims t im s bus g a) driver (nodes_on t bus)
        (all_on t bus (λ g. claims t im s bus g a ≡ false) 0 t.count
        (λ k l m p. held_claims t im agrees k (omega arith) (ap (held_bus t im) p ∙ held) (not_host t ok k (omega arith)) s bus a h))

    pub held_numbers : IsBus t bus → (a : ℕ) → 1 ≤ a → (driver : ℕ) → claimants t im space.Configuration bus driver a ≡ []
    unfolding claimants_in
    held_numbers is a h driver = rw (holder_claims bus a is, held_nodes space.Configuration a h driver)
