-- 02, E5: 'The bridge itself keeps claiming': bit 6 of bridge control plays no part in what its own bridge claims, on either side.
use Rattle.std.specs.Prelude.{◌≡◌, true, false, List, ℕ, ◌+◌, ◌-◌, eqb, get_or}
use Rattle.std.proofs.Math.Path.{refl}
use Rattle.std.proofs.Common.{ap}
use Rattle.rack.specs.definitions.Node.{is_bridge}
use Rattle.rack.specs.definitions.Tree.{Tree}
use Rattle.register_header.specs.declared.Options.{Options}
use Rattle.register_header.specs.definitions.Options.{options_of}
use Rattle.register_header.specs.definitions.PciRegs.{COMMAND, SECONDARY_BUS, SUBORDINATE_BUS, IO_BASE, IO_LIMIT, MEMORY_BASE, MEMORY_LIMIT, PREF_MEMORY_BASE, PREF_MEMORY_LIMIT, PREF_BASE_UPPER32, PREF_LIMIT_UPPER32, IO_BASE_UPPER16, IO_LIMIT_UPPER16, BRIDGE_CONTROL, BRIDGE_CTL_BUS_RESET}
use Rattle.register_header.specs.definitions.Register.{dword_at}
use Rattle.register_header.specs.laws.Bits.{bit}
use Rattle.register_image.specs.definitions.Image.{Images, view}
use Rattle.claim_window.specs.definitions.Window.{word_at, windows_of}
use Rattle.claim_agent.specs.declared.Space.{Space}
use Rattle.claim_agent.specs.declared.Agent.{Agent}
use Rattle.claim_agent.specs.definitions.Agent.{bridge_of, agent_of}
use Rattle.claim_agent.specs.definitions.Claim.{claims, claims_of}
use Rattle.claim_laws.specs.definitions.Same.{SameButReset}
use Rattle.claim_laws.specs.laws.SameBytes.{outside_same}
use Rattle.claim_laws.specs.laws.Lacked.{same_bit}

module _ (p q : List ℕ) (s : SameButReset p q) where
  -- every byte but bridge control, so every word and every dword
  byte : (k : ℕ) → eqb k BRIDGE_CONTROL ≡ false → get_or p k 0 ≡ get_or q k 0
  byte k e = outside_same p q s k (rw e)

  word : (k : ℕ) → eqb k BRIDGE_CONTROL ≡ false → eqb (k + 1) BRIDGE_CONTROL ≡ false → word_at p k ≡ word_at q k
  word k e0 e1 = rw (byte k e0, byte (k + 1) e1)

  dword : (k : ℕ) → eqb k BRIDGE_CONTROL ≡ false → eqb (k + 1) BRIDGE_CONTROL ≡ false → eqb (k + 2) BRIDGE_CONTROL ≡ false
      → eqb (k + 3) BRIDGE_CONTROL ≡ false → dword_at p k ≡ dword_at q k
  dword k e0 e1 e2 e3 = rw (byte k e0, byte (k + 1) e1, byte (k + 2) e2, byte (k + 3) e3)

  -- and every other bit of that
  control_bit : (k : ℕ) → bit (255 - BRIDGE_CTL_BUS_RESET) k ≡ 1 → bit (get_or p BRIDGE_CONTROL 0) k ≡ bit (get_or q BRIDGE_CONTROL 0) k
  control_bit k one = same_bit (get_or p BRIDGE_CONTROL 0) (get_or q BRIDGE_CONTROL 0) (255 - BRIDGE_CTL_BUS_RESET) k (s.bits BRIDGE_CONTROL) one

  -- a bridge's claims read no bit 6, whatever its options
  pub reset_no_part : (o : Options) → bridge_of o p ≡ bridge_of o q
  unfolding bridge_of windows_of bit
  reset_no_part o =
      simp (
        byte COMMAND refl,
        byte SECONDARY_BUS refl,
        byte SUBORDINATE_BUS refl,
        byte IO_BASE refl,
        byte IO_LIMIT refl,
        word IO_BASE_UPPER16 refl refl,
        word IO_LIMIT_UPPER16 refl refl,
        word MEMORY_BASE refl refl,
        word MEMORY_LIMIT refl refl,
        word PREF_MEMORY_BASE refl refl,
        word PREF_MEMORY_LIMIT refl refl,
        dword PREF_BASE_UPPER32 refl refl refl refl,
        dword PREF_LIMIT_UPPER32 refl refl refl refl,
        control_bit 2 refl,
        control_bit 3 refl,
        control_bit 4 refl,
      )

-- so a bridge claims the same with the bit and without, in every space, on the bus that it holds and on the one that it sits on
module _ (t : Tree) (im im' : Images) (g : ℕ) (bridge : is_bridge (t.node g).kind ≡ true)
    (same : SameButReset (view t im g) (view t im' g)) where
  agent : (bus : ℕ) → agent_of t im bus g ≡ agent_of t im' bus g
  unfolding agent_of
  agent bus = rw (bridge, reset_no_part (view t im g) (view t im' g) same (options_of (t.node g).kind))

  pub reset_claims : (space : Space) (bus a : ℕ) → claims t im space bus g a ≡ claims t im' space bus g a
  reset_claims space bus a = ap (λ (x : Agent). claims_of x space a) (agent bus)
