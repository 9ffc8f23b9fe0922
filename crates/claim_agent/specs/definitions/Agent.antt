-- An agent of a bus, decoded from its registers: all that its claims rest on.
use Rattle.std.specs.Prelude.{ℕ, cond, List, [], ◌∷◌, eqb, get_or}
use Rattle.rack.specs.declared.Node.{Node}
use Rattle.rack.specs.definitions.Node.{is_bridge, region_in}
use Rattle.rack.specs.definitions.Tree.{Tree, host}
use Rattle.register_header.specs.declared.Options.{Options}
use Rattle.register_header.specs.definitions.Options.{options_of}
use Rattle.register_header.specs.definitions.PciRegs.{COMMAND, COMMAND_IO, COMMAND_MEMORY, COMMAND_MASTER, SECONDARY_BUS, SUBORDINATE_BUS}
use Rattle.register_header.specs.definitions.Register.{bit_at}
use Rattle.register_image.specs.definitions.Image.{Images, view}
use Rattle.claim_window.specs.declared.Area.{Area}
use Rattle.claim_window.specs.definitions.Range.{range}
use Rattle.claim_window.specs.definitions.Window.{windows_of}
use Rattle.claim_window.specs.definitions.Area.{area_of}
use Rattle.claim_agent.specs.declared.BridgeClaims.{BridgeClaims}
use Rattle.claim_agent.specs.declared.DeviceClaims.{DeviceClaims}
use Rattle.claim_agent.specs.declared.Agent.{Agent}
use Rattle.claim_agent.specs.declared.Agent.TheVariants.{Primary, Secondary, Device, Host}

-- 01: 'command bit 0 (I/O) or 1 (memory)', 'if bit 2 is set', 'secondary ≤ bus ≤ subordinate'
unfoldable pub bridge_of : Options → List ℕ → BridgeClaims
bridge_of o part =
    record {
      io = bit_at (get_or part COMMAND 0) COMMAND_IO;
      memory = bit_at (get_or part COMMAND 0) COMMAND_MEMORY;
      master = bit_at (get_or part COMMAND 0) COMMAND_MASTER;
      windows = windows_of o part;
      buses = range (get_or part SECONDARY_BUS 0) (get_or part SUBORDINATE_BUS 0);
    }

abbrev pub area_in : Node → List ℕ → ℕ → Area
area_in n part r = area_of part (region_in n r).kind (region_in n r).exponent r

-- 01: 'A device claims its regions under its bits 0 and 1'
unfoldable pub device_of : Node → List ℕ → DeviceClaims
device_of n part =
    record {
      io = bit_at (get_or part COMMAND 0) COMMAND_IO;
      memory = bit_at (get_or part COMMAND 0) COMMAND_MEMORY;
      areas = area_in n part 0 ∷ area_in n part 1 ∷ area_in n part 2 ∷ [];
    }

-- bridge g of a rack, with the options of its kind
abbrev pub bridge_in : Tree → Images → ℕ → BridgeClaims
bridge_in t im g = bridge_of (options_of (t.node g).kind) (view t im g)

-- agent g of a bus: the host, the bridge that holds the bus, or a node on it
unfoldable pub agent_of : Tree → Images → ℕ → ℕ → Agent
agent_of t im bus g =
    cond (eqb g host) (Host t.host_memory)
    (cond (is_bridge (t.node g).kind)
    (cond (eqb g bus) (Secondary (bridge_in t im g)) (Primary (bridge_in t im g)))
    (Device (device_of (t.node g) (view t im g))))
