-- Every row of the table holds.
use Rattle.std.specs.Prelude.{◌≡◌, refl, true}
use Rattle.rack.specs.definitions.Count.{count_of, some_from}
use Rattle.seat.specs.definitions.Grants.{may_write}
use Rattle.register_header.specs.definitions.Mask.{write_mask, clear_mask, region_write, region_reset, reset_byte}
use Rattle.register_header.specs.definitions.Register.{read_register, write_byte, write_dword, write_register, set_status}
use Rattle.register_header.specs.definitions.Sizing.{read_back, size_part}
use Rattle.register_image.specs.definitions.Reset.{reset_from, byte_changed}
use Rattle.rack.specs.definitions.Tree.{nodes_from, bridges_from}
use Rattle.rack.specs.definitions.Grow.{tree_with, grown}
use Rattle.register_image.specs.definitions.Image.{node_part, on_part, view, on_node}
use Rattle.claim_window.specs.definitions.Area.{area_of}
use Rattle.claim_window.specs.definitions.Area as area
use Rattle.claim_window.specs.definitions.Cut.{cut_at, cut_past, cut_if, cut_low}
use Rattle.claim_agent.specs.declared.Space.TheVariants.{Memory}
use Rattle.claim_agent.specs.definitions.Agent.{bridge_of, device_of, agent_of}
use Rattle.claim_agent.specs.definitions.Claim.{primary_claims, secondary_claims, device_claims, host_claims, claims_of, windows_until, regions_until, until_of}
use Rattle.claim_agent.specs.definitions.Claimants.{claimants_in, next_from}
use Rattle.claim_agent.specs.definitions.WindowEnds.{window_in}
use Rattle.route_bus.specs.definitions.End.{if_unclaimed}
use Rattle.route_bus.specs.definitions.Look.{master_abort, unclaimed, owned, claimed, target, found, selects, direct, look}
use Rattle.route_bus.specs.definitions.Cross.{other_bus, turns_type0, last_outcome, passed, crossed}
use Rattle.route.specs.definitions.Route.{bus_step, configure, access}
use Rattle.event_run.specs.definitions.Run.{register_of, reached, ended_at, event_run}
use Rattle.check_search.specs.definitions.Report.{Pass, fault}
use Rattle.check_search.specs.definitions.Check.{first_in, shown, at_value, check}
use Rattle.check_search.specs.laws.Stretch.{until_all}
use Rattle.check_search.proofs.Swept.{decoded, sweep_by, first_by, on_bus_by, check_by, checked}
use Rattle.claim_window.specs.definitions.Window.{windows_of}
use Rattle.claim_window.specs.definitions.Inside.{inside_memory, inside_io, memory_until, io_until}
use Rattle.demand_examples.specs.definitions.Rows.{all, rows, rack_of, images_of, three, two}
use Rattle.rack.specs.definitions.First.{first, first_from}
use Rattle.rack.specs.definitions.Refusal.{too_many, bad_parent, high_device, taken_device, bad_region, node_refusal, rack_refusal}
use Rattle.register_image.specs.definitions.Fixed.{lengths_wrong, byte_wrong}
use Rattle.bus_reset.specs.definitions.Held.{above_in, resets}
use Rattle.bus_reset.specs.definitions.Agreement.{image_refusal}
use Rattle.bus_reset.specs.definitions.Store.{store_node, below_reset}
use Rattle.print_line.specs.definitions.Line.{ending_fields, report_fields, spaced}
use Rattle.print_line.specs.definitions.Text.{hex_of, decimal_of, decimal_up_to, codes_of}

-- the check is a search of every address: what the sweep finds in at most 40 stretches is what it finds (`checked`)
searched : (check (rack_of three) (images_of three) ≡ fault 0 Memory 0x90000000 2 0 1) × (check (rack_of two) (images_of two) ≡ Pass)
unfolding tree_with grown count_of reset_from reset_byte region_reset node_part view nodes_from bridges_from windows_of area_of area.holds inside_memory inside_io memory_until io_until cut_at cut_past cut_if cut_low bridge_of device_of agent_of primary_claims secondary_claims device_claims host_claims claims_of windows_until regions_until until_of claimants_in first_in shown at_value until_all decoded sweep_by first_by on_bus_by check_by
searched = (checked 40 _ _ _ refl, checked 40 _ _ _ refl)

-- both racks are accepted
racks : (rack_refusal (rack_of three) ≡ 0) × (rack_refusal (rack_of two) ≡ 0)
unfolding first_from first too_many bad_parent high_device taken_device bad_region node_refusal some_from tree_with grown count_of
racks = (refl, refl)

both_images : (image_refusal (rack_of three) (images_of three) ≡ 0) × (image_refusal (rack_of two) (images_of two) ≡ 0)
unfolding lengths_wrong byte_wrong byte_changed above_in resets image_refusal some_from tree_with grown count_of reset_from reset_byte region_reset region_write write_mask clear_mask node_part view
both_images = (refl, refl)

-- every row holds
pub table : all rows ≡ true
unfolding event_run access above_in resets store_node below_reset found register_of reached may_write ended_at secondary_claims configure bus_step direct selects target next_from unclaimed master_abort on_node on_part set_status crossed passed if_unclaimed last_outcome other_bus ending_fields report_fields hex_of decimal_of decimal_up_to codes_of window_in reset_from reset_byte region_reset region_write write_mask clear_mask read_register write_byte write_dword write_register read_back size_part windows_of inside_io nodes_from node_part view bridge_of agent_of primary_claims host_claims claims_of claimants_in owned claimed look turns_type0 tree_with grown count_of spaced
table = rw (searched.0, searched.1, racks.0, both_images.0, racks.1, both_images.1) refl
