use borrow.Author.Rules.{rules}
use Rattle.file_record.specs.definitions.Loads.{reading_of}
use Rattle.file_record.specs.laws.Steps.{shape_stops, registers_end, unknown_refused, node_goes, event_goes, seat_goes, registers_goes, host_goes}
use Rattle.file_load.proofs.step.Goals as goal

pub returns-in_err-shape_fault : goal.returns-in_err-shape_fault
returns-in_err-shape_fault c =
    shape_stops c.args.whole _ (reading_of c.args.w c.args.table.now c.args.grants.now) c.class_in-class.ensures _ _
    c.from_residual.ensures.1 c.in_err-shape_fault.ensures

pub past_registers-requires : goal.past_registers-requires
past_registers-requires c = search (registers_end, rules)

pub unreachable-requires : goal.unreachable-requires
unreachable-requires c = unknown_refused _ _ _ _ _ c.in_ok-shape_fault.ensures c.in-Unknown.is

pub returns-in-Node : goal.returns-in-Node
returns-in-Node c =
    node_goes _ _ (reading_of c.args.w c.args.table.now c.args.grants.now) c.class_in-class.ensures c.in_ok-shape_fault.ensures
    c.in-Node.is c.past_node.ensures

pub returns-in-Event : goal.returns-in-Event
returns-in-Event c =
    event_goes _ _ (reading_of c.args.w c.args.table.now c.args.grants.now) c.class_in-class.ensures c.in_ok-shape_fault.ensures
    c.in-Event.is c.past_event.ensures

pub returns-in-Seat : goal.returns-in-Seat
returns-in-Seat c =
    seat_goes _ _ (reading_of c.args.w c.args.table.now c.args.grants.now) c.class_in-class.ensures c.in_ok-shape_fault.ensures
    c.in-Seat.is c.past_seat.ensures

pub returns-in-Registers : goal.returns-in-Registers
returns-in-Registers c =
    registers_goes _ _ (reading_of c.args.w c.args.table.now c.args.grants.now) c.class_in-class.ensures c.in_ok-shape_fault.ensures
    c.in-Registers.is c.past_registers.ensures

pub returns-in-Host : goal.returns-in-Host
returns-in-Host c =
    host_goes _ _ (reading_of c.args.w c.args.table.now c.args.grants.now) c.class_in-class.ensures c.in_ok-shape_fault.ensures
    c.in-Host.is c.past_host.ensures
