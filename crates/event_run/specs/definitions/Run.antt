-- The run of an event that is not refused.
use Rattle.std.specs.Prelude.{ℕ, Bool, true, false, not, ◌&&◌, cond, eqb}
use Rattle.rack.specs.definitions.Tree.{Tree}
use Rattle.seat.specs.definitions.Grants.{Acting, may_write}
use Rattle.register_header.specs.definitions.Register.{read_register}
use Rattle.register_image.specs.definitions.Image.{Images, Result, view, gives}
use Rattle.bus_reset.specs.definitions.Store.{store_node}
use Rattle.claim_agent.specs.declared.Space.{Space}
use Rattle.claim_agent.specs.declared.Space.TheVariants as space
use Rattle.route_bus.specs.declared.Access.{Access}
use Rattle.route_bus.specs.declared.End.{End}
use Rattle.route_bus.specs.declared.End.TheVariants as end
use Rattle.route_bus.specs.declared.Route.{Route}
use Rattle.route.specs.definitions.Route.{configure, access}
use Rattle.check_search.specs.definitions.Check.{check}
use Rattle.file_record.specs.declared.Event.{Event}
use Rattle.file_record.specs.declared.Event.TheVariants.{Write, Read, Memory, Io, Check, Seat}
use Rattle.event_run.specs.declared.Ending.{Ending}
use Rattle.event_run.specs.declared.Ending.TheVariants.{Data, Stored, Owner, Host, Unclaimed, Clash, Special, Silent, Denied}
use Rattle.event_run.specs.declared.Answer.{Answer}
use Rattle.event_run.specs.declared.Answer.TheVariants.{Ended, Checked, Seated}

-- a configuration access: bus, device times 8 plus function, register, enables and data
abbrev pub configuration : Bool → ℕ → ℕ → ℕ → ℕ → ℕ → Access
configuration write bus devfn register enables put =
    record { space = space.Configuration; write = write; address = bus; devfn = devfn; register = register; enables = enables; «data» = put }

-- a memory or I/O access: '0 read or 1 write', address
abbrev pub addressed : Space → ℕ → ℕ → Access
addressed s direction address =
    record { space = s; write = eqb direction 1; address = address; devfn = 0; register = 0; enables = 0; «data» = 0 }

-- an access that ended, with the images that it leaves
abbrev pub answers : ℕ → Ending → Images → Result Answer
answers crossings e im = gives (Ended crossings e) im

-- the register that the access names, of node g, is read or written
unfoldable pub register_of : Tree → Images → Access → ℕ → ℕ → Result Answer
register_of t im x crossings g =
    cond x.write (answers crossings Stored (store_node t im g x.register x.enables x.«data»))
    (answers crossings (Data (read_register (view t im g) x.register)) im)

-- 02, E1: 'A write that reaches a register outside the grant ends as `denied` with its crossings, and stores nothing'; `by` is who acts
unfoldable pub reached : Tree → Acting → Images → Access → ℕ → ℕ → Result Answer
reached t by im x crossings g =
    cond (x.write && not (may_write by g x.register)) (answers crossings Denied im) (register_of t im x crossings g)

-- what an access comes to, by where its route ended
unfoldable pub ended_at : Tree → Acting → Images → Access → ℕ → End → Result Answer
ended_at t by im x crossings (end.Node g) = reached t by im x crossings g
ended_at t by im x crossings (end.Owner node region offset) = answers crossings (Owner node region offset) im
ended_at t by im x crossings (end.Host offset) = answers crossings (Host offset) im
ended_at t by im x crossings (end.Unclaimed holder outcome) = answers crossings (Unclaimed holder outcome) im
ended_at t by im x crossings (end.Clash holder first second) = answers crossings (Clash holder first second) im
ended_at t by im x crossings (end.Special holder) = answers crossings (Special holder) im
ended_at t by im x crossings end.Silent = answers crossings Silent im

abbrev pub ended : Tree → Acting → Access → Result Route → Result Answer
ended t by x o = ended_at t by o.after x o.answer.crossings o.answer.end

-- 01: 'Configuration starts at the host', an access at its initiator
abbrev pub configured : Tree → Acting → Images → Access → Result Answer
configured t by im x = ended t by x (configure t im x)

abbrev pub accessed : Tree → Acting → Images → Access → ℕ → Result Answer
accessed t by im x initiator = ended t by x (access t im x initiator)

-- each event; 'A check changes no register', nor does a seat event
unfoldable pub event_run : Tree → Acting → Images → Event → Result Answer
event_run t by im (Write bus devfn register enables put) = configured t by im (configuration true bus devfn register enables put)
event_run t by im (Read bus devfn register) = configured t by im (configuration false bus devfn register 0 0)
event_run t by im (Memory initiator direction address) = accessed t by im (addressed space.Memory direction address) initiator
event_run t by im (Io initiator direction address) = accessed t by im (addressed space.Io direction address) initiator
event_run t by im Check = gives (Checked (check t im)) im
event_run t by im (Seat seat) = gives (Seated seat) im
