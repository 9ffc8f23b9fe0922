-- The run of events and what it prints as they were before there were seats: every write that reaches a node is stored.
use Rattle.std.specs.Prelude.{ℕ, ◌+◌, true, false, List, [], ◌∷◌, ◌++◌}
use Rattle.rack.specs.definitions.Tree.{Tree}
use Rattle.register_image.specs.definitions.Image.{Images, Result, gives}
use Rattle.claim_agent.specs.declared.Space.TheVariants as space
use Rattle.route_bus.specs.declared.Access.{Access}
use Rattle.route_bus.specs.declared.End.{End}
use Rattle.route_bus.specs.declared.End.TheVariants as end
use Rattle.route_bus.specs.declared.Route.{Route}
use Rattle.route.specs.definitions.Route.{configure, access}
use Rattle.check_search.specs.definitions.Check.{check}
use Rattle.file_record.specs.declared.Event.{Event}
use Rattle.file_record.specs.declared.Event.TheVariants.{Write, Read, Memory, Io, Check, Seat}
use Rattle.event_run.specs.declared.Ending.TheVariants.{Owner, Host, Unclaimed, Clash, Special, Silent}
use Rattle.event_run.specs.declared.Answer.{Answer}
use Rattle.event_run.specs.declared.Answer.TheVariants.{Checked, Seated}
use Rattle.event_run.specs.definitions.Run.{configuration, addressed, answers, register_of}
use Rattle.print_file.specs.definitions.Output.{answer_line}

unfoldable pub before_at : Tree → Images → Access → ℕ → End → Result Answer
before_at t im x crossings (end.Node g) = register_of t im x crossings g
before_at t im x crossings (end.Owner node region offset) = answers crossings (Owner node region offset) im
before_at t im x crossings (end.Host offset) = answers crossings (Host offset) im
before_at t im x crossings (end.Unclaimed holder outcome) = answers crossings (Unclaimed holder outcome) im
before_at t im x crossings (end.Clash holder first second) = answers crossings (Clash holder first second) im
before_at t im x crossings (end.Special holder) = answers crossings (Special holder) im
before_at t im x crossings end.Silent = answers crossings Silent im

abbrev pub ended_before : Tree → Access → Result Route → Result Answer
ended_before t x o = before_at t o.after x o.answer.crossings o.answer.end

-- there were no seat events
unfoldable pub run_before : Tree → Images → Event → Result Answer
run_before t im (Write bus devfn register enables put) =
    ended_before t (configuration true bus devfn register enables put) (configure t im (configuration true bus devfn register enables put))
run_before t im (Read bus devfn register) =
    ended_before t (configuration false bus devfn register 0 0) (configure t im (configuration false bus devfn register 0 0))
run_before t im (Memory initiator direction address) =
    ended_before t (addressed space.Memory direction address) (access t im (addressed space.Memory direction address) initiator)
run_before t im (Io initiator direction address) =
    ended_before t (addressed space.Io direction address) (access t im (addressed space.Io direction address) initiator)
run_before t im Check = gives (Checked (check t im)) im
run_before t im (Seat seat) = gives (Seated seat) im

unfoldable pub lines_before : Tree → ℕ → Images → List Event → List ℕ
lines_before t n im [] = []
lines_before t n im (e ∷ events) = answer_line n (run_before t im e).answer ++ lines_before t (n + 1) (run_before t im e).after events
