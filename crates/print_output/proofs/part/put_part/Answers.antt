use Rattle.print_output.proofs.Pieces.{text_refused, text_events, text_nothing, puts_refused, puts_events, puts_nothing, ready_rack, ready_long, ready_counted, onward_refused, onward_events, onward_nothing}
use borrow.Author.Rules.{rules}
use Rattle.print_output.proofs.part.put_part.Goals as goal

pub fill-f-requires : goal.fill-f-requires
fill-f-requires c = (search (ready_rack, rules), search (ready_long, rules), search (ready_counted, rules))

pub returns-in-Refused : goal.returns-in-Refused
returns-in-Refused c =
    record { text = search (text_refused, rules); puts = search (puts_refused, rules); onward = search (onward_refused, rules); same = search rules }

pub returns-in-Events : goal.returns-in-Events
returns-in-Events c =
    record { text = search (text_events, rules); puts = search (puts_events, rules); onward = search (onward_events, rules); same = search rules }

pub returns-in-Nothing : goal.returns-in-Nothing
returns-in-Nothing c =
    record { text = search (text_nothing, rules); puts = search (puts_nothing, rules); onward = search (onward_nothing, rules); same = search rules }
