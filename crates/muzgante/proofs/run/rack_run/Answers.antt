use Rattle.muzgante.proofs.Calling.{run_without_rack, run_without_event, run_made}
use borrow.Author.Rules.{rules}
use Rattle.muzgante.proofs.run.rack_run.Goals as goal

pub returns-in-Err : goal.returns-in-Err
returns-in-Err c =
    let loads = rw c.in-Err.is at c.load_alone-loaded.ensures in
    run_without_rack _ loads c.from.ensures _ _ _ _ c.refuse.ensures.0 c.refuse.ensures.1

pub returns-in-Err-event_bytes : goal.returns-in-Err-event_bytes
returns-in-Err-event_bytes c =
    let loads = rw c.in-Ok.is at c.load_alone-loaded.ensures in
    run_without_event _ loads _ _ _ c.in-Err-event_bytes.ensures c.from-in-Err-event_bytes.ensures
    c.refuse-in-Err-event_bytes.ensures.0 c.refuse-in-Err-event_bytes.ensures.1

pub returns : goal.returns
returns c =
    let loads = rw c.in-Ok.is at c.load_alone-loaded.ensures in
    let told = c.put_reply.ensures in
    let leaves = rw (← c.numbered.ensures) at c.run_on-r.ensures.leaves in
    let h = run_made _ loads _ _ c.in_default.ensures _ c.event_in-e.ensures leaves told.0 told.1 in
    search rules
