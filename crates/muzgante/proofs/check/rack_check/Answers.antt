use Rattle.std.proofs.Common.{◌∙◌}
use Rattle.muzgante.proofs.Calling.{check_without_rack, check_made}
use Rattle.muzgante.proofs.check.rack_check.Goals as goal

pub returns-in-Err : goal.returns-in-Err
returns-in-Err c =
    let loads = rw c.in-Err.is at c.load_alone-loaded.ensures in
    check_without_rack _ loads c.from.ensures _ _ c.refuse.ensures.0 c.refuse.ensures.1

pub returns : goal.returns
returns c =
    let loads = rw c.in-Ok.is at c.load_alone-loaded.ensures in
    check_made _ loads _ _ (c.numbered.ensures ∙ c.check_on-r.ensures) c.put_reply.ensures.0 c.put_reply.ensures.1
