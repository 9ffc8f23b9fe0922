use Rattle.std.proofs.Common.{◌∙◌}
use Rattle.call_file.proofs.Opening.{save_without_rack, save_made}
use Rattle.call_file.proofs.save_bytes.Goals as goal

pub returns-in-Err : goal.returns-in-Err
returns-in-Err c =
    let loads = rw c.in-Err.is at c.load_alone-loaded.ensures in
    save_without_rack _ _ _ loads c.from.ensures c.refuse.ensures.0 c.refuse.ensures.1

pub returns : goal.returns
returns c =
    let loads = rw c.in-Ok.is at c.load_alone-loaded.ensures in
    save_made _ _ _ loads (c.numbered.ensures ∙ c.save_on-saved.ensures.0) c.save_on-saved.ensures.1 c.put_value.ensures.0 c.put_value.ensures.1
