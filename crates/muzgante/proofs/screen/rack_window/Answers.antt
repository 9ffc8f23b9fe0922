use Rattle.std.proofs.Common.{◌∙◌}
use Rattle.muzgante.proofs.Calling.{window_without_rack, window_told}
use Rattle.muzgante.proofs.screen.rack_window.Goals as goal

pub returns-in-Err : goal.returns-in-Err
returns-in-Err c =
    let loads = rw c.in-Err.is at c.load_alone-loaded.ensures in
    window_without_rack _ loads c.from.ensures _ _ _ _ c.refuse.ensures.0 c.refuse.ensures.1

pub returns : goal.returns
returns c =
    let loads = rw c.in-Ok.is at c.load_alone-loaded.ensures in
    window_told _ loads _ _ _ _ (c.numbered.ensures ∙ c.ends_on-e.ensures) c.put_ends.ensures.0 c.put_ends.ensures.1
