use Rattle.muzgante.proofs.Calling.{reset_without_rack, reset_of_lengths, reset_of_grants, reset_made}
use borrow.Author.Rules.{rules}
use Rattle.muzgante.proofs.screen.rack_reset.Goals as goal

pub returns-in-Err : goal.returns-in-Err
returns-in-Err c =
    let loads = rw c.in-Err.is at c.load_alone-loaded.ensures in
    reset_without_rack _ loads c.from.ensures _ _

pub returns-then-lengths_wrong : goal.returns-then-lengths_wrong
returns-then-lengths_wrong c =
    let loads = rw c.in-Ok.is at c.load_alone-loaded.ensures in
    let w = rw (c.lent.ensures.table, c.lent.ensures.bridges, c.lent.ensures.devices) at c.lengths_wrong.ensures in
    rw c.from-then-lengths_wrong.ensures (reset_of_lengths _ loads _ _ w c.if-lengths_wrong.true)

pub returns-then-is_wrong : goal.returns-then-is_wrong
returns-then-is_wrong c =
    let loads = rw c.in-Ok.is at c.load_alone-loaded.ensures in
    let w = rw (c.lent.ensures.table, c.lent.ensures.bridges, c.lent.ensures.devices) at c.lengths_wrong.ensures in
    rw c.from-then-is_wrong.ensures
    (reset_of_grants _ loads _ _ w c.if-lengths_wrong.false c.is_wrong.ensures c.if-is_wrong.true)

pub returns : goal.returns
returns c =
    let loads = rw c.in-Ok.is at c.load_alone-loaded.ensures in
    let w = rw (c.lent.ensures.table, c.lent.ensures.bridges, c.lent.ensures.devices) at c.lengths_wrong.ensures in
    let h = reset_made _ loads _ _ w c.if-lengths_wrong.false c.is_wrong.ensures c.if-is_wrong.false c.reset_images.ensures.leaves in
    search rules
