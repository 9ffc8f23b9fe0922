use Rattle.call_file.proofs.Opening.{open_refused, registers_fit, events_fit, file_fits, open_lengths, open_made}
use borrow.Author.Rules.{rules}
use Rattle.call_file.proofs.open_file.Goals as goal

pub returns-in-Err : goal.returns-in-Err
returns-in-Err c =
    let loads = rw c.in-Err.is at c.load_file-loaded.ensures in
    open_refused _ loads c.from.ensures _ _ c.refuse.ensures.0 c.refuse.ensures.1

pub returns-then-lengths_wrong : goal.returns-then-lengths_wrong
returns-then-lengths_wrong c =
    let loads = rw c.in-Ok.is at c.load_file-loaded.ensures in
    let w = c.lengths_wrong.ensures in
    let h = open_lengths _ loads _ _ w c.if-lengths_wrong.true c.put_sizes.ensures in
    rw c.from-then-lengths_wrong.ensures h

pub start_images-requires : goal.start_images-requires
start_images-requires c =
    let loads = rw c.in-Ok.is at c.load_file-loaded.ensures in
    (registers_fit _ loads, events_fit _ loads, file_fits _ loads)

pub returns : goal.returns
returns c =
    let loads = rw c.in-Ok.is at c.load_file-loaded.ensures in
    let w = c.lengths_wrong.ensures in
    let h = open_made _ loads _ _ w c.if-lengths_wrong.false c.put_sizes-2.ensures c.start_images.ensures.leaves in
    search rules
