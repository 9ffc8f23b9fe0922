use Rattle.print_output.proofs.First.{refused_offset, rest_refused, registers_fit, events_fit, file_fits, rest_events}
use native.Mathlib.Omega.{arith}
use borrow.Author.Rules.{rules}
use Rattle.print_output.proofs.left.first_rest.Goals as goal

pub start-requires : goal.start-requires
start-requires c =
    let b = c.args.file.now in
    let h = rw c.in-Ok.is at c.requires in
    (registers_fit b h, events_fit b h, file_fits b h)

pub returns-in-Ok : goal.returns-in-Ok
returns-in-Ok c =
    let h = rw c.in-Ok.is at c.requires in
    let e = rest_events c.args.file.now h _ c.start.ensures.leaves.0 c.start.ensures.leaves.1 in search rules

pub overflow_cast-result : goal.overflow_cast-result
overflow_cast-result c =
    let h = rw c.in-Err.is at c.requires in
    omega (arith, refused_offset c.args.file.now h)

pub returns-in-Err : goal.returns-in-Err
returns-in-Err c = let h = rw c.in-Err.is at c.requires in rest_refused c.args.file.now h _ c.from.ensures
