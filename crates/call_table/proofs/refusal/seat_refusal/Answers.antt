use Rattle.call_table.proofs.Calling.{unknown_seat_lem, known_seats}
use Rattle.call_table.proofs.refusal.seat_refusal.Goals as goal

pub returns-then-told-named : goal.returns-then-told-named
returns-then-told-named c = unknown_seat_lem c.unknown_seat-told.ensures c.event_unknown-named.ensures c.if-told-named.true

pub returns-else-told-named : goal.returns-else-told-named
returns-else-told-named c = known_seats c.unknown_seat-told.ensures c.event_unknown-named.ensures c.if-told-named.false
