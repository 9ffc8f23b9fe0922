use Rattle.file_record.proofs.Records.{event_none, event_long, event_exact}
use Rattle.file_record.proofs.events.event_bytes.Goals as goal

pub returns-then-ne : goal.returns-then-ne
returns-then-ne c = event_none c.args.bytes.now c.class_in.ensures c.ne.ensures c.if-ne.true

pub returns-then-bytes-size_of : goal.returns-then-bytes-size_of
returns-then-bytes-size_of c =
    event_long c.args.bytes.now c.class_in.ensures c.ne.ensures c.if-ne.false c.byte_at.ensures c.size_of.ensures.0
    c.if-bytes-size_of.true

pub returns : goal.returns
returns c =
    event_exact c.args.bytes.now c.class_in.ensures c.ne.ensures c.if-ne.false c.byte_at.ensures c.size_of.ensures.0
    c.if-bytes-size_of.false
