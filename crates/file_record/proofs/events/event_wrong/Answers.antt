use Rattle.std.proofs.Math.Logic.{inl, inr}
use Rattle.file_record.specs.definitions.Events.{event_wrong}
use Rattle.file_record.proofs.events.event_wrong.Goals as goal

pub returns-in-Write : goal.returns-in-Write
unfolding event_wrong
returns-in-Write c = rw c.in-Write.is c.write_wrong.ensures

pub returns-in-Read : goal.returns-in-Read
unfolding event_wrong
returns-in-Read c = rw c.in-Read.is c.register_wrong.ensures

pub returns-in-Memory : goal.returns-in-Memory
unfolding event_wrong
returns-in-Memory c =
    elim c.in-Memory.is [ inl w ↦ rw w.1 c.access_wrong.ensures | inr w ↦ rw w.1 c.access_wrong.ensures ]

pub returns-in-Check : goal.returns-in-Check
unfolding event_wrong
returns-in-Check c = elim c.in-Check.is [ inl w ↦ rw w | inr w ↦ rw w.1 ]
