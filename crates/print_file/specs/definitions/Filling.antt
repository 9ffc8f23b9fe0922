-- The output in parts: as many whole lines as a buffer has room for, and where the next part begins.
use Rattle.std.specs.Prelude.{ℕ, zero, suc, ◌+◌, ◌-◌, Bool, ◌||◌, cond, List, [], ◌++◌, leb, ltb, length}
use Rattle.rack.specs.definitions.Tree.{Tree}
use Rattle.seat.specs.definitions.Grants.{Grants, acting}
use Rattle.register_image.specs.definitions.Image.{Images, Result}
use Rattle.file_record.specs.definitions.Number.{byte_in}
use Rattle.file_record.specs.definitions.Record.{size_of}
use Rattle.file_record.specs.definitions.Events.{event_in, seat_after}
use Rattle.event_run.specs.declared.Answer.{Answer}
use Rattle.event_run.specs.definitions.Run.{event_run}
use Rattle.print_file.specs.declared.Cursor.{Cursor}
use Rattle.print_file.specs.definitions.Output.{answer_line}

-- a text, the cursor after it, and both images then
pub record Part : Type 0 where
  pub text : List ℕ
  pub next : Cursor
  pub after : Images

-- nothing more
abbrev pub stop : Cursor → Images → Part
stop at im = record { text = []; next = at; after = im }

-- a line and what follows it
abbrev pub behind : List ℕ → Part → Part
behind line p = record { text = line ++ p.text; next = p.next; after = p.after }

-- the cursor after the event at a cursor; 02, E1: 'Event kind 10 (seat) says who acts from then on'
abbrev pub past : List ℕ → Cursor → Cursor
past b at =
    record {
      offset = at.offset + size_of (byte_in b at.offset);
      number = at.number + 1;
      seat = seat_after at.seat (event_in b at.offset);
    }

-- the event at a cursor, run
abbrev pub ran_at : Tree → Grants → List ℕ → Cursor → Images → Result Answer
ran_at t g b at im = event_run t (acting g at.seat) im (event_in b at.offset)

-- its line
abbrev pub line_at : Tree → Grants → List ℕ → Cursor → Images → List ℕ
line_at t g b at im = answer_line at.number (ran_at t g b at im).answer

-- the file has ended, or the buffer has no room for the longest line
abbrev pub ends : List ℕ → ℕ → Cursor → Bool
ends b room at = leb (length b) at.offset || ltb room 96

-- whole lines from a cursor on, at most `left` of them
unfoldable pub part_up_to : ℕ → Tree → Grants → List ℕ → ℕ → Cursor → Images → Part
part_up_to zero t g b room at im = stop at im
part_up_to (suc left) t g b room at im =
    cond (ends b room at) (stop at im)
    (behind (line_at t g b at im)
    (part_up_to left t g b (room - length (line_at t g b at im)) (past b at) (ran_at t g b at im).after))

-- as many whole lines as a buffer of `room` bytes takes
abbrev pub part_of : Tree → Grants → List ℕ → ℕ → Cursor → Images → Part
part_of t g b room at im = part_up_to (length b) t g b room at im
