-- What a rack file prints: the lines of its events, each on the registers that the one before left.
use Rattle.std.specs.Prelude.{ℕ, zero, suc, ◌+◌, ◌*◌, cond, List, [], ◌∷◌, ◌++◌, leb, eqb, length, replicate}
use Rattle.rack.specs.definitions.Tree.{Tree, bridge_count, device_count}
use Rattle.seat.specs.definitions.Grants.{Acting, acting}
use Rattle.register_image.specs.definitions.Image.{Images, images}
use Rattle.file_record.specs.declared.Event.{Event}
use Rattle.file_record.specs.definitions.Number.{byte_in}
use Rattle.file_record.specs.definitions.Record.{size_of}
use Rattle.file_record.specs.definitions.Events.{event_in, acts_after}
use Rattle.file_record.specs.definitions.Load.{file_in}
use Rattle.file_record.specs.definitions.Start.{start_images}
use Rattle.event_run.specs.declared.Answer.{Answer}
use Rattle.event_run.specs.declared.Answer.TheVariants.{Ended, Checked, Seated}
use Rattle.event_run.specs.definitions.Run.{event_run}
use Rattle.print_line.specs.definitions.Line.{ending_line, report_line, seat_line, refused_line}
use Rattle.print_file.specs.declared.Cursor.{Cursor}

-- the line of an answer
abbrev pub answer_line : ℕ → Answer → List ℕ
answer_line n (Ended crossings e) = ending_line n crossings e
answer_line n (Checked r) = report_line n r
answer_line n (Seated seat) = seat_line n seat

-- the lines of a list of events, numbered from n, each on the images that the one before left; `by` acts first
unfoldable pub lines_of : Tree → Acting → ℕ → Images → List Event → List ℕ
lines_of t by n im [] = []
lines_of t by n im (e ∷ events) =
    answer_line n (event_run t by im e).answer ++ lines_of t (acts_after by e) (n + 1) (event_run t by im e).after events

-- the events of a file from an offset on, at most `left` of them
unfoldable pub events_up_to : ℕ → List ℕ → ℕ → List Event
events_up_to zero b o = []
events_up_to (suc left) b o = cond (leb (length b) o) [] (event_in b o ∷ events_up_to left b (o + size_of (byte_in b o)))

-- a record has at least one byte, so there are no more of them than bytes
abbrev pub events_at : List ℕ → ℕ → List Event
events_at b o = events_up_to (length b) b o

-- images as long as a rack's registers, before they are set
abbrev pub blank : Tree → Images
blank t = images (replicate (64 * bridge_count t) 0) (replicate (64 * device_count t) 0)

-- where a run begins: at its first event's offset. 01: 'A line holds the event number from 1'; 02, E1: 'the run starts as seat 0'
abbrev pub first_at : ℕ → Cursor
first_at o = record { offset = o; number = 1; seat = 0 }

-- 01: '`rackrun` reads a rack file from standard input, checks all of it, then runs it from reset'; 02, E2: 'The run then starts from these
-- registers instead of reset'; 'A refused input prints only `refused N at O`'
unfoldable pub output_of : List ℕ → List ℕ
output_of b =
    cond (eqb (file_in b).refusal 0)
    (lines_of (file_in b).tree (acting (file_in b).grants 0) 1 (start_images b (blank (file_in b).tree))
    (events_at b (file_in b).offset))
    (refused_line (file_in b).refusal (file_in b).offset)
