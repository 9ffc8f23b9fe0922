-- What is left of a file's output, and what stands there still to be written.
use Rattle.std.specs.Prelude.{ℕ, Bool, true, false, cond, List, [], leb, eqb, length}
use Rattle.rack.specs.definitions.Tree.{Tree}
use Rattle.seat.specs.definitions.Grants.{Grants, acting}
use Rattle.register_image.specs.definitions.Image.{Images}
use Rattle.file_record.specs.definitions.Load.{file_in}
use Rattle.file_record.specs.definitions.Start.{start_images}
use Rattle.print_line.specs.definitions.Line.{refused_line}
use Rattle.print_file.specs.definitions.Output.{lines_of, events_at, first_at}
use Rattle.print_file.specs.definitions.Place.{Place, end_of}
use Rattle.print_output.specs.declared.Rest.{Rest}
use Rattle.print_output.specs.declared.Rest.TheVariants.{Refused, Events, Nothing}

-- what is left, and both images before it
pub record Standing : Type 0 where
  pub rest : Rest
  pub before : Images

abbrev pub standing : Rest → Images → Standing
standing rest im = record { rest = rest; before = im }

-- before the first byte of a file's output. 01: 'A refused input prints only `refused N at O`'; a run begins at the first event, 02, E2:
-- 'The run then starts from these registers instead of reset'
unfoldable pub first_of : List ℕ → Images → Standing
first_of b im =
    cond (eqb (file_in b).refusal 0) (standing (Events (first_at (file_in b).offset)) (start_images b im))
    (standing (Refused (file_in b).refusal (file_in b).offset) im)

-- the text that is still to be written
unfoldable pub output_from : Tree → Grants → List ℕ → Rest → Images → List ℕ
output_from t g b (Refused number offset) im = refused_line number offset
output_from t g b (Events at) im = lines_of t (acting g at.seat) at.number im (events_at b at.offset)
output_from t g b Nothing im = []

-- none is: only events past the file's end are left, or not even these
unfoldable pub is_done : List ℕ → Rest → Bool
is_done b (Refused number offset) = false
is_done b (Events at) = leb (length b) at.offset
is_done b Nothing = true

-- after some of its events
abbrev pub at_place : Place → Standing
at_place p = standing (Events p.next) p.before

-- behind the last byte of it: the refused line changes no image, and events are run one after another
unfoldable pub end_from : Tree → Grants → List ℕ → Rest → Images → Standing
end_from t g b (Refused number offset) im = standing Nothing im
end_from t g b (Events at) im = at_place (end_of t g b at im)
end_from t g b Nothing im = standing Nothing im
