-- How far a run comes: a place between two events, and the place after some of them.
use Rattle.std.specs.Prelude.{ℕ, zero, suc, cond, List, leb, length}
use Rattle.rack.specs.definitions.Tree.{Tree}
use Rattle.seat.specs.definitions.Grants.{Grants}
use Rattle.register_image.specs.definitions.Image.{Images}
use Rattle.print_file.specs.declared.Cursor.{Cursor}
use Rattle.print_file.specs.definitions.Filling.{Part, past, ran_at}

-- a place between two events: the next event, and both images before it
pub record Place : Type 0 where
  pub next : Cursor
  pub before : Images

abbrev pub place : Cursor → Images → Place
place at im = record { next = at; before = im }

-- after a part of the output
abbrev pub after_part : Part → Place
after_part p = place p.next p.after

-- after all events from a cursor on, at most `left` of them, each run on the images that the one before left
unfoldable pub end_up_to : ℕ → Tree → Grants → List ℕ → Cursor → Images → Place
end_up_to zero t g b at im = place at im
end_up_to (suc left) t g b at im =
    cond (leb (length b) at.offset) (place at im) (end_up_to left t g b (past b at) (ran_at t g b at im).after)

-- a record has at least one byte, so there are no more of them than bytes
abbrev pub end_of : Tree → Grants → List ℕ → Cursor → Images → Place
end_of t g b at im = end_up_to (length b) t g b at im
