-- The next part of the output of any file, and what a function that puts it into a buffer has of it.
use Rattle.std.specs.Prelude.{◌≡◌, ℕ, ◌+◌, ◌-◌, ◌≤◌, ◌<◌, false, List, [], length}
use Rattle.rack.specs.definitions.Buffer.{over_start}
use Rattle.rack.specs.definitions.Tree.{Tree}
use Rattle.rack.specs.definitions.Refusal.{rack_refusal}
use Rattle.seat.specs.definitions.Grants.{Grants}
use Rattle.register_image.specs.definitions.Image.{Images}
use Rattle.print_line.specs.definitions.Line.{refused_line}
use Rattle.print_file.specs.definitions.Filling.{Part, part_of}
use Rattle.print_output.specs.declared.Put.{Put}
use Rattle.print_output.specs.declared.Rest.{Rest}
use Rattle.print_output.specs.declared.Rest.TheVariants.{Refused, Events, Nothing}
use Rattle.print_output.specs.definitions.Rest.{is_done}

-- a text, what is left after it, and both images then
pub record Piece : Type 0 where
  pub text : List ℕ
  pub rest : Rest
  pub after : Images

-- a part of the events' lines
abbrev pub of_events : Part → Piece
of_events p = record { text = p.text; rest = Events p.next; after = p.after }

-- 01: 'A refused input prints only `refused N at O`': nothing is left after that line. Of events, as many whole lines as a buffer of
-- `room` bytes takes
unfoldable pub piece_of : Tree → Grants → List ℕ → ℕ → Rest → Images → Piece
piece_of t g b room (Refused number offset) im = record { text = refused_line number offset; rest = Nothing; after = im }
piece_of t g b room (Events at) im = of_events (part_of t g b room at im)
piece_of t g b room Nothing im = record { text = []; rest = Nothing; after = im }

-- the text at the buffer's start, every byte after it as it was; its length, what is left, and both images
pub record Puts (r : Put) (old new : List ℕ) (im : Images) (p : Piece) : Type 0 where
  pub out : new ≡ over_start old p.text
  pub len : r.len ≡ length p.text
  pub rest : r.rest ≡ p.rest
  pub after : im ≡ p.after

-- where events are left, they are those of an accepted file, and no more of them have been than bytes
unfoldable pub Ready : List ℕ → Tree → Rest → Type 0
Ready b t (Refused number offset) = Unit {0}
Ready b t (Events at) = (rack_refusal t ≡ 0) × (length b ≤ 65536) × (at.number ≤ at.offset + 1)
Ready b t Nothing = Unit {0}

-- a bound of how many parts are left
unfoldable pub to_go : List ℕ → Rest → ℕ
to_go b (Refused number offset) = 1
to_go b (Events at) = length b - at.offset
to_go b Nothing = 0

-- what a next call needs: the text is within the room, events are ready, and less is left
pub record Onward (b : List ℕ) (t : Tree) (room : ℕ) (rest : Rest) (r : Put) : Type 0 where
  pub inside : r.len ≤ room
  pub ready : Ready b t r.rest
  pub less : is_done b rest ≡ false → to_go b r.rest < to_go b rest
