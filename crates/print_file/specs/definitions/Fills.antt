-- What a function that fills a buffer has of a part of the output.
use Rattle.std.specs.Prelude.{◌≡◌, ℕ, ◌+◌, ◌≤◌, ◌<◌, List, length}
use Rattle.rack.specs.definitions.Buffer.{over_start}
use Rattle.register_image.specs.definitions.Image.{Images}
use Rattle.print_file.specs.declared.Cursor.{Cursor}
use Rattle.print_file.specs.declared.Filled.{Filled}
use Rattle.print_file.specs.definitions.Filling.{Part}

-- the text at the buffer's start, every byte after it as it was; its length, the next cursor, and both images
pub record Fills (r : Filled) (old new : List ℕ) (im : Images) (p : Part) : Type 0 where
  pub out : new ≡ over_start old p.text
  pub len : r.len ≡ length p.text
  pub next : r.next ≡ p.next
  pub after : im ≡ p.after

-- what a next call needs: the text is within the room, there are no more events than bytes so far, and the cursor has moved where the
-- file goes on and the longest line has room
pub record Onward (b : List ℕ) (room : ℕ) (at : Cursor) (r : Filled) : Type 0 where
  pub inside : r.len ≤ room
  pub counted : r.next.number ≤ r.next.offset + 1
  pub forward : 96 ≤ room → at.offset < length b → at.offset < r.next.offset
