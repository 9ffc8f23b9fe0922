-- The output by calls one after another, each into a buffer.
use Rattle.std.specs.Prelude.{ℕ, zero, suc, cond, List, [], ◌++◌, leb, length}
use Rattle.rack.specs.definitions.Tree.{Tree}
use Rattle.seat.specs.definitions.Grants.{Grants}
use Rattle.register_image.specs.definitions.Image.{Images}
use Rattle.print_file.specs.declared.Cursor.{Cursor}
use Rattle.print_file.specs.definitions.Filling.{part_of}

-- at most k calls, each into `room` bytes and from the cursor and the images that the one before left, until the file's end: their texts
-- one after another
unfoldable pub calls_up_to : ℕ → Tree → Grants → List ℕ → ℕ → Cursor → Images → List ℕ
calls_up_to zero t g b room at im = []
calls_up_to (suc k) t g b room at im =
    cond (leb (length b) at.offset) []
    ((part_of t g b room at im).text ++ calls_up_to k t g b room (part_of t g b room at im).next (part_of t g b room at im).after)
