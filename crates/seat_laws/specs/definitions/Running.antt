-- The cursor of a run after some events.
use Rattle.std.specs.Prelude.{ℕ, zero, suc, cond, List, leb, length}
use Rattle.print_file.specs.declared.Cursor.{Cursor}
use Rattle.print_file.specs.definitions.Filling.{past}

-- after n events from a cursor on, or at the file's end
unfoldable pub cursor_after : ℕ → List ℕ → Cursor → Cursor
cursor_after zero b at = at
cursor_after (suc n) b at = cond (leb (length b) at.offset) at (cursor_after n b (past b at))
