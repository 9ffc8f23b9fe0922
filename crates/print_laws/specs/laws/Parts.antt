-- A part of the output is the lines up to its next cursor: the lines from there on complete it.
use Rattle.std.specs.Prelude.{◌≡◌}
use Rattle.std.proofs.Math.Path.{refl, sym, ap}
use Rattle.std.proofs.Common.{◌∙◌}
use mathlib.Core.List.{List, [], ◌++◌, append_assoc}
use Prim.Native.Nat.{ℕ, zero, suc, ◌-◌, ◌≤◌, ◌<◌}
use Rattle.std.proofs.Math.ListN.{length}
use Rattle.rack.specs.laws.Bools.{tested}
use Rattle.rack.specs.definitions.Tree.{Tree}
use Rattle.seat.specs.definitions.Grants.{Grants, acting}
use Rattle.register_image.specs.definitions.Image.{Images}
use Rattle.file_record.specs.declared.Event.{Event}
use Rattle.print_file.specs.declared.Cursor.{Cursor}
use Rattle.print_file.specs.definitions.Output.{lines_of, events_at}
use Rattle.print_file.specs.definitions.Filling.{Part, past, ran_at, line_at, ends, part_up_to, part_of}
use Rattle.print_file.proofs.FillingLaws.{on, part_stop, part_step}
use Rattle.print_laws.specs.laws.Events.{events_past, events_first}

module _ (t : Tree) (g : Grants) (b : List ℕ) where
  -- the lines from a cursor on
  abbrev pub lines_at : Cursor → Images → List ℕ
  lines_at at im = lines_of t (acting g at.seat) at.number im (events_at b at.offset)

  -- a part and the lines after it
  abbrev completed : Part → List ℕ
  completed p = p.text ++ lines_at p.next p.after

  -- the line of the event at a cursor, and the lines after it
  lines_first : (at : Cursor) (im : Images) → at.offset < length b
      → lines_at at im ≡ line_at t g b at im ++ lines_at (past b at) (ran_at t g b at im).after
  unfolding lines_of
  lines_first at im i = ap (λ (l : List Event). lines_of t (acting g at.seat) at.number im l) (events_first b at.offset i)

  -- none past the file's end
  pub lines_past : (at : Cursor) (im : Images) → length b ≤ at.offset → lines_at at im ≡ []
  unfolding lines_of
  lines_past at im i = ap (λ (l : List Event). lines_of t (acting g at.seat) at.number im l) (events_past b (length b) at.offset i)

  part_completed : (left room : ℕ) (at : Cursor) (im : Images) → lines_at at im ≡ completed (part_up_to left t g b room at im)
  unfolding part_up_to
  part_completed zero room at im = refl
  part_completed (suc left) room at im =
      tested (ends b room at) (λ e. ap completed (sym (part_stop t g b (suc left) room at im e)))
      (λ e.
      let line = line_at t g b at im in
      let rest = part_up_to left t g b (room - length line) (past b at) (ran_at t g b at im).after in
      lines_first at im (on b room at e).0
      ∙ ap (λ (l : List ℕ). line ++ l) (part_completed left (room - length line) (past b at) (ran_at t g b at im).after)
      ∙ sym (append_assoc line rest.text (lines_at rest.next rest.after))
      ∙ ap completed (sym (part_step t g b left room at im e)))

  pub part_lines : (room : ℕ) (at : Cursor) (im : Images)
      → lines_at at im ≡ (part_of t g b room at im).text ++ lines_at (part_of t g b room at im).next (part_of t g b room at im).after
  part_lines room at im = part_completed (length b) room at im
