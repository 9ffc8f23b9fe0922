-- Calls one after another give the whole output, for any buffer that has room for the longest line.
use Rattle.std.specs.Prelude.{◌≡◌, leb}
use Rattle.std.proofs.Math.Path.{sym}
use Rattle.std.proofs.Common.{ap, ◌∙◌, arith}
use mathlib.Core.List.{List, ◌++◌}
use Prim.Native.Nat.{ℕ, zero, suc, ◌+◌, ◌≤◌, ◌<◌}
use Rattle.std.proofs.Math.ListN.{length}
use borrow.Author.Tests.{leb-true, leb-false, eq-eqb, ne_eqb}
use Rattle.rack.specs.laws.Bools.{tested}
use Rattle.rack.specs.definitions.Tree.{Tree}
use Rattle.seat.specs.definitions.Grants.{Grants}
use Rattle.register_image.specs.definitions.Image.{Images}
use Rattle.file_record.specs.definitions.Load.{file_in}
use Rattle.file_record.specs.definitions.Start.{start_images}
use Rattle.print_line.specs.definitions.Line.{refused_line}
use Rattle.print_file.specs.declared.Cursor.{Cursor}
use Rattle.print_file.specs.definitions.Output.{blank, first_at, output_of}
use Rattle.print_file.specs.definitions.Filling.{part_of}
use Rattle.print_file.proofs.FillingLaws.{progress}
use Rattle.print_laws.specs.laws.Parts.{lines_at, lines_past, part_lines}
use Rattle.print_laws.specs.definitions.Calls.{calls_up_to}

module _ (t : Tree) (g : Grants) (b : List ℕ) where
  -- from any cursor and images on, with as many calls as there are bytes left
  pub calls_lines : (k room : ℕ) (at : Cursor) (im : Images) → 96 ≤ room → length b ≤ at.offset + k
      → calls_up_to k t g b room at im ≡ lines_at t g b at im
  unfolding calls_up_to
  calls_lines zero room at im r n = sym (lines_past t g b at im (omega arith))
  calls_lines (suc k) room at im r n =
      tested (leb (length b) at.offset) (λ q. rw q (sym (lines_past t g b at im (leb-true (length b) at.offset q))))
      (λ q.
      let p = part_of t g b room at im in
      let i : at.offset < length b = leb-false (length b) at.offset q in
      let on : at.offset < p.next.offset = progress t g b room at im r i in
      rw q
      (ap (λ (l : List ℕ). p.text ++ l) (calls_lines k room p.next p.after r (omega arith))
      ∙ sym (part_lines t g b room at im)))

module _ (b : List ℕ) where
  -- where a run begins: at the first event, with number 1, and from the file's registers
  abbrev pub first_of : Cursor
  first_of = first_at (file_in b).offset

  abbrev pub start_of : Images
  start_of = start_images b (blank (file_in b).tree)

  -- the output of a refused file is one line, that of an accepted one the lines from there on
  pub output_refused : ((file_in b).refusal ≡ 0 → ⊥) → output_of b ≡ refused_line (file_in b).refusal (file_in b).offset
  unfolding output_of
  output_refused z = rw (ne_eqb (file_in b).refusal 0 z)

  pub output_accepted : (file_in b).refusal ≡ 0 → output_of b ≡ lines_at (file_in b).tree (file_in b).grants b first_of start_of
  unfolding output_of
  output_accepted z = rw (eq-eqb (file_in b).refusal 0 z)

  pub whole : (room : ℕ) → (file_in b).refusal ≡ 0 → 96 ≤ room
      → calls_up_to (length b) (file_in b).tree (file_in b).grants b room first_of start_of ≡ output_of b
  whole room z r =
      calls_lines (file_in b).tree (file_in b).grants b (length b) room first_of start_of r (omega arith) ∙ sym (output_accepted z)
