-- A part of the output and what is left after it are what was left before it; and what a part leads to.
use Rattle.std.specs.Prelude.{◌≡◌, ℕ}
use Rattle.std.proofs.Math.Path.{refl, sym}
use mathlib.Core.List.{List, ◌++◌, append-nil}
use Rattle.rack.specs.definitions.Tree.{Tree}
use Rattle.seat.specs.definitions.Grants.{Grants}
use Rattle.register_image.specs.definitions.Image.{Images}
use Rattle.print_line.specs.definitions.Line.{refused_line}
use Rattle.print_laws.specs.laws.Parts.{part_lines}
use Rattle.print_output.specs.declared.Rest.{Rest}
use Rattle.print_output.specs.declared.Rest.TheVariants.{Refused, Events, Nothing}
use Rattle.print_output.specs.definitions.Rest.{output_from}
use Rattle.print_output.specs.definitions.Piece.{Piece, piece_of}

module _ (t : Tree) (g : Grants) (b : List ℕ) where
  abbrev completed : Piece → List ℕ
  completed p = p.text ++ output_from t g b p.rest p.after

  pub piece_output : (room : ℕ) (rest : Rest) (im : Images) → completed (piece_of t g b room rest im) ≡ output_from t g b rest im
  unfolding piece_of output_from
  piece_output room (Refused number offset) im = append-nil (refused_line number offset)
  piece_output room (Events at) im = sym (part_lines t g b room at im)
  piece_output room Nothing im = refl
