-- What is left of a file's output at first is all of it, and at the end nothing.
use Rattle.std.specs.Prelude.{◌≡◌, refl, true, List, [], ℕ, eqb, length}
use Rattle.std.proofs.lemmas.Bool.{false≢true}
use Rattle.std.proofs.Common.{leb-true, eqb-true, eq-eqb, ne_eqb}
use Rattle.rack.specs.laws.Bools.{tested}
use Rattle.rack.specs.definitions.Tree.{Tree}
use Rattle.seat.specs.definitions.Grants.{Grants}
use Rattle.register_image.specs.definitions.Image.{Images}
use Rattle.file_record.specs.definitions.Load.{file_in}
use Rattle.file_record.specs.definitions.Start.{start_images}
use Rattle.print_file.specs.definitions.Output.{blank, first_at, output_of}
use Rattle.print_laws.specs.laws.Parts.{lines_past}
use Rattle.print_output.specs.declared.Rest.{Rest}
use Rattle.print_output.specs.declared.Rest.TheVariants.{Refused, Events, Nothing}
use Rattle.print_output.specs.definitions.Rest.{standing, first_of, output_from, is_done}

module _ (b : List ℕ) (im : Images) where
  pub first_accepted : (file_in b).refusal ≡ 0 → first_of b im ≡ standing (Events (first_at (file_in b).offset)) (start_images b im)
  unfolding first_of
  first_accepted z = rw (eq-eqb (file_in b).refusal 0 z)

  pub first_refused : ((file_in b).refusal ≡ 0 → ⊥) → first_of b im ≡ standing (Refused (file_in b).refusal (file_in b).offset) im
  unfolding first_of
  first_refused z = rw (ne_eqb (file_in b).refusal 0 z)

-- in front of a file's output all of it is left; where the file is refused, whatever the images hold
pub first_output : (b : List ℕ) (im : Images) → ((file_in b).refusal ≡ 0 → im ≡ blank (file_in b).tree)
    → output_from (file_in b).tree (file_in b).grants b (first_of b im).rest (first_of b im).before ≡ output_of b
unfolding first_of output_from output_of
first_output b im e =
    tested (eqb (file_in b).refusal 0) (λ q. rw (q, e (eqb-true (file_in b).refusal 0 q)))
    (λ q. rw q)

-- where it is done, nothing is
pub done_nothing : (t : Tree) (g : Grants) (b : List ℕ) (rest : Rest) (im : Images) → is_done b rest ≡ true
    → output_from t g b rest im ≡ []
unfolding is_done output_from
done_nothing t g b (Refused number offset) im q = absurd (false≢true q)
done_nothing t g b (Events at) im q = lines_past t g b at im (leb-true (length b) at.offset q)
done_nothing t g b Nothing im q = refl
