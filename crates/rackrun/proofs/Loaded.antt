-- What is left at first of the output of a file that was loaded.
use mathlib.Core.Path.{◌≡◌, sym, ap, subst, ◌∙◌}
use mathlib.Core.List.{List}
use Prim.Native.Nat.{ℕ, ◌*◌, ◌≤◌}
use native.Mathlib.Omega.{arith}
use lib.Dec.{eqb}
use lib.ListN.{take, replicate}
use borrow.Author.Tests.{eqb-true, eqb-false}
use Rattle.rack.specs.laws.Bools.{tested}
use Rattle.rack.specs.definitions.Table.{tree_of}
use Rattle.std.specs.Prelude.{Result, Ok, Err, IfOk}
use Rattle.rack.specs.definitions.Tree.{Tree, bridge_count, device_count}
use Rattle.rack.specs.definitions.Refusal.{rack_refusal}
use Rattle.seat.specs.definitions.Grants.{Grants}
use Rattle.seat.specs.definitions.Table.{grants_of}
use Rattle.register_image.specs.definitions.Image.{Images, images}
use Rattle.file_record.specs.declared.Loaded.{Loaded}
use Rattle.file_record.specs.definitions.Load.{file_in}
use Rattle.file_record.specs.declared.Refused.{Refused}
use Rattle.file_record.specs.definitions.Loads.{Loads, Accepts, Refuses}
use Rattle.rack.specs.laws.RefusedLaws.{refusal_not_0}
use Rattle.rackrun.proofs.Blank.{parts_blank}
use Rattle.file_record.specs.laws.LoadLaws.{file_accepted, file_long}
use Rattle.print_file.specs.definitions.Output.{blank}
use Rattle.print_output.specs.declared.Rest.{Rest}
use Rattle.print_output.specs.definitions.Rest.{Standing, standing, first_of, output_from, end_from}
use Rattle.print_output.specs.definitions.Piece.{Ready, to_go}
use Rattle.print_output.specs.laws.RestLaws.{first_accepted, first_refused, first_output}
use Rattle.rackrun.specs.definitions.Run.{run_end}
use Rattle.rackrun.specs.definitions.Written.{Stands}

-- tables that hold an accepted file's rack and its grants; those of a refused one play no part
module _ (b : List ℕ) (t : Tree) (g : Grants) (et : (file_in b).refusal ≡ 0 → t ≡ (file_in b).tree)
    (eg : (file_in b).refusal ≡ 0 → g ≡ (file_in b).grants) (im : Images) where
  same_text : output_from t g b (first_of b im).rest (first_of b im).before
      ≡ output_from (file_in b).tree (file_in b).grants b (first_of b im).rest (first_of b im).before
  unfolding output_from
  same_text =
      tested (eqb (file_in b).refusal 0) (λ q. let z = eqb-true (file_in b).refusal 0 q in rw (et z, eg z))
      (λ q. rw (first_refused b im (eqb-false (file_in b).refusal 0 q)))

  same_end : end_from t g b (first_of b im).rest (first_of b im).before ≡ run_end b im
  unfolding end_from
  same_end =
      tested (eqb (file_in b).refusal 0) (λ q. let z = eqb-true (file_in b).refusal 0 q in rw (et z, eg z))
      (λ q. rw (first_refused b im (eqb-false (file_in b).refusal 0 q)))

  -- the rack of events is accepted, and each part takes one of at most 65,536 bytes
  first_ready : Ready b t (first_of b im).rest
  unfolding Ready
  first_ready =
      tested (eqb (file_in b).refusal 0)
      (λ q.
      let z = eqb-true (file_in b).refusal 0 q in
      rw (first_accepted b im z) (ap rack_refusal (et z) ∙ file_accepted b z, file_long b z, omega arith))
      (λ q. rw (first_refused b im (eqb-false (file_in b).refusal 0 q)) tt)

  first_go : to_go b (first_of b im).rest ≤ 65536
  unfolding to_go
  first_go =
      tested (eqb (file_in b).refusal 0)
      (λ q. let z = eqb-true (file_in b).refusal 0 q in rw (first_accepted b im z) (omega (arith, file_long b z)))
      (λ q. rw (first_refused b im (eqb-false (file_in b).refusal 0 q)) (omega arith))

  module _ {rest : Rest} {after : Images} (e : standing rest after ≡ first_of b im) where
    stands_first : ((file_in b).refusal ≡ 0 → im ≡ blank t) → Stands b t g (record { done = 0; rest = rest }) after
    stands_first h =
        subst (λ (s : Standing). Stands b t g (record { done = 0; rest = s.rest }) s.before) (sym e)
        (record {
          inside = omega arith;
          left = sym (same_text ∙ first_output b im (λ z. h z ∙ ap blank (et z)));
          ready = first_ready;
          fits = omega (arith, first_go);
        })

    ends_first : end_from t g b rest after ≡ run_end b im
    ends_first = ap (λ (s : Standing). end_from t g b s.rest s.before) e ∙ same_end

-- of an accepted file, whose rack is accepted
module _ (b : List ℕ) (l : Loaded) (loads : Accepts l (file_in b)) where
  pub loaded_rack : rack_refusal (tree_of l.table) ≡ 0
  loaded_rack = ap rack_refusal loads.tree ∙ file_accepted b (sym loads.refusal)

  module _ (im : Images) (rest : Rest) (after : Images) (e : standing rest after ≡ first_of b im) where
    pub first_stands : im ≡ blank (tree_of l.table) → Stands b (tree_of l.table) (grants_of l.grants) (record { done = 0; rest = rest }) after
    first_stands h =
        stands_first b (tree_of l.table) (grants_of l.grants) (λ z. loads.tree) (λ z. loads.grants) im e (λ z. h)

    pub first_end : end_from (tree_of l.table) (grants_of l.grants) b rest after ≡ run_end b im
    first_end = ends_first b (tree_of l.table) (grants_of l.grants) (λ z. loads.tree) (λ z. loads.grants) im e

-- of a refused one, whatever the tables hold
module _ (b : List ℕ) (r : Refused) (loads : Refuses r (file_in b)) (t : Tree) (g : Grants) (im : Images) (rest : Rest) (after : Images)
    (e : standing rest after ≡ first_of b im) where
  bad : (file_in b).refusal ≡ 0 → ⊥
  bad z = refusal_not_0 r.refusal (loads.refusal ∙ z)

  pub refused_stands : Stands b t g (record { done = 0; rest = rest }) after
  refused_stands = stands_first b t g (λ z. absurd (bad z)) (λ z. absurd (bad z)) im e (λ z. absurd (bad z))

  pub refused_end : end_from t g b rest after ≡ run_end b im
  refused_end = ends_first b t g (λ z. absurd (bad z)) (λ z. absurd (bad z)) im e

-- a file that was loaded, accepted or refused: its rack is accepted, and zeros are its images before they are set
module _ (b : List ℕ) where
  pub rack_read : (r : Result Loaded Refused) → Loads r (file_in b) → IfOk r (λ l. rack_refusal (tree_of l.table) ≡ 0)
  rack_read (Ok l) h = loaded_rack b l h
  rack_read (Err e) h = tt

pub images_read : (r : Result Loaded Refused) (m n : ℕ) (bs ds : List ℕ) → bs ≡ replicate 2048 0 → ds ≡ replicate 4096 0 → (m ≤ 2048) × (n ≤ 4096)
    → IfOk r (λ l. (m ≡ 64 * bridge_count (tree_of l.table)) × (n ≡ 64 * device_count (tree_of l.table)))
    → IfOk r (λ l. images (take m bs) (take n ds) ≡ blank (tree_of l.table))
images_read (Ok l) m n bs ds eb ed fit h = parts_blank (tree_of l.table) m n bs ds eb ed fit.0 fit.1 h
images_read (Err e) m n bs ds eb ed fit h = tt
