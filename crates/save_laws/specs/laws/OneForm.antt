-- A saved rack has one form: two files are the same exactly where racks, grants and registers are. Document 02, E2: 'two racks with equal
-- content have the same file'.
use Rattle.std.specs.Prelude.{◌≡◌, List, true, false, ℕ, length}
use Rattle.std.proofs.Common.{sym, ap, ◌∙◌, subst}
use Rattle.rack.specs.definitions.Tree.{Tree}
use Rattle.seat.specs.definitions.Grants.{Grants}
use Rattle.register_image.specs.definitions.Image.{Images}
use Rattle.register_image.specs.definitions.Fixed.{lengths_wrong}
use Rattle.register_laws.specs.laws.Accepted.{accepted}
use Rattle.file_record.specs.definitions.Load.{Loading, at_start, read_from}
use Rattle.file_record.specs.definitions.Start.{start_from}
use Rattle.file_save.specs.definitions.Saved.{saved_file}
use Rattle.save_laws.specs.definitions.Said.{Savable}
use Rattle.save_laws.specs.definitions.After.{registers_at, saved_loading}
use Rattle.save_laws.specs.laws.ReadBack.{read_alone}
use Rattle.save_laws.specs.laws.Start.{start_alone}

module _ (t u : Tree) (g h : Grants) (im jm : Images) (s : Savable t g im) (r : Savable u h jm)
    (same : saved_file t g im ≡ saved_file u h jm) where
  loading_same : saved_loading t g im ≡ saved_loading u h jm
  loading_same =
      sym (read_alone t g im s) ∙ ap (λ (b : List ℕ). read_from (length b) true b at_start) same ∙ read_alone u h jm r

  pub tree_one : t ≡ u
  tree_one = ap (λ (d : Loading). d.tree) loading_same

  pub grants_one : g ≡ h
  grants_one = ap (λ (d : Loading). d.grants) loading_same

  pub images_one : im ≡ jm
  images_one =
      let l : lengths_wrong t im ≡ false = (accepted t im s.images).0 in
      let m : lengths_wrong u im ≡ false = subst (λ (v : Tree). lengths_wrong v im ≡ false) tree_one l in
      sym (start_alone t g im s im l)
      ∙ ap (λ (d : Loading). start_from (saved_file t g im) d.tree d.registers d.offset im) loading_same
      ∙ ap (λ (b : List ℕ). start_from b u (registers_at u h) (length (saved_file u h jm)) im) same
      ∙ start_alone u h jm r im m

pub one_form : (t u : Tree) (g h : Grants) (im jm : Images) → Savable t g im → Savable u h jm → saved_file t g im ≡ saved_file u h jm
    → (t ≡ u) × (g ≡ h) × (im ≡ jm)
one_form t u g h im jm s r e = (tree_one t u g h im jm s r e, grants_one t u g h im jm s r e, images_one t u g h im jm s r e)
