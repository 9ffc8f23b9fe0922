-- What Type 0 configuration comes to on a bus, case by case.
use Rattle.std.specs.Prelude.{◌≡◌, true, false, ℕ, eqb}
use Rattle.std.proofs.Common.{eqb-true}
use Rattle.std.proofs.lemmas.Bool.{eqb-false}
use Rattle.rack.specs.laws.Bools.{tested}
use Rattle.rack.specs.definitions.Tree.{Tree}
use Rattle.register_image.specs.definitions.Image.{Images, Result, gives}
use Rattle.route_bus.specs.declared.Access.{Access}
use Rattle.route_bus.specs.declared.End.TheVariants.{Node, Special}
use Rattle.route_bus.specs.declared.Sight.{Sight}
use Rattle.route_bus.specs.declared.Sight.TheVariants.{Ends}
use Rattle.route_bus.specs.definitions.Look.{unclaimed, found, selects, is_special_cycle, direct, look}

module _ (t : Tree) (im : Images) (x : Access) (bus driver : ℕ) where
  pub special_ends : is_special_cycle x ≡ true → direct t im x bus driver ≡ gives (Ends (Special bus)) im
  unfolding direct
  special_ends s = rw s

  pub look_special : is_special_cycle x ≡ true → look t im x bus driver true ≡ gives (Ends (Special bus)) im
  unfolding look
  look_special s = special_ends s

  -- every other access selects a node or none, as it did before there were special cycles
  pub other_selects : is_special_cycle x ≡ false → direct t im x bus driver ≡ selects t im x bus driver
  unfolding direct
  other_selects s = rw s

  pub by_direct : (P : Result Sight → Type 0) → (is_special_cycle x ≡ true → P (gives (Ends (Special bus)) im))
      → (is_special_cycle x ≡ false → found t im bus x.devfn ≡ 255 → P (unclaimed t im bus driver))
      → (is_special_cycle x ≡ false → (found t im bus x.devfn ≡ 255 → ⊥) → P (gives (Ends (Node (found t im bus x.devfn))) im))
      → P (direct t im x bus driver)
  unfolding selects
  by_direct P special none node =
      tested (is_special_cycle x) (λ s. rw (special_ends s) (special s))
      (λ s.
      tested (eqb (found t im bus x.devfn) 255) (λ q. rw (other_selects s, q) (none s (eqb-true _ 255 q)))
      (λ q. rw (other_selects s, q) (node s (eqb-false _ 255 q))))
