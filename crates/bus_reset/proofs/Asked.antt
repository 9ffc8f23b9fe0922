-- What a refusal is, from what the code has asked.
use mathlib.Core.Path.{◌≡◌}
use mathlib.Core.Bool.{Bool, true, false}
use mathlib.Core.List.{List}
use Prim.Native.Nat.{ℕ}
use Rattle.rack.specs.declared.Node.{Node}
use Rattle.rack.specs.definitions.Tree.{Tree}
use Rattle.register_image.specs.definitions.Image.{Images, view}
use Rattle.register_image.specs.definitions.Fixed.{lengths_wrong, fixed_wrong}
use Rattle.register_image.specs.definitions.Reset.{is_changed}
use Rattle.bus_reset.specs.definitions.Held.{is_held}
use Rattle.bus_reset.specs.definitions.Agreement.{node_disagrees, disagrees, image_refusal}

-- whether a held node differs from reset
module _ (t : Tree) (im : Images) (i : ℕ) {h : Bool} (eh : h ≡ is_held t im i) where
  pub held_changed : {n : Node} {part : List ℕ} {r : Bool} → h ≡ true → n ≡ t.node i → part ≡ view t im i → r ≡ is_changed n part
      → r ≡ node_disagrees t im i
  held_changed q en ep er = rw (← eh, q, er, en, ep)

  pub not_held : h ≡ false → false ≡ node_disagrees t im i
  not_held q = rw (← eh, q)

-- the number of two images' refusal
module _ (t : Tree) (im : Images) {b : Bool} (eb : b ≡ lengths_wrong t im) where
  pub refused_11 : b ≡ true → 11 ≡ image_refusal t im
  unfolding image_refusal
  refused_11 q = rw (← eb, q)

  module _ (q : b ≡ false) {f : Bool} (ef : f ≡ fixed_wrong t im) where
    pub refused_12 : f ≡ true → 12 ≡ image_refusal t im
    unfolding image_refusal
    refused_12 p = rw (← eb, q, ← ef, p)

    module _ (p : f ≡ false) {d : Bool} (ed : d ≡ disagrees t im) where
      pub refused_18 : d ≡ true → 18 ≡ image_refusal t im
      unfolding image_refusal
      refused_18 o = rw (← eb, q, ← ef, p, ← ed, o)

      pub refused_none : d ≡ false → 0 ≡ image_refusal t im
      unfolding image_refusal
      refused_none o = rw (← eb, q, ← ef, p, ← ed, o)
