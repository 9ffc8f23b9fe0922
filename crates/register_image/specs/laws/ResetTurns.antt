-- The turns of a loop over the nodes of a rack that puts those that pass a test at reset.
use Rattle.std.specs.Prelude.{◌≡◌, Bool, cond, ℕ, ◌+◌, ◌-◌, ◌≤◌, ◌<◌}
use Rattle.std.proofs.Math.Path.{sym}
use Rattle.std.proofs.Common.{ap, ◌∙◌, arith}
use Rattle.rack.specs.definitions.Tree.{Tree}
use Rattle.rack.specs.laws.CountLaws.{left_suc, left_none}
use Rattle.register_image.specs.definitions.Image.{Images}
use Rattle.register_image.specs.definitions.Reset.{reset_node, reset_nodes}

-- those of the nodes below i that pass are at reset
abbrev pub ResetYet : Tree → (ℕ → Bool) → Images → ℕ → Images → ℕ → Type 0
ResetYet t test whole n im i = reset_nodes t test whole 0 n ≡ reset_nodes t test im i (n - i)

pub reset_none : (t : Tree) (test : ℕ → Bool) (im : Images) (n : ℕ) → ResetYet t test im n im 0
reset_none t test im n = let e : n ≡ n - 0 = omega arith in ap (reset_nodes t test im 0) e

module _ (t : Tree) (test : ℕ → Bool) (whole im : Images) {n i : ℕ} (yet : ResetYet t test whole n im i) where
  pub reset_next : {after : Images} → i < n → after ≡ cond (test i) (reset_node t im i) im → ResetYet t test whole n after (i + 1)
  unfolding reset_nodes
  reset_next h e = yet ∙ rw (left_suc i n h, e)

  pub reset_all : n ≡ t.count → n ≤ i → im ≡ reset_nodes t test whole 0 t.count
  unfolding reset_nodes
  reset_all at h = sym (ap (reset_nodes t test whole 0) (sym at) ∙ yet ∙ rw (left_none i n h))
