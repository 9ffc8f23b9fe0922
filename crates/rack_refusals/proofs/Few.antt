-- Refusal 6 by the count of bridges alone.
use mathlib.Core.Path.{◌≡◌, sym, ap, ◌∙◌}
use mathlib.Core.Bool.{Bool, true, false}
use Prim.Native.Nat.{ℕ, ◌-◌}
use lib.Dec.{leb}
use Rattle.rack.specs.declared.Node.{Node}
use Rattle.rack.specs.definitions.Node.{is_bridge}
use Rattle.rack.specs.laws.TreeLaws.{devices_left}
use Rattle.rack.specs.definitions.Tree.{bridges_below}
use Rattle.rack.specs.definitions.Refusal.{too_many}

module _ (node : ℕ → Node) (i : ℕ) {k : ℕ} {n : Node} {b : Bool} (ek : k ≡ bridges_below node i) (en : n ≡ node i)
    (eb : b ≡ is_bridge n.kind) where
  is : is_bridge (node i).kind ≡ b
  is = sym (eb ∙ ap (λ (m : Node). is_bridge m.kind) en)

  pub many_bridges : b ≡ true → leb 32 k ≡ too_many node i
  unfolding too_many
  many_bridges t = rw (is, t, ek)

  pub many_devices : b ≡ false → leb 64 (i - k) ≡ too_many node i
  unfolding too_many
  many_devices t = rw (is, t, ek, devices_left node i)
