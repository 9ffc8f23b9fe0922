-- The search for the node of a device number: what it asks of a node, and what it gives.
use mathlib.Core.Path.{◌≡◌, ap, ◌∙◌}
use mathlib.Core.Bool.{Bool, ◌&&◌}
use Prim.Native.Nat.{ℕ, ◌-◌, ◌/◌, ◌%◌}
use native.Mathlib.Omega.{arith}
use borrow.Author.Tests.{eq-eqb, ne_eqb}
use lib.Dec.{eqb}
use Rattle.rack.specs.definitions.Tree.{Tree, parent_of}
use Rattle.std.specs.Prelude.{Option, unwrap_or}
use Rattle.rack.specs.definitions.Count.{find_from}
use Rattle.claim_bus.proofs.Next.{number_found}
use Rattle.route_bus.specs.definitions.Look.{target}

-- node i sits on the bus with the device number
abbrev pub sits : Tree → ℕ → ℕ → ℕ → Bool
sits t bus number i = eqb (parent_of t i) bus && eqb (t.node i).device number

-- a function other than 0 finds no node
pub sits_off : (t : Tree) (bus devfn : ℕ) → (devfn % 8 ≡ 0 → ⊥) → 255 ≡ target t bus devfn
unfolding target
sits_off t bus devfn ne = rw (ne_eqb (devfn % 8) 0 ne)

-- else the search from node 0 on finds it
pub sits_searched : (t : Tree) (bus devfn : ℕ) {n : ℕ} {o : Option ℕ} → devfn % 8 ≡ 0 → n ≡ t.count
    → o ≡ find_from (sits t bus (devfn / 8)) 0 (n - 0) → unwrap_or o 255 ≡ target t bus devfn
unfolding target
sits_searched t bus devfn {n} e at q =
    let whole : n - 0 ≡ t.count = omega (arith, at) in
    rw (eq-eqb (devfn % 8) 0 e)
    (ap (λ o. unwrap_or o 255) (q ∙ ap (find_from (sits t bus (devfn / 8)) 0) whole) ∙ number_found (sits t bus (devfn / 8)) 0 t.count)
