-- The refusal of a rack: number n is given exactly where n is the first that applies at the first faulty node (of a node:
-- `First.list-given`, `list-gives`); a rack is accepted exactly where no test holds at any of its nodes.
use Rattle.std.specs.Prelude.{◌≡◌, ℕ, ◌<◌}
use Rattle.rack.specs.definitions.Tree.{Tree}
use Rattle.rack.specs.definitions.Refusal.{node_refusal, rack_refusal, FirstFaultyNode}
use Rattle.rack_laws.specs.laws.First as first

module _ (t : Tree) where
  pub given : (rack_refusal t ≡ 0 → ⊥) → FirstFaultyNode t (rack_refusal t)
  given z = first.given (node_refusal t.node) t.count z

  pub gives : {n : ℕ} → FirstFaultyNode t n → rack_refusal t ≡ n
  gives f = first.gives (node_refusal t.node) t.count f

  pub accepted : rack_refusal t ≡ 0 → (i : ℕ) → i < t.count → node_refusal t.node i ≡ 0
  accepted z = first.none_given (node_refusal t.node) t.count z

  pub accepts : ((i : ℕ) → i < t.count → node_refusal t.node i ≡ 0) → rack_refusal t ≡ 0
  accepts h = first.gives_none (node_refusal t.node) t.count h
