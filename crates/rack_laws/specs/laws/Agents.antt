-- The agents of a bus of an accepted rack: they are distinct, and at most 17.
use Rattle.std.specs.Prelude.{◌≡◌, Bool, List, [], ◌∷◌, eqb, length}
use Rattle.std.proofs.Math.Path.{sym, ap}
use Rattle.std.proofs.Common.{◌∙◌}
use Prim.Native.Nat.{ℕ, zero, suc, ◌+◌, ◌≤◌, ◌<◌}
use native.Mathlib.Omega.{arith}
use borrow.Author.Tests.{eqb-true, eqb-false}
use Rattle.rack.specs.definitions.Count.{count_of}
use Rattle.rack.specs.laws.CountLaws.{count_zero, count_step}
use Rattle.rack.specs.laws.Bools.{tested}
use Rattle.rack.specs.definitions.Tree.{Tree, parent_of, nodes_from, nodes_on, agents}
use Rattle.rack.specs.definitions.Refusal.{rack_refusal}
use Rattle.rack_laws.specs.laws.Counts.{count_values}
use Rattle.rack_laws.specs.laws.Sound.{device_le, not_own, devices_differ}

-- every member of a list
unfoldable pub All : (ℕ → Type 0) → List ℕ → Type 0
All P [] = Unit {0}
All P (x ∷ xs) = P x × All P xs

-- no member stands twice
unfoldable pub Distinct : List ℕ → Type 0
Distinct [] = Unit {0}
Distinct (x ∷ xs) = All (λ y. x ≡ y → ⊥) xs × Distinct xs

module _ (t : Tree) (bus : ℕ) where
  -- what holds of each node on a bus holds of all members of the list
  pub all_on : (P : ℕ → Type 0) (i left : ℕ) → ((k : ℕ) → i ≤ k → k < i + left → parent_of t k ≡ bus → P k) → All P (nodes_from t bus i left)
  unfolding All nodes_from
  all_on P i zero h = tt
  all_on P i (suc left) h =
      tested (eqb (parent_of t i) bus)
      (λ q. rw q (h i (omega arith) (omega arith) (eqb-true (parent_of t i) bus q), all_on P (i + 1) left (λ k a b. h k (omega arith) (omega arith))))
      (λ q. rw q (all_on P (i + 1) left (λ k a b. h k (omega arith) (omega arith))))

  nodes_distinct : (i left : ℕ) → Distinct (nodes_from t bus i left)
  unfolding Distinct nodes_from
  nodes_distinct i zero = tt
  nodes_distinct i (suc left) =
      tested (eqb (parent_of t i) bus)
      (λ q. rw q (all_on (λ y. i ≡ y → ⊥) (i + 1) left (λ k a b p e. omega arith), nodes_distinct (i + 1) left))
      (λ q. rw q (nodes_distinct (i + 1) left))

  on_bus_lem : ℕ → Bool
  on_bus_lem i = eqb (parent_of t i) bus

  nodes_counted : (i left : ℕ) → length (nodes_from t bus i left) + count_of on_bus_lem i ≡ count_of on_bus_lem (i + left)
  unfolding nodes_from on_bus_lem
  nodes_counted i zero = let e : i + 0 ≡ i = omega arith in omega (arith, ap (count_of on_bus_lem) e)
  nodes_counted i (suc left) =
      let e : i + suc left ≡ i + 1 + left = omega arith in
      tested (eqb (parent_of t i) bus)
      (λ q. rw q (omega (arith, nodes_counted (i + 1) left, ap (count_of on_bus_lem) e, rw q at (count_step on_bus_lem i))))
      (λ q. rw q (omega (arith, nodes_counted (i + 1) left, ap (count_of on_bus_lem) e, rw q at (count_step on_bus_lem i))))

  -- how many agents a bus has: its holder, and the nodes on it
  pub agents_counted : length (agents t bus) ≡ 1 + count_of (λ i. eqb (parent_of t i) bus) t.count
  unfolding on_bus_lem
  agents_counted =
      let e : 0 + t.count ≡ t.count = omega arith in
      omega (arith, nodes_counted 0 t.count, ap (count_of on_bus_lem) e, count_zero on_bus_lem)

  module _ (ok : rack_refusal t ≡ 0) where
    -- the agents of a bus are distinct
    pub agents_distinct : Distinct (agents t bus)
    unfolding Distinct
    agents_distinct =
        (all_on (λ y. bus ≡ y → ⊥) 0 t.count (λ k a b p e. not_own t ok k (omega arith) (p ∙ e)), nodes_distinct 0 t.count)

    nodes_few : length (nodes_on t bus) ≤ 16
    unfolding on_bus_lem
    nodes_few =
        omega (
          arith,
          agents_counted,
          count_values 16 on_bus_lem (λ i. (t.node i).device) t.count (λ i h e. omega (arith, device_le t ok i h))
              (λ i j hi hj e g d.
              tested (eqb i j) (λ q. eqb-true i j q)
              (λ q. absurd (devices_differ t ok i j hi hj (eqb-false i j q) (eqb-true (parent_of t i) bus e ∙ sym (eqb-true (parent_of t j) bus g)) d))),
        )

    -- and at most 17
    pub agents_few : length (agents t bus) ≤ 17
    agents_few = omega (arith, nodes_few)
