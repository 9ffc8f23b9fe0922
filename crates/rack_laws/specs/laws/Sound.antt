-- What acceptance says of the nodes of a rack.
use Rattle.std.proofs.Math.Path.{◌≡◌, sym}
use Rattle.std.proofs.Common.{◌∙◌, true≢false, ⊎_elim, arith, lit<}
use Rattle.std.specs.Prelude.{Bool, not, ◌&&◌, ◌⊎◌, ℕ, ◌≤◌, ◌<◌, ltb, eqb}
use Rattle.std.proofs.Math.Bool.{true, false}
use Rattle.std.proofs.Math.Logic.{inl, inr}
use Rattle.std.proofs.Math.Arith.{lt_of_le-ne}
use borrow.Author.Tests.{eqb-true, eq-eqb, ltb-true, ltb-false, leb-false, not-false}
use Rattle.rack.specs.definitions.Node.{is_bridge}
use Rattle.rack.specs.laws.CountLaws.{count_both}
use Rattle.rack.specs.laws.Bools.{tested, opposite, either, both}
use Rattle.rack.specs.laws.Search.{none}
use Rattle.rack.specs.laws.FirstLaws.{when_not}
use Rattle.rack.specs.definitions.Tree.{Tree, host, parent_of, bridges_below, devices_below, bridge_count, device_count}
use Rattle.rack.specs.definitions.Refusal.{too_many, bad_parent, high_device, same_slot, taken_device, bad_region, node_faults, node_refusal, rack_refusal}
use Rattle.rack_laws.specs.laws.Counts.{count_bound}
use Rattle.rack_laws.specs.laws.First.{at, list_none_given}
use Rattle.rack_laws.specs.laws.Refusals.{accepted}

module _ (t : Tree) (ok : rack_refusal t ≡ 0) (i : ℕ) (h : i < t.count) where
  -- no test holds at a node
  tests_fail : (k : ℕ) → k < 5 → at (node_faults t.node i) k ≡ 0
  unfolding node_refusal
  tests_fail = list_none_given (node_faults t.node i) (accepted t ok i h)

  few : too_many t.node i ≡ false
  few = when_not 6 _ (λ e. omega (arith, e)) (tests_fail 0 (lit< tt))

  right_parent : bad_parent t.node i ≡ false
  right_parent = when_not 7 _ (λ e. omega (arith, e)) (tests_fail 1 (lit< tt))

  low : high_device t.node i ≡ false
  low = when_not 8 _ (λ e. omega (arith, e)) (tests_fail 2 (lit< tt))

  free : taken_device t.node i ≡ false
  free = when_not 9 _ (λ e. omega (arith, e)) (tests_fail 3 (lit< tt))

  pub in_range : bad_region t.node i ≡ false
  in_range = when_not 10 _ (λ e. omega (arith, e)) (tests_fail 4 (lit< tt))

  -- a device number is at most 15
  pub device_le : (t.node i).device ≤ 15
  unfolding high_device
  device_le = ltb-false 15 (t.node i).device low

  -- a parent is the root bus or an earlier bridge
  pub parent_is : (parent_of t i ≡ host) ⊎ ((parent_of t i < i) × (is_bridge (t.node (parent_of t i)).kind ≡ true))
  unfolding bad_parent
  parent_is =
      ⊎_map (either _ _ (not-false _ right_parent))
    where
      ⊎_map : (eqb (parent_of t i) host ≡ true) ⊎ (ltb (parent_of t i) i && is_bridge (t.node (parent_of t i)).kind ≡ true)
          → (parent_of t i ≡ host) ⊎ ((parent_of t i < i) × (is_bridge (t.node (parent_of t i)).kind ≡ true))
      ⊎_map (inl e) = inl (eqb-true (parent_of t i) host e)
      ⊎_map (inr e) = let s = both _ _ e in inr (ltb-true (parent_of t i) i s.0, s.1)

  few_bridges : is_bridge (t.node i).kind ≡ true → bridges_below t.node i < 32
  unfolding too_many
  few_bridges b = leb-false 32 (bridges_below t.node i) (rw b at few)

  few_devices : not (is_bridge (t.node i).kind) ≡ true → devices_below t.node i < 64
  unfolding too_many
  few_devices b = leb-false 64 (devices_below t.node i) (rw (opposite (is_bridge (t.node i).kind) b) at few)

  -- an earlier node on the same bus has another device number
  pub slots_differ : (j : ℕ) → j < i → parent_of t j ≡ parent_of t i → (t.node j).device ≡ (t.node i).device → ⊥
  unfolding taken_device
  slots_differ j hj p d =
      let e : same_slot (t.node j) (t.node i) ≡ false = none (λ k. same_slot (t.node k) (t.node i)) i free j hj in
      let z : ◌≡◌ {A = Bool} true false = sym (rw (eq-eqb _ _ p, eq-eqb _ _ d)) ∙ e in
      absurd (true≢false z)

module _ (t : Tree) (ok : rack_refusal t ≡ 0) where
  -- at most 32 bridges, 64 devices and so 96 nodes
  pub bridges_le : bridge_count t ≤ 32
  bridges_le = count_bound (λ i. is_bridge (t.node i).kind) 32 t.count (λ i h b. few_bridges t ok i h b)

  pub devices_le : device_count t ≤ 64
  devices_le = count_bound (λ i. not (is_bridge (t.node i).kind)) 64 t.count (λ i h b. few_devices t ok i h b)

  pub nodes_le : t.count ≤ 96
  nodes_le = omega (arith, bridges_le, devices_le, count_both (λ i. is_bridge (t.node i).kind) t.count)

  -- so no node has the host's number, and none is its own parent
  pub not_host : (i : ℕ) → i < t.count → i ≡ host → ⊥
  not_host i h e = omega (arith, nodes_le)

  pub not_own : (i : ℕ) → i < t.count → parent_of t i ≡ i → ⊥
  not_own i h e = ⊎_elim (λ r. not_host i h (sym e ∙ r)) (λ r. omega (arith, r.0)) (parent_is t ok i h)

  -- the device numbers of the nodes on a bus differ
  pub devices_differ : (i j : ℕ) → i < t.count → j < t.count → (i ≡ j → ⊥) → parent_of t i ≡ parent_of t j
      → (t.node i).device ≡ (t.node j).device → ⊥
  devices_differ i j hi hj ne p d =
      tested (ltb i j) (λ l. slots_differ t ok j hj i (ltb-true i j l) p d)
      (λ l. slots_differ t ok i hi j (lt (ltb-false i j l)) (sym p) (sym d))
    where
      lt : j ≤ i → j < i
      lt le = lt_of_le-ne le (λ e. ne (sym e))
