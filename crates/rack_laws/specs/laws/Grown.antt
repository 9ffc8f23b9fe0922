-- A rack that is read node by node: each node that is not refused leaves an accepted rack.
use Rattle.std.specs.Prelude.{◌≡◌, Bool, ℕ, ◌≤◌, ◌<◌, ltb, eqb}
use Rattle.std.proofs.Math.Path.{refl, ap}
use Rattle.std.proofs.Common.{◌∙◌, arith}
use Rattle.std.proofs.Math.Bool.{true, false, cond}
use borrow.Author.Tests.{eqb-true, eqb-false, ltb-true, le-leb}
use Rattle.rack.specs.declared.Node.{Node}
use Rattle.rack.specs.declared.Range.{Range}
use Rattle.rack.specs.definitions.Node.{is_bridge}
use Rattle.rack.specs.laws.Bools.{tested}
use Rattle.rack.specs.laws.CountLaws.{count_both}
use Rattle.rack.specs.laws.Search.{some_same}
use Rattle.rack.specs.definitions.Tree.{Tree, bridges_below, devices_below}
use Rattle.rack.specs.laws.TreeLaws.{bridges_same, devices_same}
use Rattle.rack.specs.definitions.First.{first, first_from}
use Rattle.rack.specs.definitions.Refusal.{too_many, bad_parent, high_device, same_slot, taken_device, bad_region, node_refusal, rack_refusal}
use Rattle.rack.specs.definitions.Grow.{no_tree, nodes_with, grown}
use Rattle.rack.specs.laws.GrowLaws.{with_earlier, with_bridges, with_devices}
use Rattle.rack_laws.specs.laws.Refusals.{accepted, accepts}
use Rattle.rack_laws.specs.laws.Sound.{bridges_le, devices_le}

-- a rack without nodes is accepted
pub none_accepted : (h : Range) → rack_refusal (no_tree h) ≡ 0
unfolding first_from
none_accepted h = refl

-- the refusal of node i looks at no later node
module _ (f g : ℕ → Node) (i : ℕ) (s : (j : ℕ) → j ≤ i → f j ≡ g j) where
  here : f i ≡ g i
  here = s i (omega arith)

  many_same : too_many f i ≡ too_many g i
  unfolding too_many
  many_same = rw (here, bridges_same f g i (λ j h. s j (omega arith)), devices_same f g i (λ j h. s j (omega arith)))

  -- a parent that is no earlier node fails, whatever node it is
  parent_same : bad_parent f i ≡ bad_parent g i
  unfolding bad_parent
  parent_same =
      rw here
      (tested (ltb (g i).parent i)
      (λ q. let h : (g i).parent < i = ltb-true (g i).parent i q in rw (s (g i).parent (omega arith)))
      (λ q. rw q))

  device_same : high_device f i ≡ high_device g i
  unfolding high_device
  device_same = rw here

  taken_same : taken_device f i ≡ taken_device g i
  unfolding taken_device
  taken_same =
      rw here (some_same (λ j. same_slot (f j) (g i)) (λ j. same_slot (g j) (g i)) i (λ j h. ap (λ (m : Node). same_slot m (g i)) (s j (omega arith))))

  region_same : bad_region f i ≡ bad_region g i
  unfolding bad_region
  region_same = rw here

  pub refusal_same : node_refusal f i ≡ node_refusal g i
  unfolding node_refusal
  refusal_same = rw (many_same, parent_same, device_same, taken_same, region_same)

module _ (t : Tree) (n : Node) where
  earlier_same : (i : ℕ) → i < t.count → (j : ℕ) → j ≤ i → nodes_with t n j ≡ t.node j
  earlier_same i h j l = with_earlier t n j (omega arith)

  -- one node more that is not refused
  pub grown_accepted : rack_refusal t ≡ 0 → node_refusal (nodes_with t n) t.count ≡ 0 → rack_refusal (grown t n) ≡ 0
  unfolding grown
  grown_accepted ok new =
      accepts (grown t n) (λ i h.
      tested (eqb i t.count) (λ q. ap (node_refusal (nodes_with t n)) (eqb-true i t.count q) ∙ new)
      (λ q.
      let l : i < t.count = omega (arith, eqb-false i t.count q) in
      refusal_same (nodes_with t n) t.node i (earlier_same i l) ∙ accepted t ok i l))

  bridges_full : rack_refusal t ≡ 0 → 96 ≤ t.count → 32 ≤ bridges_below (nodes_with t n) t.count
  bridges_full ok h =
      omega (arith, with_bridges t n, devices_le t ok, count_both (λ i. is_bridge (t.node i).kind) t.count)

  devices_full : rack_refusal t ≡ 0 → 96 ≤ t.count → 64 ≤ devices_below (nodes_with t n) t.count
  devices_full ok h =
      omega (arith, with_devices t n, bridges_le t ok, count_both (λ i. is_bridge (t.node i).kind) t.count)

  full : rack_refusal t ≡ 0 → 96 ≤ t.count → too_many (nodes_with t n) t.count ≡ true
  unfolding too_many
  full ok h =
      rw (le-leb 32 _ (bridges_full ok h), le-leb 64 _ (devices_full ok h))
      (cond_same (is_bridge (nodes_with t n t.count).kind))
    where
      cond_same : (b : Bool) → cond b true true ≡ true
      cond_same true = refl
      cond_same false = refl

  -- after 96 nodes every node is one too many
  pub grown_full : rack_refusal t ≡ 0 → 96 ≤ t.count → node_refusal (nodes_with t n) t.count ≡ 6
  unfolding node_refusal first
  grown_full ok h = rw (full ok h)
