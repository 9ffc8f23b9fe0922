-- The depth of a bus in an accepted rack: the way up ends at the root, after at most 32 steps, and one pass over the nodes finds it.
use Rattle.std.specs.Prelude.{◌≡◌, true, eqb}
use Rattle.std.proofs.Math.Path.{refl, sym, ap}
use Rattle.std.proofs.Common.{◌∙◌, add-one}
use Rattle.std.proofs.lemmas.Bool.{false≢true}
use Rattle.std.proofs.Math.Bool.{cond}
use Rattle.std.proofs.Math.Logic.{⊎_elim}
use Prim.Native.Nat.{ℕ, zero, suc, ◌+◌, ◌-◌, ◌≤◌, ◌<◌, max}
use native.Mathlib.Omega.{arith}
use borrow.Author.Tests.{ne_eqb, eqb-true, eqb-false}
use Rattle.rack.specs.definitions.Node.{is_bridge}
use Rattle.rack.specs.laws.Bools.{tested}
use Rattle.rack.specs.definitions.Tree.{Tree, host, parent_of, bridges_below, bridges_from, IsBus, depth_in, depth, greatest_of, greatest_depth}
use Rattle.rack.specs.laws.CountLaws.{left_suc, left_none}
use Rattle.rack.specs.definitions.Refusal.{rack_refusal}
use Rattle.rack_laws.specs.laws.OnePass.{bus_depth, deepest_of, depth_none}
use Rattle.rack_laws.specs.laws.Counts.{count_mono, count_past}
use Rattle.rack_laws.specs.laws.Sound.{parent_is, bridges_le, nodes_le, not_host}

module _ (t : Tree) where
  -- the root bus has depth 0, whatever the number of steps
  pub root_in : (k : ℕ) → depth_in t k host ≡ 0
  unfolding depth_in
  root_in zero = refl
  root_in (suc k) = refl

  at_root : (k l bus : ℕ) → bus ≡ host → depth_in t k bus ≡ depth_in t l bus
  at_root k l bus e = ap (depth_in t k) e ∙ root_in k ∙ sym (ap (depth_in t l) e ∙ root_in l)

  -- the root bus has depth 0
  pub depth_root : depth t host ≡ 0
  depth_root = root_in 256

  -- the bus that is n steps up
  unfoldable pub up : ℕ → ℕ → ℕ
  up zero bus = bus
  up (suc n) bus = up n (parent_of t bus)

  module _ (ok : rack_refusal t ≡ 0) where
    step_in : (k i : ℕ) → i < t.count → depth_in t (suc k) i ≡ depth_in t k (parent_of t i) + 1
    unfolding depth_in
    step_in k i h = rw (ne_eqb i host (not_host t ok i h))

    -- once the steps are enough, their number plays no part
    enough : (k l i : ℕ) → i < k → i < l → i < t.count → depth_in t k i ≡ depth_in t l i
    enough zero l i a b h = absurd (omega arith)
    enough (suc k) zero i a b h = absurd (omega arith)
    enough (suc k) (suc l) i a b h =
        step_in k i h
        ∙ ap (λ (d : ℕ). d + 1)
        (⊎_elim (λ r. at_root k l (parent_of t i) r)
        (λ r. enough k l (parent_of t i) (omega (arith, r.0)) (omega (arith, r.0)) (omega (arith, r.0)))
        (parent_is t ok i h))
        ∙ sym (step_in l i h)

    -- a bridge's bus is one deeper than the bus it sits on
    pub depth_step : (i : ℕ) → i < t.count → depth t i ≡ depth t (parent_of t i) + 1
    depth_step i h =
        rw (add-one i) (step_in i i h)
        ∙ ap (λ (d : ℕ). d + 1)
        (⊎_elim (λ r. at_root i (parent_of t i + 1) (parent_of t i) r)
        (λ r. enough i (parent_of t i + 1) (parent_of t i) r.0 (omega arith) (omega (arith, r.0)))
        (parent_is t ok i h))

    -- the way up ends at the root, after as many steps as the depth says
    pub up_ends : (n i : ℕ) → i < t.count → depth t i ≡ n → up n i ≡ host
    unfolding up
    up_ends zero i h e = absurd (omega (arith, depth_step i h))
    up_ends (suc n) i h e =
        let d : depth t (parent_of t i) ≡ n = omega (arith, depth_step i h) in
        ⊎_elim (λ r. rw r (stays n (sym d ∙ ap (depth t) r ∙ depth_root)))
        (λ r. up_ends n (parent_of t i) (omega (arith, r.0)) d)
        (parent_is t ok i h)
      where
        stays : (n : ℕ) → n ≡ 0 → up n host ≡ host
        stays zero e = refl
        stays (suc n) e = absurd (omega arith)

    counted : (k i : ℕ) → i < t.count → is_bridge (t.node i).kind ≡ true → depth_in t k i ≤ bridges_below t.node (i + 1)
    unfolding depth_in
    counted zero i h b = omega arith
    counted (suc k) i h b =
        let past : bridges_below t.node (i + 1) ≡ bridges_below t.node i + 1 = count_past (λ j. is_bridge (t.node j).kind) i b in
        ⊎_elim (λ r. omega (arith, step_in k i h, past, ap (depth_in t k) r, root_in k))
        (λ r.
        omega (
          arith,
          step_in k i h,
          past,
          counted k (parent_of t i) (omega (arith, r.0)) r.1,
          count_mono (λ j. is_bridge (t.node j).kind) (parent_of t i + 1) i (omega (arith, r.0)),
        ))
        (parent_is t ok i h)

    -- no bus is deeper than 32
    pub depth_le : (i : ℕ) → i < t.count → is_bridge (t.node i).kind ≡ true → depth t i ≤ 32
    depth_le i h b =
        omega (arith, counted (i + 1) i h b, bridges_le t ok, count_mono (λ j. is_bridge (t.node j).kind) (i + 1) t.count (omega arith))

    bridges_shallow : (i left : ℕ) → i + left ≤ t.count → greatest_of t (bridges_from t i left) ≤ 32
    unfolding greatest_of bridges_from
    bridges_shallow i zero h = omega arith
    bridges_shallow i (suc left) h =
        tested (is_bridge (t.node i).kind)
        (λ q. rw q (omega (arith, depth_le i (omega arith) q, bridges_shallow (i + 1) left (omega arith))))
        (λ q. rw q (bridges_shallow (i + 1) left (omega arith)))

    pub greatest_le : greatest_depth t ≤ 32
    unfolding greatest_of
    greatest_le = omega (arith, depth_root, bridges_shallow 0 t.count (omega arith))

  bridge_in_lem : (i left k : ℕ) → i ≤ k → k < i + left → is_bridge (t.node k).kind ≡ true → depth t k ≤ greatest_of t (bridges_from t i left)
  unfolding greatest_of bridges_from
  bridge_in_lem i zero k a b e = absurd (omega arith)
  bridge_in_lem i (suc left) k a b e =
      tested (is_bridge (t.node i).kind)
      (λ q.
      rw q (tested (eqb k i) (λ w. omega (arith, ap (depth t) (eqb-true k i w)))
      (λ w. omega (arith, bridge_in_lem (i + 1) left k (omega (arith, eqb-false k i w)) (omega arith) e))))
      (λ q.
      rw q (tested (eqb k i) (λ w. absurd (false≢true (sym q ∙ ap (λ (j : ℕ). is_bridge (t.node j).kind) (sym (eqb-true k i w)) ∙ e)))
      (λ w. bridge_in_lem (i + 1) left k (omega (arith, eqb-false k i w)) (omega arith) e)))

  -- the greatest depth is that of every bus at least
  pub depth_greatest : (i : ℕ) → i < t.count → is_bridge (t.node i).kind ≡ true → depth t i ≤ greatest_depth t
  unfolding greatest_of
  depth_greatest i h b = omega (arith, bridge_in_lem 0 t.count i (omega arith) (omega arith) b)

  -- over the bridges, of which some are seen: one more, and at the end
  greatest_next : (n i : ℕ) → i < n
      → greatest_of t (bridges_from t i (n - i)) ≡ max (cond (is_bridge (t.node i).kind) (depth t i) 0) (greatest_of t (bridges_from t (i + 1) (n - (i + 1))))
  unfolding bridges_from greatest_of
  greatest_next n i h =
      rw (left_suc i n h) (tested (is_bridge (t.node i).kind) (λ q. rw q) (λ q. rw q (sym (zero_max _))))
    where
      zero_max : (k : ℕ) → max 0 k ≡ k
      zero_max k = omega arith

  greatest_end : (n i : ℕ) → n ≤ i → greatest_of t (bridges_from t i (n - i)) ≡ 0
  unfolding bridges_from greatest_of
  greatest_end n i h = rw (left_none i n h)

  -- the root bus adds nothing
  greatest_is : greatest_depth t ≡ greatest_of t (bridges_from t 0 t.count)
  unfolding greatest_of
  greatest_is = omega (arith, depth_root)

  module _ (ok : rack_refusal t ≡ 0) where
    -- one pass over the first nodes finds the depths of their buses
    found_below : (k : ℕ) → k ≤ t.count → (bus : ℕ) → bus < k → bus_depth t.node k bus ≡ depth t bus
    unfolding bus_depth
    found_below zero h bus b = absurd (omega arith)
    found_below (suc k) h bus b =
        tested (eqb bus k)
        (λ q. rw (q, eqb-true bus k q)
        (ap (λ (d : ℕ). d + 1)
        (⊎_elim
        (λ r. rw r (depth_none t.node k host (omega (arith, nodes_le t ok))) ∙ sym (ap (depth t) r ∙ depth_root))
        (λ r. found_below k (omega arith) (parent_of t k) r.0)
        (parent_is t ok k (omega arith)))
        ∙ sym (depth_step ok k (omega arith))))
        (λ q. rw q (found_below k (omega arith) bus (omega (arith, eqb-false bus k q))))

    pub depth_found : (bus : ℕ) → IsBus t bus → bus_depth t.node t.count bus ≡ depth t bus
    depth_found bus is =
        ⊎_elim (λ r. rw r (depth_none t.node t.count host (omega (arith, nodes_le t ok)) ∙ sym depth_root))
        (λ r. found_below t.count (omega arith) bus r.0) is

    -- and the greatest among them
    greatest_from : (k : ℕ) → k ≤ t.count → greatest_depth t ≡ max (deepest_of t.node k) (greatest_of t (bridges_from t k (t.count - k)))
    unfolding deepest_of
    greatest_from zero h =
        let e : t.count ≡ t.count - 0 = omega arith in
        omega (arith, greatest_is, ap (λ (n : ℕ). greatest_of t (bridges_from t 0 n)) e)
    greatest_from (suc k) h =
        omega (
          arith,
          greatest_from k (omega arith),
          greatest_next t.count k (omega arith),
          ap (λ (d : ℕ). cond (is_bridge (t.node k).kind) d 0) (found_below (k + 1) (omega arith) k (omega arith)),
          ap (λ (m : ℕ). greatest_of t (bridges_from t m (t.count - m))) (add-one k),
        )

    pub greatest_found : deepest_of t.node t.count ≡ greatest_depth t
    greatest_found = omega (arith, greatest_from t.count (omega arith), greatest_end t.count t.count (omega arith))
