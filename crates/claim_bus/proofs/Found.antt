-- The claimants of a bus from what the code found: whether the holder counts, the first node that does, and the next.
use mathlib.Core.Path.{◌≡◌, sym, ap, ◌∙◌}
use mathlib.Core.Bool.{Bool, true, false}
use mathlib.Core.Logic.{◌≢◌}
use Prim.Native.Nat.{ℕ, ◌+◌, ◌-◌, ◌≤◌, ◌<◌}
use native.Mathlib.Omega.{arith}
use Rattle.std.specs.Prelude.{Option, Some, None}
use Rattle.rack.specs.definitions.Count.{find_from}
use Rattle.register_image.specs.declared.Registers.{Registers}
use Rattle.register_image.specs.definitions.Lent.{tree_in, images_in}
use Rattle.claim_agent.specs.declared.Claimants.{Claimants}
use Rattle.claim_agent.specs.declared.Claimants.TheVariants.{Nobody, One, Two}
use Rattle.claim_agent.specs.declared.Transaction.{Transaction}
use Rattle.claim_agent.specs.definitions.Claimants.{counted, counted_on_bus, next_from, claimants, first_two}
use Rattle.claim_agent.specs.laws.ClaimantLaws.{claimants_nobody, claimants_holder, claimants_holder_one, claimants_one, claimants_two}
use Rattle.claim_bus.proofs.Next.{next_if_none, next_if_some, next_is_node, found_below}

module _ (r : Registers) (x : Transaction) where
  -- a table counts in a byte
  pub few : (tree_in r).count ≤ 255
  few = omega arith

  abbrev on_bus : ℕ → Bool
  on_bus = counted_on_bus (tree_in r) (images_in r) x.space x.bus x.driver x.address

  abbrev after : ℕ → Option ℕ
  after i = find_from on_bus i ((tree_in r).count - i)

  abbrev next : ℕ → ℕ
  next i = next_from on_bus i ((tree_in r).count - i)

  abbrev all : Claimants
  all = first_two (claimants (tree_in r) (images_in r) x.space x.bus x.driver x.address)

  -- after each node there is a number
  pub one_more : {o : ℕ} → Some o ≡ after 0 → o + 1 < 256
  one_more {o} one = omega (arith, found_below on_bus 0 ((tree_in r).count - 0) o one, few)

  module _ {holder : Bool} (eh : holder ≡ counted (tree_in r) (images_in r) x.space x.bus x.driver x.address x.bus) where
    pub found_nobody : None ≡ after 0 → holder ≡ false → Nobody ≡ all
    found_nobody none q = sym (claimants_nobody _ _ _ _ _ _ few (next_if_none _ _ _ none) (sym eh ∙ q))

    pub found_holder : None ≡ after 0 → holder ≡ true → One x.bus ≡ all
    found_holder none q = sym (claimants_holder _ _ _ _ _ _ few (next_if_none _ _ _ none) (sym eh ∙ q))

    module _ {o : ℕ} (one : Some o ≡ after 0) where
      first_is : next 0 ≡ o
      first_is = next_if_some _ _ _ one

      is_node : next 0 ≢ 255
      is_node = next_is_node on_bus 0 ((tree_in r).count - 0) (omega (arith, few)) one

      pub found_holder_one : holder ≡ true → Two x.bus o ≡ all
      found_holder_one q = ap (Two x.bus) (sym first_is) ∙ sym (claimants_holder_one _ _ _ _ _ _ few is_node (sym eh ∙ q))

      module _ (q : holder ≡ false) where
        pub found_one : None ≡ after (o + 1) → One o ≡ all
        found_one none =
            let second : next (o + 1) ≡ 255 = next_if_none _ _ _ none in
            ap One (sym first_is)
            ∙ sym (claimants_one _ _ _ _ _ _ few is_node (sym eh ∙ q) (ap (λ k. next (k + 1)) first_is ∙ second))

        pub found_two : {w : ℕ} → Some w ≡ after (o + 1) → Two o w ≡ all
        found_two {w} two =
            let below : o < 0 + ((tree_in r).count - 0) = found_below on_bus 0 ((tree_in r).count - 0) o one in
            let second : next (o + 1) ≡ w = next_if_some _ _ _ two in
            let node : next (o + 1) ≢ 255 = next_is_node on_bus (o + 1) ((tree_in r).count - (o + 1)) (omega (arith, few)) two in
            let same : next (next 0 + 1) ≡ next (o + 1) = ap (λ k. next (k + 1)) first_is in
            ap (λ k. Two k w) (sym first_is) ∙ ap (Two (next 0)) (sym (same ∙ second))
            ∙ sym (claimants_two _ _ _ _ _ _ few is_node (sym eh ∙ q) (λ e. node (sym same ∙ e)))
