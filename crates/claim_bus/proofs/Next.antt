-- What a search of nodes found, and the number that `next_from` has for it: 255 for none.
use mathlib.Core.Path.{◌≡◌, refl, sym, ap, ◌∙◌}
use mathlib.Core.Bool.{Bool}
use mathlib.Core.Logic.{◌≢◌}
use Prim.Native.Nat.{ℕ, zero, suc, ◌+◌, ◌≤◌, ◌<◌}
use native.Mathlib.Omega.{arith}
use Rattle.std.specs.Prelude.{Some, None}
use Rattle.std.specs.Option.{unwrap_or}
use Rattle.std.proofs.lemmas.Option.{none-some, same_Some}
use Rattle.rack.specs.definitions.Count.{find_from}
use Rattle.rack.specs.laws.Bools.{tested}
use Rattle.claim_agent.specs.definitions.Claimants.{next_from}

pub number_found : (f : ℕ → Bool) (i left : ℕ) → unwrap_or (find_from f i left) 255 ≡ next_from f i left
unfolding find_from next_from
number_found f i zero = refl
number_found f i (suc left) = tested (f i) (λ q. rw q refl) (λ q. rw q (number_found f (i + 1) left))

-- a node that was found is among those that were searched
pub found_below : (f : ℕ → Bool) (i left k : ℕ) → Some k ≡ find_from f i left → k < i + left
unfolding find_from
found_below f i zero k e = absurd (none-some k (sym e))
found_below f i (suc left) k e =
    tested (f i) (λ q. let h : Some k ≡ Some i = rw q at e in let m : k ≡ i = same_Some k i h in omega arith)
    (λ q. let h : k < i + 1 + left = found_below f (i + 1) left k (rw q at e) in omega arith)

module _ (f : ℕ → Bool) (i left : ℕ) where
  pub next_if_none : None ≡ find_from f i left → next_from f i left ≡ 255
  next_if_none e = sym (ap (λ o. unwrap_or o 255) e ∙ number_found f i left)

  pub next_if_some : {k : ℕ} → Some k ≡ find_from f i left → next_from f i left ≡ k
  next_if_some e = sym (ap (λ o. unwrap_or o 255) e ∙ number_found f i left)

  -- no node has the number 255
  pub next_is_node : {k : ℕ} → i + left ≤ 255 → Some k ≡ find_from f i left → next_from f i left ≢ 255
  next_is_node {k} h e z = let b : k < i + left = found_below f i left k e in let n : next_from f i left ≡ k = next_if_some e in omega arith
