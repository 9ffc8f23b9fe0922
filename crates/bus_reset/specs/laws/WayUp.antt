-- The turns of a loop up the tree, from a bus to the next above it, that looks for a bridge that passes a test.
use Rattle.std.specs.Prelude.{◌≡◌, Bool, true, false, ℕ, suc, ◌+◌, ◌-◌, ◌≤◌, ◌<◌}
use Rattle.std.proofs.Math.Path.{sym, ap}
use Rattle.std.proofs.Common.{◌∙◌, arith}
use borrow.Author.Tests.{ne_eqb}
use Rattle.rack.specs.definitions.Tree.{Tree, host, parent_of}
use Rattle.bus_reset.specs.definitions.Held.{above_in, above}

-- the way up from a bus, of which `left` steps are left at bus `at`, has met none yet
abbrev pub NoneAbove : Tree → (ℕ → Bool) → ℕ → ℕ → ℕ → Type 0
NoneAbove t test bus left at = above t test bus ≡ above_in t test left at

pub above_start : (t : Tree) (test : ℕ → Bool) (bus : ℕ) {left at : ℕ} → at ≡ bus → left ≡ at + 1 → NoneAbove t test bus left at
above_start t test bus e l = rw (l, e)

one_more : (left : ℕ) → 0 < left → left ≡ suc (left - 1)
one_more left h = omega arith

no_more : (left : ℕ) → left ≤ 0 → left ≡ 0
no_more left h = omega arith

module _ (t : Tree) (test : ℕ → Bool) (bus left at : ℕ) (yet : NoneAbove t test bus left at) where
  pub above_spent : left ≤ 0 → false ≡ above t test bus
  unfolding above_in
  above_spent h = sym (yet ∙ rw (no_more left h))

  module _ (more : 0 < left) where
    pub above_root : at ≡ 255 → false ≡ above t test bus
    unfolding above_in
    above_root r = sym (yet ∙ rw (one_more left more, r))

    module _ (below : (at ≡ 255) → ⊥) where
      pub above_found : {b : Bool} → b ≡ test at → b ≡ true → true ≡ above t test bus
      unfolding above_in
      above_found e q = sym (yet ∙ rw (one_more left more, ne_eqb at host below, ← e, q))

      pub above_next : {b : Bool} {next : ℕ} → b ≡ test at → b ≡ false → next ≡ parent_of t at → NoneAbove t test bus (left - 1) next
      unfolding above_in
      above_next e q n = yet ∙ ap (λ (l : ℕ). above_in t test l at) (one_more left more) ∙ rw (ne_eqb at host below, ← e, q, n)
