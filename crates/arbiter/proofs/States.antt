-- Whether a number is a state of a ring: a member of its group, the low place of the high ring, or none yet.
use mathlib.Core.Path.{◌≡◌, sym, ap, ap₂, ◌∙◌}
use Prim.Native.Nat.{ℕ, ◌≤◌, ◌<◌}
use native.Mathlib.Omega.{arith}
use mathlib.Core.Bool.{Bool, not, ◌||◌, or-false}
use lib.Dec.{eqb}
use borrow.Author.Tests.{ne_eqb}
use Rattle.arbiter.specs.definitions.Rings.{◌has◌, is_in, none, low_place, high_ring, low_ring}
use Rattle.arbiter.specs.definitions.Arbiter.{is_state}
use Rattle.arbiter.specs.laws.Places.{high_member, low_member, high_others, low_others}
use mathlib.Core.List.{List}

module _ (mask last : ℕ) where
  member_state : (ring : List ℕ) {b : Bool} → last < 10 → is_in last ring ≡ b → b ≡ is_state ring last
  unfolding is_state
  member_state ring {b} h e =
      sym (ap₂ (λ (x y : Bool). x || y) e (ne_eqb last none (λ q. omega arith)) ∙ or-false b)

  pub high_state : {b : Bool} → last < 10 → b ≡ (mask has last) → b ≡ is_state (high_ring mask) last
  high_state h e = member_state (high_ring mask) h (high_member mask last h ∙ sym e)

  pub low_state : {b : Bool} → last < 10 → b ≡ (mask has last) → not b ≡ is_state (low_ring mask) last
  low_state h e = member_state (low_ring mask) h (low_member mask last h ∙ ap not (sym e))

  pub high_state_else : 10 ≤ last → (eqb last low_place || eqb last none) ≡ is_state (high_ring mask) last
  unfolding is_state
  high_state_else h = ap (λ (x : Bool). x || eqb last none) (sym (high_others mask last h))

  pub low_state_else : 10 ≤ last → eqb last none ≡ is_state (low_ring mask) last
  unfolding is_state
  low_state_else h = ap (λ (x : Bool). x || eqb last none) (sym (low_others mask last h))
