-- A search upwards, place by place, and one that goes round.
use Rattle.std.specs.Prelude.{◌≡◌, ℕ, suc, ◌+◌, ◌-◌, ◌≤◌, ◌<◌, Bool, true, false, cond, Option, Some, None, eqb}
use Rattle.std.proofs.Common.{sym, ap, ◌∙◌, arith}
use Rattle.std.specs.Option.{MatchOption, option_or}
use borrow.Author.Tests.{ne_eqb}
use Rattle.arbiter.specs.definitions.Rings.{◌has◌, up_from, none, place_named, first_of}
use Rattle.arbiter.specs.definitions.SetSearch.{first_from, next_in}
use Rattle.rack.specs.laws.Bools.{tested}
use Rattle.arbiter.specs.laws.Search.{round}

first_step : (set place : ℕ) → place < 11 → first_from set place ≡ cond (set has place) place (first_from set (place + 1))
unfolding first_from first_of up_from
first_step set place h =
    let more : 11 - place ≡ suc (11 - (place + 1)) = omega arith in ap (λ (n : ℕ). first_of (λ p. set has p) (up_from place n)) more

module _ (set from place : ℕ) (inv : first_from set place ≡ first_from set from) where
  pub found_here : {b : Bool} → place < 11 → b ≡ (set has place) → b ≡ true → Some place ≡ place_named (first_from set from)
  found_here h e t =
      let found : place ≡ first_from set from = sym (first_step set place h ∙ rw (sym e, t)) ∙ inv in
      let named : place_named place ≡ Some place = rw (ne_eqb place none (λ q. omega arith)) in
      sym named ∙ ap place_named found

  pub found_later : {b : Bool} → place < 11 → b ≡ (set has place) → b ≡ false → first_from set (place + 1) ≡ first_from set from
  found_later h e t = sym (first_step set place h ∙ rw (sym e, t)) ∙ inv

  pub found_nowhere : 11 ≤ place → None ≡ place_named (first_from set from)
  unfolding first_from first_of up_from
  found_nowhere h =
      let left : 0 ≡ 11 - place = omega arith in
      ap place_named (ap (λ (n : ℕ). first_of (λ p. set has p) (up_from place n)) left ∙ inv)

or_named : (a b : ℕ) → option_or (place_named a) (place_named b) ≡ place_named (cond (eqb a none) b a)
or_named a b = tested (eqb a none) (λ k. rw k) (λ k. simp k)

-- a search that goes round is one above the last place, or else one from the lowest
pub round_or : (set last : ℕ) → option_or (place_named (first_from set (last + 1))) (place_named (first_from set 0)) ≡ place_named (next_in set last)
unfolding next_in first_from
round_or set last =
    or_named (first_of (λ p. set has p) (up_from (last + 1) (11 - (last + 1)))) (first_of (λ p. set has p) (up_from 0 11))
    ∙ ap place_named (sym (round (λ p. set has p) last))

-- what is found above, or else what a search from the lowest gives
pub round_or_else : (set last : ℕ) (o : Option ℕ) {r : Option ℕ} {P : Type 0} → o ≡ place_named (first_from set (last + 1))
    → MatchOption o P (λ x. r ≡ Some x) → (P → r ≡ place_named (first_from set 0)) → r ≡ place_named (next_in set last)
round_or_else set last None e p f = f p ∙ ap (λ q. option_or q (place_named (first_from set 0))) e ∙ round_or set last
round_or_else set last (Some x) e h f = h ∙ ap (λ q. option_or q (place_named (first_from set 0))) e ∙ round_or set last
