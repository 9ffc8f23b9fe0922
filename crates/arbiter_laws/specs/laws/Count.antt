-- How many places pass a test: the length of the list of those that it keeps.
use Rattle.std.specs.Prelude.{◌≡◌, refl, Bool, true, false, not, ◌&&◌, eqb, length}
use Rattle.std.proofs.Common.{sym, ◌∙◌, eq-or-lt_of_le, eq-eqb, ne_eqb}
use Rattle.std.proofs.Math.Path.{ap}
use Rattle.std.proofs.Math.Logic.{⊎_elim}
use Prim.Native.Nat.{ℕ, zero, suc, ◌+◌, ◌≤◌, ◌<◌}
use native.Mathlib.Omega.{arith}
use Rattle.std.proofs.lemmas.Bool.{false≢true}
use Rattle.arbiter.specs.definitions.Rings.{up_from, keep}
use Rattle.rack.specs.laws.Bools.{tested}
use Rattle.arbiter.specs.laws.Search.{keep_same}

-- the number of places among the n from i on that pass
abbrev pub count : (ℕ → Bool) → ℕ → ℕ → ℕ
count f i n = length (keep f (up_from i n))

module _ (f g : ℕ → Bool) where
  -- fewer pass a test that asks for more
  pub count_le : (n i : ℕ) → ((p : ℕ) → i ≤ p → p < i + n → f p ≡ true → g p ≡ true) → count f i n ≤ count g i n
  unfolding keep up_from
  count_le zero i h = omega arith
  count_le (suc n) i h =
      let ih = count_le n (i + 1) (λ p ge lt. h p (omega arith) (omega arith)) in
      tested (f i)
      (λ e. rw (e, h i (omega arith) (omega arith) e) (omega (arith, ih)))
      (λ e. tested (g i) (λ k. rw (e, k) (omega (arith, ih))) (λ k. rw (e, k) ih))

  -- one more passes a test that lets one more place pass
  pub count_one : (q n i : ℕ) → i ≤ q → q < i + n → f q ≡ false → g q ≡ true
      → ((p : ℕ) → i ≤ p → p < i + n → (p ≡ q → ⊥) → f p ≡ g p) → count f i n + 1 ≡ count g i n
  unfolding keep up_from
  count_one q zero i ge lt fq gq h = absurd (omega arith)
  count_one q (suc n) i ge lt fq gq h =
      ⊎_elim
      (λ (e : i ≡ q).
      let same = keep_same f g n (i + 1) (λ p ge' lt'. h p (omega arith) (omega arith) (λ q'. omega arith)) in
      rw (ap f e ∙ fq, ap g e ∙ gq, same) (omega arith))
      (λ (l : i < q).
      let ih = count_one q n (i + 1) (omega arith) (omega arith) fq gq (λ p ge' lt'. h p (omega arith) (omega arith)) in
      let here : f i ≡ g i = h i (omega arith) (omega arith) (λ q'. omega arith) in
      tested (g i) (λ k. rw (here, k) (omega (arith, ih))) (λ k. rw (here, k) ih))
      (eq-or-lt_of_le ge)

-- strictly fewer pass where one place is lost
pub count_lt : (f g : ℕ → Bool) (q n i : ℕ) → i ≤ q → q < i + n → f q ≡ false → g q ≡ true
    → ((p : ℕ) → i ≤ p → p < i + n → f p ≡ true → g p ≡ true) → count f i n < count g i n
count_lt f g q n i ge lt fq gq h =
    let without : ℕ → Bool = λ p. g p && not (eqb p q) in
    let one : count without i n + 1 ≡ count g i n =
    count_one without g q n i ge lt (rw (gq, eq-eqb q q refl)) gq (λ p ge' lt' ne. tested (g p) (λ k. rw (k, ne_eqb p q ne)) (λ k. rw k)) in
    let less : count f i n ≤ count without i n =
    count_le f without n i (λ p ge' lt' e. rw (h p ge' lt' e, ne_eqb p q (λ k. false≢true (sym fq ∙ ap f (sym k) ∙ e)))) in
    omega (arith, one, less)

-- nobody passes
pub count_none : (f : ℕ → Bool) (n i : ℕ) → ((p : ℕ) → i ≤ p → p < i + n → f p ≡ false) → count f i n ≡ 0
unfolding keep up_from
count_none f zero i h = refl
count_none f (suc n) i h = rw (h i (omega arith) (omega arith)) (count_none f n (i + 1) (λ p ge lt. h p (omega arith) (omega arith)))
