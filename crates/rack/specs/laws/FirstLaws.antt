-- A number, or the next; and the turns of a loop that looks for the first.
use Rattle.std.specs.Prelude.{◌≡◌, refl, Bool, true, false, List, [], ◌∷◌, ℕ, ◌+◌, ◌-◌, ◌≤◌, ◌<◌, eqb}
use Rattle.std.proofs.Math.Path.{sym}
use Rattle.std.proofs.Common.{ap, ◌∙◌, arith}
use borrow.Author.Tests.{eqb-true, eqb-false, eq-eqb, ne_eqb}
use Rattle.rack.specs.laws.Bools.{tested}
use Rattle.rack.specs.laws.CountLaws.{left_suc, left_none}
use Rattle.rack.specs.definitions.First.{◌when◌, ◌or◌, first, first_from, unless}

-- a number stands exactly where its test holds
pub when_not : (n : ℕ) (b : Bool) → (n ≡ 0 → ⊥) → n when b ≡ 0 → b ≡ false
when_not n true z e = absurd (z e)
when_not n false z e = refl

pub when_holds : (n : ℕ) (b : Bool) → (n when b ≡ 0 → ⊥) → (b ≡ true) × (n when b ≡ n)
when_holds n true z = (refl, refl)
when_holds n false z = absurd (z refl)

-- after a number there may be none
pub or_last : (n : ℕ) → n or 0 ≡ n
or_last n = tested (eqb n 0) (λ q. rw q (sym (eqb-true n 0 q))) (λ q. rw q)

module _ (n m : ℕ) where
  -- a number that applies comes before the next, and one that does not leaves it
  pub or_this : (n ≡ 0 → ⊥) → n or m ≡ n
  or_this z = rw (ne_eqb n 0 z)

  pub or_next : n ≡ 0 → n or m ≡ m
  or_next z = rw (eq-eqb n 0 z)

  -- none where neither applies, and only there
  pub or_none : n or m ≡ 0 → (n ≡ 0) × (m ≡ 0)
  or_none e =
      tested (eqb n 0) (λ q. let z = eqb-true n 0 q in (z, sym (or_next z) ∙ e))
      (λ q. let z = eqb-false n 0 q in absurd (z (sym (or_this z) ∙ e)))

-- a chain of tests in a function: what is returned is the first number. For a test that has given b, and for a number k that was found
module _ (ns : List ℕ) (n : ℕ) where
  pub chain_holds : {b c : Bool} → b ≡ c → b ≡ true → 0 < n → n ≡ first (n when c ∷ ns)
  unfolding first
  chain_holds e h z = rw (← e, h, ne_eqb n 0 (λ q. omega arith))

  pub chain_fails : {b c : Bool} {m : ℕ} → b ≡ c → b ≡ false → m ≡ first ns → m ≡ first (n when c ∷ ns)
  unfolding first
  chain_fails e h r = rw (← e, h) r

  pub chain_found : {k : ℕ} → k ≡ n → (k ≡ 0 → ⊥) → k ≡ first (n ∷ ns)
  unfolding first
  chain_found {k} e z = rw (← e, ne_eqb k 0 z)

pub chain_ends : 0 ≡ first []
unfolding first
chain_ends = refl

-- the turns of a loop over n places: none before i applies
abbrev pub NoneBefore : (ℕ → ℕ) → ℕ → ℕ → Type 0
NoneBefore f n i = first_from f 0 n ≡ first_from f i (n - i)

pub none_yet : (f : ℕ → ℕ) (n : ℕ) → NoneBefore f n 0
none_yet f n = let e : n ≡ n - 0 = omega arith in ap (first_from f 0) e

module _ (f : ℕ → ℕ) {n i : ℕ} (before : NoneBefore f n i) where
  pub none_next : {r : ℕ} → i < n → r ≡ f i → r ≡ 0 → NoneBefore f n (i + 1)
  unfolding first_from
  none_next h e z = before ∙ rw (left_suc i n h, eq-eqb (f i) 0 (sym e ∙ z))

  module _ {count : ℕ} (at : n ≡ count) where
    pub first_found : {r : ℕ} → i < n → r ≡ f i → (r ≡ 0 → ⊥) → r ≡ first_from f 0 count
    unfolding first_from
    first_found h e z = e ∙ sym (ap (first_from f 0) (sym at) ∙ before ∙ rw (left_suc i n h, ne_eqb (f i) 0 (λ q. z (e ∙ q))))

    pub none_found : n ≤ i → 0 ≡ first_from f 0 count
    unfolding first_from
    none_found h = sym (ap (first_from f 0) (sym at) ∙ before ∙ rw (left_none i n h))

-- a number, and none
module _ {A : Type 0} {n : ℕ} (given : A) (refused : ℕ → A) where
  pub unless_number : (n ≡ 0 → ⊥) → unless n given refused ≡ refused n
  unfolding unless
  unless_number ne = rw (ne_eqb n 0 ne)

  pub unless_none : n ≡ 0 → unless n given refused ≡ given
  unfolding unless
  unless_none z = rw (eq-eqb n 0 z)
