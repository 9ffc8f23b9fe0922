-- The first number that applies: what it means that n is the first that is not 0 among numbers at places. `first_from` gives exactly
-- that number, and 0 exactly where all are 0; the same of a list.
use Rattle.std.specs.Prelude.{◌≡◌, refl, List, [], ◌∷◌, eqb, ltb, length, get_or}
use Rattle.std.proofs.Math.Path.{sym, ap}
use Rattle.std.proofs.Common.{◌∙◌, add-one, arith}
use Prim.Native.Nat.{ℕ, zero, suc, ◌+◌, ◌≤◌, ◌<◌}
use borrow.Author.Tests.{eqb-true, eqb-false, ltb-true, ltb-false}
use Rattle.rack.specs.laws.Bools.{tested}
use Rattle.rack.specs.definitions.First.{◌or◌, first, first_from, First}
use Rattle.rack.specs.laws.FirstLaws.{or_none}

module _ {f : ℕ → ℕ} {count n m : ℕ} where
  -- two first places are one
  pub same_place : (a : First f count n) (b : First f count m) → a.place ≡ b.place
  same_place a b =
      tested (ltb a.place b.place)
      (λ l. absurd (a.applies (sym a.here ∙ b.earlier a.place (ltb-true a.place b.place l))))
      (λ l.
      tested (ltb b.place a.place)
      (λ r. absurd (b.applies (sym b.here ∙ a.earlier b.place (ltb-true b.place a.place r))))
      (λ r. omega (arith, ltb-false a.place b.place l, ltb-false b.place a.place r)))

  -- so no other number is first
  pub same_number : First f count n → First f count m → n ≡ m
  same_number a b = sym a.here ∙ ap f (same_place a b) ∙ b.here

module _ (f : ℕ → ℕ) where
  found_from : (i left count : ℕ) → i + left ≡ count → ((j : ℕ) → j < i → f j ≡ 0) → (first_from f i left ≡ 0 → ⊥)
      → First f count (first_from f i left)
  unfolding first_from
  found_from i zero count s c z = absurd (z refl)
  found_from i (suc left) count s c z =
      tested (eqb (f i) 0)
      (λ q.
      let e : first_from f i (suc left) ≡ first_from f (i + 1) left = rw q in
      let r = found_from (i + 1) left count (omega arith)
      (λ j h. tested (eqb j i) (λ w. ap f (eqb-true j i w) ∙ eqb-true (f i) 0 q) (λ w. c j (omega (arith, eqb-false j i w))))
      (λ w. z (e ∙ w)) in
      record { place = r.place; inside = omega (arith, r.inside); earlier = r.earlier; here = r.here ∙ sym e; applies = z })
      (λ q. record { place = i; inside = omega arith; earlier = c; here = rw q; applies = z })

  none_from : (i left : ℕ) → first_from f i left ≡ 0 → (j : ℕ) → i ≤ j → j < i + left → f j ≡ 0
  unfolding first_from
  none_from i zero z j a b = absurd (omega arith)
  none_from i (suc left) z j a b =
      let o = or_none (f i) (first_from f (i + 1) left) z in
      tested (eqb j i) (λ w. ap f (eqb-true j i w) ∙ o.0)
      (λ w. none_from (i + 1) left o.1 j (omega (arith, eqb-false j i w)) (omega arith))

  module _ (count : ℕ) where
    -- the number given is the first that applies
    pub given : (first_from f 0 count ≡ 0 → ⊥) → First f count (first_from f 0 count)
    given z = found_from 0 count count (omega arith) (λ j h. absurd (omega arith)) z

    -- 0 is given exactly where none does
    pub none_given : first_from f 0 count ≡ 0 → (j : ℕ) → j < count → f j ≡ 0
    none_given z j h = none_from 0 count z j (omega arith) (omega arith)

    pub gives_none : ((j : ℕ) → j < count → f j ≡ 0) → first_from f 0 count ≡ 0
    gives_none h =
        tested (eqb (first_from f 0 count) 0) (λ q. eqb-true (first_from f 0 count) 0 q)
        (λ q. let g = given (eqb-false (first_from f 0 count) 0 q) in absurd (g.applies (sym g.here ∙ h g.place g.inside)))

    -- the first that applies is given
    pub gives : {n : ℕ} → First f count n → first_from f 0 count ≡ n
    gives a =
        tested (eqb (first_from f 0 count) 0)
        (λ q. absurd (a.applies (sym a.here ∙ none_given (eqb-true (first_from f 0 count) 0 q) a.place a.inside)))
        (λ q. same_number (given (eqb-false (first_from f 0 count) 0 q)) a)

-- the number at a place of a list
abbrev pub at : List ℕ → ℕ → ℕ
at ns k = get_or ns k 0

-- the first of a list is the first of the numbers at its places
from_suc : (f : ℕ → ℕ) (i left : ℕ) → first_from f (i + 1) left ≡ first_from (λ k. f (suc k)) i left
unfolding first_from
from_suc f i zero = refl
from_suc f i (suc left) =
    ap (λ n. f n or first_from f (i + 1 + 1) left) (add-one i) ∙ ap (λ m. f (suc i) or m) (from_suc f (i + 1) left)

first_is : (ns : List ℕ) → first ns ≡ first_from (at ns) 0 (length ns)
unfolding first first_from
first_is [] = refl
first_is (n ∷ ns) = ap (λ m. n or m) (first_is ns ∙ sym (from_suc (at (n ∷ ns)) 0 (length ns)))

module _ (ns : List ℕ) where
  pub list_given : (first ns ≡ 0 → ⊥) → First (at ns) (length ns) (first ns)
  list_given z = rw (first_is ns) (given (at ns) (length ns) (λ e. z (first_is ns ∙ e)))

  pub list_gives : {n : ℕ} → First (at ns) (length ns) n → first ns ≡ n
  list_gives a = first_is ns ∙ gives (at ns) (length ns) a

  pub list_none_given : first ns ≡ 0 → (k : ℕ) → k < length ns → at ns k ≡ 0
  list_none_given z = none_given (at ns) (length ns) (sym (first_is ns) ∙ z)

  pub list_gives_none : ((k : ℕ) → k < length ns → at ns k ≡ 0) → first ns ≡ 0
  list_gives_none h = first_is ns ∙ gives_none (at ns) (length ns) h
