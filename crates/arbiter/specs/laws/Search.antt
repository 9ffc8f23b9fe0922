-- Laws of the search in a ring: over all eleven places it finds what it finds in the ring's list, and it is two searches upwards.
use Rattle.std.specs.Prelude.{◌≡◌, ◌⊎◌, Bool, true, false, ◌&&◌, List, [], ◌∷◌, ◌++◌, eqb}
use Rattle.std.specs.Option.{unwrap_or}
use Rattle.std.proofs.Math.Path.{refl, ap, ap₂}
use Rattle.std.proofs.Common.{sym, ◌∙◌, inr, eq-or-lt_of_le}
use Rattle.std.proofs.Math.Logic.{inl, ⊎_elim, ⊎_map}
use Prim.Native.Nat.{ℕ, zero, suc, ◌+◌, ◌-◌, ◌≤◌, ◌<◌}
use native.Mathlib.Omega.{arith}
use Rattle.std.proofs.Math.Bool.{cond}
use Rattle.std.proofs.Math.Dec.{leb, ltb}
use borrow.Author.Tests.{lt-ltb, le-ltb, ne_eqb, eqb-true, leb-false}
use Rattle.rack.specs.laws.Bools.{tested}
use Rattle.arbiter.specs.definitions.Rings.{up_from, keep, none, place_named, onwards, first_of}

-- a number that may be none, as an option and back
pub named_or : (n : ℕ) → unwrap_or (place_named n) none ≡ n
named_or n = tested (eqb n none) (λ k. rw k (sym (eqb-true n none k))) (λ k. rw k)

pub keep_append : (f : ℕ → Bool) (xs ys : List ℕ) → keep f (xs ++ ys) ≡ keep f xs ++ keep f ys
unfolding keep
keep_append f [] ys = refl
keep_append f (x ∷ xs) ys = told (f x) (keep_append f xs ys)
  where
    told : (a : Bool) → keep f (xs ++ ys) ≡ keep f xs ++ keep f ys
        → cond a (x ∷ keep f (xs ++ ys)) (keep f (xs ++ ys)) ≡ cond a (x ∷ keep f xs) (keep f xs) ++ keep f ys
    told true ih = ap {B = List ℕ} (λ r. x ∷ r) ih
    told false ih = ih

-- two tests in either order
keep_swap : (f g : ℕ → Bool) (xs : List ℕ) → keep f (keep g xs) ≡ keep g (keep f xs)
unfolding keep
keep_swap f g [] = refl
keep_swap f g (x ∷ xs) = told (f x) (g x) refl refl (keep_swap f g xs)
  where
    told : (a b : Bool) → f x ≡ a → g x ≡ b → keep f (keep g xs) ≡ keep g (keep f xs)
        → keep f (cond (g x) (x ∷ keep g xs) (keep g xs)) ≡ keep g (cond (f x) (x ∷ keep f xs) (keep f xs))
    told true true ea eb ih = simp (ea, eb, ih)
    told true false ea eb ih = simp (ea, eb, ih)
    told false true ea eb ih = simp (ea, eb, ih)
    told false false ea eb ih = simp (ea, eb, ih)

-- the first that passes among those kept passes both tests
first_kept : (f g : ℕ → Bool) (xs : List ℕ) → first_of f (keep g xs) ≡ first_of (λ p. g p && f p) xs
unfolding keep first_of
first_kept f g [] = refl
first_kept f g (x ∷ xs) = told (g x) refl (first_kept f g xs)
  where
    told : (b : Bool) → g x ≡ b → first_of f (keep g xs) ≡ first_of (λ p. g p && f p) xs
        → first_of f (cond (g x) (x ∷ keep g xs) (keep g xs)) ≡ cond (g x && f x) x (first_of (λ p. g p && f p) xs)
    told true eb ih = simp (eb, ih)
    told false eb ih = simp (eb, ih)

-- a search in a ring is one over all places, for those of the ring
pub first_ring : (f g : ℕ → Bool) (last : ℕ) (xs : List ℕ) → first_of f (onwards last (keep g xs)) ≡ first_of (λ p. g p && f p) (onwards last xs)
unfolding onwards
first_ring f g last xs =
    let above = keep (λ p. ltb last p) xs in
    let others = keep (λ p. leb p last) xs in
    ap (first_of f)
    (ap₂ {C = List ℕ} (λ a b. a ++ b) (keep_swap (λ p. ltb last p) g xs) (keep_swap (λ p. leb p last) g xs)
    ∙ sym (keep_append g above others))
    ∙ first_kept f g (above ++ others)

-- searches upwards: the n places from i on
module _ (f g : ℕ → Bool) where
  pub first_same : (n i : ℕ) → ((p : ℕ) → i ≤ p → p < i + n → f p ≡ g p) → first_of f (up_from i n) ≡ first_of g (up_from i n)
  unfolding first_of up_from
  first_same zero i h = refl
  first_same (suc n) i h =
      rw (h i (omega arith) (omega arith), first_same n (i + 1) (λ p ge lt. h p (omega arith) (omega arith)))

  pub keep_same : (n i : ℕ) → ((p : ℕ) → i ≤ p → p < i + n → f p ≡ g p) → keep f (up_from i n) ≡ keep g (up_from i n)
  unfolding keep up_from
  keep_same zero i h = refl
  keep_same (suc n) i h =
      rw (h i (omega arith) (omega arith), keep_same n (i + 1) (λ p ge lt. h p (omega arith) (omega arith)))

-- what a search upwards comes to: nobody in its places passes, or the first one who does
pub record Nobody (f : ℕ → Bool) (i n r : ℕ) : Type 0 where
  pub is_none : r ≡ none
  pub fails : (p : ℕ) → i ≤ p → p < i + n → f p ≡ false

pub record Found (f : ℕ → Bool) (i n r : ℕ) : Type 0 where
  pub from : i ≤ r
  pub below : r < i + n
  pub passes : f r ≡ true
  pub first : (p : ℕ) → i ≤ p → p < r → f p ≡ false

module _ (f : ℕ → Bool) where
  before : (i k : ℕ) → f i ≡ false → ((p : ℕ) → i + 1 ≤ p → p < k → f p ≡ false) → (p : ℕ) → i ≤ p → p < k → f p ≡ false
  before i k e h p ge lt = ⊎_elim (λ q. ap f (sym q) ∙ e) (λ q. h p (omega arith) lt) (eq-or-lt_of_le ge)

  pub searched : (n i : ℕ) → Nobody f i n (first_of f (up_from i n)) ⊎ Found f i n (first_of f (up_from i n))
  unfolding first_of up_from
  searched zero i = inl (record { is_none = refl; fails = λ p ge lt. absurd (omega arith) })
  searched (suc n) i =
      tested (f i)
      (λ e. rw e (inr (record { from = omega arith; below = omega arith; passes = e; first = λ p ge lt. absurd (omega arith) })))
      (λ e. rw e (⊎_map
      (λ (h : Nobody f (i + 1) n (first_of f (up_from (i + 1) n))).
      record { is_none = h.is_none; fails = λ p ge lt. before i (i + 1 + n) e h.fails p ge (omega arith) })
      (λ (h : Found f (i + 1) n (first_of f (up_from (i + 1) n))).
      record {
        from = omega (arith, h.from);
        below = omega (arith, h.below);
        passes = h.passes;
        first = before i (first_of f (up_from (i + 1) n)) e h.first;
      })
      (searched n (i + 1))))

  -- of two lists the first that has one; its places are below 15
  first_append : (g : ℕ → Bool) (ys : List ℕ) (n i : ℕ) → n ≤ none - i
      → first_of f (keep g (up_from i n) ++ ys)
      ≡ cond (eqb (first_of f (keep g (up_from i n))) none) (first_of f ys) (first_of f (keep g (up_from i n)))
  unfolding first_of up_from keep
  first_append g ys zero i few = refl
  first_append g ys (suc n) i few =
      let ih = first_append g ys n (i + 1) (omega arith) in
      tested (g i)
      (λ k. tested (f i) (λ e. simp (k, e, ne_eqb i none (omega arith))) (λ e. simp (k, e, ih)))
      (λ k. simp (k, ih))

  -- those above `last` are the places from there on
  first_above : (last n i : ℕ) → i ≤ last + 1
      → first_of (λ p. ltb last p && f p) (up_from i n) ≡ first_of f (up_from (last + 1) (i + n - (last + 1)))
  unfolding first_of up_from
  first_above last zero i le =
      let left : 0 ≡ i + 0 - (last + 1) = omega arith in ap (λ (k : ℕ). first_of f (up_from (last + 1) k)) left
  first_above last (suc n) i le =
      ⊎_elim
      (λ (e : i ≡ last + 1).
      let left : suc n ≡ i + suc n - (last + 1) = omega arith in
      first_same (λ p. ltb last p && f p) f (suc n) i (λ p ge lt. rw (lt-ltb last p (omega arith)))
      ∙ ap₂ (λ (a b : ℕ). first_of f (up_from a b)) e left)
      (λ (lt : i < last + 1).
      let left : i + 1 + n - (last + 1) ≡ i + suc n - (last + 1) = omega arith in
      rw (le-ltb last i (omega arith))
      (first_above last n (i + 1) (omega arith) ∙ ap (λ (k : ℕ). first_of f (up_from (last + 1) k)) left))
      (eq-or-lt_of_le le)

  -- where nobody is found above `last`, whoever is found is up to it
  first_others : (last : ℕ) → first_of f (up_from (last + 1) (11 - (last + 1))) ≡ none
      → first_of (λ p. leb p last && f p) (up_from 0 11) ≡ first_of f (up_from 0 11)
  first_others last e =
      first_same (λ p. leb p last && f p) f 11 0 (λ p ge lt. tested (leb p last) (λ k. rw k)
      (λ k. let h : last < p = leb-false p last k in
      rw k (sym (⊎_elim
      (λ (q : Nobody f (last + 1) (11 - (last + 1)) (first_of f (up_from (last + 1) (11 - (last + 1))))). q.fails p (omega arith) (omega arith))
      (λ (q : Found f (last + 1) (11 - (last + 1)) (first_of f (up_from (last + 1) (11 - (last + 1))))). absurd (omega (arith, q.below, q.from)))
      (searched (11 - (last + 1)) (last + 1))))))

  -- a search that goes round is two upwards: above `last`, and else from the lowest place
  pub round : (last : ℕ) → first_of f (onwards last (up_from 0 11))
      ≡ cond (eqb (first_of f (up_from (last + 1) (11 - (last + 1)))) none) (first_of f (up_from 0 11))
      (first_of f (up_from (last + 1) (11 - (last + 1))))
  unfolding onwards
  round last =
      let above = first_kept f (λ p. ltb last p) (up_from 0 11) ∙ first_above last 11 0 (omega arith) in
      first_append (λ p. ltb last p) (keep (λ p. leb p last) (up_from 0 11)) 11 0 (omega arith)
      ∙ ap₂ (λ (a b : ℕ). cond (eqb a none) b a) above (first_kept f (λ p. leb p last) (up_from 0 11))
      ∙ tested (eqb (first_of f (up_from (last + 1) (11 - (last + 1)))) none)
      (λ k. rw k (first_others last (eqb-true _ none k))) (λ k. rw k)

-- tests that agree at all places find the same, going round
pub round_same : (f g : ℕ → Bool) (last : ℕ) → ((p : ℕ) → p < 11 → f p ≡ g p)
    → first_of f (onwards last (up_from 0 11)) ≡ first_of g (onwards last (up_from 0 11))
round_same f g last h =
    round f last
    ∙ ap₂ (λ (a b : ℕ). cond (eqb a none) b a)
    (first_same f g (11 - (last + 1)) (last + 1) (λ p ge lt. h p (omega arith))) (first_same f g 11 0 (λ p ge lt. h p (omega arith)))
    ∙ sym (round g last)
