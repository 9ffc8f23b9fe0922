-- What `any`, `filter` with `count`, and `find` say of a range of numbers, in the words of `Count`.
use Rattle.std.specs.Prelude.{◌≡◌, refl, ℕ, zero, suc, ◌+◌, ◌-◌, ◌≤◌, ◌<◌, Bool, true, false, cond, Option, Some, None, List, ◌∷◌, length, eqb, get_or}
use Rattle.std.proofs.Common.{sym, ap, ◌∙◌, arith, eqb-true}
use Rattle.std.proofs.lemmas.Bool.{false≢true, eqb-false}
use Rattle.std.specs.Bool.{MatchBool}
use Rattle.std.specs.Fn.{Called, CalledAt}
use Rattle.std.specs.Option.{MatchOption}
use Rattle.std.specs.List.{FoldsTo, range_with_len, AllWithin, HoldsAt, filter}
use Rattle.std.specs.Iterator.{YieldsThen, Drains}
use Rattle.std.specs.Iterator.Adapters.{filter_source, filter_callee, filter_steps}
use Rattle.std.specs.declared.ops.Range.{Range}
use Rattle.std.specs.declared.iter.Filter.{Filter}
use Rattle.std.proofs.iter.Yields.{nat_range_steps}
use Rattle.std.proofs.lemmas.List.FromFn.{length-range_with_len, get_or-range_with_len}
use Rattle.std.proofs.lemmas.Iterator.{cases_from_any, YieldsList-from_range, first_from_Range}
use Rattle.std.proofs.lemmas.Iterator.Consumers.{YieldsList-from_filter, count_from_yields_List}
use denote.Param.Members.{Mut}
use denote.Ref.{Bor}
use Rattle.rack.specs.laws.Search.{from_none, from_all}
use Rattle.rack.specs.laws.Bools.{not_fails, tested}
use Rattle.rack.specs.laws.CountLaws.{count_zero, count_step}
use Rattle.rack.specs.definitions.Count.{count_of, some_from, some, find_from}

-- `any` over a range
module _ (p : ℕ → Bool) (a n : ℕ) where
  at : (k : ℕ) → k < n → get_or (range_with_len a n) k 0 ≡ a + k
  at k h = get_or-range_with_len a n k 0 h

  long : length (range_with_len a n) ≡ n
  long = length-range_with_len a n

  searched : (r : Bool)
      → MatchBool r ((k : ℕ) × (k < length (range_with_len a n)) × HoldsAt (λ k. p k ≡ true) (range_with_len a n) k)
      (AllWithin (λ k. p k ≡ false) (range_with_len a n) 0 (length (range_with_len a n)))
      → r ≡ some_from p a n
  searched true h =
      let k : h.0 < n = omega (arith, long, h.1) in
      sym (not_fails (some_from p a n)
      (λ q. false≢true (sym (from_none p a n q (a + h.0) (omega arith) (omega arith)) ∙ ap p (sym (at h.0 k)) ∙ h.2 0)))
  searched false h =
      sym (from_all p a n (λ k l u.
      let j : k - a < n = omega arith in
      let e : get_or (range_with_len a n) (k - a) 0 ≡ k = omega (arith, at (k - a) j) in
      ap p (sym e) ∙ h (k - a) 0 (omega arith) (omega (arith, long))))

module _ {F : Type 0} {g : Mut F (ℕ × Unit {0}) Bool} {s u : Range ℕ} {f : F} (p : ℕ → Bool) where
  within : (a b n : ℕ) {r : Bool}
      → (xs : List ℕ) × (o : Option ℕ) × (j : F) × YieldsThen nat_range_steps s xs o u × FoldsTo (λ h x q. Called g h (x, tt) false q) f xs j
      × MatchOption o (r ≡ false) (λ x. (r ≡ true) × ((h : F) × Called g j (x, tt) true h))
      → s ≡ record { start = a; end = b } → b - a ≡ n → ((x : ℕ) (q : F) → Called g f (x, tt) true q → p x ≡ true)
      → ((x : ℕ) (q : F) → Called g f (x, tt) false q → (q ≡ f) × (p x ≡ false)) → r ≡ some_from p a n
  within a b n {r} ran e m passes fails =
      searched p a n r (cases_from_any u f r (λ k. p k ≡ true) (λ k. p k ≡ false) ran (YieldsList-from_range a b n e m) passes fails)

  -- of `(a..b).any(..)`: the fact `ran`, which range it is, and what the closure says when it gives true and when false
  pub any_from : (a b : ℕ) {r : Bool}
      → (xs : List ℕ) × (o : Option ℕ) × (j : F) × YieldsThen nat_range_steps s xs o u × FoldsTo (λ h x q. Called g h (x, tt) false q) f xs j
      × MatchOption o (r ≡ false) (λ x. (r ≡ true) × ((h : F) × Called g j (x, tt) true h))
      → s ≡ record { start = a; end = b } → ((x : ℕ) (q : F) → Called g f (x, tt) true q → p x ≡ true)
      → ((x : ℕ) (q : F) → Called g f (x, tt) false q → (q ≡ f) × (p x ≡ false)) → r ≡ some_from p a (b - a)
  any_from a b ran e passes fails = within a b (b - a) ran e refl passes fails

  pub any_some : (n : ℕ) {r : Bool}
      → (xs : List ℕ) × (o : Option ℕ) × (j : F) × YieldsThen nat_range_steps s xs o u × FoldsTo (λ h x q. Called g h (x, tt) false q) f xs j
      × MatchOption o (r ≡ false) (λ x. (r ≡ true) × ((h : F) × Called g j (x, tt) true h))
      → s ≡ record { start = 0; end = n } → ((x : ℕ) (q : F) → Called g f (x, tt) true q → p x ≡ true)
      → ((x : ℕ) (q : F) → Called g f (x, tt) false q → (q ≡ f) × (p x ≡ false)) → r ≡ some p n
  any_some n ran e passes fails = within 0 n n ran e (omega arith) passes fails

-- `filter` and `count` over a range
counted : (p : ℕ → Bool) (i n : ℕ) → length (filter p (range_with_len i n)) + count_of p i ≡ count_of p (i + n)
counted p i zero = let e : 0 + count_of p i ≡ count_of p i = omega arith in let j : i ≡ i + 0 = omega arith in e ∙ ap (count_of p) j
counted p i (suc n) =
    let e : i + 1 + n ≡ i + suc n = omega arith in
    let h : length (filter p (range_with_len (i + 1) n)) + count_of p (i + 1) ≡ count_of p (i + suc n) = counted p (i + 1) n ∙ ap (count_of p) e in
    step (p i) refl h
  where
    step : (b : Bool) → b ≡ p i → length (filter p (range_with_len (i + 1) n)) + count_of p (i + 1) ≡ count_of p (i + suc n)
        → length (cond b (i ∷ filter p (range_with_len (i + 1) n)) (filter p (range_with_len (i + 1) n))) + count_of p i ≡ count_of p (i + suc n)
    step true q h = let e : count_of p (i + 1) ≡ count_of p i + 1 = rw (count_step p i, ← q) refl in omega (arith, e, h)
    step false q h = let e : count_of p (i + 1) ≡ count_of p i + 0 = rw (count_step p i, ← q) refl in omega (arith, e, h)

-- of `(0..n).filter(..).count()`: the fact `ran` of `count`, the facts `source` and `closure` of `filter`, and what the closure says
pub count_range : {F : Type 0} {g : Mut F (Bor ℕ × Unit {0}) Bool} {s : Filter (Range ℕ) F} {f : F} (p : ℕ → Bool) (n : ℕ) {r : ℕ}
    → (xs : List ℕ) × Drains (filter_steps nat_range_steps g) s xs × (r ≡ length xs)
    → filter_source s ≡ record { start = 0; end = n } → filter_callee s ≡ f
    → ((x : ℕ) (b : Bool) (q : F) → CalledAt g f x b q → (q ≡ f) × (b ≡ p x)) → r ≡ count_of p n
count_range {g = g} {s = s} {f = f} p n {r} ran source callee passes =
    let h = count_from_yields_List s r ran (YieldsList-from_filter g p (YieldsList-from_range 0 n n source (omega arith)) callee passes) in
    let e : 0 + n ≡ n = omega arith in
    let k : count_of p (0 + n) ≡ count_of p n = ap (count_of p) e in
    omega (arith, h, counted p 0 n, count_zero p, k)

-- `find` over a range
first_of : (p : ℕ → Bool) (a n : ℕ) (r : Option ℕ)
    → MatchOption r ((k : ℕ) → a ≤ k → k < a + n → p k ≡ false) (λ i. (a ≤ i) × (i < a + n) × (p i ≡ true) × ((k : ℕ) → a ≤ k → k < i → p k ≡ false))
    → r ≡ find_from p a n
unfolding find_from
first_of p a zero None h = refl
first_of p a (suc n) None h = rw (h a (omega arith) (omega arith)) (first_of p (a + 1) n None (λ k l u. h k (omega arith) (omega arith)))
first_of p a zero (Some i) h = absurd (omega (arith, h.0, h.1))
first_of p a (suc n) (Some i) h =
    tested (eqb a i)
    (λ q. let e : a ≡ i = eqb-true a i q in rw (ap p e ∙ h.2) (ap Some (sym e)))
    (λ q.
    let l : a < i = omega (arith, h.0, eqb-false a i q) in
    rw (h.3 a (omega arith) l)
    (first_of p (a + 1) n (Some i) (omega arith, omega (arith, h.1), h.2, λ k x y. h.3 k (omega arith) y)))

-- of `(a..b).find(..)`: what is left of the range, the fact `ran`, which range it is, and what the closure says when it gives true and when false
pub find_first : {F : Type 0} {g : Mut F (Bor ℕ × Unit {0}) Bool} {s : Range ℕ} {f : F} (p : ℕ → Bool) (a b : ℕ) (u : Range ℕ) {r : Option ℕ}
    → (xs : List ℕ) × (j : F) × YieldsThen nat_range_steps s xs r u × FoldsTo (λ h x q. CalledAt g h x false q) f xs j
    × MatchOption r (Unit {0}) (λ x. (h : F) × CalledAt g j x true h)
    → s ≡ record { start = a; end = b } → ((x : ℕ) (q : F) → CalledAt g f x true q → p x ≡ true)
    → ((x : ℕ) (q : F) → CalledAt g f x false q → (q ≡ f) × (p x ≡ false)) → r ≡ find_from p a (b - a)
find_first {s = s} {f = f} p a b u {r} ran e passes fails =
    first_of p a (b - a) r (by r (first_from_Range s u f r (λ k. p k ≡ true) (λ k. p k ≡ false) ran passes fails))
  where
    start : s.start ≡ a
    start = ap (λ (k : Range ℕ). k.start) e

    end : s.end ≡ b
    end = ap (λ (k : Range ℕ). k.end) e

    by : (o : Option ℕ)
        → MatchOption o ((k : ℕ) → s.start ≤ k → k < s.end → p k ≡ false) (λ i. (s.start ≤ i) × (i < s.end) × (p i ≡ true) × ((k : ℕ) → s.start ≤ k → k < i → p k ≡ false))
        → MatchOption o ((k : ℕ) → a ≤ k → k < a + (b - a) → p k ≡ false) (λ i. (a ≤ i) × (i < a + (b - a)) × (p i ≡ true) × ((k : ℕ) → a ≤ k → k < i → p k ≡ false))
    by None h = λ k l u. h k (omega (arith, start)) (omega (arith, end))
    by (Some i) h =
        let l : s.start ≤ i = h.0 in
        let u : i < s.end = h.1 in
        (omega (arith, start), omega (arith, end, start), h.2, λ k x y. h.3 k (omega (arith, start)) y)
