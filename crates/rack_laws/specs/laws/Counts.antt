-- Laws of counting below a number.
use Rattle.std.specs.Prelude.{◌≡◌, refl, Bool, true, false, ◌&&◌, cond, ◌⊎◌, ℕ, zero, suc, ◌+◌, ◌-◌, ◌≤◌, ◌<◌, eqb, ltb}
use Rattle.std.proofs.Common.{sym, ap, ◌∙◌, inl, inr, ⊎_elim, arith, add-one, eqb-true, eq-eqb, ltb-true, ltb-false}
use Rattle.std.proofs.lemmas.Bool.{false≢true}
use Rattle.rack.specs.definitions.Count.{count_of}
use Rattle.rack.specs.laws.CountLaws.{count_zero, count_step}
use Rattle.rack.specs.laws.Bools.{tested, both}

module _ (f : ℕ → Bool) where
  -- a longer count is no smaller
  count_up : (m k : ℕ) → count_of f m ≤ count_of f (m + k)
  count_up m zero = omega (arith, ap (count_of f) (end m))
    where
      end : (m : ℕ) → m + 0 ≡ m
      end m = omega arith
  count_up m (suc k) = omega (arith, count_up m k, count_step f (m + k), ap (count_of f) (next m k))
    where
      next : (m k : ℕ) → m + suc k ≡ m + k + 1
      next m k = omega arith

  pub count_mono : (m n : ℕ) → m ≤ n → count_of f m ≤ count_of f n
  count_mono m n h = let e : m + (n - m) ≡ n = omega arith in omega (arith, count_up m (n - m), ap (count_of f) e)

  -- a number that passes is counted past it
  pub count_past : (i : ℕ) → f i ≡ true → count_of f (i + 1) ≡ count_of f i + 1
  count_past i e = rw (count_step f i, e)

  pub count_lt : (i n : ℕ) → i < n → f i ≡ true → count_of f i < count_of f n
  count_lt i n h e = omega (arith, count_past i e, count_mono (i + 1) n (omega arith))

  -- a bound that holds where a number passes holds of the count
  pub count_bound : (k n : ℕ) → ((i : ℕ) → i < n → f i ≡ true → count_of f i < k) → count_of f n ≤ k
  count_bound k zero h = omega (arith, count_zero f)
  count_bound k (suc n) h =
      tested (f n)
      (λ e. omega (arith, h n (omega arith) e, count_past n e, ap (count_of f) (add-one n)))
      (λ e. omega (arith, count_bound k n (λ i hi. h i (omega arith)), skipped n e))
    where
      skipped : (n : ℕ) → f n ≡ false → count_of f (suc n) ≡ count_of f n
      skipped n e = let s : count_of f (n + 1) ≡ count_of f n + 0 = rw (count_step f n, e) in omega (arith, s, ap (count_of f) (add-one n))

  -- nothing passes
  pub count_none : (n : ℕ) → ((i : ℕ) → i < n → f i ≡ true → ⊥) → count_of f n ≡ 0
  count_none n h = omega (arith, count_bound 0 n (λ i hi e. absurd (h i hi e)))

  -- at most one passes
  pub count_one : (n : ℕ) → ((i j : ℕ) → i < n → j < n → f i ≡ true → f j ≡ true → i ≡ j) → count_of f n ≤ 1
  count_one n h =
      count_bound 1 n (λ i hi e.
      omega (arith, count_none i (λ j hj d. omega (arith, h j i (omega arith) hi d e))))

-- what passes one test passes one of two others
pub count_split : (f g h : ℕ → Bool) (n : ℕ) → ((i : ℕ) → i < n → f i ≡ true → (g i ≡ true) ⊎ (h i ≡ true))
    → count_of f n ≤ count_of g n + count_of h n
unfolding count_of
count_split f g h zero s = omega arith
count_split f g h (suc n) s =
    omega (arith, count_split f g h n (λ i hi. s i (omega arith)), cases (f n) (g n) (h n) (s n (omega arith)))
  where
    cases : (a b c : Bool) → (a ≡ true → (b ≡ true) ⊎ (c ≡ true)) → cond a 1 0 ≤ cond b 1 0 + cond c 1 0
    cases false b c s = omega arith
    cases true true c s = omega arith
    cases true false true s = omega arith
    cases true false false s = absurd (⊎_elim (λ e. false≢true e) (λ e. false≢true e) (s refl))

-- numbers that pass and are told apart by a value below m are at most m
pub count_values : (m : ℕ) (f : ℕ → Bool) (d : ℕ → ℕ) (n : ℕ) → ((i : ℕ) → i < n → f i ≡ true → d i < m)
    → ((i j : ℕ) → i < n → j < n → f i ≡ true → f j ≡ true → d i ≡ d j → i ≡ j) → count_of f n ≤ m
count_values zero f d n b u = omega (arith, count_none f n (λ i hi e. omega (arith, b i hi e)))
count_values (suc m) f d n b u =
    let lower : ℕ → Bool = λ i. f i && ltb (d i) m in
    let here : ℕ → Bool = λ i. f i && eqb (d i) m in
    omega (
      arith,
      count_split f lower here n (λ i hi e. parted (f i) (d i) e (b i hi e)),
      count_values m lower d n (λ i hi e. ltb-true (d i) m (both (f i) _ e).1) (λ i j hi hj e g. u i j hi hj (both (f i) _ e).0 (both (f j) _ g).0),
      count_one here n (λ i j hi hj e g. u i j hi hj (both (f i) _ e).0 (both (f j) _ g).0
          (eqb-true (d i) m (both (f i) _ e).1 ∙ sym (eqb-true (d j) m (both (f j) _ g).1))),
    )
  where
    parted : (a : Bool) (x : ℕ) → a ≡ true → x < suc m → (a && ltb x m ≡ true) ⊎ (a && eqb x m ≡ true)
    parted true x e h = tested (ltb x m) (λ q. inl q) (λ q. inr (eq-eqb x m (omega (arith, ltb-false x m q))))
    parted false x e h = absurd (false≢true e)
