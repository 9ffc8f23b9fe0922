-- Laws of counting and searching below a number.
use Rattle.std.specs.Prelude.{◌≡◌, refl, ℕ, zero, suc, ◌+◌, ◌-◌, ◌≤◌, ◌<◌, Bool, true, false, not, cond}
use Rattle.std.proofs.Math.Path.{sym}
use Rattle.std.proofs.Common.{ap, ◌∙◌, add-one, arith, lit≤}
use Rattle.rack.specs.definitions.Count.{count_of, some_from}

pub cond_le : (b : Bool) (x y n : ℕ) → x ≤ n → y ≤ n → cond b x y ≤ n
cond_le true x y n hx hy = hx
cond_le false x y n hx hy = hy

pub count_zero : (f : ℕ → Bool) → count_of f 0 ≡ 0
unfolding count_of
count_zero f = refl

pub count_step : (f : ℕ → Bool) (n : ℕ) → count_of f (n + 1) ≡ count_of f n + cond (f n) 1 0
unfolding count_of
count_step f n = rw add-one

pub count_le : (f : ℕ → Bool) (n : ℕ) → count_of f n ≤ n
unfolding count_of
count_le f zero = omega arith
count_le f (suc n) = omega (arith, count_le f n, cond_le (f n) 1 0 1 (lit≤ tt) (lit≤ tt))

-- tests that agree below n count the same
pub count_same : (f g : ℕ → Bool) (n : ℕ) → ((i : ℕ) → i < n → f i ≡ g i) → count_of f n ≡ count_of g n
unfolding count_of
count_same f g zero s = refl
count_same f g (suc n) s = rw (count_same f g n (λ i h. s i (omega arith)), s n (omega arith))

-- a test and its opposite count every number
pub count_both : (f : ℕ → Bool) (n : ℕ) → count_of f n + count_of (λ i. not (f i)) n ≡ n
unfolding count_of
count_both f zero = refl
count_both f (suc n) = omega (arith, count_both f n, one (f n))
  where
    one : (b : Bool) → cond b 1 0 + cond (not b) 1 0 ≡ 1
    one true = refl
    one false = refl

-- a turn of a loop that counts
pub count_again : (f : ℕ → Bool) (i : ℕ) {k v : ℕ} {b : Bool} → k ≡ count_of f i → b ≡ f i → v ≡ cond b 1 0
    → k + v ≡ count_of f (i + 1)
count_again f i ek eb ev = rw (count_step f i, ek, ev, eb)

pub count_all : (f : ℕ → Bool) {i n k : ℕ} → k ≡ count_of f i → i ≤ n → n ≤ i → k ≡ count_of f n
count_all f {i} {n} e l h = let q : i ≡ n = omega arith in e ∙ ap (count_of f) q

-- the turns of a loop that searches from j on
pub left_suc : (j n : ℕ) → j < n → n - j ≡ suc (n - (j + 1))
left_suc j n h = omega arith

pub left_none : (j n : ℕ) → n ≤ j → n - j ≡ 0
left_none j n h = omega arith

-- a search that has found none before i
abbrev pub NoneYet : (ℕ → Bool) → ℕ → ℕ → Type 0
NoneYet f n i = some_from f 0 n ≡ some_from f i (n - i)

pub none_yet : (f : ℕ → Bool) (n : ℕ) → NoneYet f n 0
none_yet f n = let e : n ≡ n - 0 = omega arith in ap (some_from f 0) e

module _ (f : ℕ → Bool) {n i : ℕ} (yet : NoneYet f n i) where
  pub some_next : {b : Bool} → i < n → b ≡ f i → b ≡ false → NoneYet f n (i + 1)
  unfolding some_from
  some_next h e q = yet ∙ rw (left_suc i n h, ← e, q)

  module _ {count : ℕ} (at : n ≡ count) where
    pub some_found : {b : Bool} → i < n → b ≡ f i → b ≡ true → true ≡ some_from f 0 count
    unfolding some_from
    some_found h e q = sym (ap (some_from f 0) (sym at) ∙ yet ∙ rw (left_suc i n h, ← e, q))

    pub some_none : n ≤ i → false ≡ some_from f 0 count
    unfolding some_from
    some_none h = sym (ap (some_from f 0) (sym at) ∙ yet ∙ rw (left_none i n h))
