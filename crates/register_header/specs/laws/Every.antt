-- A rule of a table, proved at all of its entries by one test that antt computes, one entry after the other.
use Rattle.std.specs.Prelude.{◌≡◌, refl, Bool, true, ◌&&◌, List, [], ◌∷◌, ℕ, zero, suc, ◌+◌, ◌≤◌, ◌<◌, ltb, length, get_or}
use Rattle.std.proofs.Common.{◌∙◌, sym, subst, add-zero, zero-add, add-suc, suc-add, le_of_suc-le-suc, not-suc-le-zero, arith, ltb-true, ltb-false}
use Rattle.std.proofs.Math.Bool.{and-eq-true_iff}
use Rattle.std.proofs.Math.ListN.{get_or-eq_default}
use Rattle.rack.specs.declared.Kind.{Kind}
use Rattle.rack.specs.declared.Kind.TheVariants.{Bridge, OlderBridge, Device}
use Rattle.rack.specs.laws.Bools.{tested}
use Rattle.register_header.specs.definitions.Tables.{write_table, clear_table, reset_table}

-- the test f passes at each entry of the list and its place, counted from i
abbrev pub every : (ℕ → ℕ → Bool) → ℕ → List ℕ → Bool
every f i [] = true
every f i (x ∷ xs) = f i x && every f (suc i) xs

from : (f : ℕ → ℕ → Bool) (xs : List ℕ) (i : ℕ) → every f i xs ≡ true → (k : ℕ) → k < length xs → f (i + k) (get_or xs k 0) ≡ true
from f [] i t k h = absurd (not-suc-le-zero h)
from f (x ∷ xs) i t zero h =
    subst (λ (m : ℕ). f m x ≡ true) (sym (add-zero i)) ((and-eq-true_iff (f i x) (every f (suc i) xs)).0 t).0
from f (x ∷ xs) i t (suc k) h =
    subst (λ (m : ℕ). f m (get_or xs k 0) ≡ true) (suc-add i k ∙ sym (add-suc i k))
    (from f xs (suc i) ((and-eq-true_iff (f i x) (every f (suc i) xs)).0 t).1 k (le_of_suc-le-suc h))

pub at : (f : ℕ → ℕ → Bool) (xs : List ℕ) → every f 0 xs ≡ true → (k : ℕ) → k < length xs → f k (get_or xs k 0) ≡ true
at f xs t k h = subst (λ (m : ℕ). f m (get_or xs k 0) ≡ true) (zero-add k) (from f xs 0 t k h)

-- the tables have 64 entries of each kind
pub write_long : (kind : Kind) → length (write_table kind) ≡ 64
write_long Bridge = refl
write_long OlderBridge = refl
write_long Device = refl

pub clear_long : (kind : Kind) → length (clear_table kind) ≡ 64
clear_long Bridge = refl
clear_long OlderBridge = refl
clear_long Device = refl

pub reset_long : (kind : Kind) → length (reset_table kind) ≡ 64
reset_long Bridge = refl
reset_long OlderBridge = refl
reset_long Device = refl

module _ (table : Kind → List ℕ) (long : (kind : Kind) → length (table kind) ≡ 64) (kind : Kind) where
  -- past them it reads 0
  pub past : (k : ℕ) → 64 ≤ k → get_or (table kind) k 0 ≡ 0
  past k h = get_or-eq_default (table kind) 0 (omega (arith, long kind))

  -- so a test that passes at each entry, and past them at 0, passes everywhere
  pub everywhere : (f : ℕ → ℕ → Bool) → every f 0 (table kind) ≡ true → ((k : ℕ) → 64 ≤ k → f k 0 ≡ true)
      → (k : ℕ) → f k (get_or (table kind) k 0) ≡ true
  everywhere f t z k =
      tested (ltb k 64) (λ q. at f (table kind) t k (omega (arith, long kind, ltb-true k 64 q)))
      (λ q. let h : 64 ≤ k = ltb-false k 64 q in rw (past k h) (z k h))
