-- What a search in order says: all before what it shows pass.
use Rattle.std.proofs.Math.Path.{◌≡◌, refl, ap}
use Rattle.std.proofs.Common.{sym, ◌∙◌, eq-or-lt_of_le, arith}
use Rattle.std.proofs.Math.Logic.{⊎_elim}
use Rattle.std.specs.Prelude.{Ok, Err}
use mathlib.Core.List.{List, [], ◌∷◌}
use Prim.Native.Nat.{ℕ, zero, suc, ◌+◌, ◌≤◌, ◌<◌}
use Rattle.claim_agent.specs.declared.Space.{Space}
use Rattle.check_search.specs.definitions.Report.{Report, Pass, fault}
use Rattle.check_search.specs.definitions.Check.{or_else, first_in, first_from}
use Rattle.demand_passed.specs.definitions.FirstFault.{Each, FirstOf}

pub each_nil : {A : Type 0} (P : A → Type 0) → Each P []
unfolding Each
each_nil P = tt

pub each_cons : {A : Type 0} (P : A → Type 0) (x : A) (xs : List A) → P x → Each P xs → Each P (x ∷ xs)
unfolding Each
each_cons P x xs p e = (p, e)

-- what each member has, each has that follows from it
pub each_map : {A : Type 0} (P Q : A → Type 0) (l : List A) → ((x : A) → P x → Q x) → Each P l → Each Q l
unfolding Each
each_map P Q [] f e = tt
each_map P Q (x ∷ xs) f e = (f x e.0, each_map P Q xs f e.1)

-- what is found of a fault's values
abbrev pub Shows : Report → ℕ → Space → ℕ → ℕ → ℕ → ℕ → Type 0
Shows r b s v d x y = r ≡ fault b s v d x y

pass_or : (r s : Report) → or_else r s ≡ Pass → (r ≡ Pass) × (s ≡ Pass)
pass_or (Ok _) s e = (refl, e)
pass_or (Err f) s e = let z : ◌≡◌ {A = ℕ} 0 1 = cc in absurd (omega arith)

-- a search of a list passes exactly where each member does
pub in_passes : {A : Type 0} (f : A → Report) (l : List A) → first_in f l ≡ Pass → Each (λ x. f x ≡ Pass) l
unfolding first_in Each
in_passes f [] e = tt
in_passes f (x ∷ xs) e = let s = pass_or (f x) (first_in f xs) e in (s.0, in_passes f xs s.1)

pub in_pass : {A : Type 0} (f : A → Report) (l : List A) → Each (λ x. f x ≡ Pass) l → first_in f l ≡ Pass
unfolding first_in Each
in_pass f [] e = refl
in_pass f (x ∷ xs) e = rw e.0 (in_pass f xs e.1)

-- a search of numbers passes exactly where each of them does
pub from_passes : (f : ℕ → Report) (left a : ℕ) → first_from f left a ≡ Pass → (x : ℕ) → a ≤ x → x < a + left → f x ≡ Pass
unfolding first_from
from_passes f zero a e x l h = absurd (omega arith)
from_passes f (suc left) a e x l h =
    let s = pass_or (f a) (first_from f left (a + 1)) e in
    ⊎_elim (λ q. ap f (sym q) ∙ s.0) (λ q. from_passes f left (a + 1) s.1 x (omega arith) (omega arith)) (eq-or-lt_of_le l)

pub from_pass : (f : ℕ → Report) (left a : ℕ) → ((x : ℕ) → a ≤ x → x < a + left → f x ≡ Pass) → first_from f left a ≡ Pass
unfolding first_from
from_pass f zero a h = refl
from_pass f (suc left) a h =
    rw (h a (omega arith) (omega arith)) (from_pass f left (a + 1) (λ x l m. h x (omega arith) (omega arith)))

module _ (b : ℕ) (p : Space) (v d y z : ℕ) where
  -- a search of a list shows what its first member with a fault shows
  pub in_first : {A : Type 0} (f : A → Report) (l : List A) → Shows (first_in f l) b p v d y z
      → (x : A) × FirstOf (λ w. f w ≡ Pass) l x × Shows (f x) b p v d y z
  unfolding first_in
  in_first f [] e = let n : ◌≡◌ {A = ℕ} 0 1 = cc in absurd (omega arith)
  in_first {A = A} f (x ∷ xs) e = here (f x) refl (in_first f xs) e
    where
      more : (r : (x : A) × FirstOf (λ w. f w ≡ Pass) xs x × Shows (f x) b p v d y z) → f x ≡ Pass
          → (x' : A) × FirstOf (λ w. f w ≡ Pass) (x ∷ xs) x' × Shows (f x') b p v d y z
      more r q = (
        r.0,
        record { before = x ∷ r.1.before; after = r.1.after; split = ap (λ (l : List A). x ∷ l) r.1.split; clear = each_cons (λ w. f w ≡ Pass) x r.1.before q r.1.clear },
        r.2,
      )

      here : (r : Report) → f x ≡ r
          → (Shows (first_in f xs) b p v d y z → (x : A) × FirstOf (λ w. f w ≡ Pass) xs x × Shows (f x) b p v d y z)
          → Shows (or_else r (first_in f xs)) b p v d y z
          → (x' : A) × FirstOf (λ w. f w ≡ Pass) (x ∷ xs) x' × Shows (f x') b p v d y z
      here (Ok _) q g s = more (g s) q
      here (Err g') q g s = (x, record { before = []; after = xs; split = refl; clear = each_nil (λ w. f w ≡ Pass) }, q ∙ s)

  -- a search of numbers shows what the lowest with a fault shows
  pub from_first : (f : ℕ → Report) (left a : ℕ) → Shows (first_from f left a) b p v d y z
      → (x : ℕ) × (a ≤ x) × (x < a + left) × Shows (f x) b p v d y z × ((w : ℕ) → a ≤ w → w < x → f w ≡ Pass)
  unfolding first_from
  from_first f zero a e = let n : ◌≡◌ {A = ℕ} 0 1 = cc in absurd (omega arith)
  from_first f (suc left) a e = here (f a) refl (from_first f left (a + 1)) e
    where
      more : f a ≡ Pass
          → (x : ℕ) × (a + 1 ≤ x) × (x < a + 1 + left) × Shows (f x) b p v d y z × ((w : ℕ) → a + 1 ≤ w → w < x → f w ≡ Pass)
          → (x : ℕ) × (a ≤ x) × (x < a + suc left) × Shows (f x) b p v d y z × ((w : ℕ) → a ≤ w → w < x → f w ≡ Pass)
      more q r = (
        r.0,
        omega (arith, r.1),
        omega (arith, r.2),
        r.3,
        λ w l m. ⊎_elim (λ u. ap f (sym u) ∙ q) (λ u. r.4 w (omega arith) m) (eq-or-lt_of_le l),
      )

      here : (r : Report) → f a ≡ r
          → (Shows (first_from f left (a + 1)) b p v d y z
          → (x : ℕ) × (a + 1 ≤ x) × (x < a + 1 + left) × Shows (f x) b p v d y z × ((w : ℕ) → a + 1 ≤ w → w < x → f w ≡ Pass))
          → Shows (or_else r (first_from f left (a + 1))) b p v d y z
          → (x : ℕ) × (a ≤ x) × (x < a + suc left) × Shows (f x) b p v d y z × ((w : ℕ) → a ≤ w → w < x → f w ≡ Pass)
      here (Ok _) q g s = more q (g s)
      here (Err g') q g s = (a, omega arith, omega arith, q ∙ s, λ w l m. absurd (omega arith))
