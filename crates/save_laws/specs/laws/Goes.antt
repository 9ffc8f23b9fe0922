-- A reading of a whole file that goes on past records without a fault.
use Rattle.std.specs.Prelude.{◌≡◌, refl, true, List, ◌++◌}
use Rattle.std.proofs.Math.Path.{ap, subst}
use Rattle.std.proofs.Common.{◌∙◌, append_assoc}
use Prim.Native.Nat.{ℕ, zero, suc, ◌+◌, ◌≤◌, ◌<◌}
use native.Mathlib.Omega.{arith}
use Rattle.std.proofs.Math.ListN.{length, length-append}
use Rattle.file_record.specs.definitions.Load.{Reading, record_fault, taken, read_from}
use Rattle.file_record.specs.laws.Turns.{read_step, taken_later}
use Rattle.file_save.specs.definitions.Saved.{each}
use Rattle.save_laws.specs.laws.Here.{Here, here_past}

module _ (b : List ℕ) where
  -- with enough turns left, the reading of s comes to that of u, with enough left for it
  pub record Onward (left : ℕ) (s u : Reading) : Type 0 where
    pub more : ℕ
    pub enough : length b ≤ u.offset + more
    pub same : read_from left true b s ≡ read_from more true b u

  abbrev pub Goes : Reading → Reading → Type 0
  Goes s u = (left : ℕ) → length b ≤ s.offset + left → Onward left s u

  pub goes_same : {s u : Reading} → s ≡ u → Goes s u
  goes_same {s} {u} e = subst (Goes s) e (λ left n. record { more = left; enough = n; same = refl })

  pub goes_on : {s u v : Reading} → Goes s u → Goes u v → Goes s v
  goes_on p q left n =
      let x = p left n in
      let y = q x.more x.enough in
      record { more = y.more; enough = y.enough; same = x.same ∙ y.same }

  -- past one record
  pub goes_past : {s u : Reading} → s.offset < length b → record_fault true b s ≡ 0 → taken b s ≡ u → Goes s u
  goes_past {s} {u} h z e = subst (Goes s) e step
    where
      step : Goes s (taken b s)
      step zero n = absurd (omega arith)
      step (suc left) n =
          record { more = left; enough = omega (arith, taken_later true b s); same = read_step true b left s h z }

  -- past what stands for each of the numbers from a up to n; S o i is the reading in front of the records of i, at an offset o, and Q is
  -- kept from number to number
  module _ (f : ℕ → List ℕ) (S : ℕ → ℕ → Reading) (Q : ℕ → Type 0) (a n : ℕ)
      (step : (o i : ℕ) (y : List ℕ) → Q o → a ≤ i → i < n → Here b o (f i ++ y)
      → Goes (S o i) (S (o + length (f i)) (i + 1)) × Q (o + length (f i))) where
    pub goes_kept : (o i left : ℕ) (y : List ℕ) → Q o → a ≤ i → i + left ≡ n → Here b o (each f i left ++ y)
        → Goes (S o i) (S (o + length (each f i left)) n)
    unfolding each
    goes_kept o i zero y q l e h =
        let i' : i ≡ n = omega arith in
        let o' : o ≡ o + 0 = omega arith in
        goes_same (ap (S o) i' ∙ ap (λ (x : ℕ). S x n) o')
    goes_kept o i (suc left) y q l e h =
        let rest = each f (i + 1) left in
        let h' : Here b o (f i ++ (rest ++ y)) = subst (Here b o) (append_assoc (f i) rest y) h in
        let o' : o + length (f i) + length rest ≡ o + length (f i ++ rest) = omega (arith, length-append (f i) rest) in
        let s = step o i (rest ++ y) q l (omega arith) h' in
        goes_on s.0
        (subst (λ (x : ℕ). Goes (S (o + length (f i)) (i + 1)) (S x n)) o'
        (goes_kept (o + length (f i)) (i + 1) left y s.1 (omega arith) (omega arith) (here_past b o (f i) (rest ++ y) h')))

  -- the same with offsets that are not below `low`
  module _ (f : ℕ → List ℕ) (S : ℕ → ℕ → Reading) (low a n : ℕ)
      (step : (o i : ℕ) (y : List ℕ) → low ≤ o → a ≤ i → i < n → Here b o (f i ++ y)
      → Goes (S o i) (S (o + length (f i)) (i + 1))) where
    pub goes_each : (o i left : ℕ) (y : List ℕ) → low ≤ o → a ≤ i → i + left ≡ n → Here b o (each f i left ++ y)
        → Goes (S o i) (S (o + length (each f i left)) n)
    goes_each = goes_kept f S (λ o. low ≤ o) a n (λ o i y q l m h. (step o i y q l m h, omega arith))
