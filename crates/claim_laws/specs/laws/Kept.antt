-- An answer that stays the same from a to r, where r is at most e, and how such answers are put together.
use Rattle.std.specs.Prelude.{◌≡◌, Bool, ◌&&◌, ℕ, ◌-◌, ◌≤◌, ◌<◌, leb, ltb}
use Rattle.std.proofs.Common.{ap, ap₂, arith, le-leb, ltb-true, ltb-false, leb-true, leb-false}
use Rattle.std.proofs.lemmas.Bool.{lt-leb}
use Rattle.rack.specs.laws.Bools.{tested}
use Rattle.rack.specs.declared.Range.{Range}
use Rattle.claim_window.specs.definitions.Range.{within}
use Rattle.claim_window.specs.definitions.Cut.{cut_at, cut_past, cut_range}

-- r is an end for a and e up to which v stays what it is at a
pub record Kept (v : ℕ → Bool) (a e r : ℕ) : Type 0 where
  pub low : a ≤ e → a ≤ r
  pub high : r ≤ e
  pub same : (x : ℕ) → a ≤ x → x ≤ r → v x ≡ v a

-- a test on the answer
pub kept_map : (f : Bool → Bool) {v : ℕ → Bool} {a e r : ℕ} → Kept v a e r → Kept (λ x. f (v x)) a e r
kept_map f k = record { low = k.low; high = k.high; same = λ x h l. ap f (k.same x h l) }

-- two answers, the second over the stretch of the first
pub kept_two : (f : Bool → Bool → Bool) {v w : ℕ → Bool} {a e r s : ℕ} → Kept v a e r → Kept w a r s
    → Kept (λ x. f (v x) (w x)) a e s
kept_two f {a = a} {e = e} {r = r} {s = s} k m =
    record {
      low = λ h. m.low (k.low h);
      high = omega (arith, k.high, m.high);
      same = λ x h l. ap₂ f (k.same x h (omega (arith, m.high))) (m.same x h l);
    }

-- two answers over one stretch
pub kept_both : (f : Bool → Bool → Bool) {v w : ℕ → Bool} {a e r : ℕ} → Kept v a e r → Kept w a e r
    → Kept (λ x. f (v x) (w x)) a e r
kept_both f k m = record { low = k.low; high = k.high; same = λ x h l. ap₂ f (k.same x h l) (m.same x h l) }

-- two comparisons that say the same
pub leb_by : (p q r s : ℕ) → (r ≤ s → p ≤ q) → (s < r → q < p) → leb p q ≡ leb r s
leb_by p q r s f g =
    tested (leb r s) (λ e. rw (e, le-leb p q (f (leb-true r s e)))) (λ e. rw (e, lt-leb p q (g (leb-false r s e))))

-- an end on a's side of `at`, and one on a's side of `last`
at_side : (at a e r : ℕ) → (a ≤ e → a ≤ r) → r ≤ e → (a < at → r < at) → Kept (leb at) a e r
at_side at a e r low high side =
    record {
      low = low;
      high = high;
      same = λ x l m. leb_by at x at a (λ z. omega arith) (λ z. omega (arith, side z));
    }

past_side : (last a e r : ℕ) → (a ≤ e → a ≤ r) → r ≤ e → (a ≤ last → r ≤ last) → Kept (λ x. leb x last) a e r
past_side last a e r low high side =
    record {
      low = low;
      high = high;
      same = λ x l m. leb_by x last a last (λ z. omega (arith, side z)) (λ z. omega arith);
    }

-- e brought down so that `at ≤ x` stays the same
pub at_kept : (at a e : ℕ) → Kept (leb at) a e (cut_at at a e)
unfolding cut_at
at_kept at a e =
    tested (ltb a at)
    (λ p.
    let h : a < at = ltb-true a at p in
    tested (leb at e)
    (λ q. let k : at ≤ e = leb-true at e q in rw (p, q) (at_side at a e (at - 1) (λ l. omega arith) (omega arith) (λ l. omega arith)))
    (λ q. let k : e < at = leb-false at e q in rw (p, q) (at_side at a e e (λ l. l) (omega arith) (λ l. k))))
    (λ p. let h : at ≤ a = ltb-false a at p in rw p (at_side at a e e (λ l. l) (omega arith) (λ l. omega arith)))

-- e brought down so that `x ≤ last` stays the same
pub past_kept : (last a e : ℕ) → Kept (λ x. leb x last) a e (cut_past last a e)
unfolding cut_past
past_kept last a e =
    tested (leb a last)
    (λ p.
    let h : a ≤ last = leb-true a last p in
    tested (ltb last e)
    (λ q. let k : last < e = ltb-true last e q in rw (p, q) (past_side last a e last (λ l. h) (omega arith) (λ l. omega arith)))
    (λ q. let k : e ≤ last = ltb-false last e q in rw (p, q) (past_side last a e e (λ l. l) (omega arith) (λ l. k))))
    (λ p. let h : last < a = leb-false a last p in rw p (past_side last a e e (λ l. l) (omega arith) (λ l. omega arith)))

-- e brought down so that `within r x` stays the same
pub range_kept : (r : Range) (a e : ℕ) → Kept (within r) a e (cut_range r a e)
range_kept r a e = kept_two ◌&&◌ (at_kept r.first a e) (past_kept r.last a (cut_at r.first a e))
