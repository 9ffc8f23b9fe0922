-- The turns of the loop that reads records, and what holds of whatever is read.
use Rattle.std.specs.Prelude.{◌≡◌, Bool, List, leb, ltb, eqb, length}
use Rattle.std.proofs.Math.Path.{refl}
use Prim.Native.Nat.{ℕ, zero, suc, ◌+◌, ◌≤◌, ◌<◌}
use Rattle.std.proofs.Common.{arith}
use borrow.Author.Tests.{leb-true, leb-false, ltb-true, ltb-false, eqb-true, eqb-false, le-leb, lt-leb, le-ltb, lt-ltb, eq-eqb, ne_eqb}
use Rattle.rack.specs.laws.Bools.{tested}
use Rattle.file_record.specs.definitions.Number.{byte_in}
use Rattle.file_record.specs.laws.RecordLaws.{size_least}
use Rattle.file_record.specs.definitions.Load.{Reading, at_start, record_fault, taken, Loading, loaded, refused, read_from, read_in}

module _ (whole : Bool) (b : List ℕ) where
  -- past the end there is nothing to read; a turn stops at a fault, and goes on without one
  pub read_past : (left : ℕ) (s : Reading) → length b ≤ s.offset → read_from left whole b s ≡ loaded s
  unfolding read_from
  read_past zero s h = refl
  read_past (suc left) s h = rw (le-leb (length b) s.offset h)

  pub read_stop : (left : ℕ) (s : Reading) → s.offset < length b → (record_fault whole b s ≡ 0 → ⊥)
      → read_from (suc left) whole b s ≡ refused (record_fault whole b s) s.offset
  unfolding read_from
  read_stop left s h z = rw (lt-leb (length b) s.offset h, ne_eqb (record_fault whole b s) 0 z)

  pub read_step : (left : ℕ) (s : Reading) → s.offset < length b → record_fault whole b s ≡ 0
      → read_from (suc left) whole b s ≡ read_from left whole b (taken b s)
  unfolding read_from
  read_step left s h z = rw (lt-leb (length b) s.offset h, eq-eqb (record_fault whole b s) 0 z)

  -- a record has at least one byte
  pub taken_later : (s : Reading) → s.offset < (taken b s).offset
  unfolding taken
  taken_later s = omega (arith, size_least (byte_in b s.offset))

  pub read_over : 65536 < length b → read_in whole b ≡ refused 1 65536
  unfolding read_in
  read_over h = rw (lt-ltb 65536 (length b) h)

  pub read_empty : length b ≡ 0 → read_in whole b ≡ refused 4 0
  unfolding read_in
  read_empty e = rw (le-ltb 65536 (length b) (omega arith), eq-eqb (length b) 0 e)

  pub read_all : length b ≤ 65536 → (length b ≡ 0 → ⊥) → read_in whole b ≡ read_from (length b) whole b at_start
  unfolding read_in
  read_all h e = rw (le-ltb 65536 (length b) h, ne_eqb (length b) 0 e)

  -- what P keeps from record to record, and Q has of P at the end and at a fault, Q has of what is read
  module _ (P : Reading → Type 0) (Q : Loading → Type 0)
      (keeps : (s : Reading) → P s → s.offset < length b → record_fault whole b s ≡ 0 → P (taken b s))
      (ends : (s : Reading) → P s → length b ≤ s.offset → Q (loaded s))
      (stops : (s : Reading) → P s → s.offset < length b → (record_fault whole b s ≡ 0 → ⊥) → Q (refused (record_fault whole b s) s.offset)) where
    pub read_has : (left : ℕ) (s : Reading) → length b ≤ s.offset + left → P s → Q (read_from left whole b s)
    read_has zero s h p = let e : length b ≤ s.offset = omega arith in rw (read_past zero s e) (ends s p e)
    read_has (suc left) s h p =
        tested (leb (length b) s.offset)
        (λ q. let e = leb-true (length b) s.offset q in rw (read_past (suc left) s e) (ends s p e))
        (λ q.
        let i = leb-false (length b) s.offset q in
        tested (eqb (record_fault whole b s) 0)
        (λ w.
        let f = eqb-true (record_fault whole b s) 0 w in
        rw (read_step left s i f) (read_has left (taken b s) (omega (arith, taken_later s)) (keeps s p i f)))
        (λ w. let f = eqb-false (record_fault whole b s) 0 w in rw (read_stop left s i f) (stops s p i f)))

    -- whole: 1 and the empty file first
    pub in_has : (length b ≤ 65536 → (length b ≡ 0 → ⊥) → P at_start) → (65536 < length b → Q (refused 1 65536))
        → (length b ≡ 0 → Q (refused 4 0)) → Q (read_in whole b)
    in_has p over none =
        tested (ltb 65536 (length b)) (λ q. let h = ltb-true 65536 (length b) q in rw (read_over h) (over h))
        (λ q.
        tested (eqb (length b) 0) (λ w. let e = eqb-true (length b) 0 w in rw (read_empty e) (none e))
        (λ w.
        let h = ltb-false 65536 (length b) q in
        let e = eqb-false (length b) 0 w in
        rw (read_all h e) (read_has (length b) at_start (omega arith) (p h e))))
