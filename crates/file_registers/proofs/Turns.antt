-- Bit 6 in the register records before one.
use mathlib.Core.Path.{◌≡◌, refl}
use mathlib.Core.Bool.{Bool}
use mathlib.Core.List.{List}
use Prim.Native.Nat.{ℕ, zero, suc, ◌+◌, ◌-◌, ◌*◌, ◌/◌, ◌≤◌, ◌<◌}
use native.Mathlib.Omega.{arith}
use lib.ListN.{length}
use borrow.Author.Tests.{lt-ltb, le-ltb}
use Rattle.rack.specs.definitions.Count.{some_from, some}
use Rattle.file_record.specs.definitions.Load.{resets_at, record_resets}

-- the records from one on stand 66 bytes apart
module _ (b : List ℕ) (end start g : ℕ) (long : end ≤ length b) where
  abbrev pub resets_nth : ℕ → Bool
  resets_nth i = resets_at b (start + 66 * i) g

  from : (left n i : ℕ) → length b ≤ start + 66 * i + left → start + 66 * i + 66 * n ≤ end → end < start + 66 * i + 66 * n + 66
      → some_from resets_nth i n ≡ record_resets left b end (start + 66 * i) g
  unfolding some_from record_resets
  from zero zero i m h k = refl
  from zero (suc n) i m h k = absurd (omega arith)
  from (suc left) zero i m h k = rw (lt-ltb end (start + 66 * i + 66) (omega arith))
  from (suc left) (suc n) i m h k =
      let next : start + 66 * (i + 1) ≡ start + 66 * i + 66 = omega arith in
      rw (le-ltb end (start + 66 * i + 66) (omega arith), ← next, from left n (i + 1) (omega arith) (omega arith) (omega arith))

  pub resets_some : start ≤ end → some resets_nth ((end - start) / 66) ≡ record_resets (length b) b end start g
  resets_some h =
      let first : start + 66 * 0 ≡ start = omega arith in
      rw first at (from (length b) ((end - start) / 66) 0 (omega arith) (omega arith) (omega arith))
