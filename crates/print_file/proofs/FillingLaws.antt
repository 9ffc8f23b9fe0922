-- A part stops or goes on by a line, goes forward in the file, and keeps the count of its events below their offset.
use Rattle.std.specs.Prelude.{◌≡◌, true, false, List, leb, ltb}
use Rattle.std.proofs.Math.Path.{refl}
use Prim.Native.Nat.{ℕ, zero, suc, ◌+◌, ◌-◌, ◌≤◌, ◌<◌}
use native.Mathlib.Omega.{arith}
use Rattle.std.proofs.Math.ListN.{length}
use Rattle.std.proofs.Common.{ltb-false, leb-false, le-ltb}
use Rattle.std.proofs.lemmas.Bool.{lt-leb}
use Rattle.rack.specs.laws.Bools.{tested, neither}
use Rattle.rack.specs.definitions.Tree.{Tree}
use Rattle.seat.specs.definitions.Grants.{Grants}
use Rattle.register_image.specs.definitions.Image.{Images}
use Rattle.file_record.specs.definitions.Number.{byte_in}
use Rattle.file_record.specs.laws.RecordLaws.{size_least}
use Rattle.print_file.specs.declared.Cursor.{Cursor}
use Rattle.print_file.specs.definitions.Filling.{stop, behind, past, ran_at, line_at, ends, part_up_to, part_of}

-- where a part does not end, the file does not and the longest line has room
pub on : (b : List ℕ) (room : ℕ) (at : Cursor) → ends b room at ≡ false → (at.offset < length b) × (96 ≤ room)
on b room at h =
    let n = neither (leb (length b) at.offset) (ltb room 96) h in
    (leb-false (length b) at.offset n.0, ltb-false room 96 n.1)

-- and the other way round
pub goes_on : (b : List ℕ) (room : ℕ) (at : Cursor) → at.offset < length b → 96 ≤ room → ends b room at ≡ false
goes_on b room at h r = rw (lt-leb (length b) at.offset h, le-ltb room 96 r)

module _ (t : Tree) (g : Grants) (b : List ℕ) where
  pub part_stop : (left room : ℕ) (at : Cursor) (im : Images) → ends b room at ≡ true
      → part_up_to left t g b room at im ≡ stop at im
  unfolding part_up_to
  part_stop zero room at im e = refl
  part_stop (suc left) room at im e = rw e

  pub part_step : (left room : ℕ) (at : Cursor) (im : Images) → ends b room at ≡ false
      → part_up_to (suc left) t g b room at im
      ≡ behind (line_at t g b at im) (part_up_to left t g b (room - length (line_at t g b at im)) (past b at) (ran_at t g b at im).after)
  unfolding part_up_to
  part_step left room at im e = rw e

  -- the next cursor is not before the first
  part_forward : (left room : ℕ) (at : Cursor) (im : Images) → at.offset ≤ (part_up_to left t g b room at im).next.offset
  unfolding part_up_to
  part_forward zero room at im = omega arith
  part_forward (suc left) room at im =
      tested (ends b room at) (λ e. rw (part_stop (suc left) room at im e) (omega arith))
      (λ e.
      rw (part_step left room at im e)
      (omega (arith, part_forward left (room - length (line_at t g b at im)) (past b at) (ran_at t g b at im).after)))

  -- and after it where the file goes on and the longest line has room
  pub progress : (room : ℕ) (at : Cursor) (im : Images) → 96 ≤ room → at.offset < length b
      → at.offset < (part_of t g b room at im).next.offset
  progress room at im r i = some (length b) refl
    where
      some : (left : ℕ) → left ≡ length b → at.offset < (part_up_to left t g b room at im).next.offset
      some zero e = absurd (omega arith)
      some (suc left) e =
          let f = part_forward left (room - length (line_at t g b at im)) (past b at) (ran_at t g b at im).after in
          rw (part_step left room at im (goes_on b room at i r)) (omega (arith, size_least (byte_in b at.offset), f))

  counted_up_to : (left room : ℕ) (at : Cursor) (im : Images) → at.number ≤ at.offset + 1
      → (part_up_to left t g b room at im).next.number ≤ (part_up_to left t g b room at im).next.offset + 1
  unfolding part_up_to
  counted_up_to zero room at im n = n
  counted_up_to (suc left) room at im n =
      tested (ends b room at) (λ e. rw (part_stop (suc left) room at im e) n)
      (λ e.
      rw (part_step left room at im e)
      (counted_up_to left (room - length (line_at t g b at im)) (past b at) (ran_at t g b at im).after
      (omega (arith, size_least (byte_in b at.offset)))))

  -- a record has at least one byte, so a file has no more events than bytes
  pub counted : (room : ℕ) (at : Cursor) (im : Images) → at.number ≤ at.offset + 1
      → (part_of t g b room at im).next.number ≤ (part_of t g b room at im).next.offset + 1
  counted room at im n = counted_up_to (length b) room at im n
