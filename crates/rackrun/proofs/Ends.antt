-- The end of a run is the same from each place on the way to it.
use mathlib.Core.Path.{◌≡◌, refl, sym, ap, ◌∙◌}
use mathlib.Core.Bool.{true, false≢true}
use mathlib.Core.List.{List}
use Prim.Native.Nat.{ℕ, zero, suc, ◌+◌, ◌-◌, ◌≤◌, ◌<◌}
use native.Mathlib.Omega.{arith}
use lib.Dec.{leb}
use lib.ListN.{length}
use borrow.Author.Tests.{leb-true, leb-false, le-leb, lt-leb}
use Rattle.rack.specs.laws.Bools.{tested}
use Rattle.rack.specs.definitions.Tree.{Tree}
use Rattle.seat.specs.definitions.Grants.{Grants}
use Rattle.register_image.specs.definitions.Image.{Images}
use Rattle.file_record.specs.definitions.Number.{byte_in}
use Rattle.file_record.specs.laws.RecordLaws.{size_least}
use Rattle.print_file.specs.declared.Cursor.{Cursor}
use Rattle.print_file.specs.definitions.Filling.{Part, past, ran_at, line_at, ends, part_up_to}
use Rattle.print_file.specs.definitions.Place.{Place, place, after_part, end_up_to, end_of}
use Rattle.print_file.proofs.FillingLaws.{on, part_stop, part_step}
use Rattle.print_output.specs.declared.Rest.{Rest}
use Rattle.print_output.specs.declared.Rest.TheVariants.{Refused, Events, Nothing}
use Rattle.print_output.specs.definitions.Rest.{standing, is_done, at_place, end_from}
use Rattle.print_output.specs.definitions.Piece.{piece_of}

module _ (t : Tree) (g : Grants) (b : List ℕ) where
  -- at the file's end
  end_past : (left : ℕ) (at : Cursor) (im : Images) → length b ≤ at.offset → end_up_to left t g b at im ≡ place at im
  unfolding end_up_to
  end_past zero at im h = refl
  end_past (suc left) at im h = rw (le-leb (length b) at.offset h)

  -- before it, one event on
  end_step : (left : ℕ) (at : Cursor) (im : Images) → at.offset < length b
      → end_up_to (suc left) t g b at im ≡ end_up_to left t g b (past b at) (ran_at t g b at im).after
  unfolding end_up_to
  end_step left at im h = rw (lt-leb (length b) at.offset h)

  -- any number of events that reaches the file's end is enough
  end_enough : (k m : ℕ) (at : Cursor) (im : Images) → length b ≤ at.offset + k → length b ≤ at.offset + m
      → end_up_to k t g b at im ≡ end_up_to m t g b at im
  end_enough zero m at im h i = end_past zero at im (omega arith) ∙ sym (end_past m at im (omega arith))
  end_enough (suc k) zero at im h i = end_past (suc k) at im (omega arith) ∙ sym (end_past zero at im (omega arith))
  end_enough (suc k) (suc m) at im h i =
      tested (leb (length b) at.offset)
      (λ q.
      let w : length b ≤ at.offset = leb-true (length b) at.offset q in
      end_past (suc k) at im w ∙ sym (end_past (suc m) at im w))
      (λ q.
      let w : at.offset < length b = leb-false (length b) at.offset q in
      let s = size_least (byte_in b at.offset) in
      end_step k at im w
      ∙ end_enough k m (past b at) (ran_at t g b at im).after (omega arith) (omega arith)
      ∙ sym (end_step m at im w))

  end_first : (at : Cursor) (im : Images) → at.offset < length b
      → end_of t g b at im ≡ end_of t g b (past b at) (ran_at t g b at im).after
  end_first at im h =
      end_enough (length b) (suc (length b)) at im (omega arith) (omega arith) ∙ end_step (length b) at im h

  -- from where a place is
  abbrev end_at : Place → Place
  end_at p = end_of t g b p.next p.before

  part_end : (left room : ℕ) (at : Cursor) (im : Images) → end_of t g b at im ≡ end_at (after_part (part_up_to left t g b room at im))
  unfolding part_up_to
  part_end zero room at im = refl
  part_end (suc left) room at im =
      tested (ends b room at)
      (λ e. ap (λ (p : Part). end_at (after_part p)) (sym (part_stop t g b (suc left) room at im e)))
      (λ e.
      end_first at im (on b room at e).0
      ∙ part_end left (room - length (line_at t g b at im)) (past b at) (ran_at t g b at im).after
      ∙ ap (λ (p : Part). end_at (after_part p)) (sym (part_step t g b left room at im e)))

  -- a part of the output leads to the same end
  pub piece_end : (room : ℕ) (rest : Rest) (im : Images)
      → end_from t g b rest im ≡ end_from t g b (piece_of t g b room rest im).rest (piece_of t g b room rest im).after
  unfolding piece_of end_from
  piece_end room (Refused number offset) im = refl
  piece_end room (Events at) im = ap at_place (part_end (length b) room at im)
  piece_end room Nothing im = refl

  -- and where all is printed, it is reached
  pub done_end : (rest : Rest) (im : Images) → is_done b rest ≡ true → end_from t g b rest im ≡ standing rest im
  unfolding is_done end_from
  done_end (Refused number offset) im q = absurd (false≢true q)
  done_end (Events at) im q = ap at_place (end_past (length b) at im (leb-true (length b) at.offset q))
  done_end Nothing im q = refl
