-- What the writer's call says: the number of a refused one and the buffer untouched, the length of an accepted one and its file.
use mathlib.Core.Path.{◌≡◌, sym, ap, ◌∙◌}
use mathlib.Core.List.{List, ◌++◌}
use Prim.Native.Nat.{ℕ, ◌≤◌, ◌<◌}
use native.Mathlib.Omega.{arith}
use borrow.Author.Tests.{lt-ltb, le-ltb}
use lib.Dec.{ltb}
use lib.ListN.{length, take, drop, length-append}
use lib.Seq.{length-take-le, take-length, take-append_seam}
use Rattle.rack.specs.definitions.Buffer.{over_start}
use Rattle.rack.specs.definitions.First.{◌when◌}
use Rattle.rack.specs.laws.FirstLaws.{or_this, or_next, or_none, unless_number, unless_none}
use Rattle.rack.specs.definitions.Tree.{Tree}
use Rattle.seat.specs.definitions.Grants.{Grants}
use Rattle.register_image.specs.definitions.Image.{Images}
use Rattle.file_save.specs.definitions.Saved.{saved_file}
use Rattle.file_save.specs.laws.Length.{saved_most}
use Rattle.std.specs.Prelude.{Ok, Err}
use Rattle.call_table.specs.definitions.Call.{Reply, refusal_by}
use Rattle.call_save.specs.definitions.Save.{save_refusal, save_in, buffer_in}

-- the first bytes of a file, copied
module _ (file : List ℕ) (n : ℕ) (fits : n ≤ length file) where
  pub part_long : n ≡ length (take n file)
  part_long = sym (length-take-le n file fits)

  pub part_fits : (out : List ℕ) → n ≤ length out → length (take n file) ≤ length out
  part_fits out h = omega (arith, part_long)

  pub start_copied : (old : List ℕ) {new : List ℕ} → new ≡ take (length (take n file)) (take n file) ++ drop (length (take n file)) old
      → new ≡ take n file ++ drop n old
  start_copied old e = e ∙ rw (take-length (take n file), ← part_long)

module _ (t : Tree) (g : Grants) (im : Images) {r : ℕ} (e : r ≡ refusal_by t g im 0 0) where
  -- a refusal by the rack, its images or its seats
  module _ (bad : r ≡ 0 → ⊥) where
    refused_as : (room : ℕ) → save_refusal t g im room ≡ r
    refused_as room = or_this _ _ (λ z. bad (e ∙ z)) ∙ sym e

    pub refused_number : (room : ℕ) → Err r ≡ save_in t g im room
    unfolding save_in
    refused_number room =
        sym (unless_number _ _ (λ z. bad (sym (refused_as room) ∙ z)) ∙ ap Err (refused_as room))

    pub refused_buffer : (old : List ℕ) → old ≡ buffer_in t g im old
    unfolding buffer_in
    refused_buffer old = sym (unless_number _ _ (λ z. bad (sym (refused_as (length old)) ∙ z)))

  module _ (good : r ≡ 0) where
    -- an accepted rack's file has room in the longest
    pub saved_room : (space : List ℕ) → 14609 ≡ length space → length (saved_file t g im) ≤ length space
    unfolding refusal_by
    saved_room space l = omega (arith, saved_most t g im (or_none _ _ (sym e ∙ good)).0)

    then : (room : ℕ) → save_refusal t g im room ≡ 11 when (ltb room (length (saved_file t g im)))
    then room = or_next _ _ (sym e ∙ good)

    module _ {n : ℕ} (long : n ≡ length (saved_file t g im)) where
      -- a buffer that is too short
      module _ (old : List ℕ) (short : length old < n) where
        is_11 : save_refusal t g im (length old) ≡ 11
        is_11 = then (length old) ∙ rw (lt-ltb (length old) (length (saved_file t g im)) (omega (arith, long)))

        pub short_number : Err 11 ≡ save_in t g im (length old)
        unfolding save_in
        short_number = sym (unless_number _ _ (λ z. omega (arith, is_11, z)) ∙ ap Err is_11)

        pub short_buffer : old ≡ buffer_in t g im old
        unfolding buffer_in
        short_buffer = sym (unless_number _ _ (λ z. omega (arith, is_11, z)))

      -- the file stands at the start of the space
      module _ (space : List ℕ) {file : List ℕ} (put : file ≡ over_start space (saved_file t g im)) where
        pub file_long : n ≤ length file
        file_long = omega (arith, long, ap length put, length-append (saved_file t g im) (drop (length (saved_file t g im)) space))

        file_is : take n file ≡ saved_file t g im
        file_is =
            rw (long, put) (take-append_seam (saved_file t g im) (drop (length (saved_file t g im)) space))

        module _ (old : List ℕ) (fits : n ≤ length old) where
          none : save_refusal t g im (length old) ≡ 0
          none = then (length old) ∙ rw (le-ltb (length old) (length (saved_file t g im)) (omega (arith, long)))

          pub saved_buffer : {new : List ℕ} → new ≡ take n file ++ drop n old → new ≡ buffer_in t g im old
          unfolding buffer_in
          saved_buffer c = c ∙ rw (file_is, long) (sym (unless_none _ _ none))

      module _ (old : List ℕ) (fits : n ≤ length old) where
        pub saved_number : Ok n ≡ save_in t g im (length old)
        unfolding save_in
        saved_number =
            ap Ok long
            ∙ sym (unless_none _ _ (then (length old) ∙ rw (le-ltb (length old) (length (saved_file t g im)) (omega (arith, long)))))

-- the call over a rack is that call over tables that hold it and its grants
module _ (t : Tree) {u : Tree} (e : u ≡ t) (g : Grants) {h : Grants} (d : h ≡ g) (im : Images) where
  pub save_over : (room : ℕ) {r : Reply ℕ} → r ≡ save_in u h im room → r ≡ save_in t g im room
  save_over room = rw (e, d) (λ q. q)

  pub buffer_over : (old : List ℕ) {new : List ℕ} → new ≡ buffer_in u h im old → new ≡ buffer_in t g im old
  buffer_over old = rw (e, d) (λ q. q)
