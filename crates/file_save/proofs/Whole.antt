-- The parts of a file, with the room that is left for each.
use mathlib.Core.Path.{◌≡◌, refl, ◌∙◌}
use mathlib.Core.List.{List}
use Prim.Native.Nat.{ℕ, ◌+◌, ◌≤◌}
use native.Mathlib.Omega.{arith}
use lib.ListN.{length}
use Rattle.rack.specs.declared.Range.{Range}
use Rattle.rack.specs.definitions.Buffer.{over_start}
use Rattle.rack.specs.definitions.Tree.{Tree}
use Rattle.seat.specs.definitions.Grants.{Grants}
use Rattle.register_image.specs.definitions.Image.{Images}
use Rattle.file_save.specs.definitions.Saved.{Put, host_bytes, nodes_of, seats_of, registers_of, rack_of, saved_file}
use Rattle.file_save.specs.laws.Placed.{placed_start}
use Rattle.file_save.specs.laws.Length.{rack_length, saved_length}
use Rattle.file_save.proofs.Puts.{put_kept, put_two, put_three}

-- host, nodes and seats
module _ (t : Tree) (g : Grants) (old : List ℕ) (fits : length (rack_of t g) ≤ length old) where
  room : 17 + length (nodes_of t) + length (seats_of t g) ≤ length old
  room = omega (arith, rack_length t g)

  pub host_room : (h : Range) → 0 + length (host_bytes h) ≤ length old
  host_room h = omega (arith, room)

  module _ {h : Range} (e : h ≡ t.host_memory) {r₁ : ℕ} {m₁ : List ℕ} (p : Put 0 (host_bytes h) old r₁ m₁) where
    kept : length m₁ ≡ length old
    kept = put_kept p (host_room h)

    pub nodes_room : r₁ + length (nodes_of t) ≤ length m₁
    nodes_room = omega (arith, room, kept, p.end)

    module _ {r₂ : ℕ} {m₂ : List ℕ} (q : Put r₁ (nodes_of t) m₁ r₂ m₂) where
      pub seats_room : r₂ + length (seats_of t g) ≤ length m₂
      seats_room = omega (arith, room, put_kept q nodes_room, kept, p.end, q.end)

      pub rack_put : {r : ℕ} {new : List ℕ} → Put r₂ (seats_of t g) m₂ r new → Put 0 (rack_of t g) old r new
      unfolding rack_of
      rack_put o = put_three p q o (rw e) (omega (arith, fits))

-- then the registers
module _ (t : Tree) (g : Grants) (im : Images) (old : List ℕ) (fits : length (saved_file t g im) ≤ length old) where
  pub rack_room : length (rack_of t g) ≤ length old
  rack_room = omega (arith, saved_length t g im)

  module _ {r₁ : ℕ} {m₁ : List ℕ} (p : Put 0 (rack_of t g) old r₁ m₁) where
    pub registers_room : r₁ + length (registers_of t im) ≤ length m₁
    registers_room = omega (arith, saved_length t g im, p.end, put_kept p (omega (arith, rack_room)))

    module _ {r : ℕ} {new : List ℕ} (q : Put r₁ (registers_of t im) m₁ r new) where
      whole : Put 0 (saved_file t g im) old r new
      unfolding saved_file
      whole = put_two p q refl (omega (arith, fits))

      pub saved_end : r ≡ length (saved_file t g im)
      saved_end = omega (arith, whole.end)

      pub saved_out : new ≡ over_start old (saved_file t g im)
      saved_out = whole.out ∙ placed_start (saved_file t g im) old
