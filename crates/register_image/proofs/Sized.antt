-- The size of a region after the code has looked its node up, and the sizes that are 0.
use mathlib.Core.Path.{◌≡◌, refl, sym}
use mathlib.Core.Bool.{Bool, true, false, cond}
use mathlib.Core.List.{List, []}
use Prim.Native.Nat.{ℕ, ◌/◌, ◌<◌, ◌≤◌}
use lib.ListN.{length, get_or-eq_default}
use Rattle.rack.specs.declared.Node.{Node}
use Rattle.rack.specs.definitions.Node.{is_bridge, no_region, region_in}
use Rattle.rack.specs.definitions.Tree.{Tree}
use Rattle.rack.specs.definitions.Table.{node_at, place_at, tree_of}
use Rattle.register_header.specs.definitions.Register.{read_register, write_byte, write_dword, write_register}
use Rattle.register_header.specs.definitions.Sizing.{read_back, region_register, size_part}
use Rattle.register_header.specs.laws.SizingLaws.{kind_none}
use Rattle.register_image.specs.definitions.Image.{Images, images, node_part, in_part, view, in_node, on_node}
use Rattle.register_image.specs.definitions.Sizing.{size_region}
use Rattle.register_image.proofs.Slot.{on_same}
use Rattle.rack.specs.laws.Bools.{tested}
use Rattle.std.specs.Option.{unwrap_or}
use lib.Dec.{ltb}
use Rattle.std.proofs.lemmas.Bool.{lt-ltb, ltb-false}

either : {A : Type 0} (b : Bool) (x : A) → cond b x x ≡ x
either true x = refl
either false x = refl

-- nothing is written to an empty part, which reads 0, so its regions have size 0
byte_none : (n : Node) (at : ℕ) (on : Bool) (put : ℕ) → write_byte n [] at on put ≡ []
unfolding write_byte
byte_none n at true put = refl
byte_none n at false put = refl

back_none : (n : Node) (register : ℕ) → read_back n [] register ≡ 0
unfolding read_back read_register write_register write_dword
back_none n register = simp (byte_none, either)

size_none : (n : Node) (kind register : ℕ) → size_part n [] kind register ≡ 0
unfolding size_part
size_none n kind register = simp (back_none, either)

-- a node of a table has three regions, so one past them is none
region_past : (table : List ℕ) (i r : ℕ) → 3 ≤ r → region_in (node_at table i) r ≡ no_region
unfolding node_at
region_past table i r h = get_or-eq_default (node_at table i).regions no_region h

-- the size of region r of a node, from its part
abbrev pub size_in : Node → ℕ → List ℕ → ℕ
size_in n r part = cond (is_bridge n.kind) 0 (cond (ltb r 3) (size_part n part (region_in n r).kind (region_register r)) 0)

pub size_given : (n : Node) (part : List ℕ) (r : ℕ) {bridge : Bool} {s : ℕ} → bridge ≡ is_bridge n.kind → bridge ≡ false → r < 3
    → s ≡ size_part n part (region_in n r).kind (region_register r) → s ≡ size_in n r part
size_given n part r eb e h es = rw (← eb, e, lt-ltb r 3 h) es

module _ (table b d : List ℕ) (i r : ℕ) where
  pub size_asked : unwrap_or (in_node (tree_of table) (images b d) i (size_in (node_at table i) r)) 0 ≡ size_region (tree_of table) (images b d) i r
  unfolding in_node in_part size_region view node_part
  size_asked =
      tested (ltb i (tree_of table).count)
      (λ q. rw q
      (tested (is_bridge (node_at table i).kind)
      (λ e. rw e (tested (ltb (place_at table i) (length b / 64)) (λ p. rw p refl) (λ p. rw p refl)))
      (λ e. rw e
      (tested (ltb r 3)
      (λ l. rw l (tested (ltb (place_at table i) (length d / 64)) (λ p. rw p refl) (λ p. rw p (sym (size_none (node_at table i) _ _)))))
      (λ l. rw (l, region_past table i r (ltb-false r 3 l)) (tested (ltb (place_at table i) (length d / 64)) (λ p. rw p (sym (kind_none _ _ _))) (λ p. rw p (sym (kind_none _ _ _)))))))))
      (λ q. rw q refl)

pub same_node : (t : Tree) (im : Images) (i : ℕ) → on_node t im i (λ part. part) ≡ im
unfolding on_node
same_node t im i =
    tested (ltb i t.count)
    (λ q. rw q (tested (is_bridge (t.node i).kind) (λ e. rw (e, on_same im.bridges (t.place i)) refl) (λ e. rw (e, on_same im.devices (t.place i)) refl)))
    (λ q. rw q refl)
