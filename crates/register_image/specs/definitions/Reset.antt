-- The images at reset.
use Rattle.std.specs.Prelude.{ℕ, zero, suc, ◌+◌, Bool, true, not, cond, List, [], ◌∷◌, eqb, get_or}
use Rattle.rack.specs.declared.Node.{Node}
use Rattle.rack.specs.definitions.Count.{some}
use Rattle.rack.specs.definitions.Tree.{Tree}
use Rattle.register_header.specs.definitions.Mask.{reset_byte}
use Rattle.register_image.specs.definitions.Image.{Images, on_node}

-- the `left` reset bytes of a node from i on
unfoldable pub reset_from : Node → ℕ → ℕ → List ℕ
reset_from n i zero = []
reset_from n i (suc left) = reset_byte n i ∷ reset_from n (i + 1) left

abbrev pub reset_part : Node → List ℕ
reset_part n = reset_from n 0 64

-- 02, E2: 'nodes that differ from reset': in a byte, in any of the 64
unfoldable pub byte_changed : Node → List ℕ → ℕ → Bool
byte_changed n part at = not (eqb (get_or part at 0) (reset_byte n at))

abbrev pub is_changed : Node → List ℕ → Bool
is_changed n part = some (byte_changed n part) 64

-- the images with one node at reset
abbrev pub reset_node : Tree → Images → ℕ → Images
reset_node t im i = on_node t im i (λ part. reset_part (t.node i))

-- the images with those of the `left` nodes from i on that pass a test at reset
unfoldable pub reset_nodes : Tree → (ℕ → Bool) → Images → ℕ → ℕ → Images
reset_nodes t test im i zero = im
reset_nodes t test im i (suc left) = reset_nodes t test (cond (test i) (reset_node t im i) im) (i + 1) left

-- every node at reset
abbrev pub reset_images : Tree → Images → Images
reset_images t im = reset_nodes t (λ i. true) im 0 t.count
