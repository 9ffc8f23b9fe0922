-- The two images, an answer with both, the part of one node in them, and an image with one part changed.
use Rattle.std.specs.Prelude.{ℕ, ◌+◌, ◌*◌, ◌/◌, cond, List, [], ◌++◌, ltb, length, take, drop, Option, Some, None}
use Rattle.rack.specs.declared.Kind.{Kind}
use Rattle.rack.specs.definitions.Node.{is_bridge}
use Rattle.rack.specs.definitions.Tree.{Tree}
use Rattle.register_header.specs.declared.Side.{Side}
use Rattle.register_header.specs.declared.StatusBit.{StatusBit}
use Rattle.register_header.specs.definitions.Register.{write_register, set_status}

-- 01: 'Bridges' registers form one image and devices' another, in node order'
pub record Images : Type 0 where
  pub bridges : List ℕ
  pub devices : List ℕ

abbrev pub images : List ℕ → List ℕ → Images
images b d = record { bridges = b; devices = d }

-- what a function answers, with both images as it leaves them
pub record Result (A : Type 0) : Type 0 where
  pub answer : A
  pub after : Images

abbrev pub gives : {A : Type 0} → A → Images → Result A
gives a im = record { answer = a; after = im }

abbrev pub result_of : {A : Type 0} → A → List ℕ → List ℕ → Result A
result_of a b d = gives a (images b d)

-- the image that holds nodes of a kind, and both with that one replaced
abbrev pub image_of : Images → Kind → List ℕ
image_of im k = cond (is_bridge k) im.bridges im.devices

abbrev pub with_image : Images → Kind → List ℕ → Images
with_image im k l = cond (is_bridge k) (images l im.devices) (images im.bridges l)

-- 01: 'Each node has 64 bytes': the part at a place; none past the last
unfoldable pub node_part : List ℕ → ℕ → List ℕ
node_part image place = cond (ltb place (length image / 64)) (take 64 (drop (64 * place) image)) []

-- 01: 'written as a part in the middle of its image, and every byte outside them stays'
unfoldable pub on_part : List ℕ → ℕ → (List ℕ → List ℕ) → List ℕ
on_part image place f =
    cond (ltb place (length image / 64))
    (take (64 * place) image ++ (f (take 64 (drop (64 * place) image)) ++ drop (64 * place + 64) image))
    image

-- 01: 'The register view hands back that part of whichever of the two lent images holds the node'; of a missing node an empty part
unfoldable pub view : Tree → Images → ℕ → List ℕ
view t im i = cond (ltb i t.count) (node_part (image_of im (t.node i).kind) (t.place i)) []

-- what is found in the part at a place, and in the part of a node, if there is one
unfoldable pub in_part : {A : Type 0} → List ℕ → ℕ → (List ℕ → A) → Option A
in_part image place f = cond (ltb place (length image / 64)) (Some (f (node_part image place))) None

unfoldable pub in_node : {A : Type 0} → Tree → Images → ℕ → (List ℕ → A) → Option A
in_node t im i f = cond (ltb i t.count) (in_part (image_of im (t.node i).kind) (t.place i) f) None

-- both images with the part of one node changed; those of a missing node stay
unfoldable pub on_node : Tree → Images → ℕ → (List ℕ → List ℕ) → Images
on_node t im i f =
    cond (ltb i t.count) (with_image im (t.node i).kind (on_part (image_of im (t.node i).kind) (t.place i) f)) im

-- a register write of one node, and a status bit set in one node
abbrev pub write_node : Tree → Images → ℕ → ℕ → ℕ → ℕ → Images
write_node t im i register enables put = on_node t im i (λ part. write_register (t.node i) part register enables put)

abbrev pub status_node : Tree → Images → ℕ → Side → StatusBit → Images
status_node t im i side bit = on_node t im i (λ part. set_status (t.node i) part side bit)

-- the registers of one node set to other bytes
abbrev pub set_node : Tree → Images → ℕ → List ℕ → Images
set_node t im i bytes = on_node t im i (λ part. bytes)
