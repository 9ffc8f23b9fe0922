-- How long a saved file is.
use Rattle.std.specs.Prelude.{◌≡◌, refl, Bool, true, false, not, cond, List, [], ◌++◌, ℕ, zero, suc, ◌+◌, ◌*◌, ◌/◌, ◌≤◌, ltb, length, take, drop}
use Rattle.std.proofs.Common.{ap, ◌∙◌, arith, suc-mul, zero-add, lit≤, length-append, length-take}
use Rattle.std.proofs.Math.Nat.{min-le_left}
use Rattle.rack.specs.declared.Node.{Node}
use Rattle.rack.specs.definitions.Count.{count_of}
use Rattle.rack.specs.definitions.Node.{is_bridge}
use Rattle.rack.specs.definitions.Tree.{Tree, bridges_below, devices_below}
use Rattle.rack.specs.definitions.Refusal.{rack_refusal}
use Rattle.rack_laws.specs.laws.Sound.{bridges_le, devices_le, nodes_le}
use Rattle.seat.specs.definitions.Grants.{Grants}
use Rattle.register_image.specs.definitions.Image.{Images, image_of, node_part, view}
use Rattle.register_image.specs.definitions.Reset.{is_changed}
use Rattle.file_save.specs.definitions.Saved.{host_bytes, regions_bytes, head_bytes, node_bytes, grant_bytes, seat_bytes, view_bytes, register_bytes}
use Rattle.file_save.specs.definitions.Saved.{each, nodes_of, seat_of, seats_of, registers_of, rack_of, saved_file}

-- its parts
pub rack_length : (t : Tree) (g : Grants) → length (rack_of t g) ≡ 17 + length (nodes_of t) + length (seats_of t g)
unfolding rack_of
rack_length t g =
    omega (arith, length-append (host_bytes t.host_memory) (nodes_of t ++ seats_of t g), length-append (nodes_of t) (seats_of t g))

pub saved_length : (t : Tree) (g : Grants) (im : Images) → length (saved_file t g im) ≡ length (rack_of t g) + length (registers_of t im)
unfolding saved_file
saved_length t g im = length-append (rack_of t g) (registers_of t im)

-- what stands of each number has at most k bytes
each_le : (f : ℕ → List ℕ) (k : ℕ) → ((i : ℕ) → length (f i) ≤ k) → (i left : ℕ) → length (each f i left) ≤ left * k
unfolding each
each_le f k h i zero = omega arith
each_le f k h i (suc left) =
    omega (arith, length-append (f i) (each f (i + 1) left), h i, each_le f k h (i + 1) left, suc-mul left k)

-- the last number's stands last
each_last : (f : ℕ → List ℕ) (i left : ℕ) → length (each f i (suc left)) ≡ length (each f i left) + length (f (i + left))
unfolding each
each_last f i zero = let e : i ≡ i + 0 = omega arith in omega (arith, length-append (f i) [], ap (λ (n : ℕ). length (f n)) e)
each_last f i (suc left) =
    let e : i + 1 + left ≡ i + suc left = omega arith in
    omega (
      arith,
      length-append (f i) (each f (i + 1) (suc left)),
      length-append (f i) (each f (i + 1) left),
      each_last f (i + 1) left,
      ap (λ (n : ℕ). length (f n)) e,
    )

-- a bridge's record has 7 bytes, a device's 13
pub node_length : (n : Node) → length (node_bytes n) ≡ cond (is_bridge n.kind) 7 13
unfolding node_bytes
node_length n =
    length-append (head_bytes n) (cond (is_bridge n.kind) [] (regions_bytes n)) ∙ by_kind (is_bridge n.kind)
  where
    by_kind : (b : Bool) → 7 + length (cond b [] (regions_bytes n)) ≡ cond b 7 13
    by_kind true = refl
    by_kind false = refl

counted_length : (b : Bool) → cond b 7 13 ≡ 7 * cond b 1 0 + 13 * cond (not b) 1 0
counted_length true = refl
counted_length false = refl

nodes_length : (node : ℕ → Node) (n : ℕ)
    → length (each (λ i. node_bytes (node i)) 0 n) ≡ 7 * bridges_below node n + 13 * devices_below node n
unfolding each count_of
nodes_length node zero = refl
nodes_length node (suc n) =
    omega (
      arith,
      each_last (λ i. node_bytes (node i)) 0 n,
      nodes_length node n,
      node_length (node n),
      counted_length (is_bridge (node n).kind),
      ap (λ (i : ℕ). length (node_bytes (node i))) (zero-add n),
    )

-- bytes that may be left out
some_le : (b : Bool) (s : List ℕ) (n : ℕ) → length s ≤ n → length (cond b s []) ≤ n
some_le true s n h = h
some_le false s n h = omega arith

seat_le : (g : Grants) (seat node : ℕ) → length (seat_bytes g seat node) ≤ 5
unfolding seat_bytes
seat_le g seat node = some_le (g.grant seat node).named (grant_bytes seat node (g.grant seat node).mask) 5 (lit≤ tt)

view_le : (t : Tree) (im : Images) (i : ℕ) → length (view t im i) ≤ 64
unfolding view node_part
view_le t im i =
    let image = image_of im (t.node i).kind in
    let from = drop (64 * t.place i) image in
    let part = take 64 from in
    let short : length part ≤ 64 = omega (arith, length-take 64 from, min-le_left 64 (length from)) in
    some_le (ltb i t.count) (node_part image (t.place i)) 64 (some_le (ltb (t.place i) (length image / 64)) part 64 short)

register_le : (t : Tree) (im : Images) (i : ℕ) → length (register_bytes t im i) ≤ 66
unfolding register_bytes
register_le t im i = some_le (is_changed (t.node i) (view t im i)) (view_bytes i (view t im i)) 66 (omega (arith, view_le t im i))

-- a rack has at most 32 bridges and 64 devices; each of 15 seats may be named with each of 96 nodes
module _ (t : Tree) (g : Grants) (im : Images) (ok : rack_refusal t ≡ 0) where
  seat_nodes_le : (seat : ℕ) → length (seat_of t g seat) ≤ 480
  seat_nodes_le seat = omega (arith, each_le (seat_bytes g seat) 5 (seat_le g seat) 0 t.count, nodes_le t ok)

  pub saved_most : length (saved_file t g im) ≤ 14609
  saved_most =
      omega (
        arith,
        saved_length t g im,
        rack_length t g,
        nodes_length t.node t.count,
        bridges_le t ok,
        devices_le t ok,
        each_le (seat_of t g) 480 seat_nodes_le 1 15,
        each_le (register_bytes t im) 66 (register_le t im) 0 t.count,
        nodes_le t ok,
      )
