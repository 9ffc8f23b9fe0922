-- The turns of the loops that put reset values: one byte of a part more, one node of a rack more.
use mathlib.Core.Path.{◌≡◌}
use mathlib.Core.List.{List, [], ◌∷◌, ◌++◌, append-nil}
use Prim.Native.Nat.{ℕ, ◌+◌, ◌-◌, ◌≤◌, ◌<◌}
use native.Mathlib.Numerals.{add-one}
use native.Mathlib.Omega.{arith}
use mathlib.Core.Bool.{true}
use lib.ListN.{length, take, set}
use lib.Seq.{take_all, take-suc-set, append_snoc}
use Rattle.rack.specs.declared.Node.{Node}
use Rattle.rack.specs.definitions.Tree.{Tree}
use Rattle.rack.specs.laws.CountLaws.{left_suc, left_none}
use Rattle.register_header.specs.definitions.Mask.{reset_byte}
use Rattle.register_image.specs.definitions.Image.{Images}
use Rattle.register_image.specs.definitions.Reset.{reset_from, reset_part, reset_node, reset_images}
use Rattle.register_image.specs.laws.ResetTurns.{ResetYet, reset_next, reset_all}

from_next : (n : Node) (at : ℕ) → at < 64 → reset_from n at (64 - at) ≡ reset_byte n at ∷ reset_from n (at + 1) (64 - (at + 1))
unfolding reset_from
from_next n at h = rw (left_suc at 64 h)

-- the bytes below `at` are at reset
pub bytes_next : (n : Node) (l : List ℕ) (at : ℕ) {v : ℕ} → length l ≡ 64 → at < 64 → v ≡ reset_byte n at
    → take at l ++ reset_from n at (64 - at) ≡ reset_part n
    → take (at + 1) (set l at v) ++ reset_from n (at + 1) (64 - (at + 1)) ≡ reset_part n
bytes_next n l at {v} el h ev e =
    let inside : at < length l = omega arith in
    let more : take (at + 1) (set l at v) ≡ take at l ++ (v ∷ []) = rw add-one (take-suc-set l at v inside) in
    rw (more, append_snoc, ev, ← from_next n at h) e

pub bytes_none : (n : Node) (l : List ℕ) (at : ℕ) → length l ≡ 64 → 64 ≤ at
    → take at l ++ reset_from n at (64 - at) ≡ reset_part n → l ≡ reset_part n
unfolding reset_from
bytes_none n l at el h e =
    let whole : length l ≤ at = omega arith in
    rw (left_none at 64 h, take_all at l whole, append-nil) at e

-- where every node is put at reset
module _ (t : Tree) (whole im : Images) {n i : ℕ} (yet : ResetYet t (λ i. true) whole n im i) where
  pub each_next : {after : Images} → i < n → after ≡ reset_node t im i → ResetYet t (λ i. true) whole n after (i + 1)
  each_next h e = reset_next t (λ i. true) whole im yet h e

  pub each_all : n ≡ t.count → n ≤ i → im ≡ reset_images t whole
  each_all at h = reset_all t (λ i. true) whole im yet at h
