-- The images of an accepted rack have room in those of the largest rack, and hold zeros at first.
use mathlib.Core.Path.{◌≡◌, refl, sym, ap, ◌∙◌}
use Prim.Native.Nat.{ℕ, zero, suc, ◌+◌, ◌*◌, ◌-◌, ◌≤◌, ◌<◌}
use mathlib.Core.List.{List, ◌∷◌}
use lib.ListN.{length, take, replicate, length-replicate}
use lib.Seq.{length-take-le}
use native.Mathlib.Omega.{arith}
use Rattle.rack.specs.definitions.Node.{is_bridge}
use Rattle.rack.specs.laws.CountLaws.{count_both}
use Rattle.rack.specs.definitions.Tree.{Tree, bridges_below, bridge_count, device_count}
use Rattle.rack.specs.definitions.Refusal.{rack_refusal}
use Rattle.rack_laws.specs.laws.Sound.{bridges_le, devices_le}
use Rattle.register_image.specs.definitions.Image.{images}
use Rattle.print_file.specs.definitions.Output.{blank}

module _ (t : Tree) (ok : rack_refusal t ≡ 0) {count b : ℕ} (at : count ≡ t.count) (e : b ≡ bridges_below t.node count) where
  found : b ≡ bridge_count t
  found = e ∙ ap (bridges_below t.node) at

  all : bridge_count t + device_count t ≡ t.count
  all = count_both (λ i. is_bridge (t.node i).kind) t.count

  pub some_nodes : b ≤ count
  some_nodes = omega (arith, all, found)

  pub bridges_fit : 64 * b ≤ 2048
  bridges_fit = omega (arith, bridges_le t ok, found)

  pub devices_fit : 64 * (count - b) ≤ 4096
  devices_fit = omega (arith, all, devices_le t ok, found)

  pub bridges_word : 64 * b < 18446744073709551616
  bridges_word = omega (arith, bridges_fit)

  pub bridges_are : 64 * b ≡ 64 * bridge_count t
  bridges_are = omega (arith, found)

  pub devices_are : 64 * (count - b) ≡ 64 * device_count t
  devices_are = omega (arith, all, found)

-- the first of many zeros
module _ (n most : ℕ) (h : n ≤ most) (l : List ℕ) (e : l ≡ replicate most 0) where
  pub zeros_room : n ≤ length l
  zeros_room = rw (e, length-replicate {A = ℕ} most 0) h

  pub zeros_part : n ≡ length (take n l)
  zeros_part = sym (length-take-le n l zeros_room)

take_zeros : (n most : ℕ) → n ≤ most → take {A = ℕ} n (replicate most 0) ≡ replicate n 0
take_zeros zero most h = refl
take_zeros (suc n) zero h = absurd (omega arith)
take_zeros (suc n) (suc most) h = ap (λ (l : List ℕ). 0 ∷ l) (take_zeros n most (omega arith))

-- both parts are the images of an accepted rack before they are set
pub parts_blank : (t : Tree) (b d : ℕ) (l m : List ℕ) → l ≡ replicate 2048 0 → m ≡ replicate 4096 0 → b ≤ 2048 → d ≤ 4096
    → (b ≡ 64 * bridge_count t) × (d ≡ 64 * device_count t)
    → images (take b l) (take d m) ≡ blank t
parts_blank t b d l m el em hb hd n =
    ap (λ (x : List ℕ). images x (take d m)) (ap (take b) el ∙ take_zeros b 2048 hb ∙ ap (λ (k : ℕ). replicate k 0) n.0)
    ∙ ap (images (replicate (64 * bridge_count t) 0)) (ap (take d) em ∙ take_zeros d 4096 hd ∙ ap (λ (k : ℕ). replicate k 0) n.1)
