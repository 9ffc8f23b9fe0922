-- Each record, with the room that it takes.
use Rattle.std.specs.Prelude.{◌≡◌, refl, ℕ, ◌+◌, ◌^◌, ◌<◌, ◌≤◌, Bool, true, false, cond, List, [], ◌∷◌, ◌++◌, length}
use Rattle.std.specs.Int.{w16, w64, to_le_bytes}
use Rattle.std.proofs.Common.{sym, ap, ap₂, ◌∙◌, arith, length-append}
use Rattle.rack.specs.declared.Grant.{Grant}
use Rattle.rack.specs.declared.Node.{Node}
use Rattle.rack.specs.declared.Range.{Range}
use Rattle.rack.specs.definitions.Node.{kind_number, is_bridge}
use Rattle.rack.specs.definitions.Tree.{Tree}
use Rattle.seat.specs.definitions.Grants.{Grants}
use Rattle.register_image.specs.definitions.Image.{Images, view}
use Rattle.register_image.specs.definitions.Reset.{is_changed}
use Rattle.file_save.specs.definitions.Saved.{Put, word_bytes, qword_bytes, host_bytes, regions_bytes, head_bytes, node_bytes, grant_bytes, seat_bytes, view_bytes, register_bytes}
use Rattle.file_save.proofs.Puts.{put_same, put_kept, put_two, put_three}

-- a number's bytes, lowest first
also : {x y : ℕ} {xs ys : List ℕ} → x ≡ y → xs ≡ ys → x ∷ xs ≡ y ∷ ys
also e es = ap₂ {C = List ℕ} (λ z zs. z ∷ zs) e es

word_le : (n : ℕ) → n < 2 ^ 16 → to_le_bytes w16 n ≡ word_bytes n
word_le n h = also refl (also (omega arith) refl)

qword_le : (n : ℕ) → n < 2 ^ 64 → to_le_bytes w64 n ≡ qword_bytes n
qword_le n h =
    also (omega arith) (also (omega arith) (also (omega arith) (also (omega arith)
    (also (omega arith) (also (omega arith) (also (omega arith) (also (omega arith) refl)))))))

-- the host's
pub host_put : (m : Range) {at r r₁ r₂ : ℕ} {old m₁ m₂ new p q : List ℕ} → m.first < 2 ^ 64 → m.last < 2 ^ 64
    → p ≡ to_le_bytes w64 m.first → q ≡ to_le_bytes w64 m.last → Put at (1 ∷ []) old r₁ m₁ → Put r₁ p m₁ r₂ m₂ → Put r₂ q m₂ r new
    → at + 17 ≤ length old → Put at (host_bytes m) old r new
host_put m hf hl ep eq a b c h =
    put_three a (put_same b (sym (ep ∙ qword_le m.first hf))) (put_same c (sym (eq ∙ qword_le m.last hl))) refl h

-- a node's: what all have, then the regions of a device
pub head_put : (n : Node) {k at r r₁ r₂ : ℕ} {old m₁ m₂ new v d : List ℕ} → n.vendor_id < 2 ^ 16 → n.device_id < 2 ^ 16
    → k ≡ kind_number n.kind → v ≡ to_le_bytes w16 n.vendor_id → d ≡ to_le_bytes w16 n.device_id
    → Put at (k ∷ n.parent ∷ n.device ∷ []) old r₁ m₁ → Put r₁ v m₁ r₂ m₂ → Put r₂ d m₂ r new → at + 7 ≤ length old
    → Put at (head_bytes n) old r new
head_put n hv hd e ev ed p q o h =
    put_three p (put_same q (sym (ev ∙ word_le n.vendor_id hv))) (put_same o (sym (ed ∙ word_le n.device_id hd))) (rw e) h

pub head_room : (n : Node) (at len : ℕ) → at + length (node_bytes n) ≤ len → at + 7 ≤ len
unfolding node_bytes
head_room n at len h = omega (arith, length-append (head_bytes n) (cond (is_bridge n.kind) [] (regions_bytes n)))

pub node_same : {n m : Node} → n ≡ m → node_bytes n ≡ node_bytes m
node_same e = ap node_bytes e

module _ (n : Node) {b : Bool} (e : b ≡ is_bridge n.kind) where
  pub bridge_is : b ≡ true → node_bytes n ≡ head_bytes n
  unfolding node_bytes
  bridge_is t = rw (← e, t)

  pub device_is : b ≡ false → node_bytes n ≡ head_bytes n ++ regions_bytes n
  unfolding node_bytes
  device_is t = rw (← e, t)

  pub regions_room : {at r : ℕ} {old mid : List ℕ} → Put at (head_bytes n) old r mid → b ≡ false
      → at + length (node_bytes n) ≤ length old → r + 6 ≤ length mid
  regions_room p t h =
      let long = ap length (device_is t) in
      omega (arith, long, p.end, put_kept p (omega (arith, long)))

-- a pair's, where it is named
pub grant_put : (seat node mask : ℕ) {at r r₁ : ℕ} {old m₁ new q : List ℕ} → mask < 2 ^ 16 → q ≡ to_le_bytes w16 mask
    → Put at (9 ∷ seat ∷ node ∷ []) old r₁ m₁ → Put r₁ q m₁ r new → at + 5 ≤ length old → Put at (grant_bytes seat node mask) old r new
grant_put seat node mask hm e p q h = put_two p (put_same q (sym (e ∙ word_le mask hm))) refl h

module _ (g : Grants) (seat node : ℕ) {own : Grant} (e : own ≡ g.grant seat node) where
  pub grant_is : own.named ≡ true → seat_bytes g seat node ≡ grant_bytes seat node own.mask
  unfolding seat_bytes
  grant_is t = rw (← e, t)

  pub grant_none : own.named ≡ false → seat_bytes g seat node ≡ []
  unfolding seat_bytes
  grant_none t = rw (← e, t)

  pub grant_room : (at len : ℕ) → own.named ≡ true → at + length (seat_bytes g seat node) ≤ len → at + 5 ≤ len
  grant_room at len t h = omega (arith, ap length (grant_is t))

-- a node's registers, where they differ from reset
module _ (t : Tree) (im : Images) (i : ℕ) {part : List ℕ} {n : Node} {b : Bool} (v : part ≡ view t im i) (o : n ≡ t.node i)
    (e : b ≡ is_changed n part) where
  pub view_is : b ≡ true → register_bytes t im i ≡ view_bytes i part
  unfolding register_bytes
  view_is y = rw (← v, ← o, ← e, y)

  pub view_none : b ≡ false → register_bytes t im i ≡ []
  unfolding register_bytes
  view_none y = rw (← v, ← o, ← e, y)

  pub view_room : (at len : ℕ) → b ≡ true → at + length (register_bytes t im i) ≤ len → at + length (view_bytes i part) ≤ len
  view_room at len y h = omega (arith, ap length (view_is y))
