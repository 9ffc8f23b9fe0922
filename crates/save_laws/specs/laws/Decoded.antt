-- A decoded rack that is accepted can be said by a file: its tree, and its grants where none is 14.
use Rattle.std.specs.Prelude.{◌≡◌, refl, Bool, true, false, cond, ℕ, ◌%◌, ◌<◌, min}
use Rattle.std.proofs.Common.{sym, subst, true≢false, arith, leb-false}
use Rattle.std.proofs.lemmas.Bool.{false≢true}
use Rattle.rack.specs.declared.Grant.{Grant}
use Rattle.rack.specs.declared.Rack.{Rack}
use Rattle.rack.specs.definitions.Tree.{Tree}
use Rattle.rack.specs.definitions.Grow.{counting, tree_with, tree}
use Rattle.rack.specs.definitions.Refusal.{rack_refusal}
use Rattle.rack.specs.laws.Bools.{tested}
use Rattle.rack.specs.laws.GrowLaws.{with_count}
use Rattle.rack.specs.laws.Search.{none}
use Rattle.rack_laws.specs.laws.Sound.{nodes_le}
use Rattle.seat.specs.definitions.Grants.{no_grant, is_pair, slot, own_grant, named_missing, grants}
use Rattle.seat.specs.laws.Stored.{pair_is, pair_below}
use Rattle.register_image.specs.definitions.Image.{Images}
use Rattle.bus_reset.specs.definitions.Agreement.{image_refusal}
use Rattle.save_laws.specs.definitions.Said.{SaidTree, SaidGrants, Savable}
use Rattle.save_laws.specs.definitions.Content.{memory_in, node_of, grant_of, Sound}
use Rattle.save_laws.specs.laws.Trees.{with_said}

-- the tree of an accepted rack has all its nodes
pub tree_with_lem : (rack : Rack) → rack_refusal (tree rack) ≡ 0 → tree rack ≡ tree_with (memory_in rack) (node_of rack) rack.count
tree_with_lem rack ok =
    let e : min 96 rack.count ≡ rack.count = omega (arith, nodes_le (tree rack) ok) in
    rw e (counted (with_count (memory_in rack) (node_of rack) rack.count))
  where
    counted : {t : Tree} {n : ℕ} → t.count ≡ n → counting n t ≡ t
    counted {t} c = rw (← c)

pub tree_said : (rack : Rack) → rack_refusal (tree rack) ≡ 0 → SaidTree (tree rack)
tree_said rack ok = subst SaidTree (sym (tree_with_lem rack ok)) (with_said (memory_in rack) (node_of rack) rack.count)

-- grants
named_both : (p : Bool) (g : Grant) → (cond p (own_grant g) no_grant).named ≡ true → (p ≡ true) × (g.named ≡ true)
named_both false g e = absurd (false≢true e)
named_both true g e = (refl, tested g.named (λ q. q) (λ q. absurd (false≢true (rw q at e))))

unnamed_none : (p : Bool) (g : Grant) → (cond p (own_grant g) no_grant).named ≡ false → cond p (own_grant g) no_grant ≡ no_grant
unnamed_none false g e = refl
unnamed_none true g e = tested g.named (λ q. absurd (true≢false (rw q at e))) (λ q. rw q)

pub grants_said : (rack : Rack) → (grants rack).wrong ≡ false → SaidGrants rack.count (grants rack)
grants_said rack right =
    record {
      right = right;
      named = λ seat node q.
          let n = named_both (is_pair seat node) (grant_of rack seat node) q in
          let p = pair_is seat node n.0 in
          let m = none (named_missing rack) 1440 right (slot seat node) (pair_below seat node n.0) in
          let l : slot seat node % 96 < rack.count = leb-false rack.count (slot seat node % 96) (rw n.1 at m) in
          let e : slot seat node % 96 ≡ node = omega (arith, p.2) in
          (p.0, p.1, omega (arith, l, e));
      unnamed = λ seat node q. unnamed_none (is_pair seat node) (grant_of rack seat node) q;
    }

pub rack_savable : (rack : Rack) → Sound rack → (im : Images) → image_refusal (tree rack) im ≡ 0 → Savable (tree rack) (grants rack) im
rack_savable rack s im p =
    record { accepted = s.nodes; tree = tree_said rack s.nodes; grants = grants_said rack s.seats; images = p }
