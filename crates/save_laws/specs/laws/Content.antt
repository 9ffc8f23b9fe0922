-- Two decoded racks have the same content exactly where their trees and grants are the same, and so exactly where their saved files are.
use Rattle.std.specs.Prelude.{◌≡◌, true, false, ℕ, zero, suc, ◌≤◌, ◌<◌, min, ltb, leb}
use Rattle.std.proofs.Common.{sym, ap, ◌∙◌, inl, inr, arith, lit<, lt-ltb, le-leb, ltb-true, ltb-false, leb-true, leb-false}
use Rattle.rack.specs.declared.Grant.{Grant}
use Rattle.rack.specs.declared.Node.{Node}
use Rattle.rack.specs.declared.Range.{Range}
use Rattle.rack.specs.declared.Rack.{Rack}
use Rattle.rack.specs.definitions.Node.{is_bridge, region_in, own_region, spelt}
use Rattle.rack.specs.definitions.Tree.{Tree}
use Rattle.rack.specs.definitions.Grow.{memory_of, tree}
use Rattle.rack.specs.laws.Bools.{tested}
use Rattle.rack_laws.specs.laws.Sound.{nodes_le}
use Rattle.seat.specs.definitions.Grants.{Grants, no_grant, own_grant, grants}
use Rattle.seat.specs.laws.Stored.{grants_same}
use Rattle.register_image.specs.definitions.Image.{Images}
use Rattle.bus_reset.specs.definitions.Agreement.{image_refusal}
use Rattle.file_save.specs.definitions.Saved.{saved_file}
use Rattle.save_laws.specs.definitions.Content.{memory_in, node_of, grant_of, SameMemory, SameNode, SameGrant, SameContent, Sound}
use Rattle.save_laws.specs.laws.Trees.{stored_same, with_node, with_host}
use Rattle.save_laws.specs.laws.Seats.{not_named}
use Rattle.save_laws.specs.laws.Decoded.{tree_with_lem, tree_said, grants_said, rack_savable}
use Rattle.save_laws.specs.laws.OneForm.{one_form}

-- host memory
pub memory_from : (h k : Range) → SameMemory h k → memory_of h ≡ memory_of k
memory_from h k (inl e) = rw (e.0, e.1)
memory_from h k (inr e) = rw (lt-ltb h.last h.first e.0, lt-ltb k.last k.first e.1)

pub memory_to : (h k : Range) → memory_of h ≡ memory_of k → SameMemory h k
memory_to h k e =
    tested (ltb h.last h.first)
    (λ p.
    tested (ltb k.last k.first) (λ q. inr (ltb-true h.last h.first p, ltb-true k.last k.first q))
    (λ q.
    let f : 1 ≡ k.first = rw (p, q) at (ap (λ (r : Range). r.first) e) in
    let l : 0 ≡ k.last = rw (p, q) at (ap (λ (r : Range). r.last) e) in
    absurd (omega (arith, ltb-false k.last k.first q))))
    (λ p.
    tested (ltb k.last k.first)
    (λ q.
    let f : h.first ≡ 1 = rw (p, q) at (ap (λ (r : Range). r.first) e) in
    let l : h.last ≡ 0 = rw (p, q) at (ap (λ (r : Range). r.last) e) in
    absurd (omega (arith, ltb-false h.last h.first p)))
    (λ q. inl (rw (p, q) at (ap (λ (r : Range). r.first) e), rw (p, q) at (ap (λ (r : Range). r.last) e))))

-- a node
node_from_lem : (m n : Node) → SameNode m n → spelt m ≡ spelt n
node_from_lem m n s =
    rw (own 0 (lit< tt), own 1 (lit< tt), own 2 (lit< tt), s.kind, s.parent, s.device, s.vendor, s.id)
  where
    own : (r : ℕ) → r < 3 → own_region m r ≡ own_region n r
    own r l =
        tested (is_bridge m.kind) (λ q. let p : is_bridge n.kind ≡ true = rw s.kind at q in rw (q, p))
        (λ q. let p : is_bridge n.kind ≡ false = rw s.kind at q in rw (q, p) (s.regions q r l))

node_to : (m n : Node) → spelt m ≡ spelt n → SameNode m n
node_to m n e =
    record {
      kind = kinds;
      parent = ap (λ (x : Node). x.parent) e;
      device = ap (λ (x : Node). x.device) e;
      vendor = ap (λ (x : Node). x.vendor_id) e;
      id = ap (λ (x : Node). x.device_id) e;
      regions = λ q r l. let p : is_bridge n.kind ≡ false = rw kinds at q in rw (q, p) at (own r l);
    }
  where
    kinds : m.kind ≡ n.kind
    kinds = ap (λ (x : Node). x.kind) e

    own : (r : ℕ) → r < 3 → own_region m r ≡ own_region n r
    own zero l = ap (λ (x : Node). region_in x 0) e
    own (suc zero) l = ap (λ (x : Node). region_in x 1) e
    own (suc (suc zero)) l = ap (λ (x : Node). region_in x 2) e
    own (suc (suc (suc r))) l = absurd (omega arith)

-- a grant
grant_from_lem : (g h : Grant) → SameGrant g h → own_grant g ≡ own_grant h
grant_from_lem g h s =
    tested g.named
    (λ q. let p : h.named ≡ true = sym s.named ∙ q in rw (q, p, s.mask q))
    (λ q. let p : h.named ≡ false = sym s.named ∙ q in rw (q, p))

own_named : (g : Grant) → (own_grant g).named ≡ g.named
own_named g = tested g.named (λ q. rw q) (λ q. rw q)

grant_to : (g h : Grant) → own_grant g ≡ own_grant h → SameGrant g h
grant_to g h e =
    let n : g.named ≡ h.named = sym (own_named g) ∙ ap (λ (x : Grant). x.named) e ∙ own_named h in
    record {
      named = n;
      mask = λ q. let p : h.named ≡ true = sym n ∙ q in rw (q, p) at (ap (λ (x : Grant). x.mask) e);
    }

-- what a rack's tree has below the count
node_is : (rack : Rack) → Sound rack → (i : ℕ) → i < rack.count → (tree rack).node i ≡ spelt (node_of rack i)
node_is rack s i l =
    ap (λ (t : Tree). t.node i) (tree_with_lem rack s.nodes) ∙ with_node (memory_in rack) (node_of rack) rack.count i l

host_is : (rack : Rack) → (tree rack).host_memory ≡ memory_of (memory_in rack)
host_is rack = with_host (memory_in rack) (node_of rack) (min 96 rack.count)

-- what a rack's grants have of a seat and one of its nodes, and that they have nothing else
grant_is : (rack : Rack) → Sound rack → (seat node : ℕ) → 1 ≤ seat → seat ≤ 15 → node < rack.count
    → (grants rack).grant seat node ≡ own_grant (grant_of rack seat node)
grant_is rack s seat node a l h =
    let m : node < 96 = omega (arith, nodes_le (tree rack) s.nodes) in
    rw (le-leb 1 seat a, le-leb seat 15 l, lt-ltb node 96 m)

grant_none : (rack : Rack) → Sound rack → (seat node : ℕ) → ((1 ≤ seat) × (seat ≤ 15) × (node < rack.count) → ⊥)
    → (grants rack).grant seat node ≡ no_grant
grant_none rack s seat node n = not_named rack.count (grants rack) (grants_said rack s.seats) seat node n

-- a seat and a node of the rack, or not
in_range : {P : Type 0} (count seat node : ℕ) → (1 ≤ seat → seat ≤ 15 → node < count → P)
    → (((1 ≤ seat) × (seat ≤ 15) × (node < count) → ⊥) → P) → P
in_range count seat node inside outside =
    tested (leb 1 seat)
    (λ a.
    tested (leb seat 15)
    (λ l.
    tested (ltb node count) (λ h. inside (leb-true 1 seat a) (leb-true seat 15 l) (ltb-true node count h))
    (λ h. outside (λ p. omega (arith, p.2, ltb-false node count h))))
    (λ l. outside (λ p. omega (arith, p.1, leb-false seat 15 l))))
    (λ a. outside (λ p. omega (arith, p.0, leb-false 1 seat a)))

module _ (a b : Rack) (s : Sound a) (r : Sound b) where
  -- racks of the same content have the same tree and the same grants
  pub content_tree : SameContent a b → tree a ≡ tree b
  content_tree c =
      stored_same (tree_said a s.nodes).stored (tree_said b r.nodes).stored c.count
      (host_is a ∙ memory_from (memory_in a) (memory_in b) c.memory ∙ sym (host_is b))
      (λ i.
      tested (ltb i a.count)
      (λ q.
      let l = ltb-true i a.count q in
      node_is a s i l ∙ node_from_lem (node_of a i) (node_of b i) (c.nodes i l) ∙ sym (node_is b r i (omega (arith, c.count))))
      (λ q.
      let l = ltb-false i a.count q in
      (tree_said a s.nodes).none i l ∙ sym ((tree_said b r.nodes).none i (omega (arith, c.count)))))

  pub content_grants : SameContent a b → grants a ≡ grants b
  content_grants c =
      grants_same
      (λ seat node.
      in_range a.count seat node
      (λ m l h.
      grant_is a s seat node m l h ∙ grant_from_lem (grant_of a seat node) (grant_of b seat node) (c.seats seat node m l h)
      ∙ sym (grant_is b r seat node m l (omega (arith, c.count))))
      (λ n. grant_none a s seat node n ∙ sym (grant_none b r seat node (λ p. n (p.0, p.1, omega (arith, p.2, c.count))))))
      (s.seats ∙ sym r.seats)

  -- and the converse
  pub same_content : tree a ≡ tree b → grants a ≡ grants b → SameContent a b
  same_content t g =
      let n : a.count ≡ b.count = ap (λ (u : Tree). u.count) t in
      record {
        memory = memory_to (memory_in a) (memory_in b) (sym (host_is a) ∙ ap (λ (u : Tree). u.host_memory) t ∙ host_is b);
        count = n;
        nodes = λ i l.
            node_to (node_of a i) (node_of b i)
            (sym (node_is a s i l) ∙ ap (λ (u : Tree). u.node i) t ∙ node_is b r i (omega (arith, n)));
        seats = λ seat node m l h.
            grant_to (grant_of a seat node) (grant_of b seat node)
            (sym (grant_is a s seat node m l h) ∙ ap (λ (x : Grants). x.grant seat node) g
            ∙ grant_is b r seat node m l (omega (arith, n)));
      }

  -- so their files, saved with their registers, are the same exactly where contents and registers are
  module _ (im jm : Images) where
    pub content_file_lem : SameContent a b → im ≡ jm → saved_file (tree a) (grants a) im ≡ saved_file (tree b) (grants b) jm
    content_file_lem c e = rw (content_tree c, content_grants c, e)

    pub file_content : image_refusal (tree a) im ≡ 0 → image_refusal (tree b) jm ≡ 0
        → saved_file (tree a) (grants a) im ≡ saved_file (tree b) (grants b) jm → SameContent a b × (im ≡ jm)
    file_content p q e =
        let o = one_form (tree a) (tree b) (grants a) (grants b) im jm (rack_savable a s im p) (rack_savable b r jm q) e in
        (same_content o.0 o.1, o.2)
