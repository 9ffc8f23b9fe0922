-- The node records of a saved file: after them the reading has the tree.
use Rattle.std.specs.Prelude.{◌≡◌, List, ◌++◌, eqb}
use Rattle.std.proofs.Common.{sym, ap, ◌∙◌, arith, eqb-true}
use Rattle.std.proofs.Math.Path.{subst}
use Prim.Native.Nat.{ℕ, ◌+◌, ◌≤◌, ◌<◌}
use Rattle.std.proofs.Math.ListN.{length}
use Rattle.std.proofs.lemmas.Bool.{eqb-false}
use Rattle.rack.specs.definitions.Tree.{Tree}
use Rattle.rack.specs.definitions.Grow.{no_tree, nodes_with, tree_with}
use Rattle.rack.specs.definitions.Refusal.{node_refusal, rack_refusal}
use Rattle.rack.specs.laws.Bools.{tested}
use Rattle.rack.specs.laws.GrowLaws.{with_new, with_earlier, with_count}
use Rattle.rack_laws.specs.laws.Grown.{refusal_same}
use Rattle.rack_laws.specs.laws.Refusals.{accepted}
use Rattle.seat.specs.definitions.Grants.{no_grants}
use Rattle.file_record.specs.definitions.Load.{Reading}
use Rattle.file_save.specs.definitions.Saved.{node_bytes, nodes_of}
use Rattle.save_laws.specs.definitions.Said.{SaidTree}
use Rattle.save_laws.specs.laws.Here.{Here}
use Rattle.save_laws.specs.laws.Goes.{Goes, goes_each}
use Rattle.save_laws.specs.laws.Records.{before, node_goes}
use Rattle.save_laws.specs.laws.Trees.{with_node, with_more, said_grown}

module _ (t : Tree) (ok : rack_refusal t ≡ 0) (said : SaidTree t) where
  -- the tree of the first i nodes
  abbrev grown_to : ℕ → Tree
  grown_to i = tree_with t.host_memory t.node i

  -- with the next one it has the tree's nodes, so the next has no fault: a refusal looks at no later node
  next_node : (i j : ℕ) → j ≤ i → nodes_with (grown_to i) (t.node i) j ≡ t.node j
  next_node i j l =
      let c = with_count t.host_memory t.node i in
      tested (eqb j i)
      (λ q. let e = eqb-true j i q in with_new (grown_to i) (t.node i) j (e ∙ sym c) ∙ rw e (said.nodes i))
      (λ q.
      let k : j < i = omega (arith, eqb-false j i q) in
      with_earlier (grown_to i) (t.node i) j (omega (arith, c)) ∙ with_node t.host_memory t.node i j k ∙ said.nodes j)

  next_right : (i : ℕ) → i < t.count → node_refusal (nodes_with (grown_to i) (t.node i)) (grown_to i).count ≡ 0
  next_right i l =
      ap (node_refusal (nodes_with (grown_to i) (t.node i))) (with_count t.host_memory t.node i)
      ∙ refusal_same (nodes_with (grown_to i) (t.node i)) t.node i (next_node i) ∙ accepted t ok i l

  pub nodes_go : (b : List ℕ) (o : ℕ) (y : List ℕ) → 0 < o → Here b o (nodes_of t ++ y)
      → Goes b (before o 0 0 (no_tree t.host_memory) no_grants) (before (o + length (nodes_of t)) 0 0 t no_grants)
  unfolding tree_with
  nodes_go b o y after h =
      subst (λ (u : Tree). Goes b (S o 0) (before (o + length (nodes_of t)) 0 0 u no_grants)) (said_grown t said)
      (goes_each b (λ i. node_bytes (t.node i)) S 1 0 t.count
      (λ o i y low a l h.
      subst (λ (u : Tree). Goes b (S o i) (before (o + length (node_bytes (t.node i))) 0 0 u no_grants))
      (sym (with_more t.host_memory t.node i))
      (node_goes b o (grown_to i) no_grants y low (t.node i) h (next_right i l) (said.nodes i)))
      o 0 t.count y after (omega arith) (omega arith) h)
    where
      S : ℕ → ℕ → Reading
      S o i = before o 0 0 (grown_to i) no_grants
