-- A list that is filled, agent by agent, with what a list of their numbers stands for.
use mathlib.Core.Path.{◌≡◌, sym, ap, subst, ◌∙◌}
use mathlib.Core.List.{List, [], ◌∷◌}
use mathlib.Core.Logic.{◌≢◌}
use Prim.Native.Nat.{ℕ, suc, ◌+◌, ◌-◌, ◌≤◌, ◌<◌}
use native.Mathlib.Omega.{arith}
use borrow.Author.Count.{below_none, below_more}
use lib.ListN.{length, get_or, set, length-set}
use lib.Seq.{get_or-set_same, get_or-set_other}
use Rattle.claim_agent.specs.declared.Agent.{Agent}
use Rattle.rack.specs.definitions.Tree.{Tree, parent_of, nodes_from, nodes_on, agents}
use Rattle.register_image.specs.definitions.Image.{Images}
use Rattle.claim_agent.specs.definitions.Agent.{agent_of}
use Rattle.check_search.specs.laws.FirstLaws.{on_first, off_first, none_left, all_left}
use Rattle.check_search.specs.definitions.Gathered.{nobody, Gathered}

-- the first n of `all` are in `found`, and `rest` are the others
pub record Filled (g : ℕ → Agent) (all rest : List ℕ) (found : List Agent) (n : ℕ) : Type 0 where
  pub long : length found ≡ 17
  pub left : n + length rest ≡ length all
  pub others : (j : ℕ) → get_or rest j 0 ≡ get_or all (n + j) 0
  pub held : (j : ℕ) → j < n → get_or found j nobody ≡ g (get_or all j 0)

-- the first agent alone
filled_one : (g : ℕ → Agent) (x : ℕ) (rest : List ℕ) (found : List Agent) → length found ≡ 17
    → get_or found 0 nobody ≡ g x → Filled g (x ∷ rest) rest found 1
filled_one g x rest found e first =
    record {
      long = e;
      left = omega arith;
      others = λ j. let s : suc j ≡ 1 + j = omega arith in ap (λ (k : ℕ). get_or (x ∷ rest) k 0) s;
      held =
          below_more (λ j. get_or found j nobody ≡ g (get_or (x ∷ rest) j 0)) 0
          (below_none (λ j. get_or found j nobody ≡ g (get_or (x ∷ rest) j 0))) first;
    }

module _ {g : ℕ → Agent} {all rest : List ℕ} {found : List Agent} {n : ℕ} (f : Filled g all rest found n) where
  -- the others by another name
  filled_same : {others : List ℕ} → rest ≡ others → Filled g all others found n
  filled_same e = subst (λ (l : List ℕ). Filled g all l found n) e f

  -- there is room for one more
  room : {x : ℕ} {more : List ℕ} → rest ≡ x ∷ more → length all ≤ 17 → n < 17
  room e few = omega (arith, f.left, ap length e)

  -- one agent more
  filled_more : {x : ℕ} {more : List ℕ} {v : Agent} → rest ≡ x ∷ more → length all ≤ 17 → v ≡ g x
      → Filled g all more (set found n v) (n + 1)
  filled_more {x} {more} {v} e few ev =
      let h : n < 17 = room e few in
      let zero-on : n + 0 ≡ n = omega arith in
      let here : x ≡ get_or all n 0 = sym (ap (λ (l : List ℕ). get_or l 0 0) e) ∙ f.others 0 ∙ ap (λ (k : ℕ). get_or all k 0) zero-on in
      record {
        long = length-set found n v ∙ f.long;
        left = omega (arith, f.left, ap length e);
        others =
            λ j.
            let s : n + suc j ≡ n + 1 + j = omega arith in
            sym (ap (λ (l : List ℕ). get_or l (suc j) 0) e) ∙ f.others (suc j) ∙ ap (λ (k : ℕ). get_or all k 0) s;
        held =
            below_more (λ j. get_or (set found n v) j nobody ≡ g (get_or all j 0)) n
            (λ j hj. get_or-set_other found n j v nobody (λ q. omega arith) ∙ f.held j hj)
            (get_or-set_same found n v nobody (omega (arith, f.long)) ∙ ev ∙ ap g here);
      }

  -- no agent is left
  filled_all : rest ≡ [] → (j : ℕ) → j < length all → get_or found j nobody ≡ g (get_or all j 0)
  filled_all e j h = f.held j (omega (arith, f.left, ap length e))

-- the agents of a bus, gathered node by node
module _ (t : Tree) (im : Images) (bus : ℕ) where
  abbrev pub GatheredTo : ℕ → List Agent → ℕ → ℕ → Type 0
  GatheredTo count found n i = Filled (agent_of t im bus) (agents t bus) (nodes_from t bus i (count - i)) found n

  pub gathered_none : {count : ℕ} {found : List Agent} → length found ≡ 17 → get_or found 0 nobody ≡ agent_of t im bus bus → count ≡ t.count
      → GatheredTo count found 1 0
  gathered_none {found = found} long first at =
      filled_same (filled_one (agent_of t im bus) bus (nodes_on t bus) found long first) (all_left t bus at)

  module _ {count : ℕ} (found : List Agent) {n i : ℕ} (so : GatheredTo count found n i) where
    pub gathered_all : count ≤ i → Gathered t im bus found
    gathered_all h = filled_all so (none_left t bus count i h)

    module _ {p : ℕ} (h : i < count) (parent : p ≡ parent_of t i) where
      pub gathered_off : p ≢ bus → GatheredTo count found n (i + 1)
      gathered_off ne = filled_same so (off_first t bus count i h parent ne)

      module _ (e : p ≡ bus) (few : length (agents t bus) ≤ 17) where
        pub gathered_room : n < 17
        gathered_room = room so (on_first t bus count i h parent e) few

        pub gathered_on : {v : Agent} → v ≡ agent_of t im bus i → GatheredTo count (set found n v) (n + 1) (i + 1)
        gathered_on ev = filled_more so (on_first t bus count i h parent e) few ev
