-- Laws of the first fault of a list or of a run of numbers.
use Rattle.std.specs.Prelude.{◌≡◌, refl, ◌≢◌, cond, List, [], ◌∷◌, Ok, Err, ℕ, ◌+◌, ◌-◌, ◌≤◌, ◌<◌}
use Rattle.std.proofs.Math.Path.{sym, ap}
use Rattle.std.proofs.Common.{◌∙◌, arith}
use borrow.Author.Tests.{eq-eqb, ne_eqb}
use Rattle.rack.specs.laws.Bools.{tested}
use Rattle.rack.specs.laws.CountLaws.{left_suc, left_none}
use Rattle.rack.specs.definitions.Node.{is_bridge}
use Rattle.rack.specs.definitions.Tree.{Tree, parent_of, nodes_from, nodes_on, bridges_from}
use Rattle.check_search.specs.declared.Fault.{Fault}
use Rattle.check_search.specs.definitions.Report.{Report, Pass}
use Rattle.check_search.specs.definitions.Check.{or_else, first_in, first_from}

-- a search that finds a fault ends with it: what follows does not matter
pub else_found : {w r x : Report} {f : Fault} (s : Report) → w ≡ or_else x s → r ≡ x → r ≡ Err f → Err f ≡ w
else_found s ew er e = sym (ew ∙ ap (λ (r : Report). or_else r s) (sym er ∙ e))

-- and goes on where there is none: then it is what follows that matters
pub else_next : {w r x : Report} (s : Report) → w ≡ or_else x s → r ≡ x → r ≡ Pass → w ≡ s
else_next s ew er e = ew ∙ ap (λ (r : Report). or_else r s) (sym er ∙ e)

-- the first of the numbers left, and the others
pub from_step : (f : ℕ → Report) (m a : ℕ) → a < m → first_from f (m - a) a ≡ or_else (f a) (first_from f (m - (a + 1)) (a + 1))
unfolding first_from
from_step f m a h = rw (left_suc a m h)

-- no number is left
pub from_end : (f : ℕ → Report) (m a : ℕ) → m ≤ a → first_from f (m - a) a ≡ Pass
unfolding first_from
from_end f m a h = rw (left_none a m h)

-- the first member, and the others
pub in_step : {A : Type 0} (f : A → Report) (x : A) (l : List A) → first_in f (x ∷ l) ≡ or_else (f x) (first_in f l)
unfolding first_in
in_step f x l = refl

-- nothing follows the last
pub else_pass : (r : Report) → or_else r Pass ≡ r
else_pass (Ok _) = refl
else_pass (Err f) = refl

-- one member alone
pub in_one : {A : Type 0} (f : A → Report) (x : A) → first_in f (x ∷ []) ≡ f x
unfolding first_in
in_one f x = else_pass (f x)

-- a member that was asked: its fault is the first, and without one the others are asked
module _ {A : Type 0} (f : A → Report) (x : A) (l : List A) {r : Report} (er : r ≡ f x) where
  pub in_found : {e : Fault} → r ≡ Err e → Err e ≡ first_in f (x ∷ l)
  in_found q = else_found (first_in f l) (in_step f x l) er q

  pub in_next : r ≡ Pass → {s : Report} → s ≡ first_in f l → s ≡ first_in f (x ∷ l)
  in_next q es = es ∙ sym (else_next (first_in f l) (in_step f x l) er q)

module _ (t : Tree) (bus n i : ℕ) where
  module _ {p : ℕ} (h : i < n) (parent : p ≡ parent_of t i) where
    -- of the nodes left, one on the bus is the first of those on it
    pub on_first : p ≡ bus → nodes_from t bus i (n - i) ≡ i ∷ nodes_from t bus (i + 1) (n - (i + 1))
    unfolding nodes_from
    on_first e = rw (left_suc i n h, eq-eqb (parent_of t i) bus (sym parent ∙ e))

    -- one on another bus is none of them
    pub off_first : p ≢ bus → nodes_from t bus i (n - i) ≡ nodes_from t bus (i + 1) (n - (i + 1))
    unfolding nodes_from
    off_first ne = rw (left_suc i n h, ne_eqb (parent_of t i) bus (λ e. ne (parent ∙ e)))

  -- no node is left
  pub none_left : n ≤ i → nodes_from t bus i (n - i) ≡ []
  unfolding nodes_from
  none_left h = rw (left_none i n h)

-- at first all are left
pub all_left : (t : Tree) (bus : ℕ) {n : ℕ} → n ≡ t.count → nodes_on t bus ≡ nodes_from t bus 0 (n - 0)
all_left t bus {n} at = let e : t.count ≡ n - 0 = omega (arith, at) in ap (nodes_from t bus 0) e

-- the first fault among the nodes on a bus, those before i having none
abbrev pub NodesYet : Tree → ℕ → (ℕ → Report) → ℕ → ℕ → Type 0
NodesYet t bus f n i = first_in f (nodes_on t bus) ≡ first_in f (nodes_from t bus i (n - i))

pub nodes_yet : (t : Tree) (bus : ℕ) (f : ℕ → Report) {n : ℕ} → n ≡ t.count → NodesYet t bus f n 0
nodes_yet t bus f at = ap (first_in f) (all_left t bus at)

module _ (t : Tree) (bus : ℕ) (f : ℕ → Report) {n i : ℕ} (yet : NodesYet t bus f n i) where
  pub nodes_end : n ≤ i → Pass ≡ first_in f (nodes_on t bus)
  unfolding first_in
  nodes_end h = sym (yet ∙ ap (first_in f) (none_left t bus n i h))

  module _ {p : ℕ} (h : i < n) (parent : p ≡ parent_of t i) where
    pub nodes_off : p ≢ bus → NodesYet t bus f n (i + 1)
    nodes_off ne = yet ∙ ap (first_in f) (off_first t bus n i h parent ne)

    module _ {r : Report} (e : p ≡ bus) (er : r ≡ f i) where
      step : first_in f (nodes_on t bus) ≡ or_else (f i) (first_in f (nodes_from t bus (i + 1) (n - (i + 1))))
      step = yet ∙ ap (first_in f) (on_first t bus n i h parent e) ∙ in_step f i (nodes_from t bus (i + 1) (n - (i + 1)))

      pub nodes_found : {x : Fault} → r ≡ Err x → Err x ≡ first_in f (nodes_on t bus)
      nodes_found q = else_found _ step er q

      pub nodes_next : r ≡ Pass → NodesYet t bus f n (i + 1)
      nodes_next q = else_next _ step er q

module _ (t : Tree) (f : ℕ → Report) (n i : ℕ) where
  -- of the nodes left, a bridge comes first, and a device says nothing
  pub bridges_step : i < n
      → first_in f (bridges_from t i (n - i))
      ≡ or_else (cond (is_bridge (t.node i).kind) (f i) Pass) (first_in f (bridges_from t (i + 1) (n - (i + 1))))
  unfolding first_in bridges_from
  bridges_step h =
      tested (is_bridge (t.node i).kind)
      (λ q. rw (left_suc i n h, q))
      (λ q. rw (left_suc i n h, q))

  -- no node is left
  pub bridges_end : n ≤ i → first_in f (bridges_from t i (n - i)) ≡ Pass
  unfolding first_in bridges_from
  bridges_end h = rw (left_none i n h)
