-- The turns of a search for the next claimant, and the first two claimants from two such searches.
use Rattle.std.specs.Prelude.{◌≡◌, refl, ◌≢◌, Bool, true, false, not, ◌&&◌, ℕ, zero, suc, ◌+◌, ◌-◌, ◌≤◌, ◌<◌, eqb}
use Rattle.std.proofs.Math.Path.{sym, ap}
use Rattle.std.proofs.Common.{◌∙◌, arith}
use Rattle.std.proofs.Math.Bool.{cond}
use mathlib.Core.List.{List, [], ◌∷◌}
use Rattle.rack.specs.laws.Bools.{tested}
use Rattle.rack.specs.laws.CountLaws.{left_suc, left_none}
use Rattle.rack.specs.definitions.Tree.{Tree, parent_of, nodes_from}
use Rattle.register_image.specs.definitions.Image.{Images}
use Rattle.claim_agent.specs.declared.Space.{Space}
use Rattle.claim_agent.specs.declared.Claimants.TheVariants.{Nobody, One, Two}
use Rattle.claim_agent.specs.definitions.Claim.{claims}
use Rattle.claim_agent.specs.definitions.Claimants.{claimants_in, claimants, counted, counted_on_bus, next_from, first_two}

-- a search from a number on that has found none before i
abbrev pub NextYet : (ℕ → Bool) → ℕ → ℕ → ℕ → Type 0
NextYet f from n i = next_from f from (n - from) ≡ next_from f i (n - i)

module _ (f : ℕ → Bool) (from : ℕ) {n i : ℕ} (yet : NextYet f from n i) where
  pub next_next : {b : Bool} → i < n → b ≡ f i → b ≡ false → NextYet f from n (i + 1)
  unfolding next_from
  next_next h e q = yet ∙ rw (left_suc i n h, ← e, q)

  module _ {count : ℕ} (at : n ≡ count) where
    pub next_found : {b : Bool} → i < n → b ≡ f i → b ≡ true → i ≡ next_from f from (count - from)
    unfolding next_from
    next_found h e q = sym (ap (λ (k : ℕ). next_from f from (k - from)) (sym at) ∙ yet ∙ rw (left_suc i n h, ← e, q))

    pub next_none : n ≤ i → 255 ≡ next_from f from (count - from)
    unfolding next_from
    next_none h = sym (ap (λ (k : ℕ). next_from f from (k - from)) (sym at) ∙ yet ∙ rw (left_none i n h))

-- the numbers that pass, of the `left` from i on
unfoldable pub passing : (ℕ → Bool) → ℕ → ℕ → List ℕ
passing f i zero = []
passing f i (suc left) = cond (f i) (i ∷ passing f (i + 1) left) (passing f (i + 1) left)

-- the next one is one of them
pub next_below : (f : ℕ → Bool) (i left : ℕ) → next_from f i left ≢ 255 → next_from f i left < i + left
unfolding next_from
next_below f i zero ne = absurd (ne refl)
next_below f i (suc left) ne =
    tested (f i) (λ q. rw q (omega arith))
    (λ q.
    let m : next_from f (i + 1) left ≢ 255 = rw q at ne in
    rw q (omega (arith, next_below f (i + 1) left m)))

-- where the search finds none, none passes
pub passing_none : (f : ℕ → Bool) (i left : ℕ) → i + left ≤ 255 → next_from f i left ≡ 255 → passing f i left ≡ []
unfolding next_from passing
passing_none f i zero h e = refl
passing_none f i (suc left) h e =
    tested (f i) (λ q. let z : i ≡ 255 = rw q at e in absurd (omega arith))
    (λ q. rw q (passing_none f (i + 1) left (omega arith) (rw q at e)))

-- else the next one is the first of them, and the others come after it
pub passing_next : (f : ℕ → Bool) (n i left : ℕ) → n ≡ i + left → next_from f i left ≢ 255
    → passing f i left ≡ next_from f i left ∷ passing f (next_from f i left + 1) (n - (next_from f i left + 1))
unfolding next_from passing
passing_next f n i zero h ne = absurd (ne refl)
passing_next f n i (suc left) h ne =
    tested (f i)
    (λ q. let e : left ≡ n - (i + 1) = omega arith in rw q (ap (λ (k : ℕ). i ∷ passing f (i + 1) k) e))
    (λ q. rw q (passing_next f n (i + 1) left (omega arith) (rw q at ne)))

-- of the nodes on a bus those that claim, and of all nodes those on the bus that claim, are the same
pub claimants_passing : (t : Tree) (claim : ℕ → Bool) (bus driver i left : ℕ)
    → claimants_in claim driver (nodes_from t bus i left)
    ≡ passing (λ j. eqb (parent_of t j) bus && (claim j && not (eqb j driver))) i left
unfolding claimants_in nodes_from passing
claimants_passing t claim bus driver i zero = refl
claimants_passing t claim bus driver i (suc left) =
    let r = claimants_passing t claim bus driver (i + 1) left in
    tested (eqb (parent_of t i) bus)
    (λ q. rw q (ap (λ (l : List ℕ). cond (claim i && not (eqb i driver)) (i ∷ l) l) r))
    (λ q. rw q r)

module _ (t : Tree) (im : Images) (space : Space) (bus driver a : ℕ) where
  -- whether the bus's holder counts, the first node that does, and the first after it
  abbrev pub holder : Bool
  holder = counted t im space bus driver a bus

  abbrev pub one : ℕ
  one = next_from (counted_on_bus t im space bus driver a) 0 (t.count - 0)

  abbrev pub two : ℕ
  two = next_from (counted_on_bus t im space bus driver a) (one + 1) (t.count - (one + 1))

  -- all claimants, the nodes that count, and those after the first
  abbrev pub all : List ℕ
  all = claimants t im space bus driver a

  nodes : List ℕ
  nodes = passing (counted_on_bus t im space bus driver a) 0 t.count

  abbrev behind : List ℕ
  behind = passing (counted_on_bus t im space bus driver a) (one + 1) (t.count - (one + 1))

  split : all ≡ cond holder (bus ∷ nodes) nodes
  unfolding claimants_in nodes
  split =
      ap (λ (l : List ℕ). cond holder (bus ∷ l) l)
      (claimants_passing t (λ g. claims t im space bus g a) bus driver 0 t.count)

  module _ (few : t.count ≤ 255) where
    whole : t.count - 0 ≡ t.count
    whole = omega arith

    nodes_none : one ≡ 255 → nodes ≡ []
    unfolding nodes
    nodes_none e = passing_none (counted_on_bus t im space bus driver a) 0 t.count (omega arith) (rw whole at e)

    nodes_one : one ≢ 255 → nodes ≡ one ∷ behind
    unfolding nodes
    nodes_one ne =
        rw whole (passing_next (counted_on_bus t im space bus driver a) t.count 0 t.count (omega arith) (rw whole at ne))

    one_below : one ≢ 255 → one < t.count
    one_below ne = omega (arith, next_below (counted_on_bus t im space bus driver a) 0 (t.count - 0) ne)

    behind_none : one ≢ 255 → two ≡ 255 → behind ≡ []
    behind_none ne e =
        passing_none (counted_on_bus t im space bus driver a) (one + 1) (t.count - (one + 1)) (omega (arith, one_below ne)) e

    behind_two : one ≢ 255 → two ≢ 255
        → behind ≡ two ∷ passing (counted_on_bus t im space bus driver a) (two + 1) (t.count - (two + 1))
    behind_two ne ne' =
        passing_next (counted_on_bus t im space bus driver a) t.count (one + 1) (t.count - (one + 1)) (omega (arith, one_below ne)) ne'

    -- neither the holder nor a node
    pub claimants_nobody : one ≡ 255 → holder ≡ false → first_two all ≡ Nobody
    claimants_nobody e q = ap first_two split ∙ rw (q, nodes_none e)

    -- the holder alone
    pub claimants_holder : one ≡ 255 → holder ≡ true → first_two all ≡ One bus
    claimants_holder e q = ap first_two split ∙ rw (q, nodes_none e)

    -- the holder and a node
    pub claimants_holder_one : one ≢ 255 → holder ≡ true → first_two all ≡ Two bus one
    claimants_holder_one ne q = ap first_two split ∙ rw (q, nodes_one ne)

    -- one node
    pub claimants_one : one ≢ 255 → holder ≡ false → two ≡ 255 → first_two all ≡ One one
    claimants_one ne q e = ap first_two split ∙ rw (q, nodes_one ne, behind_none ne e)

    -- two nodes or more
    pub claimants_two : one ≢ 255 → holder ≡ false → two ≢ 255 → first_two all ≡ Two one two
    claimants_two ne q ne' = ap first_two split ∙ rw (q, nodes_one ne, behind_two ne ne')
