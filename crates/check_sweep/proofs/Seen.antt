-- A pass over the agents of a bus: how many claim, and up to where all their claims stay the same.
use mathlib.Core.Path.{◌≡◌, refl, sym, ap, ◌∙◌}
use mathlib.Core.Bool.{Bool, true, false, cond}
use mathlib.Core.List.{List, [], ◌∷◌}
use Rattle.std.specs.Prelude.{Err}
use Rattle.std.specs.Int.{from_bool}
use Prim.Native.Nat.{ℕ, zero, suc, ◌+◌, ◌-◌, ◌≤◌, ◌<◌}
use native.Mathlib.Nat.{sub-zero}
use native.Mathlib.Omega.{arith}
use lib.ListN.{get_or, length}
use Rattle.rack.specs.definitions.Tree.{Tree, agents}
use Rattle.register_image.specs.definitions.Image.{Images}
use Rattle.claim_agent.specs.declared.Space.{Space}
use Rattle.claim_agent.specs.declared.Agent.{Agent}
use Rattle.claim_agent.specs.definitions.Claim.{claims_of, until_of}
use Rattle.check_search.specs.declared.Fault.{Fault}
use Rattle.check_search.specs.definitions.Report.{Report, Pass}
use Rattle.check_search.specs.definitions.Check.{first_from, at_value}
use Rattle.check_search.specs.definitions.Gathered.{nobody, Gathered}
use Rattle.check_search.specs.laws.Stretch.{until_all, claiming}
use Rattle.check_search.specs.laws.FirstLaws.{else_found, from_step, from_end}
use Rattle.check_search.proofs.StretchLaws.{until_step, until_end, claiming_step, claiming_end, all_kept, leap, few_claim}

-- within a list it does not matter what is outside
get_d_any : {A : Type 0} (l : List A) (i : ℕ) (d e : A) → i < length l → get_or l i d ≡ get_or l i e
get_d_any [] i d e h = absurd (omega arith)
get_d_any (x ∷ l) zero d e h = refl
get_d_any (x ∷ l) (suc i) d e h = get_d_any l i d e (omega arith)

-- an agent that claims counts as one
pub counts_one : (b : Bool) → (from_bool b ≡ cond b 1 0) × (from_bool b ≤ 1)
counts_one true = (refl, omega arith)
counts_one false = (refl, omega arith)

-- i of n agents are seen: k of them claim at a, and `until` is as far as their claims stay the same
pub record Seen (gs : List Agent) (space : Space) (a n last k until i : ℕ) : Type 0 where
  pub in_range : i ≤ n
  pub few : k ≤ i
  pub claim : claiming gs space a n 0 ≡ k + claiming gs space a (n - i) i
  pub stay : until_all gs space a n 0 last ≡ until_all gs space a (n - i) i until

-- a fault is the search's
pub seen_found : (t : Tree) (im : Images) (bus : ℕ) (space : Space) (a last : ℕ) {w r : Report} {f : Fault} → a ≤ last
    → w ≡ first_from (at_value t im bus space) (last + 1 - a) a → r ≡ at_value t im bus space a → r ≡ Err f → Err f ≡ w
seen_found t im bus space a last l ew er e =
    let v = at_value t im bus space in
    else_found (first_from v (last + 1 - (a + 1)) (a + 1)) (ew ∙ from_step v (last + 1) a (omega (arith, l))) er e

module _ (gs : List Agent) (space : Space) (a n last : ℕ) where
  -- none is seen
  pub seen_none : Seen gs space a n last 0 last 0
  seen_none =
      record {
        in_range = omega arith;
        few = omega arith;
        claim = rw sub-zero (omega arith);
        stay = rw sub-zero refl;
      }

  -- one more
  pub seen_more : {k until i v u : ℕ} {b : Bool} (d : Agent) → n ≡ length gs → i < n → Seen gs space a n last k until i
      → b ≡ claims_of (get_or gs i d) space a → u ≡ until_of (get_or gs i d) space a until → v ≡ from_bool b
      → Seen gs space a n last (k + v) u (i + 1)
  seen_more {k} {until} {i} {v} {u} {b} d long h s eb eu ec =
      let ev = ec ∙ (counts_one b).0 ∙ ap (λ (c : Bool). cond c 1 0) eb in
      let v-le : v ≤ 1 = omega (arith, ec, (counts_one b).1) in
      let g : get_or gs i d ≡ get_or gs i nobody = get_d_any gs i d nobody (omega arith) in
      record {
        in_range = omega arith;
        few = omega (arith, s.few);
        claim = omega (arith, s.claim, claiming_step gs space a n i h, rw g at ev);
        stay = s.stay ∙ until_step gs space a n i until h ∙ rw (eu, g);
      }

  -- all are seen
  all_claim : {k until i : ℕ} → n ≤ i → Seen gs space a n last k until i → claiming gs space a n 0 ≡ k
  all_claim {k} {until} {i} h s = omega (arith, s.claim, claiming_end gs space a n i h)

  all_stay : {k until i : ℕ} → n ≤ i → Seen gs space a n last k until i → until_all gs space a n 0 last ≡ until
  all_stay {k} {until} {i} h s = s.stay ∙ until_end gs space a n i until h

  -- the end is not below a: after it less is left
  pub seen_less : {k until i : ℕ} → n ≤ i → Seen gs space a n last k until i → a ≤ last → until < last
      → last + 1 - (until + 1) < last + 1 - a
  seen_less {until = until} h s l less =
      let low : a ≤ until = rw (← all_stay h s) ((all_kept gs space a n 0 last).low l) in omega arith

  module _ (t : Tree) (im : Images) (bus : ℕ) (is : Gathered t im bus gs) (all : n ≡ length (agents t bus)) where
    -- one claims or none: no fault
    pub seen_few : {k until i : ℕ} → n ≤ i → Seen gs space a n last k until i → k ≤ 1 → at_value t im bus space a ≡ Pass
    seen_few end s few = few_claim t im bus gs is n all space a (omega (arith, all_claim end s))

    -- without a fault the search goes on after the end
    pub seen_on : {k until i : ℕ} {w r : Report} → n ≤ i → Seen gs space a n last k until i → a ≤ last
        → w ≡ first_from (at_value t im bus space) (last + 1 - a) a → r ≡ at_value t im bus space a → r ≡ Pass
        → w ≡ first_from (at_value t im bus space) (last + 1 - (until + 1)) (until + 1)
    seen_on end s l ew er e =
        ew ∙ leap t im bus gs is n all space a last l (sym er ∙ e)
        ∙ ap (λ (u : ℕ). first_from (at_value t im bus space) (last + 1 - (u + 1)) (u + 1)) (all_stay end s)

    -- and passes where that is the last value
    pub seen_end : {k until i : ℕ} {w r : Report} → n ≤ i → Seen gs space a n last k until i → a ≤ last
        → w ≡ first_from (at_value t im bus space) (last + 1 - a) a → r ≡ at_value t im bus space a → r ≡ Pass
        → last ≤ until → Pass ≡ w
    seen_end {until = until} end s l ew er e le =
        sym (seen_on end s l ew er e ∙ from_end (at_value t im bus space) (last + 1) (until + 1) (omega arith))
