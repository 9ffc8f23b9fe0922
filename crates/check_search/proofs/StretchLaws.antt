-- The search that goes on past a stretch in which no claim changes is the search of every value.
use Rattle.std.specs.Prelude.{◌≡◌, refl, Bool, not, ◌&&◌, cond, List, [], ◌∷◌, Ok, Err, ℕ, zero, suc, ◌+◌, ◌-◌, ◌≤◌, ◌<◌, eqb, get_or, length}
use Rattle.std.proofs.Common.{ap, ◌∙◌, arith, eq-eqb, eqb-true}
use Rattle.std.proofs.lemmas.Bool.{eqb-false}
use Rattle.rack.specs.laws.Bools.{tested}
use Rattle.rack.specs.laws.CountLaws.{left_suc, left_none}
use Rattle.rack.specs.definitions.Tree.{Tree, nodes_on, agents}
use Rattle.rack_laws.specs.laws.Agents.{All}
use Rattle.register_image.specs.definitions.Image.{Images}
use Rattle.claim_agent.specs.declared.Space.{Space}
use Rattle.claim_agent.specs.declared.Space.TheVariants.{Memory, Io, Configuration}
use Rattle.claim_agent.specs.declared.Agent.{Agent}
use Rattle.claim_agent.specs.declared.Claimants.{Claimants}
use Rattle.claim_agent.specs.declared.Claimants.TheVariants.{Nobody, One, Two}
use Rattle.claim_agent.specs.definitions.Space.{last_of}
use Rattle.claim_agent.specs.definitions.Claim.{claims, claims_of, until_of}
use Rattle.claim_agent.specs.definitions.Claimants.{claimants_in, claimants, first_two}
use Rattle.claim_laws.specs.laws.Steady.{agent_kept}
use Rattle.check_search.specs.definitions.Report.{Report, Pass}
use Rattle.check_search.specs.definitions.Check.{or_else, first_in, first_from, shown, driven_by, drivers_of, at_value, first_of, in_space, bus_report}
use Rattle.check_search.specs.definitions.Gathered.{nobody, Gathered}
use Rattle.check_search.specs.laws.Stretch.{until_all, claiming}
use Rattle.check_search.specs.laws.FirstLaws.{from_step}

-- a space all of whose values pass
pub from_all : (f : ℕ → Report) → ((x : ℕ) → f x ≡ Pass) → (left a : ℕ) → first_from f left a ≡ Pass
unfolding first_from
from_all f all zero a = refl
from_all f all (suc left) a = rw (all a) (from_all f all left (a + 1))

-- one claimant or none is no fault
pub fewer_shown : (bus : ℕ) (space : Space) (a driver : ℕ) (l : List ℕ) → length l ≤ 1 → shown bus space a driver (first_two l) ≡ Pass
unfolding shown
fewer_shown bus space a driver [] h = refl
fewer_shown bus space a driver (x ∷ []) h = refl
fewer_shown bus space a driver (x ∷ (y ∷ l)) h = absurd (omega arith)

-- what holds of every number holds of all members of a list
every : (P : ℕ → Type 0) (l : List ℕ) → ((x : ℕ) → P x) → All P l
unfolding All
every P [] h = tt
every P (x ∷ l) h = (h x, every P l h)

-- one claimant or none for each driver: no fault at this value
pub few_value : (t : Tree) (im : Images) (bus : ℕ) (space : Space) (a : ℕ)
    → All (λ d. length (claimants t im space bus d a) ≤ 1) (drivers_of t bus space) → at_value t im bus space a ≡ Pass
unfolding at_value first_in All
few_value t im bus space a few = passes (drivers_of t bus space) few
  where
    passes : (l : List ℕ) → All (λ d. length (claimants t im space bus d a) ≤ 1) l → first_in (driven_by t im bus space a) l ≡ Pass
    passes [] k = refl
    passes (d ∷ l) k = rw (fewer_shown bus space a d (claimants t im space bus d a) k.0) (passes l k.1)

-- an agent does not claim what it drives
own_none : (claim : ℕ → Bool) (d : ℕ) (l : List ℕ) → claimants_in claim d (d ∷ l) ≡ claimants_in claim d l
unfolding claimants_in
own_none claim d l = tested (claim d) (λ q. rw (q, eq-eqb d d refl)) (λ q. rw q)

-- an agent more is a claimant more at most
one_more : (claim : ℕ → Bool) (d g : ℕ) (l : List ℕ) → length (claimants_in claim d (g ∷ l)) ≤ suc (length (claimants_in claim d l))
unfolding claimants_in
one_more claim d g l = tested (claim g && not (eqb g d)) (λ q. rw q (omega arith)) (λ q. rw q (omega arith))

-- of one or two agents one at most is left
two_drive : (claim : ℕ → Bool) (bus : ℕ) (l : List ℕ) → length l ≤ 1
    → All (λ d. length (claimants_in claim d (bus ∷ l)) ≤ 1) (bus ∷ l)
unfolding claimants_in All
two_drive claim bus [] h = (one_more claim bus bus [], tt)
two_drive claim bus (x ∷ []) h = (
  rw (own_none claim bus (x ∷ [])) (one_more claim bus x []),
  (
    omega (arith, one_more claim x bus (x ∷ []), ap length (own_none claim x [])),
    tt,
  ),
)
two_drive claim bus (x ∷ (y ∷ l)) h = absurd (omega arith)

module _ (t : Tree) (im : Images) (bus : ℕ) (few : length (agents t bus) ≤ 2) where
  -- at each value
  two_value : (space : Space) (a : ℕ) → at_value t im bus space a ≡ Pass
  unfolding All
  two_value Memory a = few_value t im bus Memory a (two_drive (λ g. claims t im Memory bus g a) bus (nodes_on t bus) (omega arith))
  two_value Io a = few_value t im bus Io a (two_drive (λ g. claims t im Io bus g a) bus (nodes_on t bus) (omega arith))
  two_value Configuration a =
      few_value t im bus Configuration a
      ((two_drive (λ g. claims t im Configuration bus g a) bus (nodes_on t bus) (omega arith)).0, tt)

  -- in each space
  two_space : (space : Space) → in_space t im bus space ≡ Pass
  two_space space = from_all (at_value t im bus space) (two_value space) (last_of space + 1 - first_of space) (first_of space)

  -- 01: 'An agent never claims what it drives': two agents of a bus cannot clash
  pub two_agents : bus_report t im bus ≡ Pass
  unfolding bus_report first_in
  two_agents = rw (two_space Configuration, two_space Memory, two_space Io)

-- the search goes on after values that pass
pub skip : (f : ℕ → Report) (m a t : ℕ) → ((x : ℕ) → a ≤ x → x < a + t → f x ≡ Pass) → a + t ≤ m
    → first_from f (m - a) a ≡ first_from f (m - (a + t)) (a + t)
skip f m a zero all h = ap (λ (k : ℕ). first_from f (m - k) k) (omega arith)
skip f m a (suc t) all h =
    from_step f m a (omega arith)
    ∙ ap (λ (r : Report). or_else r (first_from f (m - (a + 1)) (a + 1))) (all a (omega arith) (omega arith))
    ∙ skip f m (a + 1) t (λ x p q. all x (omega arith) (omega arith)) (omega arith)
    ∙ ap (λ (k : ℕ). first_from f (m - k) k) (omega arith)

-- a turn of the loop that takes the end down
pub until_step : (gs : List Agent) (space : Space) (a n i e : ℕ) → i < n
    → until_all gs space a (n - i) i e ≡ until_all gs space a (n - (i + 1)) (i + 1) (until_of (get_or gs i nobody) space a e)
unfolding until_all
until_step gs space a n i e h = rw (left_suc i n h)

-- and its end
pub until_end : (gs : List Agent) (space : Space) (a n i e : ℕ) → n ≤ i → until_all gs space a (n - i) i e ≡ e
unfolding until_all
until_end gs space a n i e h = rw (left_none i n h)

-- a turn of the loop that counts who claims
pub claiming_step : (gs : List Agent) (space : Space) (a n i : ℕ) → i < n
    → claiming gs space a (n - i) i ≡ cond (claims_of (get_or gs i nobody) space a) 1 0 + claiming gs space a (n - (i + 1)) (i + 1)
unfolding claiming
claiming_step gs space a n i h = rw (left_suc i n h)

-- and its end
pub claiming_end : (gs : List Agent) (space : Space) (a n i : ℕ) → n ≤ i → claiming gs space a (n - i) i ≡ 0
unfolding claiming
claiming_end gs space a n i h = rw (left_none i n h)

-- r is an end for a and e up to which the claims of the k agents from j on stay what they are at a
pub record AllKept (gs : List Agent) (space : Space) (a e r j k : ℕ) : Type 0 where
  pub low : a ≤ e → a ≤ r
  pub high : r ≤ e
  pub same : (i x : ℕ) → j ≤ i → i < j + k → a ≤ x → x ≤ r
      → claims_of (get_or gs i nobody) space x ≡ claims_of (get_or gs i nobody) space a

-- the end that is computed is one
pub all_kept : (gs : List Agent) (space : Space) (a k j e : ℕ) → AllKept gs space a e (until_all gs space a k j e) j k
unfolding until_all
all_kept gs space a zero j e = record { low = λ h. h; high = omega arith; same = λ i x p q. absurd (omega arith) }
all_kept gs space a (suc k) j e =
    let one = agent_kept (get_or gs j nobody) space a e in
    let rest = all_kept gs space a k (j + 1) (until_of (get_or gs j nobody) space a e) in
    record {
      low = λ h. rest.low (one.low h);
      high = omega (arith, rest.high, one.high);
      same = λ i x p q l m.
          tested (eqb i j) (λ w. rw (eqb-true i j w) (one.same x l (omega (arith, rest.high))))
          (λ w. rest.same i x (omega (arith, eqb-false i j w)) (omega arith) l m);
    }

-- the claimants in a list rest on what its members claim
pub claimants_ext : (c c' : ℕ → Bool) (driver : ℕ) (l : List ℕ) → ((j : ℕ) → j < length l → c (get_or l j 0) ≡ c' (get_or l j 0))
    → claimants_in c driver l ≡ claimants_in c' driver l
unfolding claimants_in
claimants_ext c c' driver [] h = refl
claimants_ext c c' driver (g ∷ l) h =
    rw (h 0 (omega arith), claimants_ext c c' driver l (λ j k. h (suc j) (omega arith)))

-- no fault of a driver at one value is none at another with the same claimants
shown_moves : (bus : ℕ) (space : Space) (a x d : ℕ) (c : Claimants) → shown bus space a d c ≡ Pass → shown bus space x d c ≡ Pass
unfolding shown
shown_moves bus space a x d Nobody e = refl
shown_moves bus space a x d (One g) e = refl
shown_moves bus space a x d (Two g k) e = let z : ◌≡◌ {A = ℕ} 0 1 = cc in absurd (omega arith)

-- nor of it and of what comes after
else_moves : (r r' s s' : Report) → (r ≡ Pass → r' ≡ Pass) → (s ≡ Pass → s' ≡ Pass) → or_else r s ≡ Pass → or_else r' s' ≡ Pass
else_moves (Ok _) r' s s' p q e = rw (p refl) (q e)
else_moves (Err f) r' s s' p q e = let z : ◌≡◌ {A = ℕ} 0 1 = cc in absurd (omega arith)

-- nor of all drivers
in_moves : (f g : ℕ → Report) (l : List ℕ) → ((d : ℕ) → f d ≡ Pass → g d ≡ Pass) → first_in f l ≡ Pass → first_in g l ≡ Pass
unfolding first_in
in_moves f g [] h e = refl
in_moves f g (d ∷ l) h e = else_moves (f d) (g d) (first_in f l) (first_in g l) (h d) (in_moves f g l h) e

-- leaving the driver out makes no more claimants than claim
claimants_le : (gs : List Agent) (space : Space) (a : ℕ) (c : ℕ → Bool) (driver : ℕ) (l : List ℕ) (j : ℕ)
    → ((i k : ℕ) → i < length l → k ≡ j + i → claims_of (get_or gs k nobody) space a ≡ c (get_or l i 0))
    → length (claimants_in c driver l) ≤ claiming gs space a (length l) j
unfolding claimants_in claiming
claimants_le gs space a c driver [] j h = omega arith
claimants_le gs space a c driver (g ∷ l) j h =
    let r = claimants_le gs space a c driver l (j + 1) (λ i k p q. h (suc i) k (omega arith) (omega arith)) in
    let e : claims_of (get_or gs j nobody) space a ≡ c g = h 0 j (omega arith) (omega arith) in
    rw e
    (tested (c g) (λ q. tested (eqb g driver) (λ p. rw (q, p) (omega arith)) (λ p. rw (q, p) (omega arith)))
    (λ q. rw q (omega arith)))

module _ (t : Tree) (im : Images) (bus : ℕ) (gs : List Agent) (is : Gathered t im bus gs) (n : ℕ)
    (all : n ≡ length (agents t bus)) (space : Space) (a : ℕ) where
  -- where no claim differs, no fault is no fault
  pub passes_on : (x : ℕ) → ((j : ℕ) → j < n → claims_of (get_or gs j nobody) space x ≡ claims_of (get_or gs j nobody) space a)
      → at_value t im bus space a ≡ Pass → at_value t im bus space x ≡ Pass
  unfolding at_value
  passes_on x same e =
      in_moves (driven_by t im bus space a) (driven_by t im bus space x) (drivers_of t bus space)
      (λ d p.
      rw (claimants_ext (λ g. claims t im space bus g x) (λ g. claims t im space bus g a) d (agents t bus)
      (λ j k. rw (← is j k) (same j (omega arith))))
      (shown_moves bus space a x d (first_two (claimants t im space bus d a)) p))
      e

  -- where a value passes, the search goes on after the stretch in which every claim stays the same
  pub leap : (last : ℕ) → a ≤ last → at_value t im bus space a ≡ Pass
      → first_from (at_value t im bus space) (last + 1 - a) a
      ≡ first_from (at_value t im bus space) (last + 1 - (until_all gs space a n 0 last + 1)) (until_all gs space a n 0 last + 1)
  leap last l e =
      let k = all_kept gs space a n 0 last in
      let low : a ≤ until_all gs space a n 0 last = k.low l in
      skip (at_value t im bus space) (last + 1) a (until_all gs space a n 0 last + 1 - a)
      (λ x p q. passes_on x (λ j m. k.same j x (omega arith) (omega arith) p (omega arith)) e)
      (omega (arith, k.high))
      ∙ ap (λ (u : ℕ). first_from (at_value t im bus space) (last + 1 - u) u) (omega arith)

  -- where one agent or none claims there is no fault
  pub few_claim : claiming gs space a n 0 ≤ 1 → at_value t im bus space a ≡ Pass
  few_claim few =
      few_value t im bus space a
      (every (λ d. length (claimants t im space bus d a) ≤ 1) (drivers_of t bus space)
      (λ d.
      let le = claimants_le gs space a (λ g. claims t im space bus g a) d (agents t bus) 0
      (λ i k p q. let e : k ≡ i = omega arith in rw e (ap (λ (g : Agent). claims_of g space a) (is i p))) in
      omega (arith, ap (λ (k : ℕ). claiming gs space a k 0) all)))
