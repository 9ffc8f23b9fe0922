-- The check from stretch to stretch as a function that antt computes on a rack of numerals, and that what it finds is what the
-- check finds.
use Rattle.std.proofs.Math.Path.{◌≡◌, refl}
use Rattle.std.proofs.Common.{◌∙◌, arith, leb-true, leb-false}
use Rattle.std.specs.Prelude.{Bool, true, false, List, [], ◌∷◌, Ok, Err, leb, get_or, length}
use Rattle.std.proofs.Math.Option.{Option, some, none}
use Prim.Native.Nat.{ℕ, zero, suc, ◌+◌, ◌-◌, ◌≤◌, ◌<◌}
use Rattle.rack.specs.definitions.Tree.{Tree, agents, buses}
use Rattle.register_image.specs.definitions.Image.{Images}
use Rattle.claim_agent.specs.declared.Space.{Space}
use Rattle.claim_agent.specs.declared.Space.TheVariants.{Memory, Io, Configuration}
use Rattle.claim_agent.specs.declared.Agent.{Agent}
use Rattle.claim_agent.specs.definitions.Space.{last_of}
use Rattle.claim_agent.specs.definitions.Agent.{agent_of}
use Rattle.check_search.specs.definitions.Report.{Report, Pass}
use Rattle.check_search.specs.definitions.Check.{or_else, first_in, first_from, at_value, first_of, in_space, bus_report, check}
use Rattle.check_search.specs.definitions.Gathered.{nobody, Gathered}
use Rattle.check_search.specs.laws.Stretch.{until_all}
use Rattle.check_search.specs.laws.FirstLaws.{from_step, from_end}
use Rattle.check_search.proofs.StretchLaws.{leap}

-- agents of a bus, decoded
unfoldable pub decoded : Tree → Images → ℕ → List ℕ → List Agent
decoded t im bus [] = []
decoded t im bus (g ∷ gs) = agent_of t im bus g ∷ decoded t im bus gs

-- all of them
abbrev pub gathered : Tree → Images → ℕ → List Agent
gathered t im bus = decoded t im bus (agents t bus)

decoded_at : (t : Tree) (im : Images) (bus : ℕ) (l : List ℕ) (j : ℕ) → j < length l
    → get_or (decoded t im bus l) j nobody ≡ agent_of t im bus (get_or l j 0)
unfolding decoded
decoded_at t im bus [] j k = absurd (omega arith)
decoded_at t im bus (g ∷ l) zero k = refl
decoded_at t im bus (g ∷ l) (suc j) k = decoded_at t im bus l j (omega arith)

-- that is what `Gathered` says
pub gathered_is : (t : Tree) (im : Images) (bus : ℕ) → Gathered t im bus (gathered t im bus)
gathered_is t im bus = decoded_at t im bus (agents t bus)

-- up to where no claim of a bus changes
abbrev pub stretch_end : Tree → Images → ℕ → Space → ℕ → ℕ
stretch_end t im bus space a = until_all (gathered t im bus) space a (length (agents t bus)) 0 (last_of space)

-- a fault, or a pass at the last stretch, or what comes after
abbrev pub go_on : Report → Bool → Option Report → Option Report
go_on (Err f) last o = some (Err f)
go_on (Ok _) true o = some Pass
go_on (Ok _) false o = o

-- at most k stretches from a on; none where they are not enough
unfoldable pub sweep_by : ℕ → Tree → Images → ℕ → Space → ℕ → Option Report
sweep_by zero t im bus space a = none
sweep_by (suc k) t im bus space a =
    go_on (at_value t im bus space a) (leb (last_of space) (stretch_end t im bus space a))
    (sweep_by k t im bus space (stretch_end t im bus space a + 1))

-- a fault, or what comes after, as far as it is known
abbrev pub or_else_by : Option Report → Option Report → Option Report
or_else_by none o = none
or_else_by (some (Ok _)) o = o
or_else_by (some (Err f)) o = some (Err f)

-- the first fault of a list
unfoldable pub first_by : {A : Type 0} → (A → Option Report) → List A → Option Report
first_by f [] = some Pass
first_by f (x ∷ xs) = or_else_by (f x) (first_by f xs)

-- the check with k stretches for each space of each bus
unfoldable pub on_bus_by : ℕ → Tree → Images → ℕ → Option Report
on_bus_by k t im bus = first_by (λ space. sweep_by k t im bus space (first_of space)) (Configuration ∷ Memory ∷ Io ∷ [])

unfoldable pub check_by : ℕ → Tree → Images → Option Report
check_by k t im = first_by (on_bus_by k t im) (buses t)

module _ (t : Tree) (im : Images) (bus : ℕ) (space : Space) where
  -- one stretch
  swept_on : (a : ℕ) (f r : Report) (last : Bool) (o : Option Report) → a ≤ last_of space → at_value t im bus space a ≡ f
      → leb (last_of space) (stretch_end t im bus space a) ≡ last
      → (stretch_end t im bus space a + 1 ≤ last_of space → o ≡ some r
      → first_from (at_value t im bus space) (last_of space + 1 - (stretch_end t im bus space a + 1)) (stretch_end t im bus space a + 1) ≡ r)
      → go_on f last o ≡ some r → first_from (at_value t im bus space) (last_of space + 1 - a) a ≡ r
  swept_on a (Err f) r last o l w q g e = from_step (at_value t im bus space) (last_of space + 1) a (omega arith) ∙ rw w (cc)
  swept_on a (Ok _) r true o l w q g e =
      leap t im bus (gathered t im bus) (gathered_is t im bus) (length (agents t bus)) refl space a (last_of space) l w
      ∙ from_end (at_value t im bus space) (last_of space + 1) (stretch_end t im bus space a + 1)
      (omega (arith, leb-true (last_of space) (stretch_end t im bus space a) q))
      ∙ cc
  swept_on a (Ok _) r false o l w q g e =
      leap t im bus (gathered t im bus) (gathered_is t im bus) (length (agents t bus)) refl space a (last_of space) l w
      ∙ g (omega (arith, leb-false (last_of space) (stretch_end t im bus space a) q)) e

  -- k stretches were enough: what they found is what the search of every value finds
  pub swept_from : (k a : ℕ) (r : Report) → a ≤ last_of space → sweep_by k t im bus space a ≡ some r
      → first_from (at_value t im bus space) (last_of space + 1 - a) a ≡ r
  unfolding sweep_by
  swept_from zero a r l e = let z : ◌≡◌ {A = ℕ} 0 1 = cc in absurd (omega arith)
  swept_from (suc k) a r l e =
      swept_on a (at_value t im bus space a) r (leb (last_of space) (stretch_end t im bus space a))
      (sweep_by k t im bus space (stretch_end t im bus space a + 1)) l refl refl
      (swept_from k (stretch_end t im bus space a + 1) r) e

first_le : (space : Space) → first_of space ≤ last_of space
first_le Memory = omega arith
first_le Io = omega arith
first_le Configuration = omega arith

-- the same of a whole space
pub swept : (t : Tree) (im : Images) (bus : ℕ) (space : Space) (k : ℕ) (r : Report)
    → sweep_by k t im bus space (first_of space) ≡ some r → in_space t im bus space ≡ r
swept t im bus space k r e = swept_from t im bus space k (first_of space) r (first_le space) e

else_by : (p q : Option Report) (x y r : Report) → ((s : Report) → p ≡ some s → x ≡ s) → ((s : Report) → q ≡ some s → y ≡ s)
    → or_else_by p q ≡ some r → or_else x y ≡ r
else_by none q x y r hx hy e = let z : ◌≡◌ {A = ℕ} 0 1 = cc in absurd (omega arith)
else_by (some (Ok _)) q x y r hx hy e = rw (hx Pass refl) (hy r e)
else_by (some (Err f)) q x y r hx hy e = rw (hx (Err f) refl) (cc)

-- a search of a list that finds what another finds at each member finds what it finds
pub first_by_lem : {A : Type 0} (f : A → Report) (g : A → Option Report) → ((x : A) (r : Report) → g x ≡ some r → f x ≡ r)
    → (l : List A) (r : Report) → first_by g l ≡ some r → first_in f l ≡ r
unfolding first_by first_in
first_by_lem f g each [] r e = cc
first_by_lem f g each (x ∷ l) r e = else_by (g x) (first_by g l) (f x) (first_in f l) r (each x) (first_by_lem f g each l) e

-- k stretches were enough: the check
pub checked : (k : ℕ) (t : Tree) (im : Images) (r : Report) → check_by k t im ≡ some r → check t im ≡ r
unfolding check_by on_bus_by check bus_report
checked k t im r e =
    first_by_lem (bus_report t im) (on_bus_by k t im)
    (λ bus s.
    first_by_lem (in_space t im bus) (λ space. sweep_by k t im bus space (first_of space))
    (λ space u. swept t im bus space k u) (Configuration ∷ Memory ∷ Io ∷ []) s)
    (buses t) r e
