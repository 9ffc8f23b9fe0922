-- Who claims an access on a bus.
use Rattle.std.specs.Prelude.{ℕ, zero, suc, ◌+◌, Bool, not, ◌&&◌, cond, List, [], ◌∷◌, eqb}
use Rattle.rack.specs.definitions.Tree.{Tree, parent_of, agents}
use Rattle.register_image.specs.definitions.Image.{Images}
use Rattle.claim_agent.specs.declared.Space.{Space}
use Rattle.claim_agent.specs.declared.Claimants.{Claimants}
use Rattle.claim_agent.specs.declared.Claimants.TheVariants.{Nobody, One, Two}
use Rattle.claim_agent.specs.definitions.Claim.{claims}

-- of a list of agents, those that claim. 01: 'An agent never claims what it drives on that bus'
unfoldable pub claimants_in : (ℕ → Bool) → ℕ → List ℕ → List ℕ
claimants_in claim driver [] = []
claimants_in claim driver (g ∷ gs) =
    cond (claim g && not (eqb g driver)) (g ∷ claimants_in claim driver gs) (claimants_in claim driver gs)

-- the claimants of a bus for a driver, in agent order; their number is the count of demand 3
abbrev pub claimants : Tree → Images → Space → ℕ → ℕ → ℕ → List ℕ
claimants t im space bus driver a = claimants_in (λ g. claims t im space bus g a) driver (agents t bus)

-- agent g claims and does not drive
abbrev pub counted : Tree → Images → Space → ℕ → ℕ → ℕ → ℕ → Bool
counted t im space bus driver a g = claims t im space bus g a && not (eqb g driver)

-- node i is on the bus, claims and does not drive
abbrev pub counted_on_bus : Tree → Images → Space → ℕ → ℕ → ℕ → ℕ → Bool
counted_on_bus t im space bus driver a i = eqb (parent_of t i) bus && counted t im space bus driver a i

-- the first of the `left` numbers from i on that passes a test; 255, no node's number, where none does
unfoldable pub next_from : (ℕ → Bool) → ℕ → ℕ → ℕ
next_from f i zero = 255
next_from f i (suc left) = cond (f i) i (next_from f (i + 1) left)

-- 01: 'With no claimant .., with two or more .., and one claimant': the first two
abbrev pub first_two : List ℕ → Claimants
first_two [] = Nobody
first_two (x ∷ []) = One x
first_two (x ∷ (y ∷ l)) = Two x y
