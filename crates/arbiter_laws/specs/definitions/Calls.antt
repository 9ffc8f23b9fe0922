-- A caller's run: a list of calls, each with the state that the one before gave.
use Rattle.std.specs.Prelude.{◌≡◌, ℕ, ◌<◌, true, cond, List, [], ◌∷◌, Result, Ok, Err, eqb}
use Rattle.std.specs.Option.{unwrap_or}
use Rattle.rack.specs.declared.refusal.Refusal.{Refusal}
use Rattle.arbiter.specs.declared.State.{State}
use Rattle.arbiter.specs.declared.Turn.{Turn}
use Rattle.arbiter.specs.definitions.Rings.{none, high_ring, low_ring}
use Rattle.arbiter.specs.definitions.Arbiter.{is_state, arbitrate}

-- a mask without a bit above 9, and a state whose numbers name places of its rings, or none yet
pub record Accepted (mask : ℕ) (s : State) : Type 0 where
  pub few : mask < 1024
  pub high : is_state (high_ring mask) s.high ≡ true
  pub low : is_state (low_ring mask) s.low ≡ true

-- request sets without a bit above 9
abbrev pub Sets : List ℕ → Type 0
Sets [] = Unit {0}
Sets (requests ∷ rest) = (requests < 1024) × Sets rest

-- the member that an answer grants, none where it grants nobody
unfoldable pub member_of : Result Turn Refusal → ℕ
member_of (Err r) = none
member_of (Ok t) = unwrap_or t.member none

-- the state that the next call is given; after a refusal it is the caller's own
unfoldable pub state_after : State → Result Turn Refusal → State
state_after s (Err r) = s
state_after s (Ok t) = t.after

unfoldable pub answers : ℕ → State → List ℕ → List (Result Turn Refusal)
answers mask s [] = []
answers mask s (requests ∷ rest) = arbitrate mask requests s ∷ answers mask (state_after s (arbitrate mask requests s)) rest

-- the members that these answers grant, in order
unfoldable pub members_in : List (Result Turn Refusal) → List ℕ
members_in [] = []
members_in (a ∷ rest) = cond (eqb (member_of a) none) (members_in rest) (member_of a ∷ members_in rest)
