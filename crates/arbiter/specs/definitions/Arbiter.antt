-- One step of an arbiter, and the open call. Sentences are those of document 02, E14.
use Rattle.std.specs.Prelude.{ℕ, ◌^◌, Bool, not, ◌||◌, cond, List, Result, Ok, Err, eqb, leb}
use Rattle.arbiter.specs.declared.State.{State}
use Rattle.arbiter.specs.declared.Turn.{Turn}
use Rattle.rack.specs.declared.refusal.Refusal.{Refusal}
use Rattle.rack.specs.declared.refusal.Refusal.TheVariants.{BadArbitration}
use Rattle.arbiter.specs.definitions.Rings.{◌has◌, is_in, high_ring, low_ring, low_place, none, place_named, next_after}

-- 'At first both rings stand before their lowest place'
abbrev pub first : State
first = record { high = none; low = none }

-- 'the low place hands it to the next requesting low member after the last low one'
abbrev pub next_low : ℕ → ℕ → State → ℕ
next_low mask requests s = next_after (λ i. requests has i) s.low (low_ring mask)

-- which places of the high ring request: the low place where there is a low member to hand its grant to, every other where its member does
abbrev pub asks : ℕ → Bool → ℕ → Bool
asks requests low p = cond (eqb p low_place) low (requests has p)

abbrev pub place_requests : ℕ → ℕ → ℕ → Bool
place_requests requests low p = asks requests (not (eqb low none)) p

-- 'A grant goes to the next requesting place after the last one granted'
abbrev pub next_place : ℕ → ℕ → State → ℕ
next_place mask requests s = next_after (place_requests requests (next_low mask requests s)) s.high (high_ring mask)

-- what a step gives in numbers: the member granted, or none, and the state after
pub record Step : Type 0 where
  pub member : ℕ
  pub after : State

-- a grant to a place; a high member's leaves the low ring as it was. 'No request gives no grant', and leaves both
unfoldable pub granted : State → ℕ → ℕ → Step
granted s place low =
    cond (eqb place low_place) (record { member = low; after = record { high = low_place; low = low } })
    (cond (eqb place none) (record { member = none; after = s })
    (record { member = place; after = record { high = place; low = s.low } }))

-- one request set
unfoldable pub step : ℕ → ℕ → State → Step
step mask requests s = granted s (next_place mask requests s) (next_low mask requests s)

-- 'A state names each ring's last granted member by number, the low place as 10, none yet as 15'
unfoldable pub is_state : List ℕ → ℕ → Bool
is_state ring last = is_in last ring || eqb last none

-- 'A mask or request set with a bit above 9, or a state that names a place its ring lacks, is 20'
abbrev pub above_nine : ℕ → Bool
above_nine set = leb (2 ^ 10) set

unfoldable pub refused : ℕ → ℕ → State → Bool
refused mask requests s =
    ((above_nine mask || above_nine requests) || not (is_state (high_ring mask) s.high)) || not (is_state (low_ring mask) s.low)

-- the same as the code gives it
abbrev pub turn_of : Step → Turn
turn_of t = record { member = place_named t.member; after = t.after }

-- 20 is `BadArbitration`
unfoldable pub arbitrate : ℕ → ℕ → State → Result Turn Refusal
arbitrate mask requests s = cond (refused mask requests s) (Err BadArbitration) (Ok (turn_of (step mask requests s)))
