-- Request E14 in one place: what is proved of the arbiter. Sentences are those of document 02; the proofs are in specs/laws/Proved.antt.
use Rattle.std.specs.Prelude.{◌≡◌, ℕ, ◌^◌, ◌≤◌, ◌<◌, true, false, cond, List, [], ◌∷◌, ◌++◌, length, take, replicate}
use Rattle.rack.specs.definitions.Refused.{number_of}
use Rattle.arbiter.specs.declared.State.{State}
use Rattle.arbiter.specs.definitions.Rings.{◌has◌, is_in, low_place, none}
use Rattle.arbiter.specs.definitions.Arbiter.{first, step, above_nine, refused, arbitrate}
use Rattle.arbiter_laws.specs.definitions.Fair.{run_from, run, grants, Keeps, Within, highs, lows, bound, Needs, alone, everybody}
use Rattle.arbiter_laws.specs.definitions.Calls.{Accepted, Sets, member_of, state_after, answers, members_in}

-- one step
module _ (mask requests : ℕ) (s : State) where
  -- 'No request gives no grant', and a request gives one, to a requester
  pub record Granted : Type 0 where
    pub somebody : (i : ℕ) → i < 10 → (requests has i) ≡ true → (step mask requests s).member ≡ none → ⊥
    pub requester : ((step mask requests s).member ≡ none → ⊥)
        → ((step mask requests s).member < 10) × ((requests has (step mask requests s).member) ≡ true)
    pub idle : (step mask requests s).member ≡ none → (step mask requests s).after ≡ s
    -- the state after names who was granted; a high member's grant leaves the low ring as it was
    pub high : (mask has (step mask requests s).member) ≡ true → ((step mask requests s).member ≡ none → ⊥)
        → (step mask requests s).after ≡ record { high = (step mask requests s).member; low = s.low }
    pub low : (mask has (step mask requests s).member) ≡ false → ((step mask requests s).member ≡ none → ⊥)
        → (step mask requests s).after ≡ record { high = low_place; low = (step mask requests s).member }

  -- the open call: 'A mask or request set with a bit above 9, or a state that names a place its ring lacks, is 20'; every other is
  -- accepted, gives what the step gives, and a state that is accepted again
  pub record Called : Type 0 where
    pub refusal : number_of (arbitrate mask requests s) ≡ cond (refused mask requests s) 20 0
    pub accepted : refused mask requests s ≡ false → Accepted mask s × (requests < 1024)
    pub accepts : Accepted mask s → requests < 1024 → refused mask requests s ≡ false
    pub member : refused mask requests s ≡ false → member_of (arbitrate mask requests s) ≡ (step mask requests s).member
    pub state : refused mask requests s ≡ false → state_after s (arbitrate mask requests s) ≡ (step mask requests s).after
    pub stays : Accepted mask s → Accepted mask (step mask requests s).after

-- 'For one mask and every list of request sets, a member that keeps requesting is granted within H + 1 grants if high and (H + 1) times
-- L if low, H and L being the members of each group'
pub record Fair (mask m : ℕ) : Type 0 where
  -- while it requests every set gives a grant, so as many grants as sets go by
  pub every : (s : State) (list : List ℕ) → Keeps m list → length (grants mask s list) ≡ length list
  -- from every state: where as many grants are given, one of them is its own; and so at every place of every list from the first state,
  -- and over the calls
  pub within : (s : State) (list : List ℕ) → Keeps m list → Within (bound mask m) m (grants mask s list)
  pub among : (s : State) (list : List ℕ) → Keeps m list → bound mask m ≤ length (grants mask s list)
      → is_in m (take (bound mask m) (grants mask s list)) ≡ true
  pub onwards : (before after : List ℕ) → Keeps m after → Within (bound mask m) m (grants mask (run mask before) after)
  pub calls : (s : State) (list : List ℕ) → Accepted mask s → Sets list → Keeps m list
      → Within (bound mask m) m (members_in (answers mask s list))
  -- the bounds are met: its own request, and then everybody's as often as the bound says
  pub met : 0 < lows mask → Needs (bound mask m) mask (run mask (alone m ∷ [])) m (replicate (bound mask m) everybody)
  -- without low members the bound is H
  pub all_high : lows mask ≡ 0 → (s : State) (list : List ℕ) → Keeps m list → Within (highs mask) m (grants mask s list)
  pub all_high_met : lows mask ≡ 0 → Needs (highs mask) mask (run mask (alone m ∷ [])) m (replicate (highs mask) everybody)

pub record Sharing : Type 0 where
  pub granted : (mask requests : ℕ) (s : State) → Granted mask requests s
  pub called : (mask requests : ℕ) (s : State) → Called mask requests s
  -- 'a bit above 9': a number of 16 bits is 1024 or more, which is what is tested, exactly where it has one
  pub no_bit : (set k : ℕ) → above_nine set ≡ false → 10 ≤ k → (set has k) ≡ false
  pub no_bits : (set : ℕ) → set < 2 ^ 16 → ((k : ℕ) → 10 ≤ k → k < 16 → (set has k) ≡ false) → above_nine set ≡ false
  -- the state at first is accepted
  pub begins : (mask : ℕ) → mask < 1024 → Accepted mask first
  -- the grants of a list from some place on are those from the state that it has come to there
  pub parts : (mask : ℕ) (s : State) (before after : List ℕ)
      → grants mask s (before ++ after) ≡ grants mask s before ++ grants mask (run_from mask s before) after
  pub fair : (mask m : ℕ) → m < 10 → Fair mask m
