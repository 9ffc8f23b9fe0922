-- A run over a list of request sets, and what it is to be granted within a number of grants. Sentences are those of document 02, E14.
use Rattle.std.specs.Prelude.{◌≡◌, ℕ, ◌+◌, ◌-◌, ◌*◌, ◌^◌, ◌<◌, min, true, cond, List, [], ◌∷◌, eqb, length}
use Rattle.arbiter.specs.declared.State.{State}
use Rattle.arbiter.specs.definitions.Rings.{◌has◌, high_members, low_members, none}
use Rattle.arbiter.specs.definitions.Arbiter.{first, step}

-- the state after a list of request sets: step after step
unfoldable pub run_from : ℕ → State → List ℕ → State
run_from mask s [] = s
run_from mask s (requests ∷ rest) = run_from mask (step mask requests s).after rest

-- 'At first both rings stand before their lowest place'
abbrev pub run : ℕ → List ℕ → State
run mask list = run_from mask first list

-- the members granted on the way, in order; a set that gives no grant adds none
unfoldable pub grants : ℕ → State → List ℕ → List ℕ
grants mask s [] = []
grants mask s (requests ∷ rest) =
    cond (eqb (step mask requests s).member none) (grants mask (step mask requests s).after rest)
    ((step mask requests s).member ∷ grants mask (step mask requests s).after rest)

-- 'a member that keeps requesting'
abbrev pub Keeps : ℕ → List ℕ → Type 0
Keeps member [] = Unit {0}
Keeps member (requests ∷ rest) = ((requests has member) ≡ true) × Keeps member rest

-- how many grants go to others before the first to a member; all of them where it has none
unfoldable pub waits : ℕ → List ℕ → ℕ
waits member [] = 0
waits member (granted ∷ rest) = cond (eqb granted member) 0 (waits member rest + 1)

-- 'granted within' n grants: fewer than n go to others before
abbrev pub Within : ℕ → ℕ → List ℕ → Type 0
Within n member list = waits member list < n

-- 'H and L being the members of each group'
abbrev pub highs : ℕ → ℕ
highs mask = length (high_members mask)

abbrev pub lows : ℕ → ℕ
lows mask = length (low_members mask)

-- 'within H + 1 grants if high and (H + 1) times L if low'
abbrev pub bound : ℕ → ℕ → ℕ
bound mask member = cond (mask has member) (highs mask + 1) ((highs mask + 1) * lows mask)

-- the least bound: without low members the low place is never granted
abbrev pub least : ℕ → ℕ → ℕ
least mask member = cond (mask has member) (highs mask + min 1 (lows mask)) ((highs mask + 1) * lows mask)

-- a list that needs exactly n grants: the member requests in every set, n are given, and of these the last alone is its own
abbrev pub Needs : ℕ → ℕ → State → ℕ → List ℕ → Type 0
Needs n mask s member list =
    Keeps member list × (length (grants mask s list) ≡ n) × (waits member (grants mask s list) + 1 ≡ n)

-- the request set of one member, and that of all
abbrev pub alone : ℕ → ℕ
alone member = 2 ^ member

abbrev pub everybody : ℕ
everybody = 2 ^ 10 - 1
