-- The check by brute force: every bus, space, value and driver is tried, in the order of 01, 'The check'.
use Rattle.std.specs.Prelude.{ℕ, zero, suc, ◌+◌, ◌-◌, List, [], ◌∷◌, Ok, Err}
use Rattle.rack.specs.definitions.Tree.{Tree, agents, buses}
use Rattle.register_image.specs.definitions.Image.{Images}
use Rattle.claim_agent.specs.declared.Space.{Space}
use Rattle.claim_agent.specs.declared.Space.TheVariants.{Memory, Io, Configuration}
use Rattle.claim_agent.specs.declared.Claimants.{Claimants}
use Rattle.claim_agent.specs.declared.Claimants.TheVariants.{Nobody, One, Two}
use Rattle.claim_agent.specs.definitions.Space.{last_of}
use Rattle.claim_agent.specs.definitions.Claimants.{claimants, first_two}
use Rattle.check_search.specs.definitions.Report.{Report, Pass, fault}

-- a fault, or what comes after
abbrev pub or_else : Report → Report → Report
or_else (Ok _) r = r
or_else (Err f) r = Err f

-- the first fault of a list
unfoldable pub first_in : {A : Type 0} → (A → Report) → List A → Report
first_in f [] = Pass
first_in f (x ∷ xs) = or_else (f x) (first_in f xs)

-- the first fault of the `left` values from a on
unfoldable pub first_from : (ℕ → Report) → ℕ → ℕ → Report
first_from f zero a = Pass
first_from f (suc left) a = or_else (f a) (first_from f left (a + 1))

-- 01: 'the first two claimants in agent order'; fewer are no fault
unfoldable pub shown : ℕ → Space → ℕ → ℕ → Claimants → Report
shown bus space a driver Nobody = Pass
shown bus space a driver (One x) = Pass
shown bus space a driver (Two x y) = fault bus space a driver x y

-- one driver of a bus at one address or bus number
abbrev pub driven_by : Tree → Images → ℕ → Space → ℕ → ℕ → Report
driven_by t im bus space a driver = shown bus space a driver (first_two (claimants t im space bus driver a))

-- 01: 'configuration (driver the holder ..)', and 'Every agent counts as a driver, whatever its command bits'
abbrev pub drivers_of : Tree → ℕ → Space → List ℕ
drivers_of t bus Memory = agents t bus
drivers_of t bus Io = agents t bus
drivers_of t bus Configuration = bus ∷ []

-- 01: 'the first driver'
unfoldable pub at_value : Tree → Images → ℕ → Space → ℕ → Report
at_value t im bus space a = first_in (driven_by t im bus space a) (drivers_of t bus space)

-- 01: 'bus numbers 1 to 255', and every address
abbrev pub first_of : Space → ℕ
first_of Memory = 0
first_of Io = 0
first_of Configuration = 1

-- 01: 'the lowest address or bus number'
abbrev pub in_space : Tree → Images → ℕ → Space → Report
in_space t im bus space = first_from (at_value t im bus space) (last_of space + 1 - first_of space) (first_of space)

-- 01: 'in each, configuration .., memory, I/O'
unfoldable pub bus_report : Tree → Images → ℕ → Report
bus_report t im bus = first_in (in_space t im bus) (Configuration ∷ Memory ∷ Io ∷ [])

-- 01: 'Buses in order (root, then bridges by number)'; 'It passes, or shows the first bus and kind with a clash'
unfoldable pub check : Tree → Images → Report
check t im = first_in (bus_report t im) (buses t)
