-- What a check says: 01's number and values for each case.
use Rattle.std.specs.Prelude.{ℕ, List, [], ◌∷◌, Result, Ok, Err}
use Rattle.claim_agent.specs.declared.Space.{Space}
use Rattle.claim_agent.specs.definitions.Space.{space_number}
use Rattle.check_search.specs.declared.Fault.{Fault}

abbrev pub Report : Type 0
Report = Result (Unit {0}) Fault

abbrev pub Pass : Report
Pass = Ok tt

-- on the bus of `holder`, at a value of a space that `driver` drives: the agents x and y claim it
abbrev pub fault : ℕ → Space → ℕ → ℕ → ℕ → ℕ → Report
fault holder space value driver x y =
    Err (record { holder = holder; space = space; value = value; driver = driver; first = x; second = y })

-- the endings in the order of 'The program', after those of an access
abbrev pub report_number : Report → ℕ
report_number (Ok _) = 8
report_number (Err f) = 9

-- 01: '`fault` holder, `config`/`memory`/`io`, value (16 hex digits), driver, two agents'
abbrev pub report_values : Report → List ℕ
report_values (Ok _) = []
report_values (Err f) = f.holder ∷ space_number f.space ∷ f.value ∷ f.driver ∷ f.first ∷ f.second ∷ []
