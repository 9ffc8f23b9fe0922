-- The text of each line, as document 01, 'The program', prints it.
use Rattle.std.specs.Prelude.{ℕ, List, [], ◌∷◌, ◌++◌, Ok, Err}
use Rattle.claim_agent.specs.declared.Space.{Space}
use Rattle.claim_agent.specs.declared.Space.TheVariants.{Memory, Io, Configuration}
use Rattle.route_bus.specs.declared.Outcome.{Outcome}
use Rattle.route_bus.specs.declared.Outcome.TheVariants.{Abort, Done, Target}
use Rattle.event_run.specs.declared.Ending.{Ending}
use Rattle.event_run.specs.declared.Ending.TheVariants.{Data, Stored, Owner, Host, Unclaimed, Clash, Special, Silent, Denied}
use Rattle.check_search.specs.definitions.Report.{Report}
use Rattle.print_line.specs.definitions.Text.{decimal_of, hex_of, codes_of}

-- a text and after it the fields, each after one space (32)
unfoldable pub spaced : List ℕ → List (List ℕ) → List ℕ
spaced text [] = text
spaced text (field ∷ fields) = spaced (text ++ (32 ∷ field)) fields

-- a line: its first field and the others, one space between them, and a newline (10)
abbrev pub line_of : List ℕ → List (List ℕ) → List ℕ
line_of first others = spaced first others ++ (10 ∷ [])

-- 01: '`abort` (no crossing), `done` or `target`'
abbrev pub outcome_word : Outcome → List ℕ
outcome_word Abort = codes_of "abort"
outcome_word Done = codes_of "done"
outcome_word Target = codes_of "target"

-- 01: '`config`/`memory`/`io`'
abbrev pub space_word : Space → List ℕ
space_word Configuration = codes_of "config"
space_word Memory = codes_of "memory"
space_word Io = codes_of "io"

-- 01: '`data` crossings and 8 hex digits; `stored` crossings; `owner` crossings, node, region, offset (16 hex digits); `host` crossings,
-- offset from its first address (16 too); `unclaimed` crossings, holder, then `abort` (no crossing), `done` or `target`; `clash` crossings,
-- holder, the first two claimants in agent order; `silent`'. 02, E4: '`special` with crossings and holder'; E1:
-- '`denied` with its crossings'
unfoldable pub ending_fields : ℕ → Ending → List (List ℕ)
ending_fields crossings (Data value) = codes_of "data" ∷ decimal_of crossings ∷ hex_of 8 value ∷ []
ending_fields crossings Stored = codes_of "stored" ∷ decimal_of crossings ∷ []
ending_fields crossings (Owner node region offset) = codes_of "owner" ∷ decimal_of crossings ∷ decimal_of node ∷ decimal_of region ∷ hex_of 16 offset ∷ []
ending_fields crossings (Host offset) = codes_of "host" ∷ decimal_of crossings ∷ hex_of 16 offset ∷ []
ending_fields crossings (Unclaimed holder outcome) = codes_of "unclaimed" ∷ decimal_of crossings ∷ decimal_of holder ∷ outcome_word outcome ∷ []
ending_fields crossings (Clash holder first second) = codes_of "clash" ∷ decimal_of crossings ∷ decimal_of holder ∷ decimal_of first ∷ decimal_of second ∷ []
ending_fields crossings (Special holder) = codes_of "special" ∷ decimal_of crossings ∷ decimal_of holder ∷ []
ending_fields crossings Silent = codes_of "silent" ∷ []
ending_fields crossings Denied = codes_of "denied" ∷ decimal_of crossings ∷ []

-- 01: '`pass`; `fault` holder, `config`/`memory`/`io`, value (16 hex digits), driver, two agents'
unfoldable pub report_fields : Report → List (List ℕ)
report_fields (Ok _) = codes_of "pass" ∷ []
report_fields (Err f) =
    codes_of "fault" ∷ decimal_of f.holder ∷ space_word f.space ∷ hex_of 16 f.value ∷ decimal_of f.driver ∷ decimal_of f.first ∷ decimal_of f.second ∷ []

-- 01: 'A line holds the event number from 1, an ending, and decimal fields', as `1 data 0 00101234` or `2 unclaimed 0 255 abort`
abbrev pub ending_line : ℕ → ℕ → Ending → List ℕ
ending_line n crossings e = line_of (decimal_of n) (ending_fields crossings e)

-- the same for a check, as `3 pass` or `4 fault 0 memory 0000000090000000 2 0 1`
abbrev pub report_line : ℕ → Report → List ℕ
report_line n r = line_of (decimal_of n) (report_fields r)

-- 02, E1: 'A seat event prints `seat` and its number'
abbrev pub seat_line : ℕ → ℕ → List ℕ
seat_line n seat = line_of (decimal_of n) (codes_of "seat" ∷ decimal_of seat ∷ [])

-- 01: 'A refused input prints only `refused N at O`'
abbrev pub refused_line : ℕ → ℕ → List ℕ
refused_line number offset = line_of (codes_of "refused") (decimal_of number ∷ codes_of "at" ∷ decimal_of offset ∷ [])
