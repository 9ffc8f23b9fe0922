-- The open calls over a decoded rack and two images: each answers or refuses by number, and says what both images are then.
use Rattle.std.specs.Prelude.{◌≡◌, ℕ, Bool, ◌||◌, List, [], ◌∷◌, leb, ltb, Ok, Err}
use Rattle.std.specs.Prelude as std
use Rattle.rack.specs.declared.refusal.Refusal.{Refusal}
use Rattle.rack.specs.declared.Range.{Range}
use Rattle.rack.specs.definitions.Refused.{refusal_number}
use Rattle.rack.specs.definitions.Node.{is_bridge}
use Rattle.rack.specs.definitions.First.{◌when◌, ◌or◌, unless}
use Rattle.rack.specs.definitions.Tree.{Tree}
use Rattle.rack.specs.definitions.Refusal.{rack_refusal}
use Rattle.seat.specs.definitions.Grants.{Grants, Acting, unknown_seat}
use Rattle.register_header.specs.definitions.Register.{read_register}
use Rattle.register_image.specs.definitions.Image.{Images, Result, view, gives}
use Rattle.bus_reset.specs.definitions.Agreement.{image_refusal}
use Rattle.bus_reset.specs.definitions.Store.{store_node}
use Rattle.register_image.specs.definitions.Sizing.{size_region}
use Rattle.claim_agent.specs.definitions.WindowEnds.{window_ends}
use Rattle.check_search.specs.definitions.Check.{check}
use Rattle.file_record.specs.declared.Event.{Event}
use Rattle.file_record.specs.definitions.Events.{event_wrong, event_unknown, register_wrong, write_wrong}
use Rattle.event_run.specs.declared.Answer.{Answer}
use Rattle.event_run.specs.declared.Answer.TheVariants.{Checked}
use Rattle.event_run.specs.definitions.Run.{event_run}

-- what a call answers, or the number of its refusal
abbrev pub Reply : Type 0 → Type 0
Reply A = std.Result A ℕ

-- what the code gives, in numbers
abbrev pub numbered : {A : Type 0} → std.Result A Refusal → Reply A
numbered (Ok x) = Ok x
numbered (Err r) = Err (refusal_number r)

-- a way to number the errors that are made of refusals: each has the refusal's number
abbrev pub Numbers : {E : Type 0} → (Refusal → E → Type 0) → (E → ℕ) → Type 0
Numbers {E} gives n = (r : Refusal) (e : E) → gives r e → n e ≡ refusal_number r

-- the error's number, 0 where there is none
abbrev pub number_by : {A E : Type 0} → (E → ℕ) → std.Result A E → ℕ
number_by n (Ok x) = 0
number_by n (Err e) = n e

-- 01: 'Calls apply 6 to 10 to the decoded rack node by node, as a file would meet them, then 11 to 13, and return the number'; 02, E1: 14
-- and 15, 'both after 13'; E5: 18 'straight after 12', among those of the images; 0 where the call is accepted. `field` is 13 where a field
-- that the call is given is wrong, `seat` 15 where a seat is unknown, and 0 else
unfoldable pub refusal_by : Tree → Grants → Images → ℕ → ℕ → ℕ
refusal_by t g im field seat = rack_refusal t or image_refusal t im or field or 14 when g.wrong or seat

-- a node that a call names is missing
abbrev pub missing : Tree → ℕ → Bool
missing t i = leb t.count i

-- 13 of a register read, and of a register write
abbrev pub read_refusal : Tree → ℕ → ℕ → ℕ
read_refusal t i register = 13 when (missing t i || register_wrong register)

abbrev pub store_refusal : Tree → ℕ → ℕ → ℕ → ℕ
store_refusal t i register enables = 13 when (missing t i || write_wrong register enables)

-- of a view
abbrev pub view_refusal : Tree → ℕ → ℕ
view_refusal t i = 13 when missing t i

-- of a region: a bridge has none, a device three; of a window or region: each node has three
abbrev pub region_refusal : Tree → ℕ → ℕ → ℕ
region_refusal t i r = 13 when (missing t i || (is_bridge (t.node i).kind || ltb 2 r))

abbrev pub window_refusal : Tree → ℕ → ℕ → ℕ
window_refusal t i k = 13 when (missing t i || ltb 2 k)

-- of an event
abbrev pub event_refusal : Tree → Event → ℕ
event_refusal t e = 13 when event_wrong t e

-- 15: 'a seat other than 0 without a record, in a seat event or told to a call'
abbrev pub seat_refusal : Acting → Event → ℕ
seat_refusal by e = 15 when (unknown_seat by.grants by.seat || event_unknown by.grants e)

-- the refusal of an event's run
abbrev pub run_refusal : Tree → Acting → Images → Event → ℕ
run_refusal t by im e = refusal_by t by.grants im (event_refusal t e) (seat_refusal by e)

-- 01: 'Where an answer is an enum, the promises use a definition. That definition gives this paper's number and values for each of
-- the enum's cases': the refusal's number, 0 where there is none, and the value
abbrev pub number_code : Reply ℕ → ℕ
number_code (Err n) = n
number_code (Ok v) = 0

abbrev pub number_values : Reply ℕ → List ℕ
number_values (Err n) = []
number_values (Ok v) = v ∷ []

unfoldable pub read_in : Tree → Grants → Images → ℕ → ℕ → Reply ℕ
read_in t g im i register =
    unless (refusal_by t g im (read_refusal t i register) 0) (Ok (read_register (view t im i) register)) Err

unfoldable pub size_in : Tree → Grants → Images → ℕ → ℕ → Reply ℕ
size_in t g im i r = unless (refusal_by t g im (region_refusal t i r) 0) (Ok (size_region t im i r)) Err

-- a refused write stores nothing
unfoldable pub stored_in : Tree → Grants → Images → ℕ → ℕ → ℕ → ℕ → Images
stored_in t g im i register enables put =
    unless (refusal_by t g im (store_refusal t i register enables) 0) (store_node t im i register enables put) (λ n. im)

-- 01: 'The view shows an empty part'
unfoldable pub view_in : Tree → Grants → Images → ℕ → List ℕ
view_in t g im i = unless (refusal_by t g im (view_refusal t i) 0) (view t im i) (λ n. [])

-- both ends of a window or region
unfoldable pub ends_in : Tree → Grants → Images → ℕ → ℕ → Reply Range
ends_in t g im i k = unless (refusal_by t g im (window_refusal t i k) 0) (Ok (window_ends t im i k)) Err

-- the answer to an event that was run, with the images that it leaves
abbrev pub ran : Result Answer → Result (Reply Answer)
ran a = gives (Ok a.answer) a.after

-- an event of the seat that acts, the check too; a refusal leaves both images untouched
unfoldable pub run_in : Tree → Acting → Images → Event → Result (Reply Answer)
run_in t by im e =
    unless (run_refusal t by im e) (ran (event_run t by im e)) (λ n. gives (Err n) im)

-- the check alone: 'A check changes no register'
unfoldable pub check_in : Tree → Grants → Images → Reply Answer
check_in t g im = unless (refusal_by t g im 0 0) (Ok (Checked (check t im))) Err
