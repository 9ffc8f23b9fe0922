-- What demand 3 says of events over the calls.
use Rattle.std.specs.Prelude.{ℕ, ◌^◌, ◌≤◌, ◌<◌, ◌≡◌, true, false, ◌⊎◌, eqb, List, [], ◌∷◌, length, Ok, Err}
use Rattle.file_record.specs.declared.Event.{Event}
use Rattle.file_record.specs.declared.Event.TheVariants.{Write, Read, Memory, Io, Check, Seat}
use Rattle.event_run.specs.declared.Answer.{Answer}
use Rattle.event_run.specs.declared.Answer.TheVariants.{Ended}
use Rattle.event_run.specs.definitions.Answers.{answer_number, crossings_of}
use Rattle.rack.specs.definitions.Tree.{Tree, host}
use Rattle.seat.specs.definitions.Grants.{Grants, Acting, acting, is_granted, may_write}
use Rattle.register_image.specs.definitions.Image.{Images, Result, gives}
use Rattle.claim_agent.specs.declared.Space.TheVariants as space
use Rattle.route_bus.specs.declared.Access.{Access}
use Rattle.route_bus.specs.declared.Route.{Route}
use Rattle.event_run.specs.declared.Ending.TheVariants.{Special, Denied, Silent}
use Rattle.event_run.specs.definitions.Run.{configuration, addressed, ended}
use Rattle.demand_passed.specs.definitions.Way.{Selected, Went, start_of, Silenced}
use Rattle.call_table.specs.definitions.Call.{Reply, run_refusal, run_in}
use Rattle.route.specs.definitions.Route.{drives}
use Rattle.route_bus.specs.definitions.Look.{is_special_cycle}
use Rattle.route_laws.specs.definitions.Path.{ToType0}

-- the fields of an event fit their types
abbrev pub Fits : Event → Type 0
Fits (Write bus devfn register enables put) = bus ≤ 255
Fits (Read bus devfn register) = bus ≤ 255
Fits (Memory initiator direction address) = address < 2 ^ 64
Fits (Io initiator direction address) = address < 2 ^ 32
Fits Check = Unit {0}
Fits (Seat seat) = Unit {0}

-- 0 is a refusal's number
abbrev pub reply_number : Reply Answer → ℕ
reply_number (Err n) = 0
reply_number (Ok a) = answer_number a

-- the crossings that a reply carries
abbrev pub crossings : Reply Answer → ℕ
crossings (Err n) = 0
crossings (Ok a) = crossings_of a

-- 01: 'An access starts on the bus its initiator sits on, a configuration access and one of the host on the root bus'
abbrev pub start_bus : Tree → Event → ℕ
start_bus t (Write bus devfn register enables put) = host
start_bus t (Read bus devfn register) = host
start_bus t (Memory initiator direction address) = start_of t initiator
start_bus t (Io initiator direction address) = start_of t initiator
start_bus t Check = host
start_bus t (Seat seat) = host

-- how an event that is run goes: never driven, or from one claimant to the next to an end unclaimed, at its one owner or as a special
-- cycle; a check and a seat event go nowhere. 02, E1: 'in demand 3 it counts as ended at its one owner': a write that is denied has
-- come to that node
abbrev pub Goes : Tree → Acting → Images → Event → Result Answer → Type 0
Goes t by im (Write bus devfn register enables put) r =
    (o : Result Route) × (r ≡ ended t by (configuration true bus devfn register enables put) o) × Went t im (configuration true bus devfn register enables put) host host (eqb bus 0) o
Goes t by im (Read bus devfn register) r =
    (o : Result Route) × (r ≡ ended t by (configuration false bus devfn register 0 0) o) × Went t im (configuration false bus devfn register 0 0) host host (eqb bus 0) o
Goes t by im (Memory i direction a) r =
    (o : Result Route) × (r ≡ ended t by (addressed space.Memory direction a) o)
    × (Silenced t im i o.answer.end ⊎ Went t im (addressed space.Memory direction a) (start_of t i) i false o)
Goes t by im (Io i direction a) r =
    (o : Result Route) × (r ≡ ended t by (addressed space.Io direction a) o)
    × (Silenced t im i o.answer.end ⊎ Went t im (addressed space.Io direction a) (start_of t i) i false o)
Goes t by im Check r = Unit {0}
Goes t by im (Seat seat) r = Unit {0}

-- an event that writes no register; of configuration writes a special cycle
abbrev pub WritesNone : Event → Type 0
WritesNone (Write bus devfn register enables put) = is_special_cycle (configuration true bus devfn register enables put) ≡ true
WritesNone (Read bus devfn register) = Unit {0}
WritesNone (Memory initiator direction address) = Unit {0}
WritesNone (Io initiator direction address) = Unit {0}
WritesNone Check = Unit {0}
WritesNone (Seat seat) = Unit {0}

-- an event and the seat that acts in it
pub record Act : Type 0 where
  pub seat : ℕ
  pub event : Event

unfoldable pub AllWriteNone : List Act → Type 0
AllWriteNone [] = Unit {0}
AllWriteNone (a ∷ acts) = WritesNone a.event × AllWriteNone acts

-- the images after one event after another, by `run_event`
unfoldable pub after_all : Tree → Grants → List Act → Images → Images
after_all t g [] im = im
after_all t g (a ∷ acts) im = after_all t g acts (run_in t (acting g a.seat) im a.event).after

-- events that one seat acts in
unfoldable pub all_by : ℕ → List Event → List Act
all_by seat [] = []
all_by seat (e ∷ es) = record { seat = seat; event = e } ∷ all_by seat es

-- 01: 'A device with command bit 2 clear drives nothing': the initiator of an event is such a device
abbrev pub MayNotDrive : Tree → Images → Event → Type 0
MayNotDrive t im (Write bus devfn register enables put) = ⊥
MayNotDrive t im (Read bus devfn register) = ⊥
MayNotDrive t im (Memory i direction address) = (i < t.count) × (drives t im i ≡ false)
MayNotDrive t im (Io i direction address) = (i < t.count) × (drives t im i ≡ false)
MayNotDrive t im Check = ⊥
MayNotDrive t im (Seat seat) = ⊥

-- nothing is crossed and no image changes
abbrev pub silent_reply : Images → Result (Reply Answer)
silent_reply im = gives (Ok (Ended 0 Silent)) im

-- 02, E4: the event is a special cycle and comes over these bridges to a Type 0 on the bus of that holder
abbrev pub SpecialCycle : Tree → Images → Event → List ℕ → ℕ → Type 0
SpecialCycle t im (Write bus devfn register enables put) gs holder =
    (is_special_cycle (configuration true bus devfn register enables put) ≡ true)
    × ToType0 t im (configuration true bus devfn register enables put) gs holder
SpecialCycle t im (Read bus devfn register) gs holder = ⊥
SpecialCycle t im (Memory i direction address) gs holder = ⊥
SpecialCycle t im (Io i direction address) gs holder = ⊥
SpecialCycle t im Check gs holder = ⊥
SpecialCycle t im (Seat seat) gs holder = ⊥

-- 02, E4: 'It ends as `special` with crossings and holder', and no image changes
abbrev pub special_reply : Images → List ℕ → ℕ → Result (Reply Answer)
special_reply im gs holder = gives (Ok (Ended (length gs) (Special holder))) im

-- 02, E1: 'in demand 3 it counts as ended at its one owner': a configuration access comes over these bridges to a Type 0 on the bus of that
-- holder, and there to node g, the one of that device number, function 0
pub record AtOwner (t : Tree) (im : Images) (x : Access) (gs : List ℕ) (holder g : ℕ) : Type 0 where
  pub path : ToType0 t im x gs holder
  pub owner : Selected t im holder x.devfn g

-- 'A write that reaches a register outside the grant': the seat that acts is not 0, the register is below 40h, and its dword not granted
pub record Outside (by : Acting) (register g : ℕ) : Type 0 where
  pub seat : by.seat ≡ 0 → ⊥
  pub low : register < 64
  pub lacks : is_granted by g register ≡ false

abbrev pub DeniedWrite : Tree → Acting → Images → Event → List ℕ → ℕ → ℕ → Type 0
DeniedWrite t by im (Write bus devfn register enables put) gs holder g =
    AtOwner t im (configuration true bus devfn register enables put) gs holder g × Outside by register g
DeniedWrite t by im (Read bus devfn register) gs holder g = ⊥
DeniedWrite t by im (Memory i direction address) gs holder g = ⊥
DeniedWrite t by im (Io i direction address) gs holder g = ⊥
DeniedWrite t by im Check gs holder g = ⊥
DeniedWrite t by im (Seat seat) gs holder g = ⊥

-- 'ends as `denied` with its crossings, and stores nothing'
abbrev pub denied_reply : Images → ℕ → Result (Reply Answer)
denied_reply im crossings = gives (Ok (Ended crossings Denied)) im

-- where seat 0's write has come to a node, with so many crossings, a seat's is denied if the register is below 40h and outside its grant,
-- with as many and no change, and ends as seat 0's if it may be written
abbrev pub Would : Tree → Acting → Images → ℕ → ℕ → ℕ → ℕ → ℕ → Type 0
Would t by im bus devfn register enables put =
    (gs : List ℕ) × (holder : ℕ) × (g : ℕ) × AtOwner t im (configuration true bus devfn register enables put) gs holder g
    × (crossings (run_in t (acting by.grants 0) im (Write bus devfn register enables put)).answer ≡ length gs)
    × (run_refusal t by im (Write bus devfn register enables put) ≡ 0 → Outside by register g
    → run_in t by im (Write bus devfn register enables put) ≡ denied_reply im (length gs))
    × (run_refusal t by im (Write bus devfn register enables put) ≡ 0 → may_write by g register ≡ true
    → run_in t by im (Write bus devfn register enables put)
    ≡ run_in t (acting by.grants 0) im (Write bus devfn register enables put))

-- of an event that seat 0 stores
abbrev pub WouldStore : Tree → Acting → Images → Event → Type 0
WouldStore t by im (Write bus devfn register enables put) = Would t by im bus devfn register enables put
WouldStore t by im (Read bus devfn register) = ⊥
WouldStore t by im (Memory i direction address) = ⊥
WouldStore t by im (Io i direction address) = ⊥
WouldStore t by im Check = ⊥
WouldStore t by im (Seat seat) = ⊥
