-- What demands 1 and 3 say of calls from C.
use Rattle.std.specs.Prelude.{◌≡◌, true, false, List, [], ◌∷◌, ◌⊎◌, ℕ, ◌≤◌, get_or, length}
use Rattle.register_image.specs.definitions.Image.{Images}
use Rattle.bus_reset.specs.definitions.Agreement.{image_refusal}
use Rattle.file_record.specs.definitions.Load.{rack_alone}
use Rattle.call_numbers.specs.definitions.Called.{Called, refused_call}
use Rattle.muzgante.specs.definitions.Called.{rack_run}
use Rattle.call_numbers.specs.definitions.Numbers.{eight}
use Rattle.file_record.specs.definitions.Events.{event_in}
use Rattle.demand_calls.specs.definitions.Events.{WritesNone}

-- 01, 'Refused, in this order', of a call from C that hands back r: b are its rack's bytes, `event` is the number that refuses its
-- event's bytes, 0 where none does, `field` 13 or 0 by the event's fields or by the node, window or region that it names, `seat` 15 or 0
-- by the seat that it is told and by one that its event names, and a its answer
pub record InOrder (b : List ℕ) (event : ℕ) (im : Images) (field seat : ℕ) (a r : Called) : Type 0 where
  -- 'The two C calls take the rack records as bytes: 1 to 10 as for a file'
  pub by_rack : ((rack_alone b).refusal ≡ 0 → ⊥) → r ≡ refused_call (rack_alone b).refusal im
  -- 'The event to run is read next, before 11'
  pub by_event : (rack_alone b).refusal ≡ 0 → (event ≡ 0 → ⊥) → r ≡ refused_call event im
  -- 'then 11 to 13': 11 and 12 of the images, and 18 'straight after 12'
  pub by_image : (rack_alone b).refusal ≡ 0 → event ≡ 0 → (image_refusal (rack_alone b).tree im ≡ 0 → ⊥)
      → r ≡ refused_call (image_refusal (rack_alone b).tree im) im
  -- 13
  pub by_field : (rack_alone b).refusal ≡ 0 → event ≡ 0 → image_refusal (rack_alone b).tree im ≡ 0 → (field ≡ 0 → ⊥)
      → r ≡ refused_call field im
  -- 02, E1: 'both after 13': 14, where one of the seat records is faulty (demands `Seats`)
  pub by_grants : (rack_alone b).refusal ≡ 0 → event ≡ 0 → image_refusal (rack_alone b).tree im ≡ 0 → field ≡ 0
      → (rack_alone b).grants.wrong ≡ true → r ≡ refused_call 14 im
  -- and 15
  pub by_seat : (rack_alone b).refusal ≡ 0 → event ≡ 0 → image_refusal (rack_alone b).tree im ≡ 0 → field ≡ 0
      → (rack_alone b).grants.wrong ≡ false → (seat ≡ 0 → ⊥) → r ≡ refused_call seat im
  -- 'Every other input is accepted and gets its answer'
  pub accepts : (rack_alone b).refusal ≡ 0 → event ≡ 0 → image_refusal (rack_alone b).tree im ≡ 0 → field ≡ 0
      → (rack_alone b).grants.wrong ≡ false → seat ≡ 0 → (r ≡ a) × (r.code ≡ 0)
  -- and no other is
  pub accepted : r.code ≡ 0
      → ((rack_alone b).refusal ≡ 0) × (event ≡ 0) × (image_refusal (rack_alone b).tree im ≡ 0) × (field ≡ 0)
      × ((rack_alone b).grants.wrong ≡ false) × (seat ≡ 0)
  -- 'a refusal leaves every image untouched', and its answer is all 0
  pub untouched : (r.code ≡ 0 → ⊥) → r ≡ refused_call r.code im

-- the first number of an answer: 1 to 7, 10 and 12 how an access ended, 8 pass, 9 fault, 11 seat; 0 where the call is refused
abbrev pub number : Called → ℕ
number r = get_or r.numbers 0 0

-- the endings that carry their crossings, as their second number
abbrev pub Carries : ℕ → Type 0
Carries n = ((n ≤ 6) ⊎ (n ≡ 10)) ⊎ (n ≡ 12)

-- 02, E4: 'It ends as `special` with crossings and holder', and no image changes
abbrev pub special_call : Images → List ℕ → ℕ → Called
special_call im gs holder = record { code = 0; numbers = eight 12 (length gs ∷ holder ∷ []); after = im }

-- 02, E1: 'ends as `denied` with its crossings, and stores nothing'
abbrev pub denied_call : Images → ℕ → Called
denied_call im crossings = record { code = 0; numbers = eight 10 (crossings ∷ []); after = im }

-- the bytes of an event and the seat that the call is told
pub record CAct : Type 0 where
  pub seat : ℕ
  pub event : List ℕ

-- the images after one call after another
unfoldable pub after_calls : List ℕ → List CAct → Images → Images
after_calls b [] im = im
after_calls b (a ∷ acts) im = after_calls b acts (rack_run b a.seat a.event im).after

unfoldable pub AllCallsWriteNone : List CAct → Type 0
AllCallsWriteNone [] = Unit {0}
AllCallsWriteNone (a ∷ acts) = WritesNone (event_in a.event 0) × AllCallsWriteNone acts

-- calls that are told one seat
unfoldable pub all_told : ℕ → List (List ℕ) → List CAct
all_told seat [] = []
all_told seat (event ∷ events) = record { seat = seat; event = event } ∷ all_told seat events
