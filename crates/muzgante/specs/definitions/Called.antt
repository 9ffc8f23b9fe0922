-- The calls from C: what each returns, the eight numbers of its answer, and both images at its end.
use Rattle.std.specs.Prelude.{ℕ, List, Result as StdResult}
use Rattle.rack.specs.definitions.First.{◌when◌, ◌or◌, unless}
use Rattle.seat.specs.definitions.Grants.{acting}
use Rattle.rack.specs.declared.refusal.Refusal.{Refusal}
use Rattle.arbiter.specs.declared.Turn.{Turn}
use Rattle.arbiter.specs.definitions.Arbiter.{arbitrate}
use Rattle.register_image.specs.definitions.Image.{Images, Result, gives}
use Rattle.register_image.specs.definitions.Fixed.{lengths_wrong}
use Rattle.register_image.specs.definitions.Reset.{reset_images}
use Rattle.file_record.specs.definitions.Events.{event_in, event_bytes}
use Rattle.file_record.specs.definitions.Load.{rack_alone}
use Rattle.rack.specs.declared.Range.{Range}
use Rattle.event_run.specs.declared.Answer.{Answer}
use Rattle.call_table.specs.definitions.Call.{Reply, run_in, check_in, ends_in}
use Rattle.call_numbers.specs.definitions.Called.{Called, refused_call}
use Rattle.call_numbers.specs.definitions.Numbers.{zeros, code_of, reply_numbers, ends_code, ends_numbers}

abbrev pub replied_call : Result (Reply Answer) → Called
replied_call r = record { code = code_of r.answer; numbers = reply_numbers r.answer; after = r.after }

abbrev pub ends_call : Reply Range → Images → Called
ends_call e im = record { code = ends_code e; numbers = ends_numbers e; after = im }

-- rack_run. 01: 'The two C calls take the rack records as bytes: 1 to 10 as for a file .. The event to run is read next, before 11: no
-- byte or no event kind is 2, any length but its own is 3'; then 11, 12, 18, 13, 14 and 15, or the event is run. 02, E1: 'A call that
-- runs an event is told the acting seat'
unfoldable pub rack_run : List ℕ → ℕ → List ℕ → Images → Called
rack_run b seat event im =
    unless ((rack_alone b).refusal or event_bytes event)
    (replied_call (run_in (rack_alone b).tree (acting (rack_alone b).grants seat) im (event_in event 0))) (λ n. refused_call n im)

-- rack_check: 'A check changes no register'
unfoldable pub rack_check : List ℕ → Images → Called
rack_check b im =
    unless (rack_alone b).refusal (replied_call (gives (check_in (rack_alone b).tree (rack_alone b).grants im) im)) (λ n. refused_call n im)

-- rack_window: window k of a bridge (0 memory, 1 prefetchable, 2 I/O), or region k of a device
unfoldable pub rack_window : List ℕ → Images → ℕ → ℕ → Called
rack_window b im i k =
    unless (rack_alone b).refusal (ends_call (ends_in (rack_alone b).tree (rack_alone b).grants im i k) im) (λ n. refused_call n im)

-- rack_reset: 1 to 10 of the rack's bytes, then 11 and 14; never 12, whatever the images hold
abbrev pub reset_refusal : List ℕ → Images → ℕ
reset_refusal b im = (rack_alone b).refusal or 11 when lengths_wrong (rack_alone b).tree im or 14 when (rack_alone b).grants.wrong

unfoldable pub rack_reset : List ℕ → Images → Called
rack_reset b im =
    unless (reset_refusal b im) (record { code = 0; numbers = zeros; after = reset_images (rack_alone b).tree im })
    (λ n. refused_call n im)

-- rack_grant: a step of the arbiter; the state is two numbers
abbrev pub rack_grant : ℕ → ℕ → ℕ → ℕ → StdResult Turn Refusal
rack_grant mask requests high low = arbitrate mask requests (record { high = high; low = low })
