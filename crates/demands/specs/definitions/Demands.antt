-- The three demands in the person's own words, and what is proved of each. The proofs are in specs/laws/Proved.antt.
use Rattle.std.specs.Prelude.{◌≡◌, Bool, true, false, cond, List, [], ◌∷◌, ◌++◌, Ok, Err, ℕ, ◌+◌, ◌^◌, ◌≤◌, ◌<◌, eqb, length, get_or, take}
use Rattle.rack.specs.declared.Rack.{Rack}
use Rattle.rack.specs.declared.refusal.Refusal.TheVariants.{BadArbitration}
use Rattle.rack.specs.definitions.Refused.{number_of}
use Rattle.rack.specs.definitions.Buffer.{over_start}
use Rattle.rack.specs.definitions.Node.{is_bridge, region_in}
use Rattle.rack.specs.definitions.Tree.{Tree, host, bridge_count, device_count, depth, greatest_depth}
use Rattle.rack.specs.definitions.Grow.{tree}
use Rattle.rack.specs.definitions.Refusal.{rack_refusal, FirstFaultyNode}
use Rattle.seat.specs.definitions.Grants as seating
use Rattle.seat.specs.definitions.Grants.{acting, no_grants, unknown_seat, named_missing, grants}
use Rattle.seat_laws.specs.definitions.Kept.{Kept}
use Rattle.seat_laws.specs.definitions.Running.{cursor_after}
use Rattle.seat_laws.specs.definitions.Before.{run_before, lines_before}
use Rattle.seat_laws.specs.definitions.NamedPair.{NamedPair, WithoutPair}
use Rattle.register_header.specs.definitions.Register.{read_register}
use Rattle.register_image.specs.definitions.Image.{Images, Result, view, gives}
use Rattle.register_image.specs.definitions.Fixed.{lengths_wrong}
use Rattle.bus_reset.specs.definitions.Agreement.{image_refusal}
use Rattle.bus_reset.specs.definitions.Store.{store_node}
use Rattle.register_image.specs.definitions.Reset.{reset_images}
use Rattle.register_laws.specs.definitions.FalseImages.{WrongLength, FixedDiffers, HeldDiffers, FixedRight, HeldRight}
use Rattle.bus_reset.specs.definitions.Held.{is_held}
use Rattle.claim_agent.specs.declared.Space.{Space}
use Rattle.claim_agent.specs.declared.Space.TheVariants as space
use Rattle.claim_agent.specs.definitions.Space.{space_number}
use Rattle.claim_agent.specs.definitions.Claim.{claims}
use Rattle.claim_agent.specs.definitions.WindowEnds.{window_ends}
use Rattle.claim_laws.specs.definitions.Same.{SameButStatus, SameButReset}
use Rattle.check_search.specs.definitions.Report.{Pass, fault}
use Rattle.check_search.specs.definitions.Check.{check}
use Rattle.held_laws.specs.definitions.Others.{other_check}
use Rattle.file_record.specs.declared.Event.{Event}
use Rattle.file_record.specs.declared.Event.TheVariants as event
use Rattle.file_record.specs.definitions.Number.{byte_in}
use Rattle.file_record.specs.definitions.Events.{event_in, event_unknown, event_bytes}
use Rattle.file_record.specs.definitions.Load.{read_in, file_in, rack_alone}
use Rattle.file_record.specs.definitions.Start.{start_images}
use Rattle.file_laws.specs.definitions.Records.{before, Stands, fault_at, FirstFaulty, Faultless, FaultySeat, SoundSeat, WithoutRecord}
use Rattle.file_save.specs.definitions.Saved.{saved_file}
use Rattle.save_laws.specs.definitions.After.{Follows}
use Rattle.save_laws.specs.definitions.Content.{SameContent}
use Rattle.save_laws.specs.definitions.RackBytes.{SameRecords}
use Rattle.save_laws.specs.definitions.Listed.{seat_records, register_nodes, named_pairs, changed_nodes, NoRegisters}
use Rattle.event_run.specs.declared.Answer.{Answer}
use Rattle.event_run.specs.declared.Answer.TheVariants.{Checked}
use Rattle.event_run.specs.definitions.Run.{event_run}
use Rattle.event_laws.specs.definitions.Stores.{Stores}
use Rattle.print_line.specs.definitions.Line.{refused_line}
use Rattle.print_file.specs.definitions.Output.{lines_of, blank, events_at, first_at, output_of}
use Rattle.print_file.specs.definitions.Filling.{ran_at}
use Rattle.print_file.specs.definitions.Place.{Place, end_up_to}
use Rattle.call_table.specs.definitions.Call as call
use Rattle.call_table.specs.definitions.Call.{refusal_by, run_refusal, ran, run_in, check_in}
use Rattle.arbiter.specs.declared.State.{State}
use Rattle.arbiter.specs.definitions.Arbiter as arbiter
use Rattle.arbiter.specs.definitions.Arbiter.{step, turn_of, arbitrate}
use Rattle.call_numbers.specs.definitions.Numbers.{eight, zeros, arbitration_numbers}
use Rattle.call_numbers.specs.definitions.Called.{Called, refused_call}
use Rattle.call_save.specs.definitions.Save.{save_in, buffer_in}
use Rattle.call_file.specs.definitions.Filed.{Filed, filed, rack_save, sizes, rack_open}
use Rattle.muzgante.specs.definitions.Called.{replied_call, ends_call, rack_run, rack_check, rack_window, rack_reset, rack_grant}
use Rattle.demand_passed.specs.definitions.OneClaimant.{OneClaimant, OneOther}
use Rattle.demand_passed.specs.definitions.FirstFault.{FirstFault, FirstOther}
use Rattle.demand_calls.specs.definitions.Events.{Fits, reply_number, Goes, crossings, start_bus, Act, AllWriteNone, after_all, all_by, MayNotDrive, silent_reply, SpecialCycle, special_reply, DeniedWrite, denied_reply, WouldStore}
use Rattle.demand_calls.specs.definitions.CCalls.{InOrder, CAct, AllCallsWriteNone, after_calls, Carries}
use Rattle.demand_calls.specs.definitions.CCalls as c
use Rattle.demand_calls.specs.definitions.Resets.{Resets}

-- 1. 'Refused, by the numbers in document 01, are an overlong or broken rack file, an impossible tree, a false register image and an
-- event or call with a field out of range; a refusal leaves every image untouched. Every other input is accepted and gets its answer.'

-- the bytes of a whole rack file, or those of the rack of a C call
pub record Bytes (whole : Bool) (b : List ℕ) : Type 0 where
  pub overlong : 65536 < length b → ((read_in whole b).refusal ≡ 1) × ((read_in whole b).offset ≡ 65536)
  pub empty : length b ≡ 0 → ((read_in whole b).refusal ≡ 4) × ((read_in whole b).offset ≡ 0)
  -- of all others number n is given at offset o exactly where n is the first that applies at the first faulty record, which is at o
  pub refused : length b ≤ 65536 → (length b ≡ 0 → ⊥) → ((read_in whole b).refusal ≡ 0 → ⊥)
      → FirstFaulty whole b (read_in whole b).refusal (read_in whole b).offset
  pub refuses : length b ≤ 65536 → (length b ≡ 0 → ⊥) → (n o : ℕ) → FirstFaulty whole b n o
      → ((read_in whole b).refusal ≡ n) × ((read_in whole b).offset ≡ o)
  -- and they are accepted exactly where no record has a fault
  pub accepts : length b ≤ 65536 → (length b ≡ 0 → ⊥) → Faultless whole b → (read_in whole b).refusal ≡ 0
  pub accepted : (read_in whole b).refusal ≡ 0 → Faultless whole b

-- a decoded rack: 6 to 10
pub record Nodes (t : Tree) : Type 0 where
  pub refused : (rack_refusal t ≡ 0 → ⊥) → FirstFaultyNode t (rack_refusal t)
  pub refuses : {n : ℕ} → FirstFaultyNode t n → rack_refusal t ≡ n

-- 02, E1: 14. In the rack bytes of a C call it is given where one of the seat records is faulty, in a decoded rack where a pair is named
-- whose node is missing; in a file it stops the reading, so an accepted file has none
pub record Seats (b : List ℕ) : Type 0 where
  pub wrong : (rack_alone b).refusal ≡ 0 → (k : ℕ) → Stands b k → FaultySeat b k → (rack_alone b).grants.wrong ≡ true
  pub right : (rack_alone b).refusal ≡ 0 → ((k : ℕ) → Stands b k → FaultySeat b k → ⊥) → (rack_alone b).grants.wrong ≡ false
  pub file : (file_in b).refusal ≡ 0 → (file_in b).grants.wrong ≡ false

pub record NamedPairs (rack : Rack) : Type 0 where
  pub wrong : (k : ℕ) → k < 1440 → named_missing rack k ≡ true → (grants rack).wrong ≡ true
  pub right : ((k : ℕ) → k < 1440 → named_missing rack k ≡ false) → (grants rack).wrong ≡ false
  -- 15: a seat other than 0 is unknown exactly where no pair of it is named
  pub named : (seat node : ℕ) → ((grants rack).grant seat node).named ≡ true → NamedPair rack seat node ((grants rack).grant seat node).mask
  pub names : (seat node mask : ℕ) → NamedPair rack seat node mask → (grants rack).grant seat node ≡ record { named = true; mask = mask }
  pub unknown : (seat : ℕ) → unknown_seat (grants rack) seat ≡ true → WithoutPair rack seat
  pub without : (seat : ℕ) → WithoutPair rack seat → unknown_seat (grants rack) seat ≡ true

-- 02, E1: 15, 'a seat other than 0 without a record, in a seat event or told to a call'. In any bytes a seat and a node are named together, in
-- front of record n, exactly where one of the seat records before it that have no fault names them, and with its mask
pub record UnknownSeats (whole : Bool) (b : List ℕ) : Type 0 where
  pub named : (n seat node : ℕ) → ((before b n).grants.grant seat node).named ≡ true
      → (k : ℕ) × (k < n) × SoundSeat b k seat node ((before b n).grants.grant seat node).mask
  pub names : (n k seat node mask : ℕ) → k < n → SoundSeat b k seat node mask
      → (before b n).grants.grant seat node ≡ record { named = true; mask = mask }
  -- so a seat event, kind 10, is 15 exactly where no such record names its seat
  pub event_unknown_lem : (n : ℕ) → ((j : ℕ) → j < n → fault_at whole b j ≡ 0)
      → event_unknown (before b n).grants (event_in b (before b n).offset) ≡ true
      → (byte_in b (before b n).offset ≡ 10) × WithoutRecord b n (byte_in b ((before b n).offset + 1))
  pub unknown_event : (n : ℕ) → byte_in b (before b n).offset ≡ 10 → WithoutRecord b n (byte_in b ((before b n).offset + 1))
      → event_unknown (before b n).grants (event_in b (before b n).offset) ≡ true
  -- the same of accepted bytes and all their records, which is what a call is told a seat of
  pub read_named : (read_in whole b).refusal ≡ 0 → (seat node : ℕ) → ((read_in whole b).grants.grant seat node).named ≡ true
      → (k : ℕ) × Stands b k × SoundSeat b k seat node ((read_in whole b).grants.grant seat node).mask
  pub read_names : (read_in whole b).refusal ≡ 0 → (k seat node mask : ℕ) → SoundSeat b k seat node mask
      → (read_in whole b).grants.grant seat node ≡ record { named = true; mask = mask }
  pub unknown : (read_in whole b).refusal ≡ 0 → (seat : ℕ) → unknown_seat (read_in whole b).grants seat ≡ true
      → WithoutRecord b (length b) seat
  pub without : (read_in whole b).refusal ≡ 0 → (seat : ℕ) → WithoutRecord b (length b) seat
      → unknown_seat (read_in whole b).grants seat ≡ true

-- 'a false register image': 11, 12 and 18, in this order, each by the node, byte and bridge that it finds; 0 exactly where it finds none.
-- rack_reset and rack_open test the lengths alone
pub record RegisterImages (t : Tree) (im : Images) : Type 0 where
  pub refused_11 : image_refusal t im ≡ 11 → WrongLength t im
  pub refuses_11 : WrongLength t im → image_refusal t im ≡ 11
  pub refused_12 : image_refusal t im ≡ 12 → (WrongLength t im → ⊥) × (i : ℕ) × (at : ℕ) × FixedDiffers t im i at
  pub refuses_12 : (WrongLength t im → ⊥) → (i at : ℕ) → FixedDiffers t im i at → image_refusal t im ≡ 12
  -- 02, E5: 'calls give it straight after 12'
  pub refused_18 : image_refusal t im ≡ 18
      → (WrongLength t im → ⊥) × FixedRight t im × (g : ℕ) × (i : ℕ) × (at : ℕ) × HeldDiffers t im g i at
  pub refuses_18 : (WrongLength t im → ⊥) → FixedRight t im → (g i at : ℕ) → HeldDiffers t im g i at → image_refusal t im ≡ 18
  pub accepted : image_refusal t im ≡ 0 → (WrongLength t im → ⊥) × FixedRight t im × HeldRight t im
  pub accepts : (WrongLength t im → ⊥) → FixedRight t im → HeldRight t im → image_refusal t im ≡ 0
  pub length_differs : lengths_wrong t im ≡ true → WrongLength t im
  pub differs_length : WrongLength t im → lengths_wrong t im ≡ true

-- a call over a decoded rack; `field` is 13 where a field that it is given is wrong, `seat` 15 where a seat is unknown, and 0 else
pub record Order (t : Tree) (g : seating.Grants) (im : Images) (field seat : ℕ) : Type 0 where
  pub by_rack : (rack_refusal t ≡ 0 → ⊥) → refusal_by t g im field seat ≡ rack_refusal t
  pub by_image : rack_refusal t ≡ 0 → (image_refusal t im ≡ 0 → ⊥) → refusal_by t g im field seat ≡ image_refusal t im
  pub by_field : rack_refusal t ≡ 0 → image_refusal t im ≡ 0 → (field ≡ 0 → ⊥) → refusal_by t g im field seat ≡ field
  -- 'both after 13'
  pub by_grants : rack_refusal t ≡ 0 → image_refusal t im ≡ 0 → field ≡ 0 → g.wrong ≡ true → refusal_by t g im field seat ≡ 14
  pub by_seat : rack_refusal t ≡ 0 → image_refusal t im ≡ 0 → field ≡ 0 → g.wrong ≡ false → refusal_by t g im field seat ≡ seat
  pub accepted : refusal_by t g im field seat ≡ 0
      → (rack_refusal t ≡ 0) × (image_refusal t im ≡ 0) × (field ≡ 0) × (g.wrong ≡ false) × (seat ≡ 0)

-- each call over a decoded rack: what it gives where it is refused, and where it is not
module _ (rack : Rack) (im : Images) where
  pub record Read (i register : ℕ) : Type 0 where
    pub refused : (refusal_by (tree rack) (grants rack) im (call.read_refusal (tree rack) i register) 0 ≡ 0 → ⊥)
        → call.read_in (tree rack) (grants rack) im i register ≡ Err (refusal_by (tree rack) (grants rack) im (call.read_refusal (tree rack) i register) 0)
    pub answers : refusal_by (tree rack) (grants rack) im (call.read_refusal (tree rack) i register) 0 ≡ 0
        → call.read_in (tree rack) (grants rack) im i register ≡ Ok (read_register (view (tree rack) im i) register)

  pub record Write (i register enables put : ℕ) : Type 0 where
    pub refused : (refusal_by (tree rack) (grants rack) im (call.store_refusal (tree rack) i register enables) 0 ≡ 0 → ⊥)
        → call.stored_in (tree rack) (grants rack) im i register enables put ≡ im
    pub answers : refusal_by (tree rack) (grants rack) im (call.store_refusal (tree rack) i register enables) 0 ≡ 0
        → call.stored_in (tree rack) (grants rack) im i register enables put ≡ store_node (tree rack) im i register enables put

  -- 01: 'The view shows an empty part'
  pub record View (i : ℕ) : Type 0 where
    pub refused : (refusal_by (tree rack) (grants rack) im (call.view_refusal (tree rack) i) 0 ≡ 0 → ⊥) → call.view_in (tree rack) (grants rack) im i ≡ []
    pub answers : refusal_by (tree rack) (grants rack) im (call.view_refusal (tree rack) i) 0 ≡ 0 → call.view_in (tree rack) (grants rack) im i ≡ view (tree rack) im i

  -- 01: 'A region has 2 to the e bytes', 'A kind 0 region has size 0'
  pub record Size (i r : ℕ) : Type 0 where
    pub refused : (refusal_by (tree rack) (grants rack) im (call.region_refusal (tree rack) i r) 0 ≡ 0 → ⊥)
        → call.size_in (tree rack) (grants rack) im i r ≡ Err (refusal_by (tree rack) (grants rack) im (call.region_refusal (tree rack) i r) 0)
    pub answers : refusal_by (tree rack) (grants rack) im (call.region_refusal (tree rack) i r) 0 ≡ 0
        → call.size_in (tree rack) (grants rack) im i r
        ≡ Ok (cond (eqb (region_in ((tree rack).node i) r).kind 0) 0 (2 ^ (region_in ((tree rack).node i) r).exponent))

  pub record Window (i k : ℕ) : Type 0 where
    pub refused : (refusal_by (tree rack) (grants rack) im (call.window_refusal (tree rack) i k) 0 ≡ 0 → ⊥)
        → call.ends_in (tree rack) (grants rack) im i k ≡ Err (refusal_by (tree rack) (grants rack) im (call.window_refusal (tree rack) i k) 0)
    pub answers : refusal_by (tree rack) (grants rack) im (call.window_refusal (tree rack) i k) 0 ≡ 0
        → call.ends_in (tree rack) (grants rack) im i k ≡ Ok (window_ends (tree rack) im i k)

  -- 02, E1: 'A call that runs an event is told the acting seat'
  pub record Run (seat : ℕ) (e : Event) : Type 0 where
    pub refused : (run_refusal (tree rack) (acting (grants rack) seat) im e ≡ 0 → ⊥)
        → run_in (tree rack) (acting (grants rack) seat) im e
        ≡ gives (Err (run_refusal (tree rack) (acting (grants rack) seat) im e)) im
    pub answers : run_refusal (tree rack) (acting (grants rack) seat) im e ≡ 0
        → run_in (tree rack) (acting (grants rack) seat) im e ≡ ran (event_run (tree rack) (acting (grants rack) seat) im e)

  pub record Check : Type 0 where
    pub refused : (refusal_by (tree rack) (grants rack) im 0 0 ≡ 0 → ⊥)
        → check_in (tree rack) (grants rack) im ≡ Err (refusal_by (tree rack) (grants rack) im 0 0)
    pub answers : refusal_by (tree rack) (grants rack) im 0 0 ≡ 0
        → check_in (tree rack) (grants rack) im ≡ Ok (Checked (check (tree rack) im))

-- rack_reset from C, which refuses 1 to 10, 11 and 14
pub record Reset (b : List ℕ) (im : Images) : Type 0 where
  pub by_rack : ((rack_alone b).refusal ≡ 0 → ⊥) → rack_reset b im ≡ refused_call (rack_alone b).refusal im
  pub by_length : (rack_alone b).refusal ≡ 0 → lengths_wrong (rack_alone b).tree im ≡ true → rack_reset b im ≡ refused_call 11 im
  pub by_grants : (rack_alone b).refusal ≡ 0 → lengths_wrong (rack_alone b).tree im ≡ false → (rack_alone b).grants.wrong ≡ true
      → rack_reset b im ≡ refused_call 14 im
  pub answers : (rack_alone b).refusal ≡ 0 → lengths_wrong (rack_alone b).tree im ≡ false → (rack_alone b).grants.wrong ≡ false
      → rack_reset b im ≡ record { code = 0; numbers = zeros; after = reset_images (rack_alone b).tree im }

-- 02, E2: the writer as an open call: 'a lent buffer too short for the writer's file is 11 too, tested after all others; a refusal leaves the
-- buffer untouched, and a file that fits the bytes past it'. It answers the file's length, and no file is longer than 14,609 bytes
pub record Save (rack : Rack) (im : Images) (old : List ℕ) : Type 0 where
  pub refused : (refusal_by (tree rack) (grants rack) im 0 0 ≡ 0 → ⊥)
      → (save_in (tree rack) (grants rack) im (length old) ≡ Err (refusal_by (tree rack) (grants rack) im 0 0))
      × (buffer_in (tree rack) (grants rack) im old ≡ old)
  pub short : refusal_by (tree rack) (grants rack) im 0 0 ≡ 0 → length old < length (saved_file (tree rack) (grants rack) im)
      → (save_in (tree rack) (grants rack) im (length old) ≡ Err 11) × (buffer_in (tree rack) (grants rack) im old ≡ old)
  pub answers : refusal_by (tree rack) (grants rack) im 0 0 ≡ 0 → length (saved_file (tree rack) (grants rack) im) ≤ length old
      → (save_in (tree rack) (grants rack) im (length old) ≡ Ok (length (saved_file (tree rack) (grants rack) im)))
      × (buffer_in (tree rack) (grants rack) im old ≡ over_start old (saved_file (tree rack) (grants rack) im))
  pub most : refusal_by (tree rack) (grants rack) im 0 0 ≡ 0 → length (saved_file (tree rack) (grants rack) im) ≤ 14609

-- rack_save from C: 1 to 10 of the rack's bytes come first
pub record CSave (b : List ℕ) (im : Images) (old : List ℕ) : Type 0 where
  pub by_rack : ((rack_alone b).refusal ≡ 0 → ⊥) → rack_save b im old ≡ filed (rack_alone b).refusal zeros old
  pub refused : (rack_alone b).refusal ≡ 0 → (refusal_by (rack_alone b).tree (rack_alone b).grants im 0 0 ≡ 0 → ⊥)
      → rack_save b im old ≡ filed (refusal_by (rack_alone b).tree (rack_alone b).grants im 0 0) zeros old
  pub short : (rack_alone b).refusal ≡ 0 → refusal_by (rack_alone b).tree (rack_alone b).grants im 0 0 ≡ 0
      → length old < length (saved_file (rack_alone b).tree (rack_alone b).grants im) → rack_save b im old ≡ filed 11 zeros old
  pub answers : (rack_alone b).refusal ≡ 0 → refusal_by (rack_alone b).tree (rack_alone b).grants im 0 0 ≡ 0
      → length (saved_file (rack_alone b).tree (rack_alone b).grants im) ≤ length old
      → rack_save b im old
      ≡ filed 0 (eight (length (saved_file (rack_alone b).tree (rack_alone b).grants im)) [])
      (over_start old (saved_file (rack_alone b).tree (rack_alone b).grants im))
  pub most : refusal_by (rack_alone b).tree (rack_alone b).grants im 0 0 ≡ 0
      → length (saved_file (rack_alone b).tree (rack_alone b).grants im) ≤ 14609

-- rack_open from C: a whole file, refused as a file is, then 11, which tells both node counts all the same; its answer is how many bytes
-- stand before the first register record or event, and both images are then what a run of the file starts from
pub record COpen (b : List ℕ) (im : Images) : Type 0 where
  pub by_file : ((file_in b).refusal ≡ 0 → ⊥) → rack_open b im ≡ refused_call (file_in b).refusal im
  pub by_length : (file_in b).refusal ≡ 0 → lengths_wrong (file_in b).tree im ≡ true
      → rack_open b im ≡ record { code = 11; numbers = sizes 0 (file_in b).tree; after = im }
  pub answers : (file_in b).refusal ≡ 0 → lengths_wrong (file_in b).tree im ≡ false
      → rack_open b im ≡ record { code = 0; numbers = sizes (file_in b).registers (file_in b).tree; after = start_images b im }

-- 02, E14: a step of the arbiter, as an open call and from C. It has no image; 'A mask or request set with a bit above 9, or a state that
-- names a place its ring lacks, is 20'
pub record Grants (mask requests : ℕ) (s : State) : Type 0 where
  pub refused : arbiter.refused mask requests s ≡ true → arbitrate mask requests s ≡ Err BadArbitration
  pub answers : arbiter.refused mask requests s ≡ false → arbitrate mask requests s ≡ Ok (turn_of (step mask requests s))

pub record CGrants (mask requests high low : ℕ) : Type 0 where
  pub refused : arbiter.refused mask requests (record { high = high; low = low }) ≡ true
      → (number_of (rack_grant mask requests high low) ≡ 20) × (arbitration_numbers (rack_grant mask requests high low) ≡ zeros)
  pub answers : arbiter.refused mask requests (record { high = high; low = low }) ≡ false
      → (number_of (rack_grant mask requests high low) ≡ 0)
      × (arbitration_numbers (rack_grant mask requests high low)
      ≡ arbitration_numbers (Ok (turn_of (step mask requests (record { high = high; low = low })))))

pub record Demand1 : Type 0 where
  pub bytes : (whole : Bool) (b : List ℕ) → Bytes whole b
  pub nodes : (t : Tree) → Nodes t
  pub seats : (b : List ℕ) → Seats b
  pub pairs : (rack : Rack) → NamedPairs rack
  pub unknown_seats : (whole : Bool) (b : List ℕ) → UnknownSeats whole b
  pub images : (t : Tree) (im : Images) → RegisterImages t im
  pub order : (t : Tree) (g : seating.Grants) (im : Images) (field seat : ℕ) → Order t g im field seat
  pub reads : (rack : Rack) (im : Images) (i register : ℕ) → Read rack im i register
  pub writes : (rack : Rack) (im : Images) (i register enables put : ℕ) → Write rack im i register enables put
  pub views : (rack : Rack) (im : Images) (i : ℕ) → View rack im i
  pub sizes : (rack : Rack) (im : Images) (i r : ℕ) → Size rack im i r
  pub windows : (rack : Rack) (im : Images) (i k : ℕ) → Window rack im i k
  pub runs : (rack : Rack) (im : Images) (seat : ℕ) (e : Event) → Run rack im seat e
  pub checks : (rack : Rack) (im : Images) → Check rack im
  pub c_runs : (b : List ℕ) (seat : ℕ) (event : List ℕ) (im : Images)
      → InOrder b (event_bytes event) im (call.event_refusal (rack_alone b).tree (event_in event 0))
      (call.seat_refusal (acting (rack_alone b).grants seat) (event_in event 0))
      (replied_call (ran (event_run (rack_alone b).tree (acting (rack_alone b).grants seat) im (event_in event 0)))) (rack_run b seat event im)
  pub c_checks : (b : List ℕ) (im : Images)
      → InOrder b 0 im 0 0 (replied_call (gives (Ok (Checked (check (rack_alone b).tree im))) im))
      (rack_check b im)
  pub c_windows : (b : List ℕ) (im : Images) (i k : ℕ)
      → InOrder b 0 im (call.window_refusal (rack_alone b).tree i k) 0
      (ends_call (Ok (window_ends (rack_alone b).tree im i k)) im) (rack_window b im i k)
  pub c_reset : (b : List ℕ) (im : Images) → Reset b im
  pub saves : (rack : Rack) (im : Images) (old : List ℕ) → Save rack im old
  pub c_saves : (b : List ℕ) (im : Images) (old : List ℕ) → CSave b im old
  pub c_opens : (b : List ℕ) (im : Images) → COpen b im
  -- 01: 'A refused input prints only `refused N at O`'
  pub prints : (b : List ℕ) → ((file_in b).refusal ≡ 0 → ⊥) → output_of b ≡ refused_line (file_in b).refusal (file_in b).offset
  pub grants : (mask requests : ℕ) (s : State) → Grants mask requests s
  pub c_grants : (mask requests high low : ℕ) → CGrants mask requests high low

-- 2. 'Register reads and writes, claims and routes, downstream and upstream, are those of the PCI-to-PCI Bridge Architecture
-- Specification 1.2 as document 01 condenses it.'
--
-- Each contract is an equation between what a function gives, with both images at exit, and a definition:
--
--   seat             table::may_write               Grants.may_write
--                    grow::grants_of                Grants.grants
--   register_header  edition::options_of            Options.options_of
--                    register::read_register        Register.read_register
--                    register::write_register       Register.write_register
--   register_access  status::set_status             Register.set_status
--   register_image   image::view                    Image.view
--                    image::write_node              Image.write_node
--                    image::status_node             Image.status_node
--                    set::set_node                  Image.set_node
--                    reset::reset_images            Reset.reset_images
--                    sizing::size_region            Sizing.size_region
--   bus_reset        held::is_held_bus, is_held     Held.held_bus, Held.is_held
--                    agreement::image_refusal       Agreement.image_refusal
--                    store::store_node              Store.store_node
--   claim_decode     decode::windows_of             Window.windows_of
--                    region::area_of                Area.area_of
--   claim_agent      Agent::claims                  Claim.claims_of
--   claim_bus        decode::agent_at               Agent.agent_of
--                    bus::claimants_of              Claimants.claimants
--                    ends::window_ends              WindowEnds.window_ends
--   route_bus        look::look_on                  Look.look
--   route_bridge     crossed_by                     Cross.crossed
--   route            route::route_configuration     Route.configure
--                    route::route_access            Route.access
--   check_sweep      buses::check_rack              Check.check
--   file_load        load_file, load_alone          Load.file_in, Load.rack_alone
--   file_start       start_images                   Start.start_from
--   file_save        save::save                     Saved.saved_file
--   event_run        run::answer_event              Run.event_run
--   print_file       fill::fill                     Filling.part_of
--   print_output     left::first_rest               Rest.first_of
--                    part::put_part                 Piece.piece_of, which goes on with Rest.output_from
--   call_open        read_register, write_register  Call.read_in, Call.stored_in
--                    view, size_region              Call.view_in, Call.size_in
--                    window_ends                    Call.ends_in
--                    run_event, run_check           Call.run_in, Call.check_in
--   call_save        save_rack                      Save.save_in, Save.buffer_in
--   muzgante         rack_run, rack_check           Called.rack_run, Called.rack_check
--                    rack_window, rack_reset        Called.rack_window, Called.rack_reset
--                    rack_save, rack_open           Filed.rack_save, Filed.rack_open
--   rackrun          run                            Output.output_of: the bytes that `write_next` is given, each once and in order

-- 3. 'For every rack, whatever its registers hold, an accepted check passes exactly when the count of claimants is at most one on every
-- bus, for each agent of that bus as driver and every memory and I/O address, and for the agent above it and each bus number 1 to 255.
-- If it does not pass, it shows the clash, driver and two claimants that document 01 names first, and the count at that access is two or
-- more. In a passed rack, with the registers it passed with, status bits aside, every accepted configuration, memory or I/O access,
-- whichever party starts it, is never driven, ends unclaimed, or ends at its one owner, and never in a clash. The crossings carried in
-- its answer are at most the depth of the starting bus plus the greatest depth in the rack.'

-- 02, E4: 'From then on an access in a passed rack may also end this way; the claimant count on the way there is as before': `Goes` has
-- special cycles among the ends, and says of every bus that an access passed that its one claimant is the bridge that took it on.

-- 02, E1: 'in demand 3 it counts as ended at its one owner': `Goes` has a write that is denied among those that came to the node of that
-- device number, function 0, and `Denied3` says which ones are. Who acts plays no part in the check, which has no seat.

-- 02, E5: 'The check counts no held node as claimant or driver; for the other agents its pass still says at most one': `BusResets` has the
-- same with held nodes left out, which no held node makes different; and under `Goes` a Type 0 on a held bus ends unclaimed or as a special
-- cycle.

-- 02, E11: 'A rack that mixes them is checked and routed under the same guarantee as before': a node of these racks is a device, a bridge
-- or an older bridge. The claim laws over a bridge's options are claim_laws `Editions`.

-- a check that was made on some images and answered so
pub record CheckedAt (t : Tree) (im : Images) (r : Result Answer) : Type 0 where
  pub keeps : r.after ≡ im
  pub passed : r.answer ≡ Checked Pass → OneClaimant t im
  pub passes : OneClaimant t im → r.answer ≡ Checked Pass
  pub faulted : (OneClaimant t im → ⊥)
      → (bus : ℕ) × (space : Space) × (a : ℕ) × (driver : ℕ) × (x : ℕ) × (y : ℕ)
      × (r.answer ≡ Checked (fault bus space a driver x y)) × FirstFault t im bus space a driver x y

-- where the run of a file stands after its first n events
abbrev pub after : List ℕ → ℕ → Place
after b n =
    end_up_to n (file_in b).tree (file_in b).grants b (first_at (file_in b).offset) (start_images b (blank (file_in b).tree))

-- over the calls on a decoded rack, run_check and run_event
pub record Checked3 (rack : Rack) (im : Images) : Type 0 where
  pub passed : check_in (tree rack) (grants rack) im ≡ Ok (Checked Pass)
      → (rack_refusal (tree rack) ≡ 0) × (image_refusal (tree rack) im ≡ 0) × ((grants rack).wrong ≡ false) × OneClaimant (tree rack) im
  pub passes : rack_refusal (tree rack) ≡ 0 → image_refusal (tree rack) im ≡ 0 → (grants rack).wrong ≡ false → OneClaimant (tree rack) im
      → check_in (tree rack) (grants rack) im ≡ Ok (Checked Pass)
  pub faulted : (bus : ℕ) (space : Space) (a driver x y : ℕ)
      → check_in (tree rack) (grants rack) im ≡ Ok (Checked (fault bus space a driver x y))
      → FirstFault (tree rack) im bus space a driver x y

-- a check that is an event is that check, whichever seat acts: of run_event and rack_run as of run_check and rack_check, and in a file on
-- the registers that its first n events left. It changes none
pub record CheckEvents : Type 0 where
  pub events : (rack : Rack) (im : Images) (seat : ℕ) → run_refusal (tree rack) (acting (grants rack) seat) im event.Check ≡ 0
      → run_in (tree rack) (acting (grants rack) seat) im event.Check ≡ gives (check_in (tree rack) (grants rack) im) im
  pub c_events : (b : List ℕ) (seat : ℕ) (bytes : List ℕ) (im : Images) → event_in bytes 0 ≡ event.Check → (rack_run b seat bytes im).code ≡ 0
      → rack_run b seat bytes im ≡ rack_check b im
  pub files : (b : List ℕ) → (file_in b).refusal ≡ 0 → (n : ℕ) → event_in b (after b n).next.offset ≡ event.Check
      → CheckedAt (file_in b).tree (after b n).before
      (ran_at (file_in b).tree (file_in b).grants b (after b n).next (after b n).before)

-- im are the registers that the rack passed with; `acts` are events that write no register, as many as one likes, by any seats
pub record Passed3 (rack : Rack) (im : Images) : Type 0 where
  pub goes : (im' : Images) → SameButStatus (tree rack) im im' → (seat : ℕ) (e : Event) → Fits e
      → run_refusal (tree rack) (acting (grants rack) seat) im' e ≡ 0
      → (r : Result Answer) × (run_in (tree rack) (acting (grants rack) seat) im' e ≡ ran r)
      × Goes (tree rack) (acting (grants rack) seat) im' e r
  pub no_clash : (im' : Images) → SameButStatus (tree rack) im im' → (seat : ℕ) (e : Event) → Fits e
      → reply_number (run_in (tree rack) (acting (grants rack) seat) im' e).answer ≡ 6 → ⊥
  pub later : (acts : List Act) → AllWriteNone acts → SameButStatus (tree rack) im (after_all (tree rack) (grants rack) acts im)

-- over the C calls rack_check and rack_run: 8 is the number of a pass, 9 of a fault, 6 of a clash
pub record CChecked3 (b : List ℕ) (im : Images) : Type 0 where
  pub passed : c.number (rack_check b im) ≡ 8
      → ((rack_alone b).refusal ≡ 0) × (image_refusal (rack_alone b).tree im ≡ 0) × ((rack_alone b).grants.wrong ≡ false)
      × OneClaimant (rack_alone b).tree im
  pub passes : (rack_alone b).refusal ≡ 0 → image_refusal (rack_alone b).tree im ≡ 0 → (rack_alone b).grants.wrong ≡ false
      → OneClaimant (rack_alone b).tree im
      → rack_check b im ≡ record { code = 0; numbers = eight 8 []; after = im }
  pub faulted : (bus : ℕ) (space : Space) (a driver x y : ℕ)
      → (rack_check b im).numbers ≡ eight 9 (bus ∷ space_number space ∷ a ∷ driver ∷ x ∷ y ∷ [])
      → FirstFault (rack_alone b).tree im bus space a driver x y
  pub shows : (rack_check b im).code ≡ 0 → (c.number (rack_check b im) ≡ 8 → ⊥)
      → (bus : ℕ) × (space : Space) × (a : ℕ) × (driver : ℕ) × (x : ℕ) × (y : ℕ)
      × ((rack_check b im).numbers ≡ eight 9 (bus ∷ space_number space ∷ a ∷ driver ∷ x ∷ y ∷ []))

-- `event` is any event's bytes, `seat` any number that the call is told
pub record CPassed3 (b : List ℕ) (im : Images) : Type 0 where
  pub goes : (im' : Images) → SameButStatus (rack_alone b).tree im im' → (seat : ℕ) (event : List ℕ) → ((k : ℕ) → get_or event k 0 < 256)
      → (rack_run b seat event im').code ≡ 0
      → (r : Result Answer) × (rack_run b seat event im' ≡ replied_call (ran r))
      × Goes (rack_alone b).tree (acting (rack_alone b).grants seat) im' (event_in event 0) r
  pub no_clash : (im' : Images) → SameButStatus (rack_alone b).tree im im' → (seat : ℕ) (event : List ℕ)
      → ((k : ℕ) → get_or event k 0 < 256) → c.number (rack_run b seat event im') ≡ 6 → ⊥
  pub later : (acts : List CAct) → AllCallsWriteNone acts → SameButStatus (rack_alone b).tree im (after_calls b acts im)

-- 02, E4: 'A configuration write to device 31, function 7, register 0 is one, on the root bus for bus 0 and otherwise on the secondary bus
-- where the access would turn into Type 0. It ends as `special` with crossings and holder, and sets no master-abort bit': an accepted
-- event ends with number 12 exactly where it is that write and its way comes to a Type 0, passed rack or not
pub record Special3 (rack : Rack) (im : Images) (seat : ℕ) (e : Event) : Type 0 where
  pub ends : (gs : List ℕ) (holder : ℕ) → run_refusal (tree rack) (acting (grants rack) seat) im e ≡ 0
      → SpecialCycle (tree rack) im e gs holder → run_in (tree rack) (acting (grants rack) seat) im e ≡ special_reply im gs holder
  pub only : reply_number (run_in (tree rack) (acting (grants rack) seat) im e).answer ≡ 12
      → (gs : List ℕ) × (holder : ℕ) × SpecialCycle (tree rack) im e gs holder
      × (run_in (tree rack) (acting (grants rack) seat) im e ≡ special_reply im gs holder)

pub record CSpecial3 (b : List ℕ) (seat : ℕ) (event : List ℕ) (im : Images) : Type 0 where
  pub ends : (gs : List ℕ) (holder : ℕ) → (rack_run b seat event im).code ≡ 0
      → SpecialCycle (rack_alone b).tree im (event_in event 0) gs holder → rack_run b seat event im ≡ c.special_call im gs holder
  pub only : c.number (rack_run b seat event im) ≡ 12
      → (gs : List ℕ) × (holder : ℕ) × SpecialCycle (rack_alone b).tree im (event_in event 0) gs holder
      × (rack_run b seat event im ≡ c.special_call im gs holder)

-- 02, E1: 'A write that reaches a register outside the grant ends as `denied` with its crossings, and stores nothing': number 10 is given
-- only to a write that came to the one node of that device number, function 0, whose grant lacks the dword of a register below 40h
pub record Denied3 (rack : Rack) (im : Images) (seat : ℕ) : Type 0 where
  pub only : (e : Event) → reply_number (run_in (tree rack) (acting (grants rack) seat) im e).answer ≡ 10
      → (gs : List ℕ) × (holder : ℕ) × (g : ℕ) × DeniedWrite (tree rack) (acting (grants rack) seat) im e gs holder g
      × (run_in (tree rack) (acting (grants rack) seat) im e ≡ denied_reply im (length gs))
  -- and to each of these that seat 0's would be stored at: with the same crossings, and no image changes. Where it may be written, the
  -- write ends as seat 0's
  pub would : (e : Event) → reply_number (run_in (tree rack) (acting (grants rack) 0) im e).answer ≡ 2
      → WouldStore (tree rack) (acting (grants rack) seat) im e

pub record CDenied3 (b : List ℕ) (seat : ℕ) (event : List ℕ) (im : Images) : Type 0 where
  pub only : c.number (rack_run b seat event im) ≡ 10
      → (gs : List ℕ) × (holder : ℕ) × (g : ℕ)
      × DeniedWrite (rack_alone b).tree (acting (rack_alone b).grants seat) im (event_in event 0) gs holder g
      × (rack_run b seat event im ≡ c.denied_call im (length gs))
  pub would : c.number (rack_run b 0 event im) ≡ 2 → (rack_run b seat event im).code ≡ 0
      → WouldStore (rack_alone b).tree (acting (rack_alone b).grants seat) im (event_in event 0)
      × (rack_run b seat event im ≡ replied_call (run_in (rack_alone b).tree (acting (rack_alone b).grants seat) im (event_in event 0)))

pub record Demand3 : Type 0 where
  pub checked : (rack : Rack) (im : Images) → Checked3 rack im
  pub check_events : CheckEvents
  pub passed : (rack : Rack) (im : Images) → check_in (tree rack) (grants rack) im ≡ Ok (Checked Pass) → Passed3 rack im
  pub crossed : (rack : Rack) (im : Images) (seat : ℕ) (e : Event)
      → crossings (run_in (tree rack) (acting (grants rack) seat) im e).answer
      ≤ depth (tree rack) (start_bus (tree rack) e) + greatest_depth (tree rack)
  -- 'is never driven': an answer is silent, number 7, only where its initiator is a device with command bit 2 clear, and then it has no
  -- crossings and changes nothing
  pub silent : (rack : Rack) (im : Images) (seat : ℕ) (e : Event)
      → reply_number (run_in (tree rack) (acting (grants rack) seat) im e).answer ≡ 7
      → MayNotDrive (tree rack) im e × (run_in (tree rack) (acting (grants rack) seat) im e ≡ silent_reply im)
  pub special : (rack : Rack) (im : Images) (seat : ℕ) (e : Event) → Special3 rack im seat e
  pub denied : (rack : Rack) (im : Images) (seat : ℕ) → Denied3 rack im seat
  pub c_checked : (b : List ℕ) (im : Images) → CChecked3 b im
  pub c_passed : (b : List ℕ) (im : Images) → c.number (rack_check b im) ≡ 8 → CPassed3 b im
  pub c_silent : (b : List ℕ) (seat : ℕ) (event : List ℕ) (im : Images) → c.number (rack_run b seat event im) ≡ 7
      → MayNotDrive (rack_alone b).tree im (event_in event 0) × (rack_run b seat event im ≡ replied_call (silent_reply im))
  pub c_special : (b : List ℕ) (seat : ℕ) (event : List ℕ) (im : Images) → CSpecial3 b seat event im
  pub c_denied : (b : List ℕ) (seat : ℕ) (event : List ℕ) (im : Images) → CDenied3 b seat event im
  -- the endings 1 to 6, 10 and 12 carry their crossings as their second number
  pub c_crossed : (b : List ℕ) (seat : ℕ) (event : List ℕ) (im : Images) → (rack_run b seat event im).code ≡ 0
      → Carries (c.number (rack_run b seat event im))
      → get_or (rack_run b seat event im).numbers 1 0
      ≤ depth (rack_alone b).tree (start_bus (rack_alone b).tree (event_in event 0)) + greatest_depth (rack_alone b).tree

-- 02, E1: 'After any list of events by one seat other than 0, a register outside its grants differs at most in status bits'; E5: 'A seat that
-- may write a bridge's control register can now reset what is below it: there a register outside its grants has, status bits aside, its old
-- value or its reset value, and elsewhere E1's sentence holds': over calls of run_event and of rack_run, whatever the images and refused
-- events among them, and over the run of a file while the seat acts, from images that agree, as all in a run do (`Agrees`)
pub record SeatsKeep : Type 0 where
  pub events : (rack : Rack) (seat : ℕ) → (seat ≡ 0 → ⊥) → (es : List Event) (im : Images)
      → Kept (tree rack) (acting (grants rack) seat) im (after_all (tree rack) (grants rack) (all_by seat es) im)
  -- after m events of an accepted file the seat acts, and it goes on acting for n events
  pub files : (b : List ℕ) → (file_in b).refusal ≡ 0 → (m n : ℕ) (im : Images) → image_refusal (file_in b).tree im ≡ 0
      → ((cursor_after m b (first_at (file_in b).offset)).seat ≡ 0 → ⊥)
      → ((k : ℕ) → k < n
      → (cursor_after k b (cursor_after m b (first_at (file_in b).offset))).seat ≡ (cursor_after m b (first_at (file_in b).offset)).seat)
      → Kept (file_in b).tree (acting (file_in b).grants (cursor_after m b (first_at (file_in b).offset)).seat) im
      (end_up_to n (file_in b).tree (file_in b).grants b (cursor_after m b (first_at (file_in b).offset)) im).before
  pub c_calls : (b : List ℕ) (seat : ℕ) → (seat ≡ 0 → ⊥) → (events : List (List ℕ)) (im : Images)
      → Kept (rack_alone b).tree (acting (rack_alone b).grants seat) im (after_calls b (c.all_told seat events) im)

-- 02, E5: 'Every saved or lent image must agree': accepted images are accepted after every call that is not refused, a file that is opened
-- gives such, and a run has them after each of its events
pub record Agrees : Type 0 where
  pub runs : (rack : Rack) (im : Images) (seat : ℕ) (e : Event) → run_refusal (tree rack) (acting (grants rack) seat) im e ≡ 0
      → image_refusal (tree rack) (run_in (tree rack) (acting (grants rack) seat) im e).after ≡ 0
  pub writes : (rack : Rack) (im : Images) (i register enables put : ℕ)
      → refusal_by (tree rack) (grants rack) im (call.store_refusal (tree rack) i register enables) 0 ≡ 0
      → image_refusal (tree rack) (call.stored_in (tree rack) (grants rack) im i register enables put) ≡ 0
  pub c_runs : (b : List ℕ) (seat : ℕ) (event : List ℕ) (im : Images) → (rack_run b seat event im).code ≡ 0
      → image_refusal (rack_alone b).tree (rack_run b seat event im).after ≡ 0
  pub c_resets : (b : List ℕ) (im : Images) → (rack_reset b im).code ≡ 0 → image_refusal (rack_alone b).tree (rack_reset b im).after ≡ 0
  pub c_opens : (b : List ℕ) (im : Images) → (file_in b).refusal ≡ 0 → lengths_wrong (file_in b).tree im ≡ false
      → image_refusal (file_in b).tree (rack_open b im).after ≡ 0
  pub files : (b : List ℕ) → (file_in b).refusal ≡ 0 → (n : ℕ) (im : Images) → lengths_wrong (file_in b).tree im ≡ false
      → image_refusal (file_in b).tree
      (end_up_to n (file_in b).tree (file_in b).grants b (first_at (file_in b).offset) (start_images b im)).before ≡ 0

-- 02, E5, over the calls
pub record BusResets : Type 0 where
  -- 'Writing 1, directly too, puts every node below back to reset registers and holds it there; only this write changes bytes outside its
  -- node's part. On a held node a direct write stores nothing'; 'Clearing the bit lets them go'
  pub writes : (rack : Rack) (im : Images) (i register enables put : ℕ)
      → refusal_by (tree rack) (grants rack) im (call.store_refusal (tree rack) i register enables) 0 ≡ 0
      → Stores (tree rack) im i register enables put (call.stored_in (tree rack) (grants rack) im i register enables put)
  -- the same of a configuration write, at the node that it came to; 'A held initiator's access is `silent`', 'configuration finds nobody on a
  -- held bus', as Type 0 and as Type 1
  pub runs : (rack : Rack) (im : Images) (seat : ℕ) (e : Event) → run_refusal (tree rack) (acting (grants rack) seat) im e ≡ 0
      → Resets (tree rack) im e (run_in (tree rack) (acting (grants rack) seat) im e)
  pub c_runs : (b : List ℕ) (seat : ℕ) (event : List ℕ) (im : Images) → (rack_run b seat event im).code ≡ 0
      → Resets (rack_alone b).tree im (event_in event 0) (run_in (rack_alone b).tree (acting (rack_alone b).grants seat) im (event_in event 0))
      × (rack_run b seat event im ≡ replied_call (run_in (rack_alone b).tree (acting (rack_alone b).grants seat) im (event_in event 0)))
  -- 'A held node claims nothing': no address and no bus number 1 to 255
  pub claims_nothing : (t : Tree) (im : Images) → image_refusal t im ≡ 0 → (g : ℕ) → g < t.count → (g ≡ host → ⊥) → is_held t im g ≡ true
      → (s : Space) (bus a : ℕ) → (s ≡ space.Configuration → 1 ≤ a) → claims t im s bus g a ≡ false
  -- 'The check counts no held node as claimant or driver; for the other agents its pass still says at most one', and what it shows is the
  -- first clash among them
  pub checks : (t : Tree) (im : Images) → rack_refusal t ≡ 0 → image_refusal t im ≡ 0 → check t im ≡ other_check t im
  pub passed : (t : Tree) (im : Images) → rack_refusal t ≡ 0 → image_refusal t im ≡ 0 → check t im ≡ Pass → OneOther t im
  pub passes : (t : Tree) (im : Images) → rack_refusal t ≡ 0 → image_refusal t im ≡ 0 → OneOther t im → check t im ≡ Pass
  pub faulted : (t : Tree) (im : Images) → rack_refusal t ≡ 0 → image_refusal t im ≡ 0 → (bus : ℕ) (space : Space) (a driver x y : ℕ)
      → check t im ≡ fault bus space a driver x y → FirstOther t im bus space a driver x y
  -- 'The bridge itself keeps claiming': bit 6 plays no part in what it claims, on either side
  pub keeps_claiming : (t : Tree) (im im' : Images) (g : ℕ) → is_bridge (t.node g).kind ≡ true → SameButReset (view t im g) (view t im' g)
      → (s : Space) (bus a : ℕ) → claims t im s bus g a ≡ claims t im' s bus g a

-- 02, E1: 'the run starts as seat 0, which may write all': seat 0 runs every event as before there were seats, and the output of an accepted
-- file whose rack has no seat record is what it was, from the registers that the file starts from (E2)
pub record AsBefore : Type 0 where
  pub starts : (o : ℕ) → (first_at o).seat ≡ 0
  pub seat_0 : (t : Tree) (g : seating.Grants) (im : Images) (e : Event) → event_run t (acting g 0) im e ≡ run_before t im e
  pub prints : (b : List ℕ) → (file_in b).refusal ≡ 0 → (file_in b).grants ≡ no_grants
      → output_of b
      ≡ lines_before (file_in b).tree 1 (start_images b (blank (file_in b).tree)) (events_at b (file_in b).offset)

-- 02, E2: the file of an accepted rack with its registers
pub record OneFile (t : Tree) (g : seating.Grants) (im : Images) : Type 0 where
  -- 'A rack read from the writer's file has the content of the rack it was given': the file is accepted and has no events; its tree, its
  -- grants and the registers that a run starts from, whatever the lent images held, are those that were given
  pub accepted : (file_in (saved_file t g im)).refusal ≡ 0
  pub no_events : (file_in (saved_file t g im)).offset ≡ length (saved_file t g im)
  pub most : length (saved_file t g im) ≤ 14609
  pub tree : (file_in (saved_file t g im)).tree ≡ t
  pub grants : (file_in (saved_file t g im)).grants ≡ g
  pub registers : (old : Images) → lengths_wrong t old ≡ false → start_images (saved_file t g im) old ≡ im
  -- 'seats by seat then node, and register records by node for exactly those nodes that differ from reset'
  pub seats : seat_records (saved_file t g im) ≡ named_pairs t g
  pub nodes : register_nodes (saved_file t g im) ≡ changed_nodes t im
  -- 'The run then starts from these registers instead of reset, and so does every comparison of its output': nothing or events follow, and
  -- the output is the lines of these events alone, run from the registers that were given
  pub prints : (rest : List ℕ) → Follows rest → (file_in (saved_file t g im ++ rest)).refusal ≡ 0
      → output_of (saved_file t g im ++ rest) ≡ lines_of t (acting g 0) 1 im (events_at rest 0)

-- 'two racks with equal content have the same file', and two racks with the same file have equal content
pub record OneForm (a b : Rack) (im jm : Images) : Type 0 where
  pub same_file : SameContent a b → im ≡ jm → saved_file (tree a) (grants a) im ≡ saved_file (tree b) (grants b) jm
  pub same_content : saved_file (tree a) (grants a) im ≡ saved_file (tree b) (grants b) jm → SameContent a b × (im ≡ jm)

-- the content of a C call's rack bytes: host memory, the node records in their order and the set of seat records. In the tree and the grants
-- that are read of them host memory that is none is 1 to 0, and grants are a set, so these are the same exactly where the content is
pub record COneForm (b c : List ℕ) (im jm : Images) : Type 0 where
  pub same_file : SameRecords b c → im ≡ jm
      → saved_file (rack_alone b).tree (rack_alone b).grants im ≡ saved_file (rack_alone c).tree (rack_alone c).grants jm
  pub same_content : saved_file (rack_alone b).tree (rack_alone b).grants im ≡ saved_file (rack_alone c).tree (rack_alone c).grants jm
      → SameRecords b c × (im ≡ jm)
  pub read_file : (rack_alone b).tree ≡ (rack_alone c).tree → (rack_alone b).grants ≡ (rack_alone c).grants → im ≡ jm
      → saved_file (rack_alone b).tree (rack_alone b).grants im ≡ saved_file (rack_alone c).tree (rack_alone c).grants jm
  pub read_content : saved_file (rack_alone b).tree (rack_alone b).grants im ≡ saved_file (rack_alone c).tree (rack_alone c).grants jm
      → ((rack_alone b).tree ≡ (rack_alone c).tree) × ((rack_alone b).grants ≡ (rack_alone c).grants) × (im ≡ jm)

-- wherever save_rack or rack_save refuses nothing but a buffer that is too short
pub record Saves : Type 0 where
  pub files : (rack : Rack) (im : Images) → refusal_by (tree rack) (grants rack) im 0 0 ≡ 0 → OneFile (tree rack) (grants rack) im
  pub c_files : (b : List ℕ) (im : Images) → (rack_alone b).refusal ≡ 0
      → refusal_by (rack_alone b).tree (rack_alone b).grants im 0 0 ≡ 0 → OneFile (rack_alone b).tree (rack_alone b).grants im
  pub one_form : (a b : Rack) (im jm : Images) → refusal_by (tree a) (grants a) im 0 0 ≡ 0 → refusal_by (tree b) (grants b) jm 0 0 ≡ 0
      → OneForm a b im jm
  pub c_one_form : (b c : List ℕ) (im jm : Images) → (rack_alone b).refusal ≡ 0 → (rack_alone c).refusal ≡ 0
      → refusal_by (rack_alone b).tree (rack_alone b).grants im 0 0 ≡ 0 → refusal_by (rack_alone c).tree (rack_alone c).grants jm 0 0 ≡ 0
      → COneForm b c im jm
  -- the run of a file without register records starts from reset, as before
  pub from_reset : (b : List ℕ) → (file_in b).refusal ≡ 0 → NoRegisters b
      → ((im : Images) → start_images b im ≡ reset_images (file_in b).tree im)
      × (output_of b
      ≡ lines_of (file_in b).tree (acting (file_in b).grants 0) 1 (reset_images (file_in b).tree (blank (file_in b).tree))
      (events_at b (file_in b).offset))

-- the file that rack_save wrote: the bytes of the buffer up to its answer; and the rack bytes of a file that rack_open answers
abbrev pub written_file : Filed → List ℕ
written_file saved = take (get_or saved.numbers 0 0) saved.buffer

abbrev pub opened_rack : List ℕ → Called → List ℕ
opened_rack file opened = take (get_or opened.numbers 0 0) file

-- 02, E2: 'A rack read from the writer's file has the content of the rack it was given', over the C calls: rack_open of what rack_save wrote
-- of bytes b and images im, with other images lent
pub record Reopened (b : List ℕ) (im : Images) (file : List ℕ) (lent : Images) : Type 0 where
  pub accepted : (rack_open file lent).code ≡ 0
  pub images : (rack_open file lent).after ≡ im
  pub bridges : get_or (rack_open file lent).numbers 1 0 ≡ bridge_count (rack_alone b).tree
  pub devices : get_or (rack_open file lent).numbers 2 0 ≡ device_count (rack_alone b).tree
  pub rack : (rack_alone (opened_rack file (rack_open file lent))).refusal ≡ 0
  pub tree : (rack_alone (opened_rack file (rack_open file lent))).tree ≡ (rack_alone b).tree
  pub grants : (rack_alone (opened_rack file (rack_open file lent))).grants ≡ (rack_alone b).grants
  -- and so the content
  pub content : SameRecords (opened_rack file (rack_open file lent)) b

-- the file of a file's content: its rack, its grants and the registers that a run of it starts from
abbrev pub content_file : List ℕ → Images → List ℕ
content_file file lent = saved_file (file_in file).tree (file_in file).grants (start_images file lent)

-- what rack_open gave of a file, with images lent: its rack bytes are accepted and have the tree and the grants of the file, and rack_save
-- writes the file of this content
pub record Resaved (file : List ℕ) (lent : Images) (old : List ℕ) : Type 0 where
  pub rack : (rack_alone (opened_rack file (rack_open file lent))).refusal ≡ 0
  pub tree : (rack_alone (opened_rack file (rack_open file lent))).tree ≡ (file_in file).tree
  pub grants : (rack_alone (opened_rack file (rack_open file lent))).grants ≡ (file_in file).grants
  pub saved : length (content_file file lent) ≤ length old
      → rack_save (opened_rack file (rack_open file lent)) (rack_open file lent).after old
      ≡ filed 0 (eight (length (content_file file lent)) []) (over_start old (content_file file lent))
  -- 14,609 bytes are enough
  pub most : length (content_file file lent) ≤ 14609
  -- whatever the lent images held
  pub whatever : (other : Images) → (rack_open file other).code ≡ 0 → content_file file other ≡ content_file file lent

pub record Reopens : Type 0 where
  -- the bytes of an accepted file before its first register record or event, which rack_open counts, are accepted as rack bytes, and have its
  -- tree and its grants
  pub alone : (file : List ℕ) → (file_in file).refusal ≡ 0
      → ((rack_alone (take (file_in file).registers file)).refusal ≡ 0)
      × ((rack_alone (take (file_in file).registers file)).tree ≡ (file_in file).tree)
      × ((rack_alone (take (file_in file).registers file)).grants ≡ (file_in file).grants)
  pub opened : (b : List ℕ) (im : Images) (old : List ℕ) → (rack_save b im old).code ≡ 0
      → (lent : Images) → lengths_wrong (rack_alone b).tree lent ≡ false → Reopened b im (written_file (rack_save b im old)) lent
  pub saved : (file : List ℕ) (lent : Images) → (rack_open file lent).code ≡ 0 → (old : List ℕ) → Resaved file lent old
