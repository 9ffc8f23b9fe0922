-- Demand 3 over the calls on a decoded rack, `run_check` and `run_event`: a decoded rack that is accepted stores what its nodes say, so
-- nothing is asked of it but that it passed.
use Rattle.std.specs.Prelude.{◌≡◌, List, ℕ, ◌+◌, ◌≤◌, Ok}
use Rattle.rack.specs.declared.Rack.{Rack}
use Rattle.rack.specs.definitions.Tree.{depth, greatest_depth}
use Rattle.rack.specs.definitions.Grow.{tree}
use Rattle.rack_laws.specs.laws.Stored.{accepted_stored}
use Rattle.seat.specs.definitions.Grants.{acting, grants}
use Rattle.register_image.specs.definitions.Image.{Images, Result}
use Rattle.register_laws.specs.laws.Accepted as images
use Rattle.claim_laws.specs.definitions.Same.{SameButStatus}
use Rattle.check_search.specs.definitions.Report.{Pass}
use Rattle.file_record.specs.declared.Event.{Event}
use Rattle.event_run.specs.declared.Answer.{Answer}
use Rattle.event_run.specs.declared.Answer.TheVariants.{Checked}
use Rattle.call_table.specs.definitions.Call.{run_refusal, ran, run_in, check_in}
use Rattle.demand_calls.specs.laws.Checking.{check_passed, event_no_clash}
use Rattle.demand_calls.specs.definitions.Events.{Fits, reply_number, Goes, crossings, start_bus, Act, AllWriteNone, after_all}
use Rattle.demand_calls.specs.laws.Going.{event_goes, event_crossings}
use Rattle.demand_calls.specs.laws.Later.{events_same}

module _ (rack : Rack) (im : Images) where
  -- 'The crossings carried in its answer are at most the depth of the starting bus plus the greatest depth in the rack'
  pub rack_crossings : (seat : ℕ) (e : Event)
      → crossings (run_in (tree rack) (acting (grants rack) seat) im e).answer ≤ depth (tree rack) (start_bus (tree rack) e) + greatest_depth (tree rack)
  rack_crossings seat = event_crossings (tree rack) (acting (grants rack) seat) (accepted_stored rack) im

  module _ (pass : check_in (tree rack) (grants rack) im ≡ Ok (Checked Pass)) where
    -- 'In a passed rack, with the registers it passed with, status bits aside, every accepted configuration, memory or I/O access,
    -- whichever party starts it, is never driven, ends unclaimed, or ends at its one owner'
    pub rack_goes : (im' : Images) → SameButStatus (tree rack) im im' → (seat : ℕ) (e : Event) → Fits e
        → run_refusal (tree rack) (acting (grants rack) seat) im' e ≡ 0
        → (r : Result Answer) × (run_in (tree rack) (acting (grants rack) seat) im' e ≡ ran r)
        × Goes (tree rack) (acting (grants rack) seat) im' e r
    rack_goes im' same seat = event_goes (tree rack) (acting (grants rack) seat) (accepted_stored rack) im im' pass same

    -- 'and never in a clash'
    pub rack_no_clash : (im' : Images) → SameButStatus (tree rack) im im' → (seat : ℕ) (e : Event) → Fits e
        → reply_number (run_in (tree rack) (acting (grants rack) seat) im' e).answer ≡ 6 → ⊥
    rack_no_clash im' same seat = event_no_clash (tree rack) (acting (grants rack) seat) (accepted_stored rack) im im' pass same

    -- nor does any list of memory and I/O accesses, configuration reads, checks and seat events, whoever acts, change more than status
    -- bits, so both hold after it
    pub rack_later : (acts : List Act) → AllWriteNone acts → SameButStatus (tree rack) im (after_all (tree rack) (grants rack) acts im)
    rack_later acts none =
        let s = check_passed (tree rack) (grants rack) im pass in
        events_same (tree rack) (accepted_stored rack s.0) (grants rack) acts im (images.accepted (tree rack) im s.1).0 none
