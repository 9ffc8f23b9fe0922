-- What request E5 says of events over the calls. Sentences are those of document 02, E5.
use Rattle.call_table.specs.definitions.Call.{Reply}
use Rattle.event_run.specs.declared.Answer.{Answer}
use Rattle.std.specs.Prelude.{◌≡◌, true, false, ◌⊎◌, List, ℕ, ◌<◌, length, Ok}
use Rattle.rack.specs.definitions.Tree.{Tree}
use Rattle.register_image.specs.definitions.Image.{Images, Result}
use Rattle.bus_reset.specs.definitions.Held.{held_bus, is_held}
use Rattle.claim_laws.specs.definitions.Same.{SameButStatus}
use Rattle.route_bus.specs.declared.Access.{Access}
use Rattle.route_bus.specs.declared.Outcome.{Outcome}
use Rattle.route_bus.specs.definitions.Look.{is_special_cycle}
use Rattle.route_laws.specs.definitions.Path.{ToType0, ToType1}
use Rattle.file_record.specs.declared.Event.{Event}
use Rattle.file_record.specs.declared.Event.TheVariants.{Write, Read, Memory, Io, Check, Seat}
use Rattle.event_run.specs.declared.Ending.TheVariants.{Unclaimed}
use Rattle.event_run.specs.declared.Answer.TheVariants.{Ended}
use Rattle.event_run.specs.definitions.Run.{configuration}
use Rattle.event_laws.specs.definitions.Stores.{Stores}
use Rattle.demand_calls.specs.definitions.Events.{reply_number, silent_reply, AtOwner}

-- the event is a configuration write that came over these bridges to the node of that device number, function 0, and leaves what the
-- register write of that node leaves
abbrev pub StoredAt : Tree → Images → Event → List ℕ → ℕ → ℕ → Images → Type 0
StoredAt t im (Write bus devfn register enables put) gs holder g im' =
    AtOwner t im (configuration true bus devfn register enables put) gs holder g × Stores t im g register enables put im'
StoredAt t im (Read bus devfn register) gs holder g im' = ⊥
StoredAt t im (Memory i direction address) gs holder g im' = ⊥
StoredAt t im (Io i direction address) gs holder g im' = ⊥
StoredAt t im Check gs holder g im' = ⊥
StoredAt t im (Seat seat) gs holder g im' = ⊥

-- the event's initiator is a device that is held
abbrev pub HeldInitiator : Tree → Images → Event → Type 0
HeldInitiator t im (Write bus devfn register enables put) = ⊥
HeldInitiator t im (Read bus devfn register) = ⊥
HeldInitiator t im (Memory i direction address) = (i < t.count) × (is_held t im i ≡ true)
HeldInitiator t im (Io i direction address) = (i < t.count) × (is_held t im i ≡ true)
HeldInitiator t im Check = ⊥
HeldInitiator t im (Seat seat) = ⊥

-- a configuration access comes over these bridges to a held bus: as Type 0, and is no special cycle, or as Type 1
abbrev pub ToHeld : Tree → Images → Access → List ℕ → ℕ → Type 0
ToHeld t im x gs holder =
    (held_bus t im holder ≡ true) × (((is_special_cycle x ≡ false) × ToType0 t im x gs holder) ⊎ ToType1 t im x gs holder)

abbrev pub ToHeldBus : Tree → Images → Event → List ℕ → ℕ → Type 0
ToHeldBus t im (Write bus devfn register enables put) gs holder = ToHeld t im (configuration true bus devfn register enables put) gs holder
ToHeldBus t im (Read bus devfn register) gs holder = ToHeld t im (configuration false bus devfn register 0 0) gs holder
ToHeldBus t im (Memory i direction address) gs holder = ⊥
ToHeldBus t im (Io i direction address) gs holder = ⊥
ToHeldBus t im Check gs holder = ⊥
ToHeldBus t im (Seat seat) gs holder = ⊥

-- an event that is accepted, with what it answers and leaves
pub record Resets (t : Tree) (im : Images) (e : Event) (r : Result (Reply Answer)) : Type 0 where
  -- 'Writing 1, directly too': a write that ends `stored`, number 2, does what a direct write does, and 'only this write changes bytes
  -- outside its node's part': every other event changes status bits alone
  pub stored : reply_number r.answer ≡ 2 → (gs : List ℕ) × (holder : ℕ) × (g : ℕ) × StoredAt t im e gs holder g r.after
  pub otherwise : (reply_number r.answer ≡ 2 → ⊥) → SameButStatus t im r.after
  -- 'A held initiator's access is `silent`', and changes nothing
  pub silent : HeldInitiator t im e → r ≡ silent_reply im
  -- 'configuration finds nobody on a held bus': it ends unclaimed there
  pub unclaimed : (gs : List ℕ) (holder : ℕ) → ToHeldBus t im e gs holder
      → (o : Outcome) × (r.answer ≡ Ok (Ended (length gs) (Unclaimed holder o)))
