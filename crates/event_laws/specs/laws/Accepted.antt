-- An event leaves accepted images accepted. 02, E5: 'Every saved or lent image must agree'.
use Rattle.std.specs.Prelude.{◌≡◌, ℕ}
use Rattle.std.proofs.Math.Path.{refl}
use Rattle.std.proofs.Math.Bool.{true, false}
use Rattle.rack.specs.definitions.Tree.{Tree}
use Rattle.rack.specs.definitions.Stored.{Stored}
use Rattle.rack.specs.laws.Bools.{tested}
use Rattle.seat.specs.definitions.Grants.{Acting, may_write}
use Rattle.register_image.specs.definitions.Image.{Images}
use Rattle.bus_reset.specs.definitions.Agreement.{image_refusal}
use Rattle.register_laws.specs.laws.Held.{store_accepted}
use Rattle.claim_agent.specs.declared.Space.TheVariants as space
use Rattle.route_bus.specs.declared.Access.{Access}
use Rattle.route_bus.specs.declared.End.{End}
use Rattle.route_bus.specs.declared.End.TheVariants as end
use Rattle.route_bus.specs.definitions.Cross.{is_configuration}
use Rattle.route.specs.definitions.Route.{configure, access}
use Rattle.route_laws.specs.laws.Accepted.{configure_accepted, access_accepted}
use Rattle.file_record.specs.declared.Event.{Event}
use Rattle.file_record.specs.declared.Event.TheVariants.{Write, Read, Memory, Io, Check, Seat}
use Rattle.event_run.specs.definitions.Run.{configuration, addressed, register_of, reached, ended_at, configured, accessed, event_run}

module _ (t : Tree) (st : Stored t) (by : Acting) where
  -- what an access comes to
  ended_accepted : (im : Images) (x : Access) (c : ℕ) (e : End) → image_refusal t im ≡ 0 → image_refusal t (ended_at t by im x c e).after ≡ 0
  unfolding ended_at reached register_of
  ended_accepted im x c (end.Node g) ok =
      tested x.write
      (λ w.
      tested (may_write by g x.register)
      (λ m. rw (w, m) (store_accepted t im st g x.register x.enables x.«data» ok))
      (λ m. rw (w, m) ok))
      (λ w. rw w ok)
  ended_accepted im x c (end.Owner node region offset) ok = ok
  ended_accepted im x c (end.Host offset) ok = ok
  ended_accepted im x c (end.Unclaimed holder outcome) ok = ok
  ended_accepted im x c (end.Clash holder first second) ok = ok
  ended_accepted im x c (end.Special holder) ok = ok
  ended_accepted im x c end.Silent ok = ok

  module _ (im : Images) (ok : image_refusal t im ≡ 0) where
    -- a configuration access
    pub configured_accepted : (x : Access) → image_refusal t (configured t by im x).after ≡ 0
    configured_accepted x =
        let o = configure t im x in
        ended_accepted o.after x o.answer.crossings o.answer.end (configure_accepted t st x im ok)

    accessed_accepted : (x : Access) → is_configuration x.space ≡ false → (i : ℕ) → image_refusal t (accessed t by im x i).after ≡ 0
    accessed_accepted x other i =
        let o = access t im x i in
        ended_accepted o.after x o.answer.crossings o.answer.end (access_accepted t st x im ok other i)

    -- every event, also one that a call would refuse for its fields
    pub event_accepted : (e : Event) → image_refusal t (event_run t by im e).after ≡ 0
    unfolding event_run
    event_accepted (Write bus devfn register enables put) = configured_accepted (configuration true bus devfn register enables put)
    event_accepted (Read bus devfn register) = configured_accepted (configuration false bus devfn register 0 0)
    event_accepted (Memory i direction a) = accessed_accepted (addressed space.Memory direction a) refl i
    event_accepted (Io i direction a) = accessed_accepted (addressed space.Io direction a) refl i
    event_accepted Check = ok
    event_accepted (Seat seat) = ok
