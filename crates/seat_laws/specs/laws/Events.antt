-- 02, E1, E5: what a seat other than 0 cannot change, over one event that is accepted.
use Rattle.std.specs.Prelude.{◌≡◌, ℕ, ◌%◌, ltb}
use Rattle.std.proofs.Math.Path.{refl}
use Rattle.std.proofs.Math.Bool.{true, false}
use Rattle.std.proofs.lemmas.Bool.{not-false}
use Rattle.std.proofs.Common.{eqb-true}
use Rattle.rack.specs.definitions.Tree.{Tree}
use Rattle.rack.specs.definitions.Stored.{Stored}
use Rattle.rack.specs.laws.Bools.{tested, neither}
use Rattle.seat.specs.definitions.Grants.{Acting, may_write}
use Rattle.register_image.specs.definitions.Image.{Images}
use Rattle.bus_reset.specs.definitions.Agreement.{image_refusal}
use Rattle.register_laws.specs.laws.Accepted.{accepted}
use Rattle.claim_agent.specs.declared.Space.TheVariants as space
use Rattle.route_bus.specs.declared.Access.{Access}
use Rattle.route_bus.specs.declared.End.{End}
use Rattle.route_bus.specs.declared.End.TheVariants as end
use Rattle.route_bus.specs.definitions.Cross.{is_configuration}
use Rattle.route.specs.definitions.Route.{configure, access}
use Rattle.route_laws.specs.laws.Changes.{configure_same, access_same}
use Rattle.route_laws.specs.laws.Accepted.{configure_accepted, access_accepted}
use Rattle.file_record.specs.declared.Event.{Event}
use Rattle.file_record.specs.declared.Event.TheVariants.{Write, Read, Memory, Io, Check, Seat}
use Rattle.file_record.specs.definitions.Events.{register_wrong, event_wrong}
use Rattle.event_run.specs.definitions.Run.{configuration, addressed, register_of, reached, ended_at, configured, accessed, event_run}
use Rattle.seat_laws.specs.definitions.Kept.{Kept}
use Rattle.seat_laws.specs.laws.Kept.{kept_refl, kept_trans, status_kept, stored_kept}

module _ (t : Tree) (st : Stored t) (by : Acting) (other : by.seat ≡ 0 → ⊥) where
  -- what an access comes to
  ended_kept : (im : Images) (x : Access) (c : ℕ) (e : End) → image_refusal t im ≡ 0 → x.register % 4 ≡ 0
      → Kept t by im (ended_at t by im x c e).after
  unfolding ended_at reached register_of
  ended_kept im x c (end.Node g) ok aligned =
      tested x.write
      (λ w.
      tested (may_write by g x.register)
      (λ m. rw (w, m) (stored_kept by other g x.register aligned m t im x.enables x.«data» st (accepted t im ok).0 ok))
      (λ m. rw (w, m) (kept_refl t by im)))
      (λ w. rw w (kept_refl t by im))
  ended_kept im x c (end.Owner node region offset) ok aligned = kept_refl t by im
  ended_kept im x c (end.Host offset) ok aligned = kept_refl t by im
  ended_kept im x c (end.Unclaimed holder outcome) ok aligned = kept_refl t by im
  ended_kept im x c (end.Clash holder first second) ok aligned = kept_refl t by im
  ended_kept im x c (end.Special holder) ok aligned = kept_refl t by im
  ended_kept im x c end.Silent ok aligned = kept_refl t by im

  module _ (im : Images) (ok : image_refusal t im ≡ 0) where
    configured_kept : (x : Access) → x.register % 4 ≡ 0 → Kept t by im (configured t by im x).after
    configured_kept x aligned =
        let o = configure t im x in
        let s = configure_same t st x im (accepted t im ok).0 in
        kept_trans (status_kept by s)
        (ended_kept o.after x o.answer.crossings o.answer.end (configure_accepted t st x im ok) aligned)

    accessed_kept : (x : Access) (i : ℕ) → is_configuration x.space ≡ false → x.register % 4 ≡ 0 → Kept t by im (accessed t by im x i).after
    accessed_kept x i address aligned =
        let o = access t im x i in
        let s = access_same t st x im (accepted t im ok).0 i in
        kept_trans (status_kept by s)
        (ended_kept o.after x o.answer.crossings o.answer.end (access_accepted t st x im ok address i) aligned)

    is_aligned : (register : ℕ) → register_wrong register ≡ false → register % 4 ≡ 0
    is_aligned register w = eqb-true (register % 4) 0 (not-false _ w)

    -- an event that is accepted
    pub event_kept : (e : Event) → event_wrong t e ≡ false → Kept t by im (event_run t by im e).after
    unfolding event_run event_wrong
    event_kept (Write bus devfn register enables put) w =
        configured_kept (configuration true bus devfn register enables put)
        (is_aligned register (neither (register_wrong register) (ltb 15 enables) w).0)
    event_kept (Read bus devfn register) w = configured_kept (configuration false bus devfn register 0 0) (is_aligned register w)
    event_kept (Memory i direction a) w = accessed_kept (addressed space.Memory direction a) i refl refl
    event_kept (Io i direction a) w = accessed_kept (addressed space.Io direction a) i refl refl
    event_kept Check w = kept_refl t by im
    event_kept (Seat seat) w = kept_refl t by im
