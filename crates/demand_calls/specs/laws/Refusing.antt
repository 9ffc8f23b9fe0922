-- Demand 1 over the calls: in which order they refuse, when they accept, and that 'a refusal leaves every image untouched'.
use Rattle.std.specs.Prelude.{◌≡◌, refl, Bool, true, false, [], ◌∷◌, ℕ, Ok, Err}
use Rattle.std.proofs.Common.{◌∙◌, arith}
use Rattle.rack.specs.definitions.First.{◌when◌, unless}
use Rattle.rack.specs.laws.FirstLaws.{when_not, or_this, or_next, or_none, unless_number, unless_none}
use Rattle.rack.specs.definitions.Tree.{Tree}
use Rattle.rack.specs.definitions.Refusal.{rack_refusal}
use Rattle.seat.specs.definitions.Grants.{Grants, Acting}
use Rattle.register_image.specs.definitions.Image.{Images, view, gives}
use Rattle.bus_reset.specs.definitions.Agreement.{image_refusal}
use Rattle.bus_reset.specs.definitions.Store.{store_node}
use Rattle.file_record.specs.declared.Event.{Event}
use Rattle.event_run.specs.definitions.Run.{event_run}
use Rattle.claim_agent.specs.definitions.WindowEnds.{window_ends}
use Rattle.call_table.specs.definitions.Call.{refusal_by, read_refusal, store_refusal, view_refusal, region_refusal, window_refusal, event_refusal, seat_refusal, run_refusal, number_code, number_values, read_in, size_in, stored_in, view_in, ends_in, ran, run_in}
use Rattle.register_header.specs.definitions.Register.{read_register}

module _ (t : Tree) (g : Grants) (im : Images) (field seat : ℕ) where
  -- 6 to 10 of the rack come first
  pub by_rack : (rack_refusal t ≡ 0 → ⊥) → refusal_by t g im field seat ≡ rack_refusal t
  unfolding refusal_by
  by_rack ne = or_this _ _ ne

  -- then 11, 12 and 18 of the images
  pub by_image : rack_refusal t ≡ 0 → (image_refusal t im ≡ 0 → ⊥) → refusal_by t g im field seat ≡ image_refusal t im
  unfolding refusal_by
  by_image z ne = or_next _ _ z ∙ or_this _ _ ne

  module _ (z : rack_refusal t ≡ 0) (y : image_refusal t im ≡ 0) where
    -- then 13 of what the call is given
    pub by_field : (field ≡ 0 → ⊥) → refusal_by t g im field seat ≡ field
    unfolding refusal_by
    by_field ne = or_next _ _ z ∙ or_next _ _ y ∙ or_this _ _ ne

    -- then 14 of the seat records
    pub by_grants : field ≡ 0 → g.wrong ≡ true → refusal_by t g im field seat ≡ 14
    unfolding refusal_by
    by_grants x w = or_next _ _ z ∙ or_next _ _ y ∙ or_next _ _ x ∙ rw w

    -- then 15 of a seat
    pub by_seat : field ≡ 0 → g.wrong ≡ false → refusal_by t g im field seat ≡ seat
    unfolding refusal_by
    by_seat x w = or_next _ _ z ∙ or_next _ _ y ∙ or_next _ _ x ∙ rw w

    -- a call is accepted where none of them applies
    pub accepts : field ≡ 0 → g.wrong ≡ false → seat ≡ 0 → refusal_by t g im field seat ≡ 0
    accepts x w v = by_seat x w ∙ v

  -- and only there
  pub accepted : refusal_by t g im field seat ≡ 0
      → (rack_refusal t ≡ 0) × (image_refusal t im ≡ 0) × (field ≡ 0) × (g.wrong ≡ false) × (seat ≡ 0)
  unfolding refusal_by
  accepted e =
      let s = or_none (rack_refusal t) _ e in
      let r = or_none (image_refusal t im) _ s.1 in
      let q = or_none field _ r.1 in
      let w = or_none (14 when g.wrong) seat q.1 in
      (s.0, r.0, q.0, when_not 14 g.wrong (λ z. omega arith) w.0, w.1)

-- that number is 13 exactly where its test holds
pub field_wrong : {b : Bool} → b ≡ true → 13 when b ≡ 13
field_wrong e = rw e

pub field_right : {b : Bool} → 13 when b ≡ 0 → b ≡ false
field_right {b} e = when_not 13 b (λ z. omega arith) e

-- a register read and sizing: a refusal is told by its number and with no value
pub number_refused : (refusal value : ℕ) → (refusal ≡ 0 → ⊥)
    → (number_code (unless refusal (Ok value) Err) ≡ refusal)
    × (number_values (unless refusal (Ok value) Err) ≡ [])
number_refused refusal value ne = rw (unless_number (Ok value) Err ne) (refl, refl)

-- otherwise 0 and the value
pub number_accepted : (refusal value : ℕ) → refusal ≡ 0
    → (number_code (unless refusal (Ok value) Err) ≡ 0)
    × (number_values (unless refusal (Ok value) Err) ≡ value ∷ [])
number_accepted refusal value z = rw (unless_none (Ok value) Err z) (refl, refl)

module _ (t : Tree) (g : Grants) (im : Images) where
  -- a register read: the refusal's number, or the dword
  pub read_refused : (i register : ℕ) → (refusal_by t g im (read_refusal t i register) 0 ≡ 0 → ⊥)
      → read_in t g im i register ≡ Err (refusal_by t g im (read_refusal t i register) 0)
  unfolding read_in
  read_refused i register ne = unless_number _ _ ne

  pub read_accepted : (i register : ℕ) → refusal_by t g im (read_refusal t i register) 0 ≡ 0
      → read_in t g im i register ≡ Ok (read_register (view t im i) register)
  unfolding read_in
  read_accepted i register z = unless_none _ _ z

  -- sizing: the refusal's number; what an accepted one gives is in `Sizing`
  pub size_refused : (i r : ℕ) → (refusal_by t g im (region_refusal t i r) 0 ≡ 0 → ⊥)
      → size_in t g im i r ≡ Err (refusal_by t g im (region_refusal t i r) 0)
  unfolding size_in
  size_refused i r ne = unless_number _ _ ne

  -- both ends of a window or region: the refusal's number, or what the registers give
  pub ends_refused : (i k : ℕ) → (refusal_by t g im (window_refusal t i k) 0 ≡ 0 → ⊥)
      → ends_in t g im i k ≡ Err (refusal_by t g im (window_refusal t i k) 0)
  unfolding ends_in
  ends_refused i k ne = unless_number _ _ ne

  pub ends_accepted : (i k : ℕ) → refusal_by t g im (window_refusal t i k) 0 ≡ 0 → ends_in t g im i k ≡ Ok (window_ends t im i k)
  unfolding ends_in
  ends_accepted i k z = unless_none _ _ z

  -- a refused register write stores nothing
  pub write_untouched : (i register enables put : ℕ) → (refusal_by t g im (store_refusal t i register enables) 0 ≡ 0 → ⊥)
      → stored_in t g im i register enables put ≡ im
  unfolding stored_in
  write_untouched i register enables put ne = unless_number _ _ ne

  -- an accepted one does
  pub write_stores : (i register enables put : ℕ) → refusal_by t g im (store_refusal t i register enables) 0 ≡ 0
      → stored_in t g im i register enables put ≡ store_node t im i register enables put
  unfolding stored_in
  write_stores i register enables put z = unless_none _ _ z

  -- a refused view is empty
  pub view_empty : (i : ℕ) → (refusal_by t g im (view_refusal t i) 0 ≡ 0 → ⊥) → view_in t g im i ≡ []
  unfolding view_in
  view_empty i ne = unless_number _ _ ne

  -- an accepted one shows the node's part
  pub view_shows : (i : ℕ) → refusal_by t g im (view_refusal t i) 0 ≡ 0 → view_in t g im i ≡ view t im i
  unfolding view_in
  view_shows i z = unless_none _ _ z

module _ (t : Tree) (by : Acting) (im : Images) where
  -- a refused event changes nothing and answers the refusal's number
  pub event_untouched : (e : Event) → (run_refusal t by im e ≡ 0 → ⊥) → run_in t by im e ≡ gives (Err (run_refusal t by im e)) im
  unfolding run_in
  event_untouched e ne = unless_number _ _ ne

  -- an accepted one is run
  pub event_runs : (e : Event) → run_refusal t by im e ≡ 0 → run_in t by im e ≡ ran (event_run t by im e)
  unfolding run_in
  event_runs e z = unless_none _ _ z

  -- what an accepted one has
  pub event_accepted : (e : Event) → run_refusal t by im e ≡ 0
      → (rack_refusal t ≡ 0) × (image_refusal t im ≡ 0) × (event_refusal t e ≡ 0) × (by.grants.wrong ≡ false) × (seat_refusal by e ≡ 0)
  event_accepted e z = accepted t by.grants im (event_refusal t e) (seat_refusal by e) z
