-- What each call from C says once its rack is read: the number of a refused one, the answer of an accepted one.
use mathlib.Core.Path.{◌≡◌, refl, sym, ap, ◌∙◌}
use mathlib.Core.Bool.{Bool, true, false}
use Rattle.std.specs.Prelude.{Result, Ok, Err}
use mathlib.Core.List.{List}
use Prim.Native.Nat.{ℕ}
use native.Mathlib.Omega.{arith}
use Rattle.rack.specs.definitions.Tree.{Tree}
use Rattle.rack.specs.definitions.Table.{tree_of}
use Rattle.rack.specs.definitions.First.{◌when◌, ◌or◌, unless}
use Rattle.rack.specs.laws.FirstLaws.{or_this, or_next, unless_number, unless_none}
use Rattle.seat.specs.definitions.Grants.{acting}
use Rattle.seat.specs.definitions.Table.{grants_of}
use Rattle.register_image.specs.definitions.Image.{Images, images, result_of}
use Rattle.register_image.specs.definitions.Fixed.{lengths_wrong}
use Rattle.register_image.specs.definitions.Reset.{reset_images}
use Rattle.file_record.specs.declared.Event.{Event}
use Rattle.file_record.specs.declared.Loaded.{Loaded}
use Rattle.file_record.specs.definitions.Events.{event_in, event_bytes}
use Rattle.file_record.specs.definitions.Load.{rack_alone}
use Rattle.file_record.specs.declared.Refused.{Refused}
use Rattle.file_record.specs.definitions.Loads.{Accepts, Refuses}
use Rattle.rack.specs.declared.refusal.Refusal.{Refusal}
use Rattle.rack.specs.definitions.Refused.{refusal_number, number_of}
use Rattle.rack.specs.laws.RefusedLaws.{refusal_not_0}
use Rattle.rack.specs.declared.Range.{Range}
use Rattle.event_run.specs.declared.Answer.{Answer}
use Rattle.arbiter.specs.declared.Turn.{Turn}
use Rattle.call_table.specs.definitions.Call.{Reply, numbered, run_in, check_in, ends_in}
use Rattle.call_numbers.specs.definitions.Numbers.{zeros, told_code, code_of, reply_numbers, arbitration_numbers, step_numbers, ends_code, ends_numbers}
use Rattle.call_numbers.specs.definitions.Called.{called, refused_call}
use Rattle.muzgante.specs.definitions.Called.{replied_call, ends_call, rack_run, rack_check, rack_window, reset_refusal, rack_reset}

-- a call that is refused, and one that is not
module _ {A : Type 0} {n m : ℕ} (e : n ≡ m) (given : A) (refused : ℕ → A) where
  is_refused : (n ≡ 0 → ⊥) → unless m given refused ≡ refused n
  is_refused ne = unless_number given refused (λ z. ne (e ∙ z)) ∙ ap refused (sym e)

  is_given : n ≡ 0 → unless m given refused ≡ given
  is_given z = unless_none given refused (sym e ∙ z)

-- a refusal's number, told with zeros
told : {r n : ℕ} {ns : List ℕ} (bs ds : List ℕ) → r ≡ n → ns ≡ zeros → called r ns bs ds ≡ refused_call n (images bs ds)
told bs ds e q = rw (e, q)

-- a rack that is refused, told by its number
module _ (b : List ℕ) {e : Refused} (loads : Refuses e (rack_alone b)) {n : ℕ} (en : n ≡ refusal_number e.refusal) where
  refused_by : n ≡ (rack_alone b).refusal
  refused_by = en ∙ loads.refusal

  bad : n ≡ 0 → ⊥
  bad z = refusal_not_0 e.refusal (sym en ∙ z)

  refused_as : (m : ℕ) → n ≡ (rack_alone b).refusal or m
  refused_as m = refused_by ∙ sym (or_this _ m (λ z. bad (refused_by ∙ z)))

  module _ {r : ℕ} {ns : List ℕ} (bs ds : List ℕ) where
    pub run_without_rack : (seat : ℕ) (event : List ℕ) → r ≡ n → ns ≡ zeros → called r ns bs ds ≡ rack_run b seat event (images bs ds)
    unfolding rack_run
    run_without_rack seat event er en = told bs ds er en ∙ sym (is_refused (refused_as (event_bytes event)) _ _ bad)

    pub check_without_rack : r ≡ n → ns ≡ zeros → called r ns bs ds ≡ rack_check b (images bs ds)
    unfolding rack_check
    check_without_rack er en = told bs ds er en ∙ sym (is_refused refused_by _ _ bad)

    pub window_without_rack : (i k : ℕ) → r ≡ n → ns ≡ zeros → called r ns bs ds ≡ rack_window b (images bs ds) i k
    unfolding rack_window
    window_without_rack i k er en = told bs ds er en ∙ sym (is_refused refused_by _ _ bad)

  pub reset_without_rack : (bs ds : List ℕ) → called n zeros bs ds ≡ rack_reset b (images bs ds)
  unfolding rack_reset
  reset_without_rack bs ds = told bs ds refl refl ∙ sym (is_refused (refused_as _) _ _ bad)

module _ (b : List ℕ) {l : Loaded} (loads : Accepts l (rack_alone b)) where
  then : {n m : ℕ} → n ≡ m → n ≡ (rack_alone b).refusal or m
  then e = e ∙ sym (or_next _ _ (sym loads.refusal))

  -- the run of an event: the rack, then the event's bytes, then the run
  module _ (seat : ℕ) (event : List ℕ) {r : ℕ} {ns bs ds : List ℕ} where
    pub run_without_event : (e : Refusal) → refusal_number e ≡ event_bytes event → {n : ℕ} → n ≡ refusal_number e → r ≡ n → ns ≡ zeros
        → called r ns bs ds ≡ rack_run b seat event (images bs ds)
    unfolding rack_run
    run_without_event e eb n er en =
        told bs ds er en ∙ sym (is_refused (then (n ∙ eb)) _ _ (λ z. refusal_not_0 e (sym n ∙ z)))

    pub run_made : 0 ≡ event_bytes event → (im : Images) {e : Event} {p : Reply Answer} → e ≡ event_in event 0
        → result_of p bs ds ≡ run_in (tree_of l.table) (acting (grants_of l.grants) seat) im e → r ≡ code_of p → ns ≡ reply_numbers p
        → called r ns bs ds ≡ rack_run b seat event im
    unfolding rack_run
    run_made z im ee ea er en =
        rw (er, en) (ap replied_call (rw (loads.tree, loads.grants, ee) at ea)) ∙ sym (is_given (then z) _ _ refl)

  -- the check, and both ends of a window or region: both images stay
  module _ {r : ℕ} {ns : List ℕ} (bs ds : List ℕ) where
    pub check_made : {p : Reply Answer} → p ≡ check_in (tree_of l.table) (grants_of l.grants) (images bs ds) → r ≡ code_of p → ns ≡ reply_numbers p
        → called r ns bs ds ≡ rack_check b (images bs ds)
    unfolding rack_check
    check_made ea er en =
        rw (er, en) (ap (λ (p : Reply Answer). replied_call (result_of p bs ds)) (rw (loads.tree, loads.grants) at ea))
        ∙ sym (is_given loads.refusal _ _ refl)

    pub window_told : (i k : ℕ) {e : Reply Range} → e ≡ ends_in (tree_of l.table) (grants_of l.grants) (images bs ds) i k
        → r ≡ ends_code e → ns ≡ ends_numbers e → called r ns bs ds ≡ rack_window b (images bs ds) i k
    unfolding rack_window
    window_told i k ee er en =
        rw (er, en) (ap (λ (e : Reply Range). ends_call e (images bs ds)) (rw (loads.tree, loads.grants) at ee))
        ∙ sym (is_given loads.refusal _ _ refl)

  -- the reset: a refused one writes nothing
  module _ (bs ds : List ℕ) {wrong : Bool} (ew : wrong ≡ lengths_wrong (tree_of l.table) (images bs ds)) where
    lengths : 11 when wrong ≡ 11 when lengths_wrong (rack_alone b).tree (images bs ds)
    lengths = ap (λ (w : Bool). 11 when w) (ew ∙ ap (λ (t : Tree). lengths_wrong t (images bs ds)) loads.tree)

    later : reset_refusal b (images bs ds) ≡ 11 when wrong or 14 when (rack_alone b).grants.wrong
    later = sym (then (ap (λ n. n or 14 when (rack_alone b).grants.wrong) lengths))

    pub reset_of_lengths : wrong ≡ true → called 11 zeros bs ds ≡ rack_reset b (images bs ds)
    unfolding rack_reset
    reset_of_lengths w =
        let e : 11 ≡ reset_refusal b (images bs ds) = sym (later ∙ rw w) in sym (is_refused e _ _ (λ z. omega arith))

    module _ (w : wrong ≡ false) {faulty : Bool} (ef : faulty ≡ (grants_of l.grants).wrong) where
      last : 14 when faulty ≡ reset_refusal b (images bs ds)
      last = sym (later ∙ rw (w, ← loads.grants, ← ef))

      pub reset_of_grants : faulty ≡ true → called 14 zeros bs ds ≡ rack_reset b (images bs ds)
      unfolding rack_reset
      reset_of_grants f =
          let e : 14 ≡ reset_refusal b (images bs ds) = rw f at last in sym (is_refused e _ _ (λ z. omega arith))

      pub reset_made : faulty ≡ false → {us vs : List ℕ} → images us vs ≡ reset_images (tree_of l.table) (images bs ds)
          → called 0 zeros us vs ≡ rack_reset b (images bs ds)
      unfolding rack_reset
      reset_made f e =
          let none : 0 ≡ reset_refusal b (images bs ds) = rw f at last in
          ap (λ (im : Images). record { code = 0; numbers = zeros; after = im })
          (e ∙ ap (λ (t : Tree). reset_images t (images bs ds)) loads.tree)
          ∙ sym (is_given none _ _ refl)

-- a step of the arbiter: its refusal is told by its number
pub grant_told : (a : Result Turn Refusal) {p : Reply Turn} → p ≡ numbered a → {r : ℕ} {ns : List ℕ} → r ≡ told_code p
    → ns ≡ step_numbers p → (r ≡ number_of a) × (ns ≡ arbitration_numbers a)
grant_told (Ok t) e er en = (er ∙ ap told_code e, en ∙ ap step_numbers e)
grant_told (Err x) e er en = (er ∙ ap told_code e, en ∙ ap step_numbers e)
