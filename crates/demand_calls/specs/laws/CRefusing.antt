-- Demand 1 over the calls from C: in which order they refuse, when they accept, and that 'a refusal leaves every image untouched'.
use Rattle.event_run.specs.declared.Answer.{Answer}
use Rattle.rack.specs.declared.Range.{Range}
use Rattle.std.specs.Prelude.{◌≡◌, true, false, List, ℕ, eqb, Ok}
use Rattle.std.proofs.Math.Path.{refl, ap}
use Rattle.std.proofs.Common.{sym, ◌∙◌, arith, eqb-true}
use Rattle.std.proofs.lemmas.Bool.{eqb-false}
use Rattle.rack.specs.laws.Bools.{tested}
use Rattle.rack.specs.definitions.First.{◌when◌, ◌or◌, unless}
use Rattle.rack.specs.laws.FirstLaws.{or_this, or_next, or_none, unless_number, unless_none}
use Rattle.seat.specs.definitions.Grants.{Acting, acting}
use Rattle.register_image.specs.definitions.Image.{Images, gives}
use Rattle.register_image.specs.definitions.Fixed.{lengths_wrong}
use Rattle.register_image.specs.definitions.Reset.{reset_images}
use Rattle.claim_agent.specs.definitions.WindowEnds.{window_ends}
use Rattle.check_search.specs.definitions.Check.{check}
use Rattle.file_record.specs.definitions.Events.{event_in, event_bytes}
use Rattle.file_record.specs.definitions.Load.{rack_alone}
use Rattle.file_record.specs.laws.LoadLaws.{alone_accepted}
use Rattle.event_run.specs.declared.Answer.TheVariants.{Checked}
use Rattle.event_run.specs.definitions.Run.{event_run}
use Rattle.call_table.specs.definitions.Call.{Reply, refusal_by, window_refusal, event_refusal, seat_refusal, run_refusal, ran, run_in, check_in, ends_in}
use Rattle.call_numbers.specs.definitions.Numbers.{zeros}
use Rattle.call_numbers.specs.definitions.Called.{Called, refused_call}
use Rattle.muzgante.specs.definitions.Called.{replied_call, ends_call, rack_run, rack_check, rack_window, reset_refusal, rack_reset}
use Rattle.demand_calls.specs.laws.Refusing.{by_image, by_field, by_grants, by_seat, accepts, accepted}
use Rattle.demand_calls.specs.definitions.CCalls.{InOrder}

-- the refusal of a call over the rack that is read
abbrev call_refusal : List ℕ → Images → ℕ → ℕ → ℕ
call_refusal b im field seat = refusal_by (rack_alone b).tree (rack_alone b).grants im field seat

-- what such a call hands back
unfoldable outcome : List ℕ → ℕ → Images → ℕ → ℕ → Called → Called
outcome b event im field seat a =
    unless ((rack_alone b).refusal or event) (unless (call_refusal b im field seat) a (λ n. refused_call n im)) (λ n. refused_call n im)

module _ (b : List ℕ) (event : ℕ) (im : Images) (field seat : ℕ) (a : Called) where
  of_bytes : {n : ℕ} → (rack_alone b).refusal or event ≡ n → (n ≡ 0 → ⊥) → outcome b event im field seat a ≡ refused_call n im
  unfolding outcome
  of_bytes e ne = unless_number _ _ (λ z. ne (sym e ∙ z)) ∙ ap (λ n. refused_call n im) e

  of_call : (rack_alone b).refusal ≡ 0 → event ≡ 0 → {n : ℕ} → call_refusal b im field seat ≡ n → (n ≡ 0 → ⊥)
      → outcome b event im field seat a ≡ refused_call n im
  unfolding outcome
  of_call z y e ne =
      unless_none _ _ (or_next _ event z ∙ y) ∙ unless_number _ _ (λ x. ne (sym e ∙ x)) ∙ ap (λ n. refused_call n im) e

  of_none : (rack_alone b).refusal ≡ 0 → event ≡ 0 → call_refusal b im field seat ≡ 0 → outcome b event im field seat a ≡ a
  unfolding outcome
  of_none z y x = unless_none _ _ (or_next _ event z ∙ y) ∙ unless_none _ _ x

  -- accepted, or refused by some number
  either_way : {P : Type 0}
      → ((rack_alone b).refusal ≡ 0 → event ≡ 0 → call_refusal b im field seat ≡ 0 → P)
      → ((n : ℕ) → (n ≡ 0 → ⊥) → outcome b event im field seat a ≡ refused_call n im → P) → P
  either_way good bad =
      let m = (rack_alone b).refusal or event in
      tested (eqb m 0)
      (λ q.
      let s = or_none (rack_alone b).refusal event (eqb-true m 0 q) in
      let n = call_refusal b im field seat in
      tested (eqb n 0) (λ r. good s.0 s.1 (eqb-true n 0 r))
      (λ r. let ne = eqb-false n 0 r in bad n ne (of_call s.0 s.1 refl ne)))
      (λ q. let ne = eqb-false m 0 q in bad m ne (of_bytes refl ne))

  in_order : a.code ≡ 0 → {r : Called} → r ≡ outcome b event im field seat a → InOrder b event im field seat a r
  in_order ok e =
      let t = (rack_alone b).tree in
      let g = (rack_alone b).grants in
      rw e (record {
        by_rack = λ ne. of_bytes (or_this _ event ne) ne;
        by_event = λ z ne. of_bytes (or_next _ event z) ne;
        by_image = λ z y ne. of_call z y (by_image t g im field seat (alone_accepted b z) ne) ne;
        by_field = λ z y x ne. of_call z y (by_field t g im field seat (alone_accepted b z) x ne) ne;
        by_grants = λ z y x f w. of_call z y (by_grants t g im field seat (alone_accepted b z) x f w) (λ n. omega (arith, n));
        by_seat = λ z y x f w ne. of_call z y (by_seat t g im field seat (alone_accepted b z) x f w) ne;
        accepts = λ z y x f w v.
            let s = of_none z y (accepts t g im field seat (alone_accepted b z) x f w v) in
            (s, ap (λ (r : Called). r.code) s ∙ ok);
        accepted = λ c.
            either_way (λ z y x. let s = accepted t g im field seat x in (z, y, s.1, s.2, s.3, s.4))
            (λ n ne s. absurd (ne (sym (ap (λ (r : Called). r.code) s) ∙ c)));
        untouched = λ c.
            either_way (λ z y x. absurd (c (ap (λ (r : Called). r.code) (of_none z y x) ∙ ok)))
            (λ n ne s. s ∙ ap (λ (n : ℕ). refused_call n im) (sym (ap (λ (r : Called). r.code) s)));
      })

-- what is made of a call's reply, refused or not
made : {A : Type 0} (f : A → Called) (n : ℕ) (given : A) (refused : ℕ → A)
    → f (unless n given refused) ≡ unless n (f given) (λ m. f (refused m))
unfolding unless
made f n given refused = tested (eqb n 0) (λ q. rw q) (λ q. rw q)

-- rack_run, accepted: the event's answer and what it leaves
module _ (b : List ℕ) (seat : ℕ) (event : List ℕ) (im : Images) where
  -- who acts
  abbrev pub told : Acting
  told = acting (rack_alone b).grants seat

  pub run_refuses : InOrder b (event_bytes event) im (event_refusal (rack_alone b).tree (event_in event 0)) (seat_refusal told (event_in event 0))
      (replied_call (ran (event_run (rack_alone b).tree told im (event_in event 0)))) (rack_run b seat event im)
  unfolding rack_run outcome run_in
  run_refuses =
      in_order b (event_bytes event) im (event_refusal (rack_alone b).tree (event_in event 0)) (seat_refusal told (event_in event 0))
      (replied_call (ran (event_run (rack_alone b).tree told im (event_in event 0)))) refl
      (ap (λ (a : Called). unless ((rack_alone b).refusal or event_bytes event) a (λ n. refused_call n im))
      (made replied_call (run_refusal (rack_alone b).tree told im (event_in event 0)) _ _))

module _ (b : List ℕ) (im : Images) where
  nothing : (n : ℕ) → n ≡ n or 0
  nothing n = tested (eqb n 0) (λ q. rw q (eqb-true n 0 q)) (λ q. rw q)

  -- rack_check, accepted: what the check says
  pub check_refuses : InOrder b 0 im 0 0
      (replied_call (gives (Ok (Checked (check (rack_alone b).tree im))) im)) (rack_check b im)
  unfolding rack_check outcome check_in
  check_refuses =
      in_order b 0 im 0 0 (replied_call (gives (Ok (Checked (check (rack_alone b).tree im))) im)) refl
      (ap (λ (n : ℕ). unless n (replied_call (gives (check_in (rack_alone b).tree (rack_alone b).grants im) im)) (λ m. refused_call m im))
      (nothing (rack_alone b).refusal)
      ∙ ap (λ (a : Called). unless ((rack_alone b).refusal or 0) a (λ n. refused_call n im))
      (made (λ (r : Reply Answer). replied_call (gives r im)) (call_refusal b im 0 0) _ _))

  -- 'A check changes no register'
  pub check_keeps : (rack_check b im).after ≡ im
  unfolding rack_check unless
  check_keeps = tested (eqb (rack_alone b).refusal 0) (λ q. rw q) (λ q. rw q)

  -- rack_window, accepted: both ends of the window or region
  pub window_refuses : (i k : ℕ) → InOrder b 0 im (window_refusal (rack_alone b).tree i k) 0
      (ends_call (Ok (window_ends (rack_alone b).tree im i k)) im) (rack_window b im i k)
  unfolding rack_window outcome ends_in
  window_refuses i k =
      in_order b 0 im (window_refusal (rack_alone b).tree i k) 0 (ends_call (Ok (window_ends (rack_alone b).tree im i k)) im)
      refl
      (ap (λ (n : ℕ). unless n (ends_call (ends_in (rack_alone b).tree (rack_alone b).grants im i k) im) (λ m. refused_call m im))
      (nothing (rack_alone b).refusal)
      ∙ ap (λ (a : Called). unless ((rack_alone b).refusal or 0) a (λ n. refused_call n im))
      (made (λ (e : Reply Range). ends_call e im) (call_refusal b im (window_refusal (rack_alone b).tree i k) 0) _ _))

  pub window_keeps : (i k : ℕ) → (rack_window b im i k).after ≡ im
  unfolding rack_window unless
  window_keeps i k = tested (eqb (rack_alone b).refusal 0) (λ q. rw q) (λ q. rw q)

  -- rack_reset: 1 to 10 of the rack's bytes, then 11 and 14, and 12 never: the images are only now filled
  pub reset_by_rack : ((rack_alone b).refusal ≡ 0 → ⊥) → rack_reset b im ≡ refused_call (rack_alone b).refusal im
  unfolding rack_reset
  reset_by_rack ne =
      let e = or_this (rack_alone b).refusal (11 when lengths_wrong (rack_alone b).tree im or 14 when (rack_alone b).grants.wrong) ne in
      unless_number _ _ (λ z. ne (sym e ∙ z)) ∙ ap (λ n. refused_call n im) e

  pub reset_by_length : (rack_alone b).refusal ≡ 0 → lengths_wrong (rack_alone b).tree im ≡ true → rack_reset b im ≡ refused_call 11 im
  unfolding rack_reset unless
  reset_by_length z w = rw (z, w)

  pub reset_by_grants : (rack_alone b).refusal ≡ 0 → lengths_wrong (rack_alone b).tree im ≡ false → (rack_alone b).grants.wrong ≡ true
      → rack_reset b im ≡ refused_call 14 im
  unfolding rack_reset unless
  reset_by_grants z w f = rw (z, w, f)

  pub reset_accepts : (rack_alone b).refusal ≡ 0 → lengths_wrong (rack_alone b).tree im ≡ false → (rack_alone b).grants.wrong ≡ false
      → rack_reset b im ≡ record { code = 0; numbers = zeros; after = reset_images (rack_alone b).tree im }
  unfolding rack_reset unless
  reset_accepts z w f = rw (z, w, f)

  -- and a refused one writes nothing
  pub reset_untouched : ((rack_reset b im).code ≡ 0 → ⊥) → (rack_reset b im).after ≡ im
  unfolding rack_reset unless
  reset_untouched ne =
      tested (eqb (reset_refusal b im) 0) (λ q. absurd (ne (rw q))) (λ q. rw q)
