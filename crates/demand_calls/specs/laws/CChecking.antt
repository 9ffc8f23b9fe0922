-- Demand 3 over the call `rack_check` from C.
use Rattle.std.specs.Prelude.{◌≡◌, refl, false, cond, List, [], ◌∷◌, Ok, Err, ℕ, eqb, get_or}
use Rattle.std.proofs.Common.{sym, ap, ◌∙◌, arith, eqb-true}
use Rattle.std.proofs.lemmas.Bool.{eqb-false}
use Rattle.rack.specs.laws.Bools.{tested}
use Rattle.register_image.specs.definitions.Image.{Images, gives}
use Rattle.bus_reset.specs.definitions.Agreement.{image_refusal}
use Rattle.claim_agent.specs.declared.Space.{Space}
use Rattle.claim_agent.specs.declared.Space.TheVariants.{Memory, Io, Configuration}
use Rattle.claim_agent.specs.definitions.Space.{space_number}
use Rattle.check_search.specs.definitions.Report.{Report, Pass, fault}
use Rattle.check_search.specs.definitions.Check.{check}
use Rattle.demand_passed.specs.laws.Clear.{passed, passes, faulted}
use Rattle.file_record.specs.definitions.Load.{rack_alone}
use Rattle.event_run.specs.declared.Answer.TheVariants.{Checked}
use Rattle.call_numbers.specs.definitions.Numbers.{eight, numbers_of}
use Rattle.call_numbers.specs.definitions.Called.{Called, refused_call}
use Rattle.muzgante.specs.definitions.Called.{replied_call, rack_check}
use Rattle.demand_calls.specs.laws.CRefusing.{check_refuses}
use Rattle.demand_passed.specs.definitions.FirstFault.{FirstFault}
use Rattle.demand_passed.specs.definitions.OneClaimant.{OneClaimant}
use Rattle.demand_calls.specs.definitions.CCalls.{number}

-- the numbers of a report tell it
told_pass : (r : Report) → get_or (numbers_of (Checked r)) 0 0 ≡ 8 → r ≡ Pass
told_pass (Ok _) n = refl
told_pass (Err f) n = let z : ◌≡◌ {A = ℕ} 9 8 = n in absurd (omega arith)

told_fault : (bus : ℕ) (space : Space) (a driver x y : ℕ) (r : Report)
    → numbers_of (Checked r) ≡ eight 9 (bus ∷ space_number space ∷ a ∷ driver ∷ x ∷ y ∷ []) → r ≡ fault bus space a driver x y
told_fault bus space a driver x y (Ok _) n =
    let z : ◌≡◌ {A = ℕ} 8 9 = ap (λ (l : List ℕ). get_or l 0 0) n in absurd (omega arith)
told_fault bus space a driver x y (Err f) n =
    let e : f.space ≡ space = sym (back f.space) ∙ ap at (ap (λ (l : List ℕ). get_or l 2 0) n) ∙ back space in
    let h : f.holder ≡ bus = ap (λ (l : List ℕ). get_or l 1 0) n in
    let v : f.value ≡ a = ap (λ (l : List ℕ). get_or l 3 0) n in
    let d : f.driver ≡ driver = ap (λ (l : List ℕ). get_or l 4 0) n in
    let p : f.first ≡ x = ap (λ (l : List ℕ). get_or l 5 0) n in
    let q : f.second ≡ y = ap (λ (l : List ℕ). get_or l 6 0) n in
    rw (← h, ← e, ← v, ← d, ← p, ← q) refl
  where
    at : ℕ → Space
    at n = cond (eqb n 0) Memory (cond (eqb n 1) Io Configuration)

    back : (s : Space) → at (space_number s) ≡ s
    back Memory = refl
    back Io = refl
    back Configuration = refl

-- a call that answers is accepted: a refused one's numbers are all 0
pub answers : {r : Called} {im : Images} → ((r.code ≡ 0 → ⊥) → r ≡ refused_call r.code im) → (number r ≡ 0 → ⊥) → r.code ≡ 0
answers {r} untouched ne =
    tested (eqb r.code 0) (λ q. eqb-true r.code 0 q)
    (λ q. absurd (ne (ap number (untouched (eqb-false r.code 0 q)))))

module _ (b : List ℕ) (im : Images) where
  -- what an accepted check hands back
  checked : (rack_check b im).code ≡ 0
      → ((rack_alone b).refusal ≡ 0) × (image_refusal (rack_alone b).tree im ≡ 0) × ((rack_alone b).grants.wrong ≡ false)
      × ((rack_check b im).numbers ≡ numbers_of (Checked (check (rack_alone b).tree im)))
  checked c =
      let s = (check_refuses b im).accepted c in
      (s.0, s.2, s.4, ap (λ (r : Called). r.numbers) ((check_refuses b im).accepts s.0 refl s.2 refl s.4 refl).0)

  -- 'an accepted check passes exactly when the count of claimants is at most one on every bus, ..': its first number is 8
  pub c_check_passed : number (rack_check b im) ≡ 8
      → ((rack_alone b).refusal ≡ 0) × (image_refusal (rack_alone b).tree im ≡ 0) × ((rack_alone b).grants.wrong ≡ false)
      × OneClaimant (rack_alone b).tree im
  c_check_passed n =
      let s = checked (answers (check_refuses b im).untouched (λ z. omega arith)) in (
        s.0,
        s.1,
        s.2,
        passed (rack_alone b).tree im
            (told_pass (check (rack_alone b).tree im) (sym (ap (λ (l : List ℕ). get_or l 0 0) s.3) ∙ n)),
      )

  pub c_check_passes : (rack_alone b).refusal ≡ 0 → image_refusal (rack_alone b).tree im ≡ 0 → (rack_alone b).grants.wrong ≡ false
      → OneClaimant (rack_alone b).tree im → rack_check b im ≡ record { code = 0; numbers = eight 8 []; after = im }
  c_check_passes z y w o =
      ((check_refuses b im).accepts z refl y refl w refl).0
      ∙ ap (λ (r : Report). replied_call (gives (Ok (Checked r)) im)) (passes (rack_alone b).tree im o)

  -- 'If it does not pass, it shows the clash, driver and two claimants that document 01 names first'
  pub c_check_faulted : (bus : ℕ) (space : Space) (a driver x y : ℕ)
      → (rack_check b im).numbers ≡ eight 9 (bus ∷ space_number space ∷ a ∷ driver ∷ x ∷ y ∷ [])
      → FirstFault (rack_alone b).tree im bus space a driver x y
  c_check_faulted bus space a driver x y n =
      let m : number (rack_check b im) ≡ 9 = ap (λ (l : List ℕ). get_or l 0 0) n in
      let s = checked (answers (check_refuses b im).untouched (λ z. omega arith)) in
      faulted (rack_alone b).tree im bus space a driver x y
      (told_fault bus space a driver x y (check (rack_alone b).tree im) (sym s.3 ∙ n))

  -- and it shows one whenever it is accepted and does not pass
  pub c_check_shows : (rack_check b im).code ≡ 0 → (number (rack_check b im) ≡ 8 → ⊥)
      → (bus : ℕ) × (space : Space) × (a : ℕ) × (driver : ℕ) × (x : ℕ) × (y : ℕ)
      × ((rack_check b im).numbers ≡ eight 9 (bus ∷ space_number space ∷ a ∷ driver ∷ x ∷ y ∷ []))
  c_check_shows c ne = shows (check (rack_alone b).tree im) (checked c).3
    where
      shows : (r : Report) → (rack_check b im).numbers ≡ numbers_of (Checked r)
          → (bus : ℕ) × (space : Space) × (a : ℕ) × (driver : ℕ) × (x : ℕ) × (y : ℕ)
          × ((rack_check b im).numbers ≡ eight 9 (bus ∷ space_number space ∷ a ∷ driver ∷ x ∷ y ∷ []))
      shows (Ok _) e = absurd (ne (ap (λ (l : List ℕ). get_or l 0 0) e))
      shows (Err f) e = (f.holder, f.space, f.value, f.driver, f.first, f.second, e)
