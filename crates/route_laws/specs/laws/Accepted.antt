-- A route leaves accepted images accepted: who drives an access or takes it on is not held, so no held node gets a status bit.
use Rattle.std.specs.Prelude.{◌≡◌, Bool, true, false, not, ◌&&◌, List, [], ◌∷◌, ℕ, ltb, eqb, get_or}
use Rattle.std.proofs.Math.Path.{refl, ap}
use Rattle.std.proofs.Common.{sym, ◌∙◌, arith}
use Rattle.std.proofs.lemmas.Bool.{false≢true}
use borrow.Author.Tests.{eqb-false, ltb-true, ltb-false}
use Rattle.rack.specs.definitions.Tree.{Tree, host, parent_of, agents}
use Rattle.rack.specs.definitions.Stored.{Stored}
use Rattle.rack.specs.laws.Bools.{tested, both}
use Rattle.rack_laws.specs.laws.Agents.{All}
use Rattle.register_header.specs.declared.Side.{Side}
use Rattle.register_header.specs.declared.StatusBit.{StatusBit}
use Rattle.register_header.specs.definitions.PciRegs.{COMMAND, COMMAND_MASTER}
use Rattle.register_header.specs.definitions.Register.{bit_at}
use Rattle.register_image.specs.definitions.Image.{Images, view, status_node}
use Rattle.bus_reset.specs.definitions.Held.{held_bus, is_held}
use Rattle.bus_reset.specs.definitions.Agreement.{image_refusal}
use Rattle.register_laws.specs.laws.Images.{view_missing}
use Rattle.register_laws.specs.laws.Accepted.{agreed, accepted_sound}
use Rattle.register_laws.specs.laws.Held.{status_held, status_accepted}
use Rattle.claim_agent.specs.definitions.Claim.{claims}
use Rattle.claim_agent.specs.definitions.Claimants.{claimants_in}
use Rattle.claim_laws.specs.laws.Held.{Asked, asked, held_claims, missing_claims, held_master}
use Rattle.route_bus.specs.declared.Access.{Access}
use Rattle.route_bus.specs.definitions.Cross.{is_configuration}
use Rattle.route.specs.definitions.Route.{drives, configure, access}
use Rattle.route_laws.specs.definitions.Path.{Taken, claimants_on}
use Rattle.route_laws.specs.laws.Changes.{configure_keeps, access_keeps}

-- every claimant claims
all_claim : (claim : ℕ → Bool) (driver : ℕ) (l : List ℕ) → All (λ g. claim g ≡ true) (claimants_in claim driver l)
unfolding All claimants_in
all_claim claim driver [] = tt
all_claim claim driver (g ∷ gs) =
    tested (claim g && not (eqb g driver)) (λ q. rw q ((both (claim g) _ q).0, all_claim claim driver gs))
    (λ q. rw q (all_claim claim driver gs))

one_claims : (claim : ℕ → Bool) (driver : ℕ) (l : List ℕ) {g : ℕ} → claimants_in claim driver l ≡ g ∷ [] → claim g ≡ true
unfolding All
one_claims claim driver l e = (rw e at (all_claim claim driver l)).0

module _ (t : Tree) where
  -- accepted images, in which node i is not held
  record Free (im : Images) (i : ℕ) : Type 0 where
    accepted : image_refusal t im ≡ 0
    free : (i ≡ host → ⊥) → is_held t im i ≡ false

  -- accepted images give accepted images in which the same nodes are held
  record Stays (u v : Images) : Type 0 where
    accepted : image_refusal t v ≡ 0
    held : (bus : ℕ) → held_bus t v bus ≡ held_bus t u bus

  Keeps : Images → Images → Type 0
  Keeps u v = image_refusal t u ≡ 0 → Stays u v

  keeps_stay : (im : Images) → Keeps im im
  unfolding Keeps
  keeps_stay im e = record { accepted = e; held = λ bus. refl }

  keeps_chain : (u v w : Images) → Keeps u v → Keeps v w → Keeps u w
  unfolding Keeps
  keeps_chain u v w a b e =
      record { accepted = (b (a e).accepted).accepted; held = λ bus. (b (a e).accepted).held bus ∙ (a e).held bus }

  keeps_free : (u v : Images) (i : ℕ) → Keeps u v → Free u i → Free v i
  unfolding Keeps
  keeps_free u v i k f =
      record { accepted = (k f.accepted).accepted; free = λ ne. (k f.accepted).held (parent_of t i) ∙ f.free ne }

  host_free : (im : Images) → image_refusal t im ≡ 0 → Free im host
  host_free im e = record { accepted = e; free = λ ne. absurd (ne refl) }

  -- a node that does what no held one does
  not_held : (im : Images) (i : ℕ) → (is_held t im i ≡ true → ⊥) → is_held t im i ≡ false
  not_held im i never = tested (is_held t im i) (λ q. absurd (never q)) (λ q. q)

  module _ (pl : Stored t) (x : Access) where
    keeps_status : (im : Images) (i : ℕ) (side : Side) (bit : StatusBit) → (i ≡ host → ⊥) → Free im i → Keeps im (status_node t im i side bit)
    unfolding Keeps
    keeps_status im i side bit ne f e =
        record {
          accepted = status_accepted t im i side bit pl e (f.free ne);
          held = status_held t im pl (accepted_sound t im e) i side bit;
        }

    claimed_free : (im : Images) (bus g : ℕ) → Asked x.space x.address → image_refusal t im ≡ 0 → (g ≡ host → ⊥)
        → claims t im x.space bus g x.address ≡ true → is_held t im g ≡ false
    claimed_free im bus g asked e ne c =
        not_held im g
        (λ held.
        tested (ltb g t.count)
        (λ h. false≢true (sym (held_claims t im (agreed t im e) g (ltb-true g _ h) held ne x.space bus x.address asked) ∙ c))
        (λ h. false≢true (sym (missing_claims t im g (ltb-false g _ h) ne x.space bus x.address asked) ∙ c)))

    taken_free : (im : Images) (bus driver g : ℕ) → Asked x.space x.address → Free im driver → Taken t bus driver g
        → claimants_on t im x bus driver ≡ g ∷ [] → Free im g
    taken_free im bus driver g asked f k one =
        record {
          accepted = f.accepted;
          free = λ ne.
              claimed_free im bus g asked f.accepted ne
              (one_claims (λ g. claims t im x.space bus g x.address) driver (agents t bus) one);
        }

    driving_free : (im : Images) (i : ℕ) → image_refusal t im ≡ 0 → drives t im i ≡ true → is_held t im i ≡ false
    driving_free im i e on =
        not_held im i
        (λ held.
        tested (ltb i t.count)
        (λ h. false≢true (sym (held_master t im (agreed t im e) i (ltb-true i _ h) held) ∙ on))
        (λ h.
        let none : view t im i ≡ [] = view_missing t im i (ltb-false i _ h) in
        false≢true (ap (λ (l : List ℕ). bit_at (get_or l COMMAND 0) COMMAND_MASTER) (sym none) ∙ on)))

    module _ (im : Images) (sound : image_refusal t im ≡ 0) where
      -- a configuration access leaves accepted images accepted
      pub configure_accepted : image_refusal t (configure t im x).after ≡ 0
      unfolding Keeps
      configure_accepted =
          (configure_keeps t x (Asked x.space x.address) Free Keeps keeps_stay keeps_chain keeps_free keeps_status taken_free im
          (λ q. asked x.space x.address (λ s. omega (arith, eqb-false x.address 0 q))) (host_free im sound) sound).accepted

      -- so does any other access, whoever starts it
      pub access_accepted : is_configuration x.space ≡ false → (i : ℕ) → image_refusal t (access t im x i).after ≡ 0
      unfolding Keeps
      access_accepted other i =
          (access_keeps t x (Asked x.space x.address) Free Keeps keeps_stay keeps_chain keeps_free keeps_status taken_free im i
          (asked x.space x.address (λ s. absurd (false≢true (sym other ∙ ap is_configuration s)))) (host_free im sound)
          (λ ne on. record { accepted = sound; free = λ n. driving_free im i sound on }) sound).accepted
