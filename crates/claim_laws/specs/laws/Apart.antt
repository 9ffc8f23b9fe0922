-- A claim does not depend on status bits, nor on the bytes of other nodes.
use Rattle.std.specs.Prelude.{◌≡◌, ◌≢◌, Bool, List, ℕ, ◌≤◌, ◌<◌, ltb, eqb, length}
use Rattle.std.proofs.Math.Path.{refl, sym, fun_ext}
use Rattle.std.proofs.Common.{ap, ◌∙◌, arith}
use Rattle.std.proofs.Math.Bool.{true, false}
use borrow.Author.Tests.{ltb-true, ltb-false, eqb-true, eqb-false}
use Rattle.rack.specs.definitions.Node.{is_bridge}
use Rattle.rack.specs.definitions.Tree.{Tree, agents}
use Rattle.rack.specs.definitions.Stored.{Stored}
use Rattle.rack.specs.laws.Bools.{tested}
use Rattle.register_header.specs.definitions.Options.{options_of}
use Rattle.register_header.specs.declared.Side.{Side}
use Rattle.register_header.specs.declared.StatusBit.{StatusBit}
use Rattle.register_header.specs.definitions.Register.{set_status}
use Rattle.register_image.specs.definitions.Image.{Images, view, on_node, status_node}
use Rattle.register_image.specs.definitions.Fixed.{lengths_wrong}
use Rattle.register_laws.specs.laws.Images.{lengths_right, right_lengths, view_missing, view_length, view_same, view_other, on_lengths}
use Rattle.register_laws.specs.laws.Registers.{status_length}
use Rattle.claim_agent.specs.declared.Space.{Space}
use Rattle.claim_agent.specs.declared.Agent.{Agent}
use Rattle.claim_agent.specs.definitions.Agent.{agent_of}
use Rattle.claim_agent.specs.definitions.Claim.{claims, claims_of}
use Rattle.claim_agent.specs.definitions.Claimants.{claimants_in, claimants}
use Rattle.claim_laws.specs.laws.SameBytes.{bridge_same, device_same, set_same}
use Rattle.claim_laws.specs.definitions.Same.{SameBytes, SameButStatus}

-- an agent rests on its own view alone
pub agent_view : (t : Tree) (im im' : Images) (bus g : ℕ) → view t im g ≡ view t im' g
    → agent_of t im bus g ≡ agent_of t im' bus g
unfolding agent_of
agent_view t im im' bus g e = rw e

-- so a change of another node's part leaves it
pub agent_other : (t : Tree) (im : Images) (bus i g : ℕ) (f : List ℕ → List ℕ)
    → (i < t.count → length (f (view t im i)) ≡ 64) → Stored t → lengths_wrong t im ≡ false → g ≢ i
    → agent_of t (on_node t im i f) bus g ≡ agent_of t im bus g
agent_other t im bus i g f hf pl right ne =
    agent_view t (on_node t im i f) im bus g (view_other t im i f hf pl right g ne)

-- images differ in nothing from themselves
pub same_refl : (t : Tree) (im : Images) → SameButStatus t im im
same_refl t im = record { lengths = λ k. refl; views = λ i h. record { bits = λ k. refl; above = λ k. refl } }

-- images that differ in status bits alone, one after another
pub same_trans : {t : Tree} {im im' im'' : Images} → SameButStatus t im im' → SameButStatus t im' im'' → SameButStatus t im im''
same_trans s r =
    record {
      lengths = λ k. s.lengths k ∙ r.lengths k;
      views = λ i h.
          record {
            bits = λ k. (s.views i h).bits k ∙ (r.views i h).bits k;
            above = λ k. (s.views i h).above k ∙ (r.views i h).above k;
          };
    }

-- lengths that are right stay right
pub same_right : {t : Tree} {im im' : Images} → SameButStatus t im im' → lengths_wrong t im ≡ false → lengths_wrong t im' ≡ false
same_right {t = t} {im = im} {im' = im'} s right = right_lengths t im' (λ k. sym (s.lengths k) ∙ lengths_right t im right k)

-- a status bit set in one node makes no other difference
pub status_same : (t : Tree) (im : Images) (i : ℕ) (side : Side) (bit : StatusBit) → Stored t → lengths_wrong t im ≡ false
    → SameButStatus t im (status_node t im i side bit)
status_same t im i side bit pl right =
    record {
      lengths = λ k. sym (on_lengths t im i f long k);
      views = λ j h.
          tested (eqb j i)
          (λ q.
          let e : j ≡ i = eqb-true j i q in
          let hi : i < t.count = omega arith in
          rw (e, view_same t im i f long pl right hi) (set_same (t.node i) (view t im i) side bit))
          (λ q. rw (view_other t im i f long pl right j (eqb-false j i q)) (record { bits = λ k. refl; above = λ k. refl }));
    }
  where
    f : List ℕ → List ℕ
    f part = set_status (t.node i) part side bit

    long : i < t.count → length (f (view t im i)) ≡ 64
    long h = status_length (t.node i) (view t im i) side bit ∙ view_length t im pl right i h

module _ (t : Tree) (im im' : Images) (s : SameButStatus t im im') where
  -- then each agent of each bus is the same
  pub agent_same : (bus g : ℕ) → agent_of t im bus g ≡ agent_of t im' bus g
  unfolding agent_of
  agent_same bus g =
      tested (ltb g t.count) (λ q. either (is_bridge (t.node g).kind) refl (s.views g (ltb-true g t.count q)))
      (λ q.
      let m : t.count ≤ g = ltb-false g t.count q in
      agent_view t im im' bus g (view_missing t im g m ∙ sym (view_missing t im' g m)))
    where
      either : (bridge : Bool) → is_bridge (t.node g).kind ≡ bridge → SameBytes (t.node g) (view t im g) (view t im' g)
          → agent_of t im bus g ≡ agent_of t im' bus g
      either true is r =
          rw (is, bridge_same (options_of (t.node g).kind) (t.node g) (view t im g) (view t im' g) r is)
      either false is r = rw (is, device_same (t.node g) (view t im g) (view t im' g) r is)

  -- so is each claim
  pub claims_same : (space : Space) (bus g a : ℕ) → claims t im space bus g a ≡ claims t im' space bus g a
  claims_same space bus g a = ap (λ (x : Agent). claims_of x space a) (agent_same bus g)

  -- and so are the claimants
  pub claimants_same : (space : Space) (bus driver a : ℕ)
      → claimants t im space bus driver a ≡ claimants t im' space bus driver a
  claimants_same space bus driver a =
      ap (λ (c : ℕ → Bool). claimants_in c driver (agents t bus)) (fun_ext (λ g. claims_same space bus g a))
