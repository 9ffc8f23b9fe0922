-- Held nodes: in accepted images they are at reset, and what keeps it so.
use Rattle.std.specs.Prelude.{◌≡◌, refl, true, false, cond, not, ◌⊎◌, ℕ, ◌<◌, eqb, ltb, length}
use Rattle.std.proofs.Common.{sym, ◌∙◌, inl, inr, ⊎_elim, arith, get_or-set_other, eqb-true, ltb-true, ltb-false}
use Rattle.std.proofs.Math.Path.{ap}
use Rattle.std.proofs.lemmas.Bool.{false≢true, eqb-false}
use Rattle.std.proofs.Math.Bool.{and-false}
use mathlib.Core.List.{List}
use Rattle.std.specs.Int.Bits.{bit_and}
use Rattle.std.proofs.Math.ListN.{get_or}
use Rattle.rack.specs.declared.Kind.{Kind}
use Rattle.rack.specs.declared.Kind.TheVariants.{Bridge, OlderBridge, Device}
use Rattle.rack.specs.declared.Node.{Node}
use Rattle.rack.specs.definitions.Node.{is_bridge}
use Rattle.rack.specs.definitions.Tree.{Tree, parent_of}
use Rattle.rack.specs.definitions.Stored.{Stored}
use Rattle.rack.specs.laws.Bools.{tested}
use Rattle.rack.specs.laws.Search.{none, none_all}
use Rattle.register_header.specs.declared.Side.{Side}
use Rattle.register_header.specs.declared.Side.TheVariants.{Primary, Secondary}
use Rattle.register_header.specs.declared.StatusBit.{StatusBit}
use Rattle.register_header.specs.definitions.PciRegs.{BRIDGE_CONTROL}
use Rattle.register_header.specs.definitions.Mask.{fixed_mask, reset_byte}
use Rattle.register_header.specs.definitions.Register.{set_status, status_at, write_register}
use Rattle.register_image.specs.definitions.Image.{Images, view, write_node, status_node}
use Rattle.register_image.specs.definitions.Fixed.{lengths_wrong}
use Rattle.register_image.specs.definitions.Reset.{reset_part, is_changed, reset_images}
use Rattle.bus_reset.specs.definitions.Held.{above, is_below, resets, held_bus, is_held}
use Rattle.bus_reset.specs.definitions.Agreement.{node_disagrees, disagrees, image_refusal}
use Rattle.bus_reset.specs.definitions.Store.{reset_below, below_reset, store_node}
use Rattle.register_laws.specs.laws.Images.{view_missing, on_missing, view_length, view_same, view_other}
use Rattle.register_laws.specs.laws.Registers.{write_length, status_length, reset_at}
use Rattle.register_laws.specs.laws.Accepted.{right_byte, accepted, agreed, accepts, Sound, accepted_sound, write_sound, status_sound}
use Rattle.register_laws.specs.laws.Resets.{zero_reset, unchanged_at, reset_unchanged, some_view, some_sound, reset_right, reset_view}
use Rattle.register_laws.specs.laws.Above.{above_either, above_more, above_same}

-- bit 6 is clear at reset
control_byte : (n : Node) → reset_byte n BRIDGE_CONTROL ≡ 0
control_byte n = zero_reset n BRIDGE_CONTROL refl (and-false (not (is_bridge n.kind))) refl refl refl

-- a status bit stands in another byte than bridge control
status_place : (k : Kind) (side : Side) → (BRIDGE_CONTROL ≡ status_at k side → ⊥)
status_place Bridge Primary e = absurd (omega arith)
status_place Bridge Secondary e = absurd (omega arith)
status_place OlderBridge Primary e = absurd (omega arith)
status_place OlderBridge Secondary e = absurd (omega arith)
status_place Device Primary e = absurd (omega arith)
status_place Device Secondary e = absurd (omega arith)

status_control : (n : Node) (part : List ℕ) (side : Side) (bit : StatusBit)
    → get_or (set_status n part side bit) BRIDGE_CONTROL 0 ≡ get_or part BRIDGE_CONTROL 0
unfolding set_status
status_control n part side bit = get_or-set_other part _ BRIDGE_CONTROL _ 0 (status_place n.kind side)

-- bit 6 is told by a node's part alone
module _ (t : Tree) (im im' : Images) (g : ℕ) where
  pub resets_by : get_or (view t im g) BRIDGE_CONTROL 0 ≡ get_or (view t im' g) BRIDGE_CONTROL 0 → resets t im g ≡ resets t im' g
  unfolding resets
  resets_by e = rw e

  pub resets_same : view t im g ≡ view t im' g → resets t im g ≡ resets t im' g
  resets_same e = resets_by (ap (λ (l : List ℕ). get_or l BRIDGE_CONTROL 0) e)

-- a missing node has none, nor has one at reset
pub missing_clear : (t : Tree) (im : Images) (g : ℕ) → (g < t.count → ⊥) → resets t im g ≡ false
unfolding resets
missing_clear t im g h = rw (view_missing t im g (omega (arith, h)))

pub reset_clear : (t : Tree) (im : Images) (g : ℕ) → view t im g ≡ reset_part (t.node g) → resets t im g ≡ false
unfolding resets
reset_clear t im g e = rw (e, reset_at (t.node g) BRIDGE_CONTROL (omega arith), control_byte (t.node g))

-- no held node differs from reset, and the converse
module _ (t : Tree) (im : Images) where
  pub held_unchanged : disagrees t im ≡ false → (i : ℕ) → i < t.count → is_held t im i ≡ true → is_changed (t.node i) (view t im i) ≡ false
  held_unchanged d i h e = rw e at (none (node_disagrees t im) t.count d i h)

  -- each of its bytes is at reset
  pub held_byte : disagrees t im ≡ false → (i : ℕ) → i < t.count → is_held t im i ≡ true → (at : ℕ) → at < 64
      → get_or (view t im i) at 0 ≡ reset_byte (t.node i) at
  held_byte d i h e at ha = unchanged_at (t.node i) (view t im i) (held_unchanged d i h e) at ha

  pub agrees : ((i : ℕ) → i < t.count → is_held t im i ≡ true → is_changed (t.node i) (view t im i) ≡ false) → disagrees t im ≡ false
  agrees u = none_all (node_disagrees t im) t.count (λ i h. tested (is_held t im i) (λ q. rw (q, u i h q)) (λ q. rw q))

module _ (t : Tree) (im : Images) (pl : Stored t) (s : Sound t im) (i : ℕ) (side : Side) (bit : StatusBit) where
  setting : List ℕ → List ℕ
  setting part = set_status (t.node i) part side bit

  setting_length : i < t.count → length (setting (view t im i)) ≡ 64
  unfolding setting
  setting_length h = status_length (t.node i) (view t im i) side bit ∙ view_length t im pl s.lengths i h

  status_other : (g : ℕ) → (g ≡ i → ⊥) → view t (status_node t im i side bit) g ≡ view t im g
  unfolding setting
  status_other g ne = view_other t im i setting setting_length pl s.lengths g ne

  status_own : i < t.count → get_or (view t (status_node t im i side bit) i) BRIDGE_CONTROL 0 ≡ get_or (view t im i) BRIDGE_CONTROL 0
  unfolding setting
  status_own h =
      ap (λ (l : List ℕ). get_or l BRIDGE_CONTROL 0) (view_same t im i setting setting_length pl s.lengths h)
      ∙ status_control (t.node i) (view t im i) side bit

  -- a status bit leaves bit 6 of every bridge
  pub status_resets : (g : ℕ) → resets t (status_node t im i side bit) g ≡ resets t im g
  unfolding setting
  status_resets g =
      tested (eqb g i)
      (λ q.
      tested (ltb i t.count)
      (λ r. rw (eqb-true g i q) (resets_by t (status_node t im i side bit) im i (status_own (ltb-true i _ r))))
      (λ r. ap (λ (u : Images). resets t u g) (on_missing t im i setting (ltb-false i _ r))))
      (λ q. resets_same t (status_node t im i side bit) im g (status_other g (eqb-false g i q)))

  -- and so who is held
  pub status_held : (bus : ℕ) → held_bus t (status_node t im i side bit) bus ≡ held_bus t im bus
  status_held bus = above_same t (resets t (status_node t im i side bit)) (resets t im) status_resets bus

-- one of a node that is not held keeps images accepted
pub status_accepted : (t : Tree) (im : Images) (i : ℕ) (side : Side) (bit : StatusBit) → Stored t → image_refusal t im ≡ 0
    → is_held t im i ≡ false → image_refusal t (status_node t im i side bit) ≡ 0
status_accepted t im i side bit pl e free =
    let s = accepted_sound t im e in
    let s' = status_sound t im i side bit pl s in
    accepts t (status_node t im i side bit) s'.lengths s'.bytes
    (agrees t (status_node t im i side bit)
    (λ j h q.
    let q' : is_held t im j ≡ true = sym (status_held t im pl s i side bit (parent_of t j)) ∙ q in
    let ne : j ≡ i → ⊥ = λ r. false≢true (sym free ∙ ap (is_held t im) (sym r) ∙ q') in
    rw (status_other t im pl s i side bit j ne) (held_unchanged t im (agreed t im e) j h q')))

-- the images at reset are accepted
pub reset_accepted : (t : Tree) → Stored t → (im : Images) → lengths_wrong t im ≡ false → image_refusal t (reset_images t im) ≡ 0
reset_accepted t pl im right =
    accepts t (reset_images t im) (reset_right t pl im right)
    (λ i hi at ha.
    rw (reset_view t pl im right i hi)
    (right_byte (t.node i) (reset_part (t.node i)) at
    (ap (λ (x : ℕ). bit_and x (fixed_mask (t.node i) at)) (reset_at (t.node i) at ha))))
    (agrees t (reset_images t im) (λ i h q. rw (reset_view t pl im right i h) (reset_unchanged (t.node i))))

-- what is below a bridge at reset, the rest as it was
module _ (t : Tree) (im : Images) (pl : Stored t) (b : ℕ) where
  pub below_view : lengths_wrong t im ≡ false → (i : ℕ) → i < t.count
      → view t (reset_below t im b) i ≡ cond (is_below t b i) (reset_part (t.node i)) (view t im i)
  below_view r i h = some_view t (is_below t b) pl im r i h

  -- no bit 6 comes by it
  pub below_resets : lengths_wrong t im ≡ false → (g : ℕ) → resets t (reset_below t im b) g ≡ true → resets t im g ≡ true
  below_resets r g q =
      tested (ltb g t.count)
      (λ h.
      tested (is_below t b g)
      (λ p. absurd (false≢true (sym (reset_clear t (reset_below t im b) g (taken p (ltb-true g _ h))) ∙ q)))
      (λ p. sym (resets_same t (reset_below t im b) im g (passed p (ltb-true g _ h))) ∙ q))
      (λ h. absurd (false≢true (sym (missing_clear t (reset_below t im b) g (omega (arith, ltb-false g _ h))) ∙ q)))
    where
      taken : is_below t b g ≡ true → g < t.count → view t (reset_below t im b) g ≡ reset_part (t.node g)
      taken p h = below_view r g h ∙ rw p

      passed : is_below t b g ≡ false → g < t.count → view t (reset_below t im b) g ≡ view t im g
      passed p h = below_view r g h ∙ rw p

-- a register write with all that it does
module _ (t : Tree) (im : Images) (pl : Stored t) (i register enables put : ℕ) (e : image_refusal t im ≡ 0) where
  after : Images
  after = write_node t im i register enables put

  write_other : (g : ℕ) → (g ≡ i → ⊥) → view t after g ≡ view t im g
  unfolding after
  write_other g ne =
      view_other t im i (λ part. write_register (t.node i) part register enables put)
      (λ h. write_length (t.node i) (view t im i) register enables put ∙ view_length t im pl (accepted t im e).0 i h) pl
      (accepted t im e).0 g ne

  after_sound : Sound t after
  unfolding after
  after_sound = write_sound t im i register enables put pl (accepted_sound t im e)

  -- bit 6 of another bridge stays
  write_resets : (g : ℕ) → (g ≡ i → ⊥) → resets t after g ≡ resets t im g
  write_resets g ne = resets_same t after im g (write_other g ne)

  -- who is held after it and not below node i was held before
  was_held : (v : Images) → ((g : ℕ) → resets t v g ≡ true → (resets t im g ≡ true) ⊎ (eqb i g ≡ true)) → (bus : ℕ)
      → above t (eqb i) bus ≡ false → held_bus t v bus ≡ true → held_bus t im bus ≡ true
  was_held v o bus n q =
      ⊎_elim (λ r. r) (λ r. absurd (false≢true (sym n ∙ r))) (above_either t (resets t v) (resets t im) (eqb i) o bus q)

  clear_agrees : is_held t im i ≡ false → resets t after i ≡ false → disagrees t after ≡ false
  clear_agrees free off =
      agrees t after
      (λ j h q.
      let was : is_held t im j ≡ true = above_more t (resets t after) (resets t im) before (parent_of t j) q in
      let ne : j ≡ i → ⊥ = λ r. false≢true (sym free ∙ ap (is_held t im) (sym r) ∙ was) in
      rw (write_other j ne) (held_unchanged t im (agreed t im e) j h was))
    where
      before : (g : ℕ) → resets t after g ≡ true → resets t im g ≡ true
      before g q =
          tested (eqb g i) (λ r. absurd (false≢true (sym off ∙ ap (resets t after) (sym (eqb-true g i r)) ∙ q)))
          (λ r. sym (write_resets g (eqb-false g i r)) ∙ q)

  set_agrees : is_held t im i ≡ false → disagrees t (reset_below t after i) ≡ false
  set_agrees free =
      agrees t (reset_below t after i)
      (λ j h q.
      tested (is_below t i j)
      (λ p. rw (below_view t after pl i after_sound.lengths j h, p) (reset_unchanged (t.node j)))
      (λ p.
      let was : is_held t im j ≡ true = was_held (reset_below t after i) before (parent_of t j) p q in
      let ne : j ≡ i → ⊥ = λ r. false≢true (sym free ∙ ap (is_held t im) (sym r) ∙ was) in
      rw (below_view t after pl i after_sound.lengths j h, p, write_other j ne)
      (held_unchanged t im (agreed t im e) j h was)))
    where
      before : (g : ℕ) → resets t (reset_below t after i) g ≡ true → (resets t im g ≡ true) ⊎ (eqb i g ≡ true)
      before g q =
          tested (eqb i g) (λ r. inr r)
          (λ r. inl (sym (write_resets g (λ x. eqb-false i g r (sym x))) ∙ below_resets t after pl i after_sound.lengths g q))

  -- keeps images accepted: a held node stores nothing, and one that sets bit 6 puts all that it then holds at reset
  pub store_accepted : image_refusal t (store_node t im i register enables put) ≡ 0
  unfolding store_node below_reset after
  store_accepted =
      tested (is_held t im i) (λ q. rw q e)
      (λ free.
      tested (resets t after i)
      (λ on.
      let s = some_sound t (is_below t i) pl after after_sound in
      rw (free, on) (accepts t (reset_below t after i) s.lengths s.bytes (set_agrees free)))
      (λ off. rw (free, off) (accepts t after after_sound.lengths after_sound.bytes (clear_agrees free off))))
