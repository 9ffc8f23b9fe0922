-- The start of a run agrees: the images that a run of an accepted file starts from are accepted. Document 02, E5: 'Every saved or lent image
-- must agree: below a set bit 6 all registers have reset values'.
use Rattle.std.specs.Prelude.{◌≡◌, refl, Bool, ◌&&◌, ◌||◌, List, ℕ, ◌+◌, ◌*◌, ◌≤◌, ◌<◌, ltb, leb, length, drop}
use Rattle.std.proofs.Math.Path.{sym}
use Rattle.std.proofs.Common.{ap, ◌∙◌, true≢false, arith, lit<, length-drop, length-take-le}
use Rattle.std.proofs.Math.Bool.{true, false, not, or-false}
use Rattle.std.proofs.lemmas.Bool.{false≢true}
use Rattle.std.proofs.Math.Dec.{eqb}
use borrow.Author.Tests.{ltb-true, ltb-false, leb-false, eqb-true, eqb-false, eq-eqb, ne_eqb, not-false}
use Rattle.rack.specs.definitions.First.{◌or◌}
use Rattle.rack.specs.definitions.Refusal.{rack_refusal}
use Rattle.rack.specs.definitions.Stored.{Stored}
use Rattle.rack.specs.definitions.Tree.{Tree, parent_of}
use Rattle.rack.specs.laws.Bools.{tested, neither}
use Rattle.rack.specs.laws.FirstLaws.{when_not}
use Rattle.rack.specs.laws.Search.{none}
use Rattle.register_image.specs.definitions.Image.{Images, view, set_node}
use Rattle.register_image.specs.definitions.Fixed.{lengths_wrong, byte_wrong, part_wrong}
use Rattle.register_image.specs.definitions.Reset.{reset_part, is_changed, reset_images}
use Rattle.bus_reset.specs.definitions.Held.{resets, is_held}
use Rattle.bus_reset.specs.definitions.Agreement.{disagrees, image_refusal}
use Rattle.register_laws.specs.laws.Images.{on_right, view_same, view_other}
use Rattle.register_laws.specs.laws.Accepted.{accepted, agreed, accepts}
use Rattle.register_laws.specs.laws.Resets.{reset_unchanged, reset_view}
use Rattle.register_laws.specs.laws.Above.{above_same}
use Rattle.register_laws.specs.laws.Held.{resets_same, missing_clear, reset_clear, held_unchanged, agrees, reset_accepted}
use Rattle.file_record.specs.declared.Class.TheVariants as class
use Rattle.file_record.specs.definitions.Number.{byte_in}
use Rattle.file_record.specs.definitions.Record.{size_of, class_in, is_a, is_rack, registers_in}
use Rattle.file_record.specs.definitions.Load.{Reading, misplaced, unsound, resets_at, record_resets, record_held, record_fault, taken, Loading, file_in}
use Rattle.file_record.specs.definitions.Start.{start_from, start_images}
use Rattle.file_record.specs.laws.RecordLaws.{registers_size}
use Rattle.file_record.specs.laws.Steps.{is_a_lem, shape_known, shape_ends}
use Rattle.file_record.specs.laws.Turns.{in_has}
use Rattle.file_record.specs.laws.LoadLaws.{none_applies, first_host, file_accepted, file_stored}
use Rattle.save_laws.specs.laws.Earlier.{resets_none, set_none, resets_more, set_more, found_earlier}
use Rattle.file_laws.specs.laws.Shape.{shape, in_place}

module _ (b : List ℕ) (t : Tree) (start : ℕ) (im : Images) where
  -- the images that the register records from `start` up to an offset leave
  abbrev start_to : ℕ → Images
  start_to o = start_from b t start o im

  -- they are accepted, their bits 6 are those of the records, and the nodes from `least` on are at reset
  record Agreeing (o least : ℕ) : Type 0 where
    count : ℕ
    ends : start + 66 * count ≡ o
    accepted : image_refusal t (start_to o) ≡ 0
    told : (g : ℕ) → resets t (start_to o) g ≡ record_resets (length b) b o start g
    later : (j : ℕ) → least ≤ j → j < t.count → view t (start_to o) j ≡ reset_part (t.node j)

  module _ (pl : Stored t) (ok : rack_refusal t ≡ 0) (right : lengths_wrong t im ≡ false) where
    -- before the first record all nodes are at reset
    none_clear : (g : ℕ) → resets t (reset_images t im) g ≡ false
    none_clear g =
        tested (ltb g t.count) (λ q. reset_clear t (reset_images t im) g (reset_view t pl im right g (ltb-true g t.count q)))
        (λ q. missing_clear t (reset_images t im) g (λ h. omega (arith, h, ltb-false g t.count q)))

    none_agree : (least : ℕ) → Agreeing start least
    none_agree least =
        let e = set_none b (length b) start t (reset_images t im) in
        record {
          count = 0;
          ends = omega arith;
          accepted = rw e (reset_accepted t pl im right);
          told = λ g. ap (λ (u : Images). resets t u g) e ∙ none_clear g ∙ sym (resets_none b (length b) start g);
          later = λ j l h. ap (λ (u : Images). view t u j) e ∙ reset_view t pl im right j h;
        }

    -- one record more, without 16, 17 or 18
    module _ (o least : ℕ) (a : Agreeing o least) (inside : o + 66 ≤ length b) (placed : misplaced b o t least ≡ false)
        (sound : unsound (t.node (byte_in b (o + 1))) (registers_in b o) ≡ false) (free : record_held b o t start ≡ false) where
      abbrev i : ℕ
      i = byte_in b (o + 1)

      abbrev part : List ℕ
      part = registers_in b o

      abbrev cur : Images
      cur = start_to o

      abbrev next : Images
      next = start_to (o + 66)

      is_node : i < t.count
      is_node = leb-false t.count i (neither (leb t.count i) (ltb i least) placed).0

      is_later : least ≤ i
      is_later = ltb-false i least (neither (leb t.count i) (ltb i least) placed).1

      long : length part ≡ 64
      long = length-take-le 64 (drop (o + 2) b) (omega (arith, inside, length-drop (o + 2) b))

      few : a.count < length b
      few = omega (arith, a.ends, inside)

      next_is : next ≡ set_node t cur i part
      next_is = set_more b (length b) a.count start o t (reset_images t im) a.ends few

      cur_right : lengths_wrong t cur ≡ false
      cur_right = (accepted t cur a.accepted).0

      own : view t next i ≡ part
      own = ap (λ (u : Images). view t u i) next_is ∙ view_same t cur i (λ p. part) (λ h. long) pl cur_right is_node

      other : (j : ℕ) → (j ≡ i → ⊥) → view t next j ≡ view t cur j
      other j ne = ap (λ (u : Images). view t u j) next_is ∙ view_other t cur i (λ p. part) (λ h. long) pl cur_right j ne

      -- its bit 6 is that of its node, which was at reset
      bit_own : resets t next i ≡ (resets t cur i || resets_at b o i)
      unfolding resets
      bit_own = rw (own, reset_clear t cur i (a.later i is_later is_node), eq-eqb i i refl)

      bit_told : (g : ℕ) → resets t next g ≡ (resets t cur g || resets_at b o g)
      bit_told g =
          tested (eqb g i) (λ q. rw (eqb-true g i q) bit_own)
          (λ q.
          let ne = eqb-false g i q in
          resets_same t next cur g (other g ne) ∙ sym (rw (ne_eqb i g (λ e. ne (sym e))) (or-false (resets t cur g))))

      next_told : (g : ℕ) → resets t next g ≡ record_resets (length b) b (o + 66) start g
      next_told g =
          bit_told g
          ∙ sym (resets_more b (length b) a.count start o g a.ends few
          ∙ ap (λ (x : Bool). x || resets_at b o g) (sym (a.told g)))

      -- its node is not held, and no node before it is held by it
      own_free : is_held t cur i ≡ false
      own_free = above_same t (resets t cur) (record_resets (length b) b o start) a.told (parent_of t i) ∙ free

      was_held : (j : ℕ) → j ≤ i → j < t.count → is_held t next j ≡ true → is_held t cur j ≡ true
      was_held j l h q =
          found_earlier t ok (resets t next) (resets t cur) j h
          (λ g m r. sym (resets_same t next cur g (other g (λ e. omega arith))) ∙ r) q

      next_agrees : disagrees t next ≡ false
      next_agrees =
          agrees t next
          (λ j h q.
          tested (ltb i j)
          (λ l.
          let m = ltb-true i j l in
          rw (other j (λ e. omega arith), a.later j (omega (arith, is_later)) h) (reset_unchanged (t.node j)))
          (λ l.
          let w = was_held j (ltb-false i j l) h q in
          let ne : j ≡ i → ⊥ = λ e. false≢true (sym own_free ∙ ap (is_held t cur) (sym e) ∙ w) in
          rw (other j ne) (held_unchanged t cur (agreed t cur a.accepted) j h w)))

      next_accepted : image_refusal t next ≡ 0
      next_accepted =
          accepts t next (ap (lengths_wrong t) next_is ∙ on_right t cur i (λ p. part) (λ h. long) cur_right)
          (λ j h at l.
          tested (eqb j i)
          (λ q.
          rw (eqb-true j i q, own)
          (none (byte_wrong (t.node i) part) 64 (neither (not (is_changed (t.node i) part)) (part_wrong (t.node i) part) sound).1 at l))
          (λ q. rw (other j (eqb-false j i q)) ((accepted t cur a.accepted).1 j h at l)))
          next_agrees

      one_more : Agreeing (o + 66) (i + 1)
      one_more =
          record {
            count = a.count + 1;
            ends = omega (arith, a.ends);
            accepted = next_accepted;
            told = next_told;
            later = λ j l h. other j (λ e. omega arith) ∙ a.later j (omega (arith, is_later)) h;
          }

module _ (b : List ℕ) where
  -- once there are register records, those in front of a reading agree
  Started : Reading → Type 0
  Started s =
      (s.registers ≡ 0 → ⊥) → Stored s.tree → rack_refusal s.tree ≡ 0 → (im : Images) → lengths_wrong s.tree im ≡ false
      → Agreeing b s.tree s.registers im (s.events or s.offset) s.least

  module _ (s : Reading) (p : Started s) (z : record_fault true b s ≡ 0) where
    -- a register record
    module _ (k : is_a class.Registers (class_in b s.offset) ≡ true) where
      registers_is : taken b s
          ≡ record {
            offset = s.offset + 66;
            registers = s.registers or s.offset;
            events = s.events;
            least = byte_in b (s.offset + 1) + 1;
            tree = s.tree;
            grants = s.grants;
          }
      unfolding taken
      registers_is = rw (is_a_lem class.Registers (class_in b s.offset) k, registers_size (byte_in b s.offset) k)

      no_events : s.events ≡ 0
      no_events = eqb-true s.events 0 (not-false _ (rw (is_a_lem class.Registers (class_in b s.offset) k) at (in_place b s z)))

      fits : s.offset + 66 ≤ length b
      fits =
          omega (
            arith,
            shape_ends true b (class_in b s.offset) s.offset s.registers s.events (shape b s z),
            registers_size (byte_in b s.offset) k,
          )

      registers_started : Started (taken b s)
      unfolding Started
      registers_started =
          rw registers_is
          (λ n pl ok im right.
          let t = s.tree in
          let o = s.offset in
          let e = eq-eqb s.events 0 no_events in
          let before : Agreeing b t (s.registers or o) im o s.least =
          tested (eqb s.registers 0) (λ q. rw q (none_agree b t o im pl ok right s.least))
          (λ q. rw q (rw e at (p (eqb-false s.registers 0 q) pl ok im right))) in
          rw e
          (one_more b t (s.registers or o) im pl ok right o s.least before fits
          (when_not 16 _ (λ q. omega (arith, q)) (rw k at (none_applies true b s z 5 (lit< tt))))
          (when_not 17 _ (λ q. omega (arith, q)) (rw k at (none_applies true b s z 6 (lit< tt))))
          (when_not 18 _ (λ q. omega (arith, q)) (rw k at (none_applies true b s z 7 (lit< tt))))))

    -- an event
    module _ (k : is_a class.Event (class_in b s.offset) ≡ true) where
      event_is : taken b s
          ≡ record {
            offset = s.offset + size_of (byte_in b s.offset);
            registers = s.registers;
            events = s.events or s.offset;
            least = s.least;
            tree = s.tree;
            grants = s.grants;
          }
      unfolding taken
      event_is = rw (is_a_lem class.Event (class_in b s.offset) k)

      begun : s.events or s.offset ≡ 0 → ⊥
      begun e =
          tested (eqb s.events 0)
          (λ q.
          true≢false (sym (first_host true b s z (rw q at e)) ∙ ap (is_a class.Host) (is_a_lem class.Event (class_in b s.offset) k)))
          (λ q. eqb-false s.events 0 q (rw q at e))

      event_started : Started (taken b s)
      unfolding Started
      event_started = rw (event_is, ne_eqb (s.events or s.offset) 0 begun) p

    -- a record of the rack itself follows no register record
    rack_started : is_a class.Registers (class_in b s.offset) ≡ false → is_a class.Event (class_in b s.offset) ≡ false → Started (taken b s)
    unfolding Started taken
    rack_started r e =
        let c = class_in b s.offset in
        let known = shape_known true b c s.offset s.registers s.events (shape b s z) in
        let rack : is_rack c ≡ true = sym (or-false (is_rack c)) ∙ (rw (r, e) at known) in
        let later : not (eqb s.registers 0 && eqb s.events 0) || false ≡ false = rw (rack, r) at (in_place b s z) in
        rw r (λ n. absurd (n (first (neither _ false later).0)))
      where
        first : not (eqb s.registers 0 && eqb s.events 0) ≡ false → s.registers ≡ 0
        first q = tested (eqb s.registers 0) (λ w. eqb-true s.registers 0 w) (λ w. absurd (true≢false (rw w at q)))

    taken_started : Started (taken b s)
    taken_started =
        tested (is_a class.Registers (class_in b s.offset)) registers_started
        (λ r. tested (is_a class.Event (class_in b s.offset)) event_started (λ e. rack_started r e))

  -- so what they leave is accepted
  Starts : Loading → Type 0
  Starts d =
      d.refusal ≡ 0 → Stored d.tree → rack_refusal d.tree ≡ 0 → (im : Images) → lengths_wrong d.tree im ≡ false
      → image_refusal d.tree (start_from b d.tree d.registers d.offset im) ≡ 0

  ended : (s : Reading) → Started s
      → Starts (record { refusal = 0; offset = s.events or s.offset; registers = s.registers or s.events or s.offset; tree = s.tree; grants = s.grants })
  unfolding Started Starts
  ended s p z pl ok im right =
      let end = s.events or s.offset in
      tested (eqb s.registers 0)
      (λ q. rw (q, set_none b (length b) end s.tree (reset_images s.tree im)) (reset_accepted s.tree pl im right))
      (λ q. rw q (p (eqb-false s.registers 0 q) pl ok im right).accepted)

  pub start_accepted : (file_in b).refusal ≡ 0 → (im : Images) → lengths_wrong (file_in b).tree im ≡ false
      → image_refusal (file_in b).tree (start_images b im) ≡ 0
  unfolding Started Starts
  start_accepted z im right =
      in_has true b Started Starts (λ s p i f. taken_started s p f) (λ s p e. ended s p) (λ s p i f q. absurd (f q))
      (λ h e n. absurd (n refl)) (λ h q. absurd (omega (arith, q))) (λ e q. absurd (omega (arith, q)))
      z (file_stored b z) (file_accepted b z) im right
