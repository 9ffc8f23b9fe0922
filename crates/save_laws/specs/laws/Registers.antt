-- The register records of a saved file: each is above the one before, of a node of the rack that is not held, changed and with its fixed bits
-- right.
use Rattle.std.specs.Prelude.{◌≡◌, refl, Bool, true, false, List, ◌++◌, ℕ, zero, suc, ◌+◌, ◌*◌, ◌≤◌, ◌<◌, eqb, get_or}
use Rattle.std.proofs.Math.Path.{sym, subst}
use Rattle.std.proofs.Common.{ap, ◌∙◌, ⊎_elim, add-one, take_at, eqb-true, eq-eqb, ne_eqb}
use Rattle.std.proofs.lemmas.Bool.{false≢true}
use native.Mathlib.Omega.{arith}
use Rattle.std.proofs.Math.ListN.{length}
use Rattle.rack.specs.definitions.First.{◌or◌}
use Rattle.rack.specs.definitions.Tree.{Tree, parent_of}
use Rattle.rack.specs.definitions.Stored.{Stored}
use Rattle.rack.specs.laws.Bools.{tested, both, either}
use Rattle.rack.specs.laws.Search.{none_all}
use Rattle.seat.specs.definitions.Grants.{Grants}
use Rattle.register_header.specs.definitions.PciRegs.{BRIDGE_CONTROL, BRIDGE_CTL_BUS_RESET}
use Rattle.register_header.specs.definitions.Register.{bit_at}
use Rattle.register_image.specs.definitions.Image.{Images, view}
use Rattle.register_image.specs.definitions.Fixed.{byte_wrong, node_wrong}
use Rattle.bus_reset.specs.definitions.Held.{resets}
use Rattle.bus_reset.specs.definitions.Agreement.{image_refusal}
use Rattle.register_laws.specs.laws.Images.{view_length}
use Rattle.register_laws.specs.laws.Accepted.{accepted, agreed}
use Rattle.register_laws.specs.laws.Above.{above_more}
use Rattle.register_laws.specs.laws.Held.{held_unchanged}
use Rattle.file_record.specs.definitions.Number.{byte_in}
use Rattle.file_record.specs.definitions.Record.{registers_in}
use Rattle.file_record.specs.definitions.Load.{Reading, resets_at, record_resets, record_held}
use Rattle.file_save.specs.definitions.Saved.{view_bytes, register_bytes, registers_of}
use Rattle.save_laws.specs.definitions.After.{is_saved, past_last, first_registers}
use Rattle.save_laws.specs.laws.Here.{Here, here_byte, here_registers}
use Rattle.save_laws.specs.laws.Goes.{Goes, goes_same, goes_on, goes_kept}
use Rattle.save_laws.specs.laws.Records.{before, within, registers_goes}
use Rattle.save_laws.specs.laws.Earlier.{resets_none, resets_more}

-- the last number below n is below n
past_le : (f : ℕ → Bool) (n : ℕ) → past_last f n ≤ n
unfolding past_last
past_le f zero = omega arith
past_le f (suc n) = tested (f n) (λ q. rw q (omega arith)) (λ q. rw q (omega (arith, past_le f n)))

module _ (start o : ℕ) (some : 0 < start) where
  -- at the first register record its offset is noted, and then it stays
  first_noted : start ≤ o → first_registers start o or o ≡ start
  first_noted l =
      tested (eqb o start) (λ q. rw q (eqb-true o start q)) (λ q. rw (q, ne_eqb start 0 (λ e. omega arith)))

  first_stays : (k : ℕ) → start ≤ o → 0 < k → first_registers start (o + k) ≡ start
  first_stays k l m = rw (ne_eqb (o + k) start (λ e. omega arith))

module _ (t : Tree) (g : Grants) (im : Images) (stored : Stored t) (right : image_refusal t im ≡ 0) where
  -- the registers of a node have their fixed bits right
  node_fixed : (i : ℕ) → i < t.count → node_wrong t im i ≡ false
  node_fixed i l = none_all (byte_wrong (t.node i) (view t im i)) 64 ((accepted t im right).1 i l)

  module _ (b : List ℕ) (start : ℕ) (some : 0 < start) where
    -- the records in front of an offset, each of 66 bytes: where one has bit 6 set, its bridge has
    record Told (o : ℕ) : Type 0 where
      count : ℕ
      ends : start + 66 * count ≡ o
      bits : (j : ℕ) → record_resets (length b) b o start j ≡ true → resets t im j ≡ true

    -- one more, of node i
    module _ (o i : ℕ) (y : List ℕ) (l : i < t.count) (h : Here b o (view_bytes i (view t im i) ++ y)) (k : Told o) where
      abbrev rest : List ℕ
      rest = view_bytes i (view t im i) ++ y

      long : length (view t im i) ≡ 64
      long = view_length t im stored (accepted t im right).0 i l

      is_node : byte_in b (o + 1) ≡ i
      is_node = here_byte b o rest h 1

      is_part : registers_in b o ≡ view t im i
      is_part = here_registers b o rest h ∙ take_at (view t im i) y 64 long

      -- its node differs from reset, so in accepted images it is not held
      node_free : is_saved t im i ≡ true → record_held b o t start ≡ false
      node_free q =
          tested (record_held b o t start)
          (λ w.
          let held = above_more t (record_resets (length b) b o start) (resets t im) k.bits (parent_of t i) (rw is_node at w) in
          absurd (false≢true (sym (held_unchanged t im (agreed t im right) i l held) ∙ q)))
          (λ w. w)

      own_bit : (j : ℕ) → resets_at b o j ≡ true → resets t im j ≡ true
      unfolding resets
      own_bit j e =
          let s = both (eqb (byte_in b (o + 1)) j) (bit_at (get_or (registers_in b o) BRIDGE_CONTROL 0) BRIDGE_CTL_BUS_RESET) e in
          let n : j ≡ i = sym (eqb-true (byte_in b (o + 1)) j s.0) ∙ is_node in
          rw (n, ← is_part) s.1

      told_more : Told (o + length (view_bytes i (view t im i)))
      told_more =
          let o' : o + 66 ≡ o + length (view_bytes i (view t im i)) = omega (arith, long) in
          subst Told o'
          (record {
            count = k.count + 1;
            ends = omega (arith, k.ends);
            bits = λ j e.
                let few : k.count < length b = omega (arith, k.ends, within b o (view_bytes i (view t im i)) y h) in
                ⊎_elim (k.bits j) (own_bit j)
                (either (record_resets (length b) b o start j) (resets_at b o j)
                (sym (resets_more b (length b) k.count start o j k.ends few) ∙ e));
          })

    records : ℕ → ℕ → Reading
    records o i = before o (first_registers start o) (past_last (is_saved t im) i) t g

    record_goes : (o i : ℕ) (y : List ℕ) → Told o → i < t.count → Here b o (register_bytes t im i ++ y)
        → Goes b (records o i) (records (o + length (register_bytes t im i)) (i + 1)) × Told (o + length (register_bytes t im i))
    unfolding records register_bytes past_last
    record_goes o i y k l h =
        rw (add-one i)
        (tested (is_saved t im i)
        (λ q.
        let part = view t im i in
        let here : Here b o (view_bytes i part ++ y) = rw q at h in
        let low : start ≤ o = omega (arith, k.ends) in
        let n = length (view_bytes i part) in
        let f = first_noted start o some low in
        let e : first_registers start o or o ≡ first_registers start (o + n) =
        f ∙ sym (first_stays start o some n low (omega arith)) in
        rw q (
          goes_on b
              (registers_goes b o t g y (omega arith) (first_registers start o) (past_last (is_saved t im) i) i part
              (long o i y l here k) here (past_le (is_saved t im) i) l q (node_fixed i l)
              (subst (λ (x : ℕ). record_held b o t x ≡ false) (sym f) (node_free o i y l here k q)))
              (goes_same b (ap (λ (x : ℕ). before (o + n) x (i + 1) t g) e)),
          told_more o i y l here k,
        ))
        (λ q. let o' : o ≡ o + 0 = omega arith in rw q (goes_same b (rw (← o')), subst Told o' k)))

    pub registers_go : (y : List ℕ) → Here b start (registers_of t im ++ y)
        → Goes b (before start 0 0 t g)
        (before (start + length (registers_of t im)) (first_registers start (start + length (registers_of t im)))
        (past_last (is_saved t im) t.count) t g)
    unfolding records past_last
    registers_go y h =
        rw (eq-eqb start start refl) at
        (goes_kept b (register_bytes t im) records Told 0 t.count (λ o i y k a l h. record_goes o i y k l h)
        start 0 t.count y first (omega arith) (omega arith) h)
      where
        first : Told start
        first =
            record {
              count = 0;
              ends = omega arith;
              bits = λ j e. absurd (false≢true (sym (resets_none b (length b) start j) ∙ e));
            }
