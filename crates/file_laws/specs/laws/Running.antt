-- The events of an accepted file are accepted ones: from the first event on every record is an event, whose fields are right and which
-- names no unknown seat, for the rack and the grants that were read.
use Rattle.std.specs.Prelude.{◌≡◌, true, false, ◌&&◌, ◌||◌, List, ◌⊎◌, ltb, eqb, length}
use Rattle.std.proofs.Math.Path.{refl, sym, ap}
use Rattle.std.proofs.Common.{◌∙◌, true≢false, lit<}
use Rattle.std.proofs.Math.Bool.{and-false}
use Rattle.std.proofs.lemmas.Bool.{false≢true}
use Rattle.std.proofs.Math.Logic.{inl, inr, ⊎_elim}
use Prim.Native.Nat.{ℕ, zero, suc, ◌+◌, ◌≤◌, ◌<◌}
use native.Mathlib.Omega.{arith}
use borrow.Author.Tests.{ltb-true, ltb-false, eqb-true, eqb-false, eq-eqb, ne_eqb}
use Rattle.rack.specs.laws.Bools.{tested}
use Rattle.rack.specs.definitions.First.{◌or◌}
use Rattle.rack.specs.laws.FirstLaws.{when_not}
use Rattle.file_record.specs.declared.Class.{Class}
use Rattle.file_record.specs.declared.Class.TheVariants as class
use Rattle.file_record.specs.definitions.Number.{byte_in}
use Rattle.file_record.specs.definitions.Record.{size_of, class_in, is_a, is_rack, is_known}
use Rattle.file_record.specs.definitions.Events.{event_in, event_wrong, event_unknown}
use Rattle.file_record.specs.definitions.Load.{Reading, record_fault, taken, Loading, file_in}
use Rattle.file_record.specs.laws.Steps.{is_a_lem, shape_known}
use Rattle.file_record.specs.laws.LoadLaws.{none_applies, first_host}
use Rattle.file_laws.specs.definitions.Records.{before, Stands}
use Rattle.file_laws.specs.laws.Refused.{at_later, faultless}
use Rattle.file_laws.specs.laws.Seats.{ended}
use Rattle.file_laws.specs.laws.Shape.{shape, in_place}

-- the record in front of which a reading stands is an event
abbrev at_event : List ℕ → Reading → Type 0
at_event b s = is_a class.Event (class_in b s.offset) ≡ true

-- an event leaves the rack and its grants
module _ (b : List ℕ) (s : Reading) (e : at_event b s) where
  tree_stays : (taken b s).tree ≡ s.tree
  unfolding taken
  tree_stays = rw (is_a_lem class.Event (class_in b s.offset) e)

  grants_stay : (taken b s).grants ≡ s.grants
  unfolding taken
  grants_stay = rw (is_a_lem class.Event (class_in b s.offset) e)

  events_since : (taken b s).events ≡ s.events or s.offset
  unfolding taken
  events_since = rw e

module _ (b : List ℕ) (s : Reading) where
  no_event_since : is_a class.Event (class_in b s.offset) ≡ false → (taken b s).events ≡ s.events
  unfolding taken
  no_event_since e = rw e

  -- a record without a fault
  module _ (z : record_fault true b s ≡ 0) where
    -- is no event where it is the first
    not_first : at_event b s → s.offset ≡ 0 → ⊥
    not_first e o =
        true≢false (sym (first_host true b s z o) ∙ ap (is_a class.Host) (is_a_lem class.Event (class_in b s.offset) e))

    -- and is one where it follows one
    after_events : (s.events ≡ 0 → ⊥) → at_event b s
    after_events n =
        let c = class_in b s.offset in
        left c (shape_known true b c s.offset s.registers s.events (shape b s z))
        (rw (ne_eqb s.events 0 n, and-false (eqb s.registers 0)) at (in_place b s z))
      where
        left : (c : Class) → is_known true c ≡ true → is_rack c && true || is_a class.Registers c && true ≡ false → is_a class.Event c ≡ true
        left class.Unknown k f = absurd (false≢true k)
        left class.Host k f = absurd (true≢false f)
        left class.Node k f = absurd (true≢false f)
        left class.Seat k f = absurd (true≢false f)
        left class.Registers k f = absurd (true≢false f)
        left class.Event k f = refl

    event_fields : at_event b s → event_wrong s.tree (event_in b s.offset) ≡ false
    event_fields e =
        when_not 13 (event_wrong s.tree (event_in b s.offset)) (λ q. omega (arith, q)) (rw e at (none_applies true b s z 2 (lit< tt)))

    event_seat : at_event b s → event_unknown s.grants (event_in b s.offset) ≡ false
    event_seat e =
        when_not 15 (event_unknown s.grants (event_in b s.offset)) (λ q. omega (arith, q)) (rw e at (none_applies true b s z 4 (lit< tt)))

module _ (b : List ℕ) where
  -- in front of record k there has been an event: from the first of them on all are
  record Since (k : ℕ) : Type 0 where
    place : ℕ
    begins : (before b place).offset ≡ (before b k).events
    some : (before b k).events ≡ 0 → ⊥
    events : (j : ℕ) → place ≤ j → j < k → at_event b (before b j)
    tree : (before b place).tree ≡ (before b k).tree
    grants : (before b place).grants ≡ (before b k).grants

  -- one record more
  module _ (k : ℕ) (z : record_fault true b (before b k) ≡ 0) where
    since_first : (before b k).events ≡ 0 → at_event b (before b k) → Since (suc k)
    unfolding before
    since_first n e =
        let s = before b k in
        let o : (taken b s).events ≡ s.offset = rw (eq-eqb s.events 0 n) at (events_since b s e) in
        record {
          place = k;
          begins = sym o;
          some = λ q. not_first b s z e (sym o ∙ q);
          events = λ j l h. let i : j ≡ k = omega arith in rw i e;
          tree = sym (tree_stays b s e);
          grants = sym (grants_stay b s e);
        }

    since_next : Since k → Since (suc k)
    unfolding before
    since_next p =
        let s = before b k in
        let e = after_events b s z p.some in
        let o : (taken b s).events ≡ s.events = rw (ne_eqb s.events 0 p.some) at (events_since b s e) in
        record {
          place = p.place;
          begins = p.begins ∙ sym o;
          some = λ q. p.some (sym o ∙ q);
          events = λ j l h.
              tested (eqb j k) (λ q. rw (eqb-true j k q) e) (λ q. p.events j l (omega (arith, eqb-false j k q)));
          tree = p.tree ∙ sym (tree_stays b s e);
          grants = p.grants ∙ sym (grants_stay b s e);
        }

    none_yet : (before b k).events ≡ 0 → ((before b (suc k)).events ≡ 0) ⊎ Since (suc k)
    unfolding before
    none_yet n =
        tested (is_a class.Event (class_in b (before b k).offset)) (λ e. inr (since_first n e))
        (λ e. inl (no_event_since b (before b k) e ∙ n))

  since : (k : ℕ) → ((j : ℕ) → j < k → record_fault true b (before b j) ≡ 0) → ((before b k).events ≡ 0) ⊎ Since k
  unfolding before
  since zero h = inl refl
  since (suc k) h =
      let z = h k (omega arith) in
      ⊎_elim (λ n. none_yet k z n) (λ p. inr (since_next k z p)) (since k (λ j i. h j (omega arith)))

module _ (b : List ℕ) (ok : (file_in b).refusal ≡ 0) where
  -- an offset at which the run of the file may stand: from that record on all are events, read with the whole rack and all its grants
  pub record OnEvents (o : ℕ) : Type 0 where
    pub place : ℕ
    pub here : (before b place).offset ≡ o
    pub tree : (before b place).tree ≡ (file_in b).tree
    pub grants : (before b place).grants ≡ (file_in b).grants
    pub events : (j : ℕ) → place ≤ j → Stands b j → is_a class.Event (class_in b (before b j).offset) ≡ true

  -- the end is one, and so is the first event
  pub start_on : OnEvents (file_in b).offset
  start_on =
      let e = ended b true ok in
      let k = e.count in
      let o : (file_in b).offset ≡ (before b k).events or (before b k).offset = ap (λ (d : Loading). d.offset) e.told in
      let t : (file_in b).tree ≡ (before b k).tree = ap (λ (d : Loading). d.tree) e.told in
      let g : (file_in b).grants ≡ (before b k).grants = ap (λ (d : Loading). d.grants) e.told in
      ⊎_elim
      (λ (n : (before b k).events ≡ 0).
      record {
        place = k;
        here = sym (rw (eq-eqb (before b k).events 0 n) at o);
        tree = sym t;
        grants = sym g;
        events = λ j l i. absurd (omega (arith, i, e.past, at_later true b k j l));
      })
      (λ (p : Since b k).
      record {
        place = p.place;
        here = p.begins ∙ sym (rw (ne_eqb (before b k).events 0 p.some) at o);
        tree = p.tree ∙ sym t;
        grants = p.grants ∙ sym g;
        events = λ j l i.
            tested (ltb j k) (λ q. p.events j l (ltb-true j k q))
            (λ q. absurd (omega (arith, i, e.past, at_later true b k j (ltb-false j k q))));
      })
      (since b k (λ j i. faultless true b ok j (e.stood j i)))

  module _ (o : ℕ) (p : OnEvents o) (i : o < length b) where
    stands : Stands b p.place
    stands = omega (arith, i, p.here)

    an_event : at_event b (before b p.place)
    an_event = p.events p.place (omega arith) stands

    -- the record after an event is one
    pub next_on : OnEvents (o + size_of (byte_in b o))
    unfolding before taken
    next_on =
        record {
          place = suc p.place;
          here = ap (λ n. n + size_of (byte_in b n)) p.here;
          tree = tree_stays b (before b p.place) an_event ∙ p.tree;
          grants = grants_stay b (before b p.place) an_event ∙ p.grants;
          events = λ j l h. p.events j (omega (arith, l)) h;
        }

    -- and an event is an accepted one
    pub event_right : (event_wrong (file_in b).tree (event_in b o) ≡ false) × (event_unknown (file_in b).grants (event_in b o) ≡ false)
    event_right =
        let s = before b p.place in
        let z = faultless true b ok p.place stands in
        rw (← p.tree, ← p.grants, ← p.here) (event_fields b s z an_event, event_seat b s z an_event)
