-- Rack bytes with the same records have the same tree and the same grants, and so the same saved file; and the converse.
use Rattle.std.specs.Prelude.{◌≡◌, true, false, List, ℕ, ltb, length, get_or}
use Rattle.std.proofs.Common.{sym, ap, ◌∙◌, subst, true≢false, arith, ltb-true, ltb-false}
use Rattle.std.proofs.lemmas.Bool.{false≢true}
use Rattle.rack.specs.declared.Grant.{Grant}
use Rattle.rack.specs.declared.Node.{Node}
use Rattle.rack.specs.definitions.Node.{no_node}
use Rattle.rack.specs.definitions.Tree.{Tree}
use Rattle.rack.specs.laws.Bools.{tested}
use Rattle.seat.specs.declared.SeatRecord.{SeatRecord}
use Rattle.seat.specs.definitions.Grants.{Grants}
use Rattle.seat.specs.laws.Stored.{grants_same}
use Rattle.file_record.specs.definitions.Record.{host_in}
use Rattle.file_record.specs.definitions.Load.{is_faulty, rack_alone}
use Rattle.file_record.specs.laws.LoadLaws.{read_host}
use Rattle.file_laws.specs.definitions.Records.{before}
use Rattle.file_laws.specs.laws.Seats.{is_noted}
use Rattle.file_laws.specs.laws.Named.{read_named, read_names}
use Rattle.save_laws.specs.definitions.RackBytes.{HasSeat, SameRecords}
use Rattle.save_laws.specs.laws.Trees.{stored_same}
use Rattle.save_laws.specs.laws.Loaded.{alone_tree, alone_grants}
use Rattle.save_laws.specs.laws.Content.{memory_from, memory_to}
use Rattle.save_laws.specs.laws.NodeList.{records_count, record_node, tree_records}

-- accepted rack bytes none of whose seat records is faulty: what a seat record says is granted, and nothing else
module _ (b : List ℕ) (ok : (rack_alone b).refusal ≡ 0) (right : (rack_alone b).grants.wrong ≡ false) where
  has_granted : (r : SeatRecord) → HasSeat b r
      → (rack_alone b).grants.grant r.seat r.node ≡ record { named = true; mask = r.mask }
  has_granted r h =
      let s = before b h.place in
      read_names false b ok h.place r.seat r.node r.mask
      (record {
        is_seat_lem = h.is_seat_lem;
        sound =
            tested (is_faulty b s.offset s.tree s.grants)
            (λ q. absurd (true≢false (sym (is_noted b false ok h.place h.stands (h.is_seat_lem, q)) ∙ right))) (λ q. q);
        says = h.says;
      })

  granted_has : (seat node : ℕ) → ((rack_alone b).grants.grant seat node).named ≡ true
      → HasSeat b (record { seat = seat; node = node; mask = ((rack_alone b).grants.grant seat node).mask })
  granted_has seat node q =
      let n = read_named false b ok seat node q in
      record { place = n.0; stands = n.1; is_seat_lem = n.2.is_seat_lem; says = n.2.says }

-- a seat record of bytes that grant no less than others
module _ (b c : List ℕ) (ok : (rack_alone b).refusal ≡ 0) (fine : (rack_alone c).refusal ≡ 0)
    (right : (rack_alone b).grants.wrong ≡ false) where
  has_also : (rack_alone b).grants ≡ (rack_alone c).grants → (r : SeatRecord) → HasSeat b r → HasSeat c r
  has_also e r h =
      let g : (rack_alone c).grants.grant r.seat r.node ≡ record { named = true; mask = r.mask } =
      ap (λ (x : Grants). x.grant r.seat r.node) (sym e) ∙ has_granted b ok right r h in
      let w : (rack_alone c).grants.wrong ≡ false = ap (λ (x : Grants). x.wrong) (sym e) ∙ right in
      subst (λ (m : ℕ). HasSeat c (record { seat = r.seat; node = r.node; mask = m })) (ap (λ (x : Grant). x.mask) g)
      (granted_has c fine w r.seat r.node (ap (λ (x : Grant). x.named) g))

module _ (b c : List ℕ) (ok : (rack_alone b).refusal ≡ 0) (fine : (rack_alone c).refusal ≡ 0)
    (right : (rack_alone b).grants.wrong ≡ false) (sound : (rack_alone c).grants.wrong ≡ false) where
  pub records_tree : SameRecords b c → (rack_alone b).tree ≡ (rack_alone c).tree
  records_tree s =
      let n : (rack_alone b).tree.count ≡ (rack_alone c).tree.count =
      sym (records_count false b ok) ∙ ap length s.nodes ∙ records_count false c fine in
      stored_same (alone_tree b).stored (alone_tree c).stored n
      (read_host false b ok ∙ memory_from (host_in b 0) (host_in c 0) s.memory ∙ sym (read_host false c fine))
      (λ i.
      tested (ltb i (rack_alone b).tree.count)
      (λ q.
      let l = ltb-true i (rack_alone b).tree.count q in
      sym (record_node false b ok i l) ∙ ap (λ (ns : List Node). get_or ns i no_node) s.nodes
      ∙ record_node false c fine i (omega (arith, n)))
      (λ q.
      let l = ltb-false i (rack_alone b).tree.count q in
      (alone_tree b).none i l ∙ sym ((alone_tree c).none i (omega (arith, n)))))

  pub records_grants : SameRecords b c → (rack_alone b).grants ≡ (rack_alone c).grants
  records_grants s = grants_same same (right ∙ sym sound)
    where
      same : (seat node : ℕ) → (rack_alone b).grants.grant seat node ≡ (rack_alone c).grants.grant seat node
      same seat node =
          tested ((rack_alone b).grants.grant seat node).named
          (λ q.
          let h = granted_has b ok right seat node q in
          has_granted b ok right _ h ∙ sym (has_granted c fine sound _ (s.seats _ h)))
          (λ q.
          tested ((rack_alone c).grants.grant seat node).named
          (λ w.
          let h = has_granted b ok right _ (s.no_others _ (granted_has c fine sound seat node w)) in
          absurd (false≢true (sym q ∙ ap (λ (x : Grant). x.named) h)))
          (λ w. (alone_grants b right).unnamed seat node q ∙ sym ((alone_grants c sound).unnamed seat node w)))

  -- and the converse of both
  pub same_records : (rack_alone b).tree ≡ (rack_alone c).tree → (rack_alone b).grants ≡ (rack_alone c).grants → SameRecords b c
  same_records t g =
      record {
        memory =
            memory_to (host_in b 0) (host_in c 0)
            (sym (read_host false b ok) ∙ ap (λ (u : Tree). u.host_memory) t ∙ read_host false c fine);
        nodes = tree_records false b c ok fine t;
        seats = has_also b c ok fine right g;
        no_others = has_also c b fine ok sound (sym g);
      }
