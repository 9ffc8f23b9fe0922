-- A rack that is read can be said by a file: that of a whole file, and that of the rack bytes of a C call where its grants are right.
use Rattle.std.specs.Prelude.{◌≡◌, refl, Bool, true, false, ◌&&◌, List, ℕ, ◌≤◌, ◌<◌, eqb}
use Rattle.std.proofs.Common.{sym, ◌∙◌, true≢false, arith, lit<, eqb-true}
use Rattle.std.proofs.lemmas.Bool.{false≢true}
use Rattle.rack.specs.definitions.Grow.{no_memory, no_tree, grown}
use Rattle.rack.specs.laws.Bools.{tested, both}
use Rattle.seat.specs.declared.SeatRecord.{SeatRecord}
use Rattle.seat.specs.definitions.Grants.{Grants, no_grant, no_grants, seat_wrong, seated}
use Rattle.seat.specs.laws.Writing.{sound_pair}
use Rattle.register_image.specs.definitions.Image.{Images}
use Rattle.bus_reset.specs.definitions.Agreement.{image_refusal}
use Rattle.file_record.specs.declared.Class.TheVariants as class
use Rattle.file_record.specs.definitions.Record.{class_in, is_a, host_in, node_in, seat_in}
use Rattle.file_record.specs.definitions.Load.{Reading, at_start, record_fault, taken, Loading, read_in, file_in, rack_alone}
use Rattle.file_record.specs.laws.Steps.{is_a_lem, shape_host}
use Rattle.file_record.specs.laws.Turns.{taken_later, in_has}
use Rattle.file_laws.specs.laws.Seats.{file_right}
use Rattle.file_record.specs.laws.LoadLaws.{none_applies, alone_accepted, file_accepted}
use Rattle.save_laws.specs.definitions.Said.{SaidTree, SaidGrants, Savable}
use Rattle.save_laws.specs.laws.Trees.{none_said, grown_said}

-- the pairs that are named are those of a seat and a node of the rack, and the others have no mask
record Pairs (count : ℕ) (g : Grants) : Type 0 where
  named : (seat node : ℕ) → (g.grant seat node).named ≡ true → (1 ≤ seat) × (seat ≤ 15) × (node < count)
  unnamed : (seat node : ℕ) → (g.grant seat node).named ≡ false → g.grant seat node ≡ no_grant

none_pairs : (count : ℕ) → Pairs count no_grants
none_pairs count = record { named = λ seat node q. absurd (false≢true q); unnamed = λ seat node q. refl }

more_pairs : {count n : ℕ} {g : Grants} → count ≤ n → Pairs count g → Pairs n g
more_pairs l p =
    record {
      named = λ seat node q. let r = p.named seat node q in (r.0, r.1, omega (arith, r.2));
      unnamed = p.unnamed;
    }

seated_pairs : (count : ℕ) (g : Grants) (r : SeatRecord) → Pairs count g → Pairs count (seated count g r)
unfolding seated
seated_pairs count g r p =
    tested (seat_wrong count g r) (λ q. rw q (record { named = p.named; unnamed = p.unnamed }))
    (λ q.
    rw q
    (record {
      named = λ seat node w.
          tested (eqb seat r.seat && eqb node r.node)
          (λ e.
          let own = both (eqb seat r.seat) (eqb node r.node) e in
          let s = sound_pair count g r q in
          rw (eqb-true seat r.seat own.0, eqb-true node r.node own.1) (s.1, s.2, s.0))
          (λ e. p.named seat node (rw e at w));
      unnamed = λ seat node w.
          tested (eqb seat r.seat && eqb node r.node) (λ e. absurd (true≢false (rw e at w)))
          (λ e. rw e (p.unnamed seat node (rw e at w)));
    }))

-- a reading, whose grants are none before the first record
record Saying (s : Reading) : Type 0 where
  tree : SaidTree s.tree
  pairs : Pairs s.tree.count s.grants
  none : s.offset ≡ 0 → s.grants ≡ no_grants

-- a host stands at the start
pub host_first : (whole : Bool) (b : List ℕ) (s : Reading) → record_fault whole b s ≡ 0 → is_a class.Host (class_in b s.offset) ≡ true
    → s.offset ≡ 0
host_first whole b s z k =
    let h = shape_host whole b (class_in b s.offset) s.offset s.registers s.events (none_applies whole b s z 0 (lit< tt)) in
    tested (eqb s.offset 0) (λ q. eqb-true s.offset 0 q) (λ q. absurd (true≢false (sym k ∙ (rw q at h))))

module _ (whole : Bool) (b : List ℕ) (s : Reading) (p : Saying s) (z : record_fault whole b s ≡ 0) where
  taken_tree : SaidTree (taken b s).tree
  unfolding taken
  taken_tree =
      tested (is_a class.Host (class_in b s.offset)) (λ k. rw k (none_said (host_in b s.offset)))
      (λ k.
      tested (is_a class.Node (class_in b s.offset)) (λ n. rw (k, n) (grown_said s.tree (node_in b s.offset) p.tree))
      (λ n. rw (k, n) p.tree))

  taken_pairs : Pairs (taken b s).tree.count (taken b s).grants
  unfolding taken grown
  taken_pairs =
      tested (is_a class.Host (class_in b s.offset))
      (λ k.
      let g = p.none (host_first whole b s z k) in
      rw (is_a_lem class.Host (class_in b s.offset) k, g) (none_pairs 0))
      (λ k.
      tested (is_a class.Node (class_in b s.offset))
      (λ n. rw (is_a_lem class.Node (class_in b s.offset) n) (more_pairs (omega arith) p.pairs))
      (λ n.
      tested (is_a class.Seat (class_in b s.offset))
      (λ w. rw (is_a_lem class.Seat (class_in b s.offset) w) (seated_pairs s.tree.count s.grants (seat_in b s.offset) p.pairs))
      (λ w. rw (k, n, w) p.pairs)))

  taken_saying : Saying (taken b s)
  taken_saying = record { tree = taken_tree; pairs = taken_pairs; none = λ e. absurd (omega (arith, taken_later whole b s)) }

start_saying : Saying at_start
start_saying = record { tree = none_said no_memory; pairs = none_pairs 0; none = λ e. refl }

module _ (whole : Bool) (b : List ℕ) where
  record Says (d : Loading) : Type 0 where
    tree : SaidTree d.tree
    pairs : Pairs d.tree.count d.grants

  read_says : Says (read_in whole b)
  read_says =
      in_has whole b Saying Says (λ s p i z. taken_saying whole b s p z) (λ s p i. record { tree = p.tree; pairs = p.pairs })
      (λ s p i z. none) (λ l e. start_saying) (λ l. none) (λ e. none)
    where
      none : {n o : ℕ} → Says (record { refusal = n; offset = o; registers = 0; tree = no_tree no_memory; grants = no_grants })
      none = record { tree = none_said no_memory; pairs = none_pairs 0 }

  pub read_tree : SaidTree (read_in whole b).tree
  read_tree = read_says.tree

  pub read_grants : (read_in whole b).grants.wrong ≡ false → SaidGrants (read_in whole b).tree.count (read_in whole b).grants
  read_grants w =
      record { right = w; named = read_says.pairs.named; unnamed = read_says.pairs.unnamed }

module _ (b : List ℕ) where
  -- the rack of a whole file, and that of a C call
  pub file_tree : SaidTree (file_in b).tree
  file_tree = read_tree true b

  pub file_grants : (file_in b).refusal ≡ 0 → SaidGrants (file_in b).tree.count (file_in b).grants
  file_grants ok = read_grants true b (file_right b ok)

  pub alone_tree : SaidTree (rack_alone b).tree
  alone_tree = read_tree false b

  pub alone_grants : (rack_alone b).grants.wrong ≡ false → SaidGrants (rack_alone b).tree.count (rack_alone b).grants
  alone_grants = read_grants false b

  -- so both can be saved
  pub file_savable : (im : Images) → (file_in b).refusal ≡ 0 → image_refusal (file_in b).tree im ≡ 0
      → Savable (file_in b).tree (file_in b).grants im
  file_savable im ok p = record { accepted = file_accepted b ok; tree = file_tree; grants = file_grants ok; images = p }

  pub alone_savable : (im : Images) → (rack_alone b).refusal ≡ 0 → (rack_alone b).grants.wrong ≡ false
      → image_refusal (rack_alone b).tree im ≡ 0
      → Savable (rack_alone b).tree (rack_alone b).grants im
  alone_savable im ok w p = record { accepted = alone_accepted b ok; tree = alone_tree; grants = alone_grants w; images = p }
