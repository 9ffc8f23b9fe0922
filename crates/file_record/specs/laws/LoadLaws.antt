-- A rack that is read is accepted and stores what its nodes say, its file has at most 65,536 bytes, its events begin within
-- the file, and its host memory is the first record's.
use Rattle.std.specs.Prelude.{◌≡◌, refl, Bool, true, false, not, ◌&&◌, cond, List, [], ◌∷◌, ℕ, ◌+◌, ◌≤◌, ◌<◌, ltb, eqb, length, ◌⊎◌}
use Rattle.std.proofs.Common.{arith, lit<}
use Rattle.std.proofs.Math.Logic.{inl, inr, ⊎_elim}
use borrow.Author.Tests.{not-false, ltb-true, ltb-false, eqb-true, eqb-false, eq-eqb, ne_eqb}
use Rattle.rack.specs.laws.Bools.{tested}
use Rattle.rack.specs.declared.Node.{Node}
use Rattle.rack.specs.declared.refusal.Refusal.{Refusal}
use Rattle.rack.specs.declared.refusal.Refusal.TheVariants.{TooLong, UnknownKind, CutShort, HostMisplaced, Misordered, TooManyNodes, BadParent, HighDevice, TakenDevice, BadRegion, BadField, BadSeatRecord, UnknownSeat, MisplacedRegisters, BadRegisters, HeldRegisters}
use Rattle.rack.specs.definitions.First.{◌when◌, ◌or◌, first}
use Rattle.rack.specs.definitions.Refused.{refusal_number}
use Rattle.rack.specs.definitions.Stored.{Stored}
use Rattle.rack.specs.definitions.Grow.{no_memory, memory_of, nodes_with, grown}
use Rattle.rack.specs.definitions.Refusal.{too_many, bad_parent, high_device, taken_device, bad_region, node_refusal, rack_refusal}
use Rattle.rack_laws.specs.laws.First.{at, list_none_given}
use Rattle.rack_laws.specs.laws.OnePass.{StoredBy, none_stored, grown_stored}
use Rattle.rack_laws.specs.laws.Stored.{by_stored}
use Rattle.rack_laws.specs.laws.Grown.{none_accepted, grown_accepted}
use Rattle.file_record.specs.declared.Class.{Class}
use Rattle.file_record.specs.declared.Class.TheVariants as class
use Rattle.file_record.specs.definitions.Number.{byte_in}
use Rattle.file_record.specs.definitions.Record.{size_of, class_in, is_a, is_known, cut_short, host_in, node_in, registers_in}
use Rattle.file_record.specs.definitions.Events.{event_in, event_wrong, event_unknown}
use Rattle.file_record.specs.laws.RecordLaws.{host_size}
use Rattle.file_record.specs.definitions.Load.{Reading, host_wrong, follows_later, shape_fault, node_fault, is_faulty, misplaced, unsound, record_held, record_faults, record_fault, taken, read_in, file_in, rack_alone}
use Rattle.file_record.specs.laws.Steps.{shape_ends, shape_host}
use Rattle.file_record.specs.laws.Turns.{read_over, read_empty, in_has}

-- a record without a fault
module _ (whole : Bool) (b : List ℕ) (s : Reading) where
  pub none_applies : record_fault whole b s ≡ 0 → (k : ℕ) → k < 8 → at (record_faults whole b s) k ≡ 0
  unfolding record_fault
  none_applies z = list_none_given (record_faults whole b s) z

  fault_node : record_fault whole b s ≡ 0 → is_a class.Node (class_in b s.offset) ≡ true → node_fault b s.offset s.tree ≡ 0
  fault_node z k = rw k at (none_applies z 1 (lit< tt))

  -- ends within the file, and leaves an accepted rack
  pub taken_inside : record_fault whole b s ≡ 0 → (taken b s).offset ≤ length b
  unfolding taken
  taken_inside z = shape_ends whole b (class_in b s.offset) s.offset s.registers s.events (none_applies z 0 (lit< tt))

  pub taken_accepted : rack_refusal s.tree ≡ 0 → record_fault whole b s ≡ 0 → rack_refusal (taken b s).tree ≡ 0
  unfolding taken node_fault
  taken_accepted ok z =
      tested (is_a class.Host (class_in b s.offset)) (λ h. rw h (none_accepted (host_in b s.offset)))
      (λ h.
      tested (is_a class.Node (class_in b s.offset)) (λ k. rw (h, k) (grown_accepted s.tree (node_in b s.offset) ok (fault_node z k)))
      (λ k. rw (h, k) ok))

  taken_stored : StoredBy s.tree → StoredBy (taken b s).tree
  unfolding taken
  taken_stored p =
      tested (is_a class.Host (class_in b s.offset)) (λ h. rw h (none_stored (host_in b s.offset)))
      (λ h.
      tested (is_a class.Node (class_in b s.offset)) (λ k. rw (h, k) (grown_stored s.tree (node_in b s.offset) p)) (λ k. rw (h, k) p))

  -- the first record is a host, and none after it is
  pub first_host : record_fault whole b s ≡ 0 → s.offset ≡ 0 → is_a class.Host (class_in b s.offset) ≡ true
  first_host z e =
      let h = shape_host whole b (class_in b s.offset) s.offset s.registers s.events (none_applies z 0 (lit< tt)) in
      not-false (is_a class.Host (class_in b s.offset)) (rw (eq-eqb s.offset 0 e) at h)

  later_host : record_fault whole b s ≡ 0 → (s.offset ≡ 0 → ⊥) → is_a class.Host (class_in b s.offset) ≡ false
  later_host z e =
      let h = shape_host whole b (class_in b s.offset) s.offset s.registers s.events (none_applies z 0 (lit< tt)) in
      rw (ne_eqb s.offset 0 e) at h

  -- so after it host memory is the first record's
  taken_host : (0 < s.offset → s.tree.host_memory ≡ memory_of (host_in b 0)) → record_fault whole b s ≡ 0
      → (taken b s).tree.host_memory ≡ memory_of (host_in b 0)
  unfolding taken grown
  taken_host p z =
      tested (eqb s.offset 0)
      (λ q. let e = eqb-true s.offset 0 q in rw (first_host z e, e))
      (λ q.
      let e = eqb-false s.offset 0 q in
      let h = p (omega (arith, e)) in
      tested (is_a class.Node (class_in b s.offset)) (λ k. rw (later_host z e, k) h) (λ k. rw (later_host z e, k) h))

  -- and the next record begins at 17 or later
  taken_behind : (s.offset ≡ 0) ⊎ (17 ≤ s.offset) → record_fault whole b s ≡ 0 → 17 ≤ (taken b s).offset
  unfolding taken
  taken_behind p z =
      ⊎_elim (λ e. omega (arith, host_size (byte_in b s.offset) (first_host z e))) (λ h. omega arith) p

-- a reading within the file: the first record begins at 0, all others and the events after the host
record Within (b : List ℕ) (s : Reading) : Type 0 where
  inside : s.offset ≤ length b
  here : (s.offset ≡ 0) ⊎ (17 ≤ s.offset)
  events : (s.events ≡ 0) ⊎ ((17 ≤ s.events) × (s.events ≤ s.offset))

module _ (whole : Bool) (b : List ℕ) (s : Reading) (p : Within b s) (z : record_fault whole b s ≡ 0) where
  events_within : ((taken b s).events ≡ 0) ⊎ ((17 ≤ (taken b s).events) × ((taken b s).events ≤ (taken b s).offset))
  unfolding taken
  events_within =
      ⊎_elim
      (λ e.
      tested (is_a class.Event (class_in b s.offset))
      (λ k. rw (k, eq-eqb s.events 0 e) (⊎_elim (λ o. inl o) (λ o. inr (o, omega arith)) p.here))
      (λ k. rw k (inl e)))
      (λ e.
      let n : s.events ≡ 0 → ⊥ = λ q. omega (arith, e.0) in
      let l : s.events ≤ s.offset + size_of (byte_in b s.offset) = omega (arith, e.1) in
      tested (is_a class.Event (class_in b s.offset)) (λ k. rw (k, ne_eqb s.events 0 n) (inr (e.0, l))) (λ k. rw k (inr (e.0, l))))
      p.events

  taken_within : Within b (taken b s)
  taken_within =
      record { inside = taken_inside whole b s z; here = inr (taken_behind whole b s p.here z); events = events_within }

-- records of each class begin within what has been read
pub or_most : (n m : ℕ) {k : ℕ} → n ≤ k → m ≤ k → n or m ≤ k
or_most n m h l = tested (eqb n 0) (λ q. rw q l) (λ q. rw q h)

pub record Begun (b : List ℕ) (s : Reading) : Type 0 where
  pub inside : s.offset ≤ length b
  pub registers : s.registers ≤ s.offset
  pub events : s.events ≤ s.offset

pub taken_begun : (whole : Bool) (b : List ℕ) (s : Reading) → Begun b s → record_fault whole b s ≡ 0 → Begun b (taken b s)
unfolding taken
taken_begun whole b s p z =
    record {
      inside = taken_inside whole b s z;
      registers = later s.registers (is_a class.Registers (class_in b s.offset)) p.registers;
      events = later s.events (is_a class.Event (class_in b s.offset)) p.events;
    }
  where
    later : (n : ℕ) (is : Bool) → n ≤ s.offset → cond is (n or s.offset) n ≤ s.offset + size_of (byte_in b s.offset)
    later n true h = or_most n s.offset (omega arith) (omega arith)
    later n false h = omega arith

module _ (whole : Bool) (b : List ℕ) where
  -- what is read begins its register records and its events within the file
  pub read_begun : (read_in whole b).refusal ≡ 0 → ((read_in whole b).registers ≤ length b) × ((read_in whole b).offset ≤ length b)
  read_begun =
      in_has whole b (Begun b) (λ d. d.refusal ≡ 0 → (d.registers ≤ length b) × (d.offset ≤ length b))
      (λ s p i z. taken_begun whole b s p z) (λ s p e q. ended s p) (λ s p i z q. absurd (z q))
      (λ h e. record { inside = omega arith; registers = omega arith; events = omega arith }) (λ h q. absurd (omega (arith, q)))
      (λ e q. absurd (omega (arith, q)))
    where
      ended : (s : Reading) → Begun b s → (s.registers or s.events or s.offset ≤ length b) × (s.events or s.offset ≤ length b)
      ended s p =
          let r : s.registers ≤ length b = omega (arith, p.registers, p.inside) in
          let e : s.events ≤ length b = omega (arith, p.events, p.inside) in
          let o = or_most s.events s.offset e p.inside in
          (or_most s.registers (s.events or s.offset) r o, o)

  pub read_accepted : (read_in whole b).refusal ≡ 0 → rack_refusal (read_in whole b).tree ≡ 0
  read_accepted =
      in_has whole b (λ s. rack_refusal s.tree ≡ 0) (λ d. d.refusal ≡ 0 → rack_refusal d.tree ≡ 0)
      (λ s p i z. taken_accepted whole b s p z) (λ s p e q. p) (λ s p i z q. absurd (z q))
      (λ h e. none_accepted no_memory) (λ h q. none_accepted no_memory) (λ e q. none_accepted no_memory)

  pub read_stored : (read_in whole b).refusal ≡ 0 → Stored (read_in whole b).tree
  read_stored z = by_stored (read_in whole b).tree (stored z) (read_accepted z)
    where
      stored : (read_in whole b).refusal ≡ 0 → StoredBy (read_in whole b).tree
      stored =
          in_has whole b (λ s. StoredBy s.tree) (λ d. d.refusal ≡ 0 → StoredBy d.tree)
          (λ s p i z. taken_stored whole b s p) (λ s p e q. p) (λ s p i z q. absurd (z q))
          (λ h e. none_stored no_memory) (λ h q. none_stored no_memory) (λ e q. none_stored no_memory)

  -- a file that is read has 1 to 65,536 bytes
  pub read_long : (read_in whole b).refusal ≡ 0 → length b ≤ 65536
  read_long z =
      tested (ltb 65536 (length b))
      (λ q.
      let e : ◌≡◌ {A = ℕ} 1 0 = rw (read_over whole b (ltb-true 65536 (length b) q)) at z in
      absurd (omega arith))
      (λ q. ltb-false 65536 (length b) q)

  pub read_some : (read_in whole b).refusal ≡ 0 → length b ≡ 0 → ⊥
  read_some z h = let e : ◌≡◌ {A = ℕ} 4 0 = rw (read_empty whole b h) at z in omega arith

  -- and a refusal stands within the longest file
  pub read_offset : (read_in whole b).offset ≤ 65536
  read_offset =
      in_has whole b (λ s. Within b s × (length b ≤ 65536)) (λ d. d.offset ≤ 65536)
      (λ s p i f. (taken_within whole b s p.0 f, p.1)) (λ s p e. ended s p.0 p.1) (λ s p i f. omega (arith, p.1))
      (λ h e. (record { inside = omega arith; here = inl refl; events = inl refl }, h)) (λ h. omega arith) (λ e. omega arith)
    where
      ended : (s : Reading) → Within b s → length b ≤ 65536 → s.events or s.offset ≤ 65536
      ended s p h =
          ⊎_elim (λ o. rw (eq-eqb s.events 0 o) (omega (arith, p.inside)))
          (λ o. rw (ne_eqb s.events 0 (λ q. omega (arith, o.0))) (omega (arith, o.1, p.inside))) p.events

  -- its host memory is the first record's
  pub read_host : (read_in whole b).refusal ≡ 0 → (read_in whole b).tree.host_memory ≡ memory_of (host_in b 0)
  read_host z =
      in_has whole b (λ s. (0 < s.offset → s.tree.host_memory ≡ memory_of (host_in b 0)) × (length b ≡ 0 → ⊥))
      (λ d. (length b ≡ 0 → ⊥) → d.refusal ≡ 0 → d.tree.host_memory ≡ memory_of (host_in b 0))
      (λ s p i f. (λ h. taken_host whole b s p.0 f, p.1)) (λ s p e n q. p.0 (omega (arith, n))) (λ s p i f n q. absurd (f q))
      (λ h e. (λ q. absurd (omega arith), e)) (λ h n q. absurd (omega (arith, q))) (λ e n. absurd (n e)) (read_some z) z

-- what refuses a file is one of the refusals
Named : ℕ → Type 0
Named n = (n ≡ 0) ⊎ ((r : Refusal) × (refusal_number r ≡ n))

named_if : (r : Refusal) (x : Bool) → Named (refusal_number r when x)
unfolding Named
named_if r true = inr (r, refl)
named_if r false = inl refl

named_when : (n : ℕ) (x : Bool) → Named n → Named (n when x)
unfolding Named
named_when n true h = h
named_when n false h = inl refl

named_none : Named (first [])
unfolding Named first
named_none = inl refl

named_first : (n : ℕ) (ns : List ℕ) → Named n → Named (first ns) → Named (first (n ∷ ns))
unfolding first
named_first n ns h l = tested (eqb n 0) (λ q. rw q l) (λ q. rw q h)

named_node : (node : ℕ → Node) (i : ℕ) → Named (node_refusal node i)
unfolding node_refusal
named_node node i =
    named_first _ _ (named_if TooManyNodes (too_many node i))
    (named_first _ _ (named_if BadParent (bad_parent node i))
    (named_first _ _ (named_if HighDevice (high_device node i))
    (named_first _ _ (named_if TakenDevice (taken_device node i))
    (named_first _ _ (named_if BadRegion (bad_region node i)) named_none))))

module _ (whole : Bool) (b : List ℕ) where
  named_shape : (c : Class) (o registers events : ℕ) → Named (shape_fault whole b c o registers events)
  unfolding shape_fault
  named_shape c o registers events =
      named_first _ _ (named_if UnknownKind (not (is_known whole c)))
      (named_first _ _ (named_if CutShort (cut_short b o))
      (named_first _ _ (named_if HostMisplaced (host_wrong c o))
      (named_first _ _ (named_if Misordered (follows_later c registers events)) named_none)))

  named_fault : (s : Reading) → Named (record_fault whole b s)
  unfolding record_fault node_fault
  named_fault s =
      let is : Class → Bool = λ k. is_a k (class_in b s.offset) in
      named_first _ _ (named_shape (class_in b s.offset) s.offset s.registers s.events)
      (named_first _ _ (named_when _ (is class.Node) (named_node (nodes_with s.tree (node_in b s.offset)) s.tree.count))
      (named_first _ _ (named_when _ (is class.Event) (named_if BadField (event_wrong s.tree (event_in b s.offset))))
      (named_first _ _ (named_when _ (whole && is class.Seat) (named_if BadSeatRecord (is_faulty b s.offset s.tree s.grants)))
      (named_first _ _ (named_when _ (is class.Event) (named_if UnknownSeat (event_unknown s.grants (event_in b s.offset))))
      (named_first _ _ (named_when _ (is class.Registers) (named_if MisplacedRegisters (misplaced b s.offset s.tree s.least)))
      (named_first _ _
      (named_when _ (is class.Registers)
      (named_if BadRegisters (unsound (s.tree.node (byte_in b (s.offset + 1))) (registers_in b s.offset))))
      (named_first _ _
      (named_when _ (is class.Registers)
      (named_if HeldRegisters (record_held b s.offset s.tree (s.registers or s.offset))))
      named_none)))))))

  read_named : Named (read_in whole b).refusal
  unfolding Named
  read_named =
      in_has whole b (λ s. Unit {0}) (λ d. Named d.refusal) (λ s p i z. tt) (λ s p e. inl refl) (λ s p i z. named_fault s) (λ h e. tt)
      (λ h. inr (TooLong, refl)) (λ e. inr (HostMisplaced, refl))

-- the same of a whole file, and of the rack bytes of a C call
module _ (b : List ℕ) where
  pub alone_accepted : (rack_alone b).refusal ≡ 0 → rack_refusal (rack_alone b).tree ≡ 0
  alone_accepted = read_accepted false b

  pub alone_stored : (rack_alone b).refusal ≡ 0 → Stored (rack_alone b).tree
  alone_stored = read_stored false b

  pub file_accepted : (file_in b).refusal ≡ 0 → rack_refusal (file_in b).tree ≡ 0
  file_accepted = read_accepted true b

  pub file_stored : (file_in b).refusal ≡ 0 → Stored (file_in b).tree
  file_stored = read_stored true b

  pub file_long : (file_in b).refusal ≡ 0 → length b ≤ 65536
  file_long = read_long true b

  -- its register records and its events begin within it
  pub file_begun : (file_in b).refusal ≡ 0 → ((file_in b).registers ≤ length b) × ((file_in b).offset ≤ length b)
  file_begun = read_begun true b

  -- the offset of a refusal, and the offset at which an accepted file's events begin
  pub file_offset : (file_in b).offset ≤ 65536
  file_offset = read_offset true b

  -- and what refuses it
  pub file_named : ((file_in b).refusal ≡ 0 → ⊥) → (r : Refusal) × (refusal_number r ≡ (file_in b).refusal)
  unfolding Named
  file_named z = ⊎_elim (λ e. absurd (z e)) (λ h. h) (read_named true b)
