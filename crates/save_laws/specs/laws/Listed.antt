-- A saved file has exactly the seat records of the pairs that are named, by seat and then by node, and exactly the register records of the
-- nodes that differ from reset, by node.
use Rattle.std.specs.Prelude.{◌≡◌, Bool, true, false, cond}
use Rattle.std.proofs.Math.Path.{refl, ap, subst}
use Rattle.std.proofs.Common.{sym, ◌∙◌, le-leb}
use mathlib.Core.List.{List, [], ◌∷◌, ◌++◌, append_assoc, append-nil}
use Prim.Native.Nat.{ℕ, zero, suc, ◌+◌, ◌≤◌, ◌<◌}
use native.Mathlib.Omega.{arith}
use Rattle.std.proofs.Math.ListN.{length, length-append}
use Rattle.std.proofs.lemmas.Bool.{lt-leb}
use Rattle.rack.specs.definitions.Tree.{Tree}
use Rattle.rack.specs.laws.Bools.{tested}
use Rattle.seat.specs.declared.SeatRecord.{SeatRecord}
use Rattle.seat.specs.definitions.Grants.{Grants}
use Rattle.register_image.specs.definitions.Image.{Images, view}
use Rattle.register_laws.specs.laws.Accepted.{accepted}
use Rattle.register_laws.specs.laws.Images.{view_length}
use Rattle.file_record.specs.declared.Class.TheVariants as class
use Rattle.file_record.specs.definitions.Number.{byte_in}
use Rattle.file_record.specs.definitions.Record.{form_of, size_of, class_in, is_a, seat_in}
use Rattle.file_save.specs.definitions.Saved.{host_bytes, node_bytes, nodes_of, grant_bytes, seat_bytes, seat_of, seats_of, view_bytes, register_bytes, registers_of, each, saved_file}
use Rattle.save_laws.specs.definitions.Said.{Savable}
use Rattle.save_laws.specs.definitions.After.{is_saved, registers_at}
use Rattle.save_laws.specs.definitions.Listed.{each_record, only, seat_records, register_nodes, granted, named_pairs, changed_nodes}
use Rattle.save_laws.specs.laws.Here.{Here, here_byte, here_kind, here_past, here_word, word_read}
use Rattle.save_laws.specs.laws.Records.{node_class, node_size, within}
use Rattle.save_laws.specs.laws.ReadBack.{host_here, nodes_here, seats_here, registers_here, start_is, end_is, savable_stored}

module _ {A : Type 0} where
  none : (b : Bool) → ◌≡◌ {A = List A} (cond b [] []) []
  none true = refl
  none false = refl

  -- nothing of each number is nothing
  each_none : (f : ℕ → List A) → ((i : ℕ) → f i ≡ []) → (i left : ℕ) → each f i left ≡ []
  unfolding each
  each_none f z i zero = refl
  each_none f z i (suc left) = rw (z i) (each_none f z (i + 1) left)

  module _ (b : List ℕ) (f : ℕ → List A) where
    -- with enough turns left, there is x of the records from o up to p
    record Onward (left o : ℕ) (x : List A) (p : ℕ) : Type 0 where
      more : ℕ
      enough : length b ≤ p + more
      same : each_record f left b o ≡ x ++ each_record f more b p

    abbrev Lists : ℕ → List A → ℕ → Type 0
    Lists o x p = (left : ℕ) → length b ≤ o + left → Onward left o x p

    lists_none : {o p : ℕ} → o ≡ p → Lists o [] p
    lists_none {o} e = subst (Lists o []) e (λ left n. record { more = left; enough = n; same = refl })

    lists_on : {o p q : ℕ} {x y : List A} → Lists o x p → Lists p y q → Lists o (x ++ y) q
    lists_on {o} {p} {q} {x} {y} u v left n =
        let j = u left n in
        let k = v j.more j.enough in
        record {
          more = k.more;
          enough = k.enough;
          same = j.same ∙ ap (λ (l : List A). x ++ l) k.same ∙ sym (append_assoc x y (each_record f k.more b q));
        }

    -- one record
    lists_one : {o p : ℕ} {x : List A} → o < length b → o + size_of (byte_in b o) ≡ p → f o ≡ x → Lists o x p
    unfolding each_record
    lists_one {o} {p} {x} l e z zero n = absurd (omega arith)
    lists_one {o} {p} {x} l e z (suc left) n =
        record { more = left; enough = omega arith; same = rw (lt-leb (length b) o l, e, z) }

    -- the records of each number below n
    lists_each : (h : ℕ → List ℕ) (out : ℕ → List A) (n : ℕ)
        → ((o i : ℕ) (y : List ℕ) → i < n → Here b o (h i ++ y) → Lists o (out i) (o + length (h i)))
        → (o i left : ℕ) (y : List ℕ) → i + left ≡ n → Here b o (each h i left ++ y)
        → Lists o (each out i left) (o + length (each h i left))
    unfolding each
    lists_each h out n step o i zero y e p = let o' : o ≡ o + 0 = omega arith in lists_none o'
    lists_each h out n step o i (suc left) y e p =
        let rest = each h (i + 1) left in
        let p' : Here b o (h i ++ (rest ++ y)) = subst (Here b o) (append_assoc (h i) rest y) p in
        let o' : o + length (h i) + length rest ≡ o + length (h i ++ rest) = omega (arith, length-append (h i) rest) in
        lists_on (step o i (rest ++ y) (omega arith) p')
        (subst (Lists (o + length (h i)) (each out (i + 1) left)) o'
        (lists_each h out n step (o + length (h i)) (i + 1) left y (omega arith) (here_past b o (h i) (rest ++ y) p')))

    -- what there is of each class of records
    record Told (s : SeatRecord → List A) (r : ℕ → List A) : Type 0 where
      host : (o : ℕ) → class_in b o ≡ class.Host → f o ≡ []
      node : (o : ℕ) → class_in b o ≡ class.Node → f o ≡ []
      seat : (o : ℕ) → class_in b o ≡ class.Seat → f o ≡ s (seat_in b o)
      registers : (o : ℕ) → class_in b o ≡ class.Registers → f o ≡ r (byte_in b (o + 1))

    module _ (s : SeatRecord → List A) (r : ℕ → List A) (told : Told s r) (t : Tree) (g : Grants) (im : Images) where
      -- a seat record and a register record
      seat_one : (seat node mask o : ℕ) (y : List ℕ) → Here b o (grant_bytes seat node mask ++ y)
          → Lists o (s (record { seat = seat; node = node; mask = mask })) (o + 5)
      unfolding form_of
      seat_one seat node mask o y p =
          let x = grant_bytes seat node mask ++ y in
          let k : byte_in b o ≡ 9 = here_kind b o x p in
          let c : class_in b o ≡ class.Seat = ap (λ (n : ℕ). (form_of n).class) k in
          let e : seat_in b o ≡ record { seat = seat; node = node; mask = mask } =
          rw (here_byte b o x p 1, here_byte b o x p 2, here_word b o x p 3, word_read mask) in
          lists_one (omega (arith, within b o (grant_bytes seat node mask) y p)) (ap (λ (n : ℕ). o + size_of n) k) (told.seat o c ∙ ap s e)

      register_one : (i o : ℕ) (part y : List ℕ) → length part ≡ 64 → Here b o (view_bytes i part ++ y)
          → Lists o (r i) (o + length (view_bytes i part))
      unfolding form_of
      register_one i o part y long p =
          let x = view_bytes i part ++ y in
          let k : byte_in b o ≡ 11 = here_kind b o x p in
          let c : class_in b o ≡ class.Registers = ap (λ (n : ℕ). (form_of n).class) k in
          let z : size_of (byte_in b o) ≡ length (view_bytes i part) = ap (λ (n : ℕ). size_of n) k ∙ omega arith in
          lists_one (omega (arith, within b o (view_bytes i part) y p)) (ap (λ (n : ℕ). o + n) z)
          (told.registers o c ∙ ap r (here_byte b o x p 1))

      -- of a pair, a node's registers and a node
      pair_lists : (seat node o : ℕ) (y : List ℕ) → Here b o (seat_bytes g seat node ++ y)
          → Lists o (cond (g.grant seat node).named (s (granted g seat node)) []) (o + length (seat_bytes g seat node))
      unfolding seat_bytes
      pair_lists seat node o y h =
          tested (g.grant seat node).named (λ q. rw q (seat_one seat node (g.grant seat node).mask o y (rw q at h)))
          (λ q. let o' : o ≡ o + 0 = omega arith in rw q (lists_none o'))

      register_lists : (i o : ℕ) (y : List ℕ) → length (view t im i) ≡ 64 → Here b o (register_bytes t im i ++ y)
          → Lists o (cond (is_saved t im i) (r i) []) (o + length (register_bytes t im i))
      unfolding register_bytes
      register_lists i o y long h =
          tested (is_saved t im i) (λ q. rw q (register_one i o (view t im i) y long (rw q at h)))
          (λ q. let o' : o ≡ o + 0 = omega arith in rw q (lists_none o'))

      node_lists : (i o : ℕ) (y : List ℕ) → Here b o (node_bytes (t.node i) ++ y) → Lists o [] (o + length (node_bytes (t.node i)))
      node_lists i o y h =
          let z = node_size b o y (t.node i) h in
          lists_one (omega (arith, within b o (node_bytes (t.node i)) y h)) (ap (λ (n : ℕ). o + n) z)
          (told.node o (node_class b o y (t.node i) h))

      -- the four parts of a saved file
      module _ (saved : Savable t g im) (is : b ≡ saved_file t g im ++ []) where
        host_part : Lists 0 [] 17
        unfolding form_of
        host_part =
            let y = nodes_of t ++ (seats_of t g ++ (registers_of t im ++ [])) in
            let h = host_here t g im b [] is in
            let k : byte_in b 0 ≡ 1 = here_kind b 0 (host_bytes t.host_memory ++ y) h in
            let c : class_in b 0 ≡ class.Host = ap (λ (n : ℕ). (form_of n).class) k in
            lists_one (omega (arith, within b 0 (host_bytes t.host_memory) y h)) (ap (λ (n : ℕ). 0 + size_of n) k) (told.host 0 c)

        nodes_part : Lists 17 [] (17 + length (nodes_of t))
        nodes_part =
            subst (λ (x : List A). Lists 17 x (17 + length (nodes_of t))) (each_none (λ i. []) (λ i. refl) 0 t.count)
            (lists_each (λ i. node_bytes (t.node i)) (λ i. []) t.count (λ o i y l h. node_lists i o y h) 17 0 t.count
            (seats_of t g ++ (registers_of t im ++ [])) (omega arith) (nodes_here t g im b [] is))

        abbrev seats : List A
        seats = each (λ seat. each (λ node. cond (g.grant seat node).named (s (granted g seat node)) []) 0 t.count) 1 15

        seats_part : Lists (17 + length (nodes_of t)) seats (registers_at t g)
        seats_part =
            subst (Lists (17 + length (nodes_of t)) seats) (start_is t g im)
            (lists_each (seat_of t g) (λ seat. each (λ node. cond (g.grant seat node).named (s (granted g seat node)) []) 0 t.count) 16
            (λ o seat y l h.
            lists_each (seat_bytes g seat) (λ node. cond (g.grant seat node).named (s (granted g seat node)) []) t.count
            (λ o node y l h. pair_lists seat node o y h) o 0 t.count y (omega arith) h)
            (17 + length (nodes_of t)) 1 15 (registers_of t im ++ []) refl (seats_here t g im b [] is))

        abbrev registered : List A
        registered = each (λ i. cond (is_saved t im i) (r i) []) 0 t.count

        registers_part : Lists (registers_at t g) registered (length (saved_file t g im))
        registers_part =
            subst (Lists (registers_at t g) registered) (end_is t g im)
            (lists_each (register_bytes t im) (λ i. cond (is_saved t im i) (r i) []) t.count
            (λ o i y l h. register_lists i o y (view_length t im (savable_stored t g im saved) (accepted t im saved.images).0 i l) h)
            (registers_at t g) 0 t.count [] (omega arith) (registers_here t g im b [] is))

        past_end : (left o : ℕ) → length b ≤ o → each_record f left b o ≡ []
        unfolding each_record
        past_end zero o l = refl
        past_end (suc left) o l = rw (le-leb (length b) o l)

        all_parts : each_record f (length b) b 0 ≡ seats ++ registered
        all_parts =
            let x = lists_on host_part (lists_on nodes_part (lists_on seats_part registers_part)) (length b) (omega arith) in
            let n : length b ≡ length (saved_file t g im) = ap length (is ∙ append-nil (saved_file t g im)) in
            x.same ∙ ap (λ (l : List A). seats ++ registered ++ l) (past_end x.more (length (saved_file t g im)) (omega (arith, n)))
            ∙ append-nil (seats ++ registered)

module _ (t : Tree) (g : Grants) (im : Images) (s : Savable t g im) where
  -- 'seats by seat then node'
  pub seats_listed : seat_records (saved_file t g im) ≡ named_pairs t g
  seats_listed =
      let b = saved_file t g im in
      let no-registers = each_none (λ i. cond (is_saved t im i) [] []) (λ i. none (is_saved t im i)) 0 t.count in
      all_parts b (λ o. only (is_a class.Seat (class_in b o)) (seat_in b o)) (λ x. x ∷ []) (λ i. [])
      (record { host = λ o k. rw k; node = λ o k. rw k; seat = λ o k. rw k; registers = λ o k. rw k }) t g im s (sym (append-nil b))
      ∙ ap (λ (l : List SeatRecord). named_pairs t g ++ l) no-registers ∙ append-nil (named_pairs t g)

  -- 'register records by node for exactly those nodes that differ from reset'
  pub nodes_listed : register_nodes (saved_file t g im) ≡ changed_nodes t im
  nodes_listed =
      let b = saved_file t g im in
      let no-seats =
      each_none (λ seat. each (λ node. cond (g.grant seat node).named [] []) 0 t.count)
      (λ seat. each_none (λ node. cond (g.grant seat node).named [] []) (λ node. none (g.grant seat node).named) 0 t.count) 1 15 in
      all_parts b (λ o. only (is_a class.Registers (class_in b o)) (byte_in b (o + 1))) (λ x. []) (λ i. i ∷ [])
      (record { host = λ o k. rw k; node = λ o k. rw k; seat = λ o k. rw k; registers = λ o k. rw k }) t g im s (sym (append-nil b))
      ∙ ap (λ (l : List ℕ). l ++ changed_nodes t im) no-seats
