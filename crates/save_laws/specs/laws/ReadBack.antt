-- What is read from a saved file. Document 02, E2: 'A rack read from the writer's file has the content of the rack it was given'.
use Rattle.std.specs.Prelude.{◌≡◌, refl, true, ℕ, ◌+◌, ◌≤◌, eqb, length}
use Rattle.std.proofs.Common.{sym, ◌∙◌, subst, arith, eqb-true, ne_eqb}
use Rattle.std.proofs.Math.Path.{ap}
use mathlib.Core.List.{List, [], ◌++◌, append_assoc, append-nil}
use Rattle.rack.specs.definitions.First.{◌or◌}
use Rattle.rack.specs.definitions.Tree.{Tree}
use Rattle.rack.specs.definitions.Stored.{Stored}
use Rattle.rack.specs.laws.Bools.{tested}
use Rattle.rack_laws.specs.laws.Stored.{by_stored}
use Rattle.seat.specs.definitions.Grants.{Grants}
use Rattle.register_image.specs.definitions.Image.{Images}
use Rattle.file_record.specs.definitions.Load.{at_start, loaded, read_from, file_in}
use Rattle.file_record.specs.laws.Turns.{read_past, read_all}
use Rattle.file_save.specs.definitions.Saved.{host_bytes, nodes_of, seats_of, registers_of, rack_of, saved_file}
use Rattle.save_laws.specs.definitions.Said.{Savable}
use Rattle.save_laws.specs.definitions.After.{is_saved, past_last, registers_at, first_registers, after_saved, saved_loading}
use Rattle.file_save.specs.laws.Length.{rack_length, saved_length}
use Rattle.save_laws.specs.laws.Here.{Here, here_past}
use Rattle.save_laws.specs.laws.Goes.{Goes, goes_on, goes_same}
use Rattle.save_laws.specs.laws.Records.{before, host_goes}
use Rattle.save_laws.specs.laws.Nodes.{nodes_go}
use Rattle.save_laws.specs.laws.Seats.{seats_go}
use Rattle.save_laws.specs.laws.Registers.{registers_go}

module _ (t : Tree) (g : Grants) (im : Images) where
  -- the offsets of a saved file
  pub start_is : 17 + length (nodes_of t) + length (seats_of t g) ≡ registers_at t g
  start_is = sym (rack_length t g)

  pub end_is : registers_at t g + length (registers_of t im) ≡ length (saved_file t g im)
  end_is = sym (saved_length t g im)

  -- the register records begin at their start, or the file ends there
  pub first_or : first_registers (registers_at t g) (length (saved_file t g im)) or length (saved_file t g im) ≡ registers_at t g
  first_or =
      tested (eqb (length (saved_file t g im)) (registers_at t g)) (λ q. rw q (eqb-true (length (saved_file t g im)) (registers_at t g) q))
      (λ q. rw (q, ne_eqb (registers_at t g) 0 (λ e. omega (arith, start_is))))

  -- its four parts, and what follows
  parts : (rest : List ℕ)
      → saved_file t g im ++ rest ≡ host_bytes t.host_memory ++ (nodes_of t ++ (seats_of t g ++ (registers_of t im ++ rest)))
  unfolding saved_file rack_of
  parts rest =
      append_assoc (rack_of t g) (registers_of t im) rest
      ∙ append_assoc (host_bytes t.host_memory) (nodes_of t ++ seats_of t g) (registers_of t im ++ rest)
      ∙ ap (λ (x : List ℕ). host_bytes t.host_memory ++ x) (append_assoc (nodes_of t) (seats_of t g) (registers_of t im ++ rest))

  -- and where each of them stands
  module _ (b rest : List ℕ) (is : b ≡ saved_file t g im ++ rest) where
    pub host_here : Here b 0 (host_bytes t.host_memory ++ (nodes_of t ++ (seats_of t g ++ (registers_of t im ++ rest))))
    host_here = record { same = is ∙ parts rest; inside = omega arith }

    pub nodes_here : Here b 17 (nodes_of t ++ (seats_of t g ++ (registers_of t im ++ rest)))
    nodes_here = here_past b 0 (host_bytes t.host_memory) (nodes_of t ++ (seats_of t g ++ (registers_of t im ++ rest))) host_here

    pub seats_here : Here b (17 + length (nodes_of t)) (seats_of t g ++ (registers_of t im ++ rest))
    seats_here = here_past b 17 (nodes_of t) (seats_of t g ++ (registers_of t im ++ rest)) nodes_here

    pub registers_here : Here b (registers_at t g) (registers_of t im ++ rest)
    registers_here =
        subst (λ (o : ℕ). Here b o (registers_of t im ++ rest)) start_is
        (here_past b (17 + length (nodes_of t)) (seats_of t g) (registers_of t im ++ rest) seats_here)

  module _ (s : Savable t g im) where
    pub savable_stored : Stored t
    savable_stored = by_stored t s.tree.stored s.accepted

    -- the reading of a file that begins with it goes on, without a fault, to what follows
    module _ (b rest : List ℕ) (is : b ≡ saved_file t g im ++ rest) where
      pub saved_goes : Goes b at_start (after_saved t g im)
      saved_goes =
          goes_on b (host_goes b t.host_memory (nodes_of t ++ (seats_of t g ++ (registers_of t im ++ rest))) (host_here b rest is))
          (goes_on b (nodes_go t s.accepted s.tree b 17 (seats_of t g ++ (registers_of t im ++ rest)) (omega arith) (nodes_here b rest is))
          (goes_on b (seats_go t g s.grants b (17 + length (nodes_of t)) (registers_of t im ++ rest) (omega arith) (seats_here b rest is))
          (goes_on b (goes_same b (ap (λ (o : ℕ). before o 0 0 t g) start_is))
          (subst
          (λ (o : ℕ).
          Goes b (before (registers_at t g) 0 0 t g) (before o (first_registers (registers_at t g) o) (past_last (is_saved t im) t.count) t g))
          end_is
          (registers_go t g im savable_stored s.images b (registers_at t g) (omega (arith, start_is)) rest (registers_here b rest is))))))

    -- the same, said of the turns of a reading
    pub read_back_lem : (rest : List ℕ)
        → (left : ℕ) × (length (saved_file t g im ++ rest) ≤ length (saved_file t g im) + left)
        × (read_from (length (saved_file t g im ++ rest)) true (saved_file t g im ++ rest) at_start
        ≡ read_from left true (saved_file t g im ++ rest) (after_saved t g im))
    read_back_lem rest =
        let x = saved_goes (saved_file t g im ++ rest) rest refl (length (saved_file t g im ++ rest)) (omega arith) in
        (x.more, x.enough, x.same)

    -- the end of a reading there
    pub after_loaded : loaded (after_saved t g im) ≡ saved_loading t g im
    after_loaded = rw first_or

    -- the file alone: no refusal and no events, and the rack and the grants that it was given
    pub read_alone : read_from (length (saved_file t g im)) true (saved_file t g im) at_start ≡ saved_loading t g im
    read_alone =
        let b = saved_file t g im in
        let x = saved_goes b [] (sym (append-nil b)) (length b) (omega arith) in
        x.same ∙ read_past true b x.more (after_saved t g im) (omega arith) ∙ after_loaded

    pub file_alone : length (saved_file t g im) ≤ 65536 → file_in (saved_file t g im) ≡ saved_loading t g im
    file_alone l = read_all true (saved_file t g im) l (λ e. omega (arith, start_is, end_is)) ∙ read_alone
