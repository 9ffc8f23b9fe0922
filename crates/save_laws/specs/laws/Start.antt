-- The registers that a run of a saved file starts from are those that were saved. Document 02, E2: 'The run then starts from these
-- registers instead of reset'.
use Rattle.std.specs.Prelude.{◌≡◌, false, eqb}
use Rattle.std.proofs.Math.Path.{refl}
use Rattle.std.proofs.Common.{sym, ap, ◌∙◌, subst, lt-ltb, le-ltb, eqb-true}
use mathlib.Core.List.{List, [], ◌∷◌, ◌++◌, append_assoc, append-nil}
use Prim.Native.Nat.{ℕ, zero, suc, ◌+◌, ◌≤◌, ◌<◌}
use native.Mathlib.Omega.{arith}
use Rattle.std.proofs.Math.ListN.{length, length-append}
use Rattle.std.proofs.Math.Seq.{take_at}
use Rattle.std.proofs.lemmas.Bool.{eqb-false}
use Rattle.rack.specs.definitions.Tree.{Tree}
use Rattle.rack.specs.definitions.Stored.{Stored}
use Rattle.rack.specs.laws.Bools.{tested}
use Rattle.rack_laws.specs.laws.OnePass.{StoredBy}
use Rattle.seat.specs.definitions.Grants.{Grants}
use Rattle.register_image.specs.definitions.Image.{Images, view, set_node}
use Rattle.register_image.specs.definitions.Fixed.{lengths_wrong}
use Rattle.register_image.specs.definitions.Reset.{reset_part, reset_images}
use Rattle.register_laws.specs.laws.Images.{view_length, on_right, view_same, view_other}
use Rattle.register_laws.specs.laws.Resets.{unchanged, reset_right, reset_view}
use Rattle.register_laws.specs.laws.Accepted.{accepted}
use Rattle.file_record.specs.definitions.Number.{byte_in}
use Rattle.file_record.specs.definitions.Record.{registers_in}
use Rattle.file_record.specs.definitions.Load.{file_in}
use Rattle.file_record.specs.definitions.Start.{set_from, start_from, start_images}
use Rattle.file_record.specs.laws.LoadLaws.{file_stored}
use Rattle.file_save.specs.definitions.Saved.{each, register_bytes, saved_file}
use Rattle.save_laws.specs.definitions.Said.{Savable}
use Rattle.save_laws.specs.definitions.After.{Follows, is_saved, registers_at, saved_loading}
use Rattle.save_laws.specs.laws.Here.{Here, here_byte, here_registers, here_past}
use Rattle.save_laws.specs.laws.ReadBack.{file_alone, savable_stored, end_is, registers_here}
use Rattle.save_laws.specs.laws.Events.{file_back}
use Rattle.save_laws.specs.laws.Views.{images_same}
use Rattle.save_laws.specs.laws.Loaded.{file_tree}

module _ (t : Tree) (im : Images) (by : StoredBy t) (stored : Stored t) (right : lengths_wrong t im ≡ false) where
  -- images in which the nodes below i have the registers of im, and all others are at reset
  record SetTo (i : ℕ) (cur : Images) : Type 0 where
    lengths : lengths_wrong t cur ≡ false
    done : (j : ℕ) → j < i → j < t.count → view t cur j ≡ view t im j
    later : (j : ℕ) → i ≤ j → j < t.count → view t cur j ≡ reset_part (t.node j)

  long : (i : ℕ) → i < t.count → length (view t im i) ≡ 64
  long = view_length t im stored right

  module _ (i : ℕ) (h : i < t.count) (cur : Images) (s : SetTo i cur) where
    -- one node more: it has a record, or is at reset
    set_saved : SetTo (i + 1) (set_node t cur i (view t im i))
    set_saved =
        let f : List ℕ → List ℕ = λ part. view t im i in
        let other = view_other t cur i f (λ l. long i h) stored s.lengths in
        record {
          lengths = on_right t cur i f (λ l. long i h) s.lengths;
          done = λ j a l.
              tested (eqb j i)
              (λ q. rw (eqb-true j i q) (view_same t cur i f (λ l. long i h) stored s.lengths h))
              (λ q. let ne = eqb-false j i q in other j ne ∙ s.done j (omega (arith, ne)) l);
          later = λ j a l. other j (λ e. omega arith) ∙ s.later j (omega arith) l;
        }

    set_unsaved : is_saved t im i ≡ false → SetTo (i + 1) cur
    set_unsaved q =
        record {
          lengths = s.lengths;
          done = λ j a l.
              tested (eqb j i)
              (λ w. rw (eqb-true j i w) (s.later i (omega arith) h ∙ sym (unchanged (t.node i) (view t im i) (long i h) q)))
              (λ w. s.done j (omega (arith, eqb-false j i w)) l);
          later = λ j a l. s.later j (omega arith) l;
        }

  set_all : (cur : Images) → SetTo t.count cur → cur ≡ im
  set_all cur s = images_same t by cur im s.lengths right (λ i l. s.done i l l)

  module _ (b : List ℕ) (end : ℕ) where
    -- past the last record nothing is set
    set_ends : (turns o : ℕ) (cur : Images) → end < o + 66 → set_from turns b t end o cur ≡ cur
    unfolding set_from
    set_ends zero o cur l = refl
    set_ends (suc turns) o cur l = rw (lt-ltb end (o + 66) l)

    set_one : (turns o i : ℕ) (part y : List ℕ) (cur : Images) → length part ≡ 64 → Here b o ((11 ∷ i ∷ part) ++ y) → o + 66 ≤ end
        → set_from (suc turns) b t end o cur ≡ set_from turns b t end (o + 66) (set_node t cur i part)
    unfolding set_from
    set_one turns o i part y cur l h e =
        let n : byte_in b (o + 1) ≡ i = here_byte b o ((11 ∷ i ∷ part) ++ y) h 1 in
        let p : registers_in b o ≡ part = here_registers b o ((11 ∷ i ∷ part) ++ y) h ∙ take_at part y 64 l in
        rw (le-ltb end (o + 66) e, n) (ap (λ (x : List ℕ). set_from turns b t end (o + 66) (set_node t cur i x)) p)

    -- one node, whatever is set after it
    module _ (i : ℕ) (h : i < t.count) (rest y : List ℕ)
        (go : (turns o : ℕ) (cur : Images) → end ≡ o + length rest → end ≤ o + turns → Here b o (rest ++ y) → SetTo (i + 1) cur
        → set_from turns b t end o cur ≡ im) where
      saved_node : (turns o : ℕ) (cur : Images) → end ≡ o + length (11 ∷ i ∷ view t im i) + length rest → end ≤ o + turns
          → Here b o ((11 ∷ i ∷ view t im i) ++ (rest ++ y)) → SetTo i cur → set_from turns b t end o cur ≡ im
      saved_node zero o cur e m p s = absurd (omega arith)
      saved_node (suc turns) o cur e m p s =
          let k : length (view t im i) ≡ 64 = long i h in
          let o' : o + length (11 ∷ i ∷ view t im i) ≡ o + 66 = omega arith in
          set_one turns o i (view t im i) (rest ++ y) cur k p (omega arith)
          ∙ go turns (o + 66) (set_node t cur i (view t im i)) (omega arith) (omega arith)
          (subst (λ (x : ℕ). Here b x (rest ++ y)) o' (here_past b o (11 ∷ i ∷ view t im i) (rest ++ y) p)) (set_saved i h cur s)

      set_node_lem : (turns o : ℕ) (cur : Images) → end ≡ o + length (register_bytes t im i) + length rest → end ≤ o + turns
          → Here b o (register_bytes t im i ++ (rest ++ y)) → SetTo i cur → set_from turns b t end o cur ≡ im
      unfolding register_bytes
      set_node_lem turns o cur e m p s =
          tested (is_saved t im i) (λ q. saved_node turns o cur (rw q at e) m (rw q at p) s)
          (λ q.
          let e' : end ≡ o + 0 + length rest = rw q at e in
          go turns o cur (omega (arith, e')) m (rw q at p) (set_unsaved i h cur s q))

    -- the records of the nodes from i on
    set_each : (left i turns o : ℕ) (y : List ℕ) (cur : Images) → i + left ≡ t.count → end ≡ o + length (each (register_bytes t im) i left)
        → end ≤ o + turns → Here b o (each (register_bytes t im) i left ++ y) → SetTo i cur → set_from turns b t end o cur ≡ im
    unfolding each
    set_each zero i turns o y cur c e m h s =
        let n : i ≡ t.count = omega arith in
        set_ends turns o cur (omega arith) ∙ set_all cur (subst (λ (k : ℕ). SetTo k cur) n s)
    set_each (suc left) i turns o y cur c e m h s =
        let rest = each (register_bytes t im) (i + 1) left in
        set_node_lem i (omega arith) rest y
        (λ turns o cur e m h s. set_each left (i + 1) turns o y cur (omega (arith, c)) e m h s)
        turns o cur (omega (arith, e, length-append (register_bytes t im i) rest)) m
        (subst (Here b o) (append_assoc (register_bytes t im i) rest y) h) s

  at_reset_lem : (old : Images) → lengths_wrong t old ≡ false → SetTo 0 (reset_images t old)
  at_reset_lem old l =
      record {
        lengths = reset_right t stored old l;
        done = λ j a. absurd (omega arith);
        later = λ j a h. reset_view t stored old l j h;
      }

module _ (t : Tree) (g : Grants) (im : Images) (s : Savable t g im) (old : Images) (right : lengths_wrong t old ≡ false) where
  -- whatever follows the saved file, and whatever the images held before
  pub start_from_lem : (rest : List ℕ) → start_from (saved_file t g im ++ rest) t (registers_at t g) (length (saved_file t g im)) old ≡ im
  start_from_lem rest =
      let b = saved_file t g im ++ rest in
      set_each t im s.tree.stored (savable_stored t g im s) (accepted t im s.images).0 b (length (saved_file t g im))
      t.count 0 (length b) (registers_at t g) rest (reset_images t old) (omega arith) (sym (end_is t g im))
      (omega (arith, length-append (saved_file t g im) rest)) (registers_here t g im b rest refl)
      (at_reset_lem t im s.tree.stored (savable_stored t g im s) (accepted t im s.images).0 old right)

  -- so a run of a file that is read as one starts from the saved registers
  pub start_images_lem : (rest : List ℕ) → file_in (saved_file t g im ++ rest) ≡ saved_loading t g im
      → start_images (saved_file t g im ++ rest) old ≡ im
  start_images_lem rest e = rw e (start_from_lem rest)

  pub start_file : (rest : List ℕ) → Follows rest → (file_in (saved_file t g im ++ rest)).refusal ≡ 0
      → start_images (saved_file t g im ++ rest) old ≡ im
  start_file rest f ok = start_images_lem rest (file_back t g im s rest f ok)

  -- and so does one of the saved file alone
  pub start_alone : start_from (saved_file t g im) t (registers_at t g) (length (saved_file t g im)) old ≡ im
  start_alone = rw (append-nil (saved_file t g im)) at (start_from_lem [])

  pub start_saved : length (saved_file t g im) ≤ 65536 → start_images (saved_file t g im) old ≡ im
  start_saved l = rw (file_alone t g im s l) start_alone

-- what the lent images held before plays no part
pub start_same : (b : List ℕ) → (file_in b).refusal ≡ 0 → (im jm : Images) → lengths_wrong (file_in b).tree im ≡ false
    → lengths_wrong (file_in b).tree jm ≡ false → start_images b im ≡ start_images b jm
start_same b ok im jm l m =
    let t = (file_in b).tree in
    let stored = file_stored b ok in
    ap (set_from (length b) b t (file_in b).offset (file_in b).registers)
    (images_same t (file_tree b).stored (reset_images t im) (reset_images t jm) (reset_right t stored im l) (reset_right t stored jm m)
    (λ i h. reset_view t stored im l i h ∙ sym (reset_view t stored jm m i h)))
