-- The turns of the loop that fills a buffer line by line.
use mathlib.Core.Path.{◌≡◌, refl, sym, ap, ◌∙◌}
use mathlib.Core.Bool.{true, false}
use mathlib.Core.List.{List, ◌++◌, append_assoc, append-nil}
use Prim.Native.Nat.{ℕ, zero, suc, ◌+◌, ◌-◌, ◌≤◌, ◌<◌}
use native.Mathlib.Omega.{arith}
use lib.ListN.{length, take, drop, length-append, take-append-drop}
use lib.Seq.{length-take-le, take_at, drop_at, drop-drop}
use Rattle.rack.specs.definitions.Tree.{Tree}
use Rattle.seat.specs.definitions.Grants.{Grants}
use Rattle.register_image.specs.definitions.Image.{Images}
use Rattle.file_record.specs.definitions.Number.{byte_in}
use Rattle.file_record.specs.laws.RecordLaws.{size_least}
use borrow.Rule.Slice.PartMut.{put_mid}
use Rattle.print_file.specs.declared.Cursor.{Cursor}
use Rattle.print_file.specs.definitions.Filling.{Part, behind, past, ran_at, line_at, ends, part_up_to, part_of}
use Rattle.print_file.specs.definitions.Fills.{Fills, Onward}
use Rattle.print_file.proofs.FillingLaws.{on, part_stop, part_step, progress}

-- a list with a text put in at an index
abbrev put_in : List ℕ → ℕ → List ℕ → List ℕ
put_in old at text = take at old ++ (text ++ drop (at + length text) old)

-- what stands up to the text's end, and what stands after it
module _ (old : List ℕ) (at : ℕ) (text : List ℕ) (fits : at + length text ≤ length old) where
  head_long : length (take at old ++ text) ≡ at + length text
  head_long = omega (arith, length-append (take at old) text, length-take-le at old (omega arith))

  grouped : put_in old at text ≡ (take at old ++ text) ++ drop (at + length text) old
  grouped = sym (append_assoc (take at old) text (drop (at + length text) old))

  put_take : take (at + length text) (put_in old at text) ≡ take at old ++ text
  put_take =
      ap (take (at + length text)) grouped
      ∙ take_at (take at old ++ text) (drop (at + length text) old) (at + length text) head_long

  put_drop : drop (at + length text) (put_in old at text) ≡ drop (at + length text) old
  put_drop =
      ap (drop (at + length text)) grouped
      ∙ drop_at (take at old ++ text) (drop (at + length text) old) (at + length text) head_long

-- two lists that are the same after an index are the same after a later one
drop_later : (n m : ℕ) (a b : List ℕ) → drop n a ≡ drop n b → drop (n + m) a ≡ drop (n + m) b
drop_later n m a b e = sym (drop-drop m n a) ∙ ap (drop m) e ∙ drop-drop m n b

-- two texts before a part are one
behind_both : (s u : List ℕ) (p : Part) → behind s (behind u p) ≡ behind (s ++ u) p
behind_both s u p = ap (λ (x : List ℕ). record { text = x; next = p.next; after = p.after }) (sym (append_assoc s u p.text))

-- where a part does not end, the next event is within the file, and its line within the buffer
module _ (b out : List ℕ) (len : ℕ) (next : Cursor) (e : ends b (length out - len) next ≡ false) where
  pub turn_inside : length b ≤ 65536 → next.offset ≤ 65536
  turn_inside h = omega (arith, (on b (length out - len) next e).0)

  pub turn_fits : {n : ℕ} → n ≤ 96 → len + n ≤ length out
  turn_fits h = omega (arith, (on b (length out - len) next e).1)

  pub turn_less : {to : Cursor} → to ≡ past b next → length b - to.offset < length b - next.offset
  turn_less p =
      omega (arith, (on b (length out - len) next e).0, ap (λ (k : Cursor). k.offset) p, size_least (byte_in b next.offset))

-- the part from the cursor `at` on is the text so far and what is left to print from `next` on, and `left` lines are enough to reach
-- the file's end
module _ (t : Tree) (g : Grants) (b old : List ℕ) (at : Cursor) (im₀ : Images) where
  pub record FillLeft (out : List ℕ) (next : Cursor) (len : ℕ) (im : Images) : Type 0 where
    pub left : ℕ
    pub enough : length b ≤ next.offset + left
    pub counted : next.number ≤ next.offset + 1
    pub long : length out ≡ length old
    pub inside : len ≤ length old
    pub same : part_of t g b (length old) at im₀ ≡ behind (take len out) (part_up_to left t g b (length old - len) next im)
    pub rest : drop len out ≡ drop len old

  pub fill_all : at.number ≤ at.offset + 1 → FillLeft old at 0 im₀
  fill_all n =
      let all : length old ≡ length old - 0 = omega arith in
      record {
        left = length b;
        enough = omega arith;
        counted = n;
        long = refl;
        inside = omega arith;
        same = ap (λ (room : ℕ). part_up_to (length b) t g b room at im₀) all;
        rest = refl;
      }

  module _ {out : List ℕ} {next : Cursor} {len : ℕ} {im : Images} where
    pub fill_end : FillLeft out next len im → ends b (length out - len) next ≡ true
        → Fills (record { len = len; next = next }) old out im (part_of t g b (length old) at im₀)
    fill_end f e =
        let same = f.same ∙ ap (behind (take len out)) (part_stop t g b f.left (length old - len) next im (rw f.long at e)) in
        let text : (part_of t g b (length old) at im₀).text ≡ take len out = ap (λ (p : Part). p.text) same ∙ append-nil (take len out) in
        let long : length (take len out) ≡ len = length-take-le len out (omega (arith, f.long, f.inside)) in
        record {
          out = rw (text, long, ← f.rest) (sym (take-append-drop len out));
          len = rw text (sym long);
          next = ap (λ (p : Part). p.next) (sym same);
          after = ap (λ (p : Part). p.after) (sym same);
        }

    -- what the next call needs
    pub fill_onward : FillLeft out next len im → ends b (length out - len) next ≡ true
        → Onward b (length old) at (record { len = len; next = next })
    fill_onward f e =
        let cursor = (fill_end f e).next in
        record {
          inside = f.inside;
          counted = f.counted;
          forward = λ r i. rw cursor (progress t g b (length old) at im₀ r i);
        }

    pub fill_next : {line text new : List ℕ} {after : Images} → FillLeft out next len im → ends b (length out - len) next ≡ false
        → line ≡ line_at t g b next im → text ≡ line → length text ≤ 96 → length new ≡ length out → after ≡ (ran_at t g b next im).after
        → new ≡ put_mid len (len + length text - len) out text → {to : Cursor} → to ≡ past b next → FillLeft new to (len + length text) after
    fill_next {line} {text} {new} {after} f e el et small kept ran copied p = rw p (turn f.left f.enough f.same)
      where
        more : (next.offset < length b) × (96 ≤ length old - len)
        more = on b (length old - len) next (rw f.long at e)

        fits : len + length text ≤ length out
        fits = omega (arith, f.long, more.1)

        put : new ≡ put_in out len text
        put =
            let width : len + length text - len ≡ length text = omega arith in
            copied ∙ rw (width, drop-drop (length text) len out) refl

        room : length old - len - length (line_at t g b next im) ≡ length old - (len + length text)
        room = rw (← el, ← et) (omega arith)

        so_far : take len out ++ line_at t g b next im ≡ take (len + length text) new
        so_far = rw (← el, ← et) (sym (put_take out len text fits)) ∙ ap (take (len + length text)) (sym put)

        turn : (left : ℕ) → length b ≤ next.offset + left
            → part_of t g b (length old) at im₀ ≡ behind (take len out) (part_up_to left t g b (length old - len) next im)
            → FillLeft new (past b next) (len + length text) after
        turn zero n q = absurd (omega (arith, more.0))
        turn (suc left) n q =
            let rest : ℕ → Images → Part = λ k i. part_up_to left t g b k (past b next) i in
            let left-room = length old - (len + length text) in
            record {
              left = left;
              enough = omega (arith, size_least (byte_in b next.offset));
              counted = omega (arith, size_least (byte_in b next.offset), f.counted);
              long = kept ∙ f.long;
              inside = omega (arith, fits, f.long);
              same =
                  q
                  ∙ ap (behind (take len out)) (part_step t g b left (length old - len) next im (rw f.long at e))
                  ∙ ap (λ (k : ℕ). behind (take len out) (behind (line_at t g b next im) (rest k (ran_at t g b next im).after))) room
                  ∙ behind_both (take len out) (line_at t g b next im) (rest left-room (ran_at t g b next im).after)
                  ∙ ap (λ (i : Images). behind (take len out ++ line_at t g b next im) (rest left-room i)) (sym ran)
                  ∙ ap (λ (s : List ℕ). behind s (rest left-room after)) so_far;
              rest = rw put (put_drop out len text fits ∙ drop_later len (length text) out old f.rest);
            }
