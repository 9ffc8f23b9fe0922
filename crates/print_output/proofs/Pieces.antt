-- A part of the output once it stands in the buffer, by what was left before it.
use mathlib.Core.Path.{◌≡◌, refl, sym, ap}
use mathlib.Core.Bool.{true≢false}
use mathlib.Core.List.{List, ◌++◌}
use Prim.Native.Nat.{ℕ, ◌+◌, ◌≤◌}
use native.Mathlib.Omega.{arith}
use lib.ListN.{length, take, drop}
use lib.Seq.{take_at}
use borrow.Author.Tests.{leb-false}
use Rattle.rack.specs.definitions.Buffer.{over_start}
use Rattle.rack.specs.definitions.Tree.{Tree}
use Rattle.rack.specs.definitions.Refusal.{rack_refusal}
use Rattle.seat.specs.definitions.Grants.{Grants}
use Rattle.register_image.specs.definitions.Image.{Images}
use Rattle.print_line.specs.definitions.Line.{refused_line}
use Rattle.print_file.specs.declared.Cursor.{Cursor}
use Rattle.print_file.specs.declared.Filled.{Filled}
use Rattle.print_file.specs.definitions.Filling.{part_of}
use Rattle.print_file.specs.definitions.Fills.{Fills}
use Rattle.print_file.specs.definitions.Fills as filling
use Rattle.print_output.specs.declared.Put.{Put}
use Rattle.print_output.specs.declared.Rest.{Rest}
use Rattle.print_output.specs.declared.Rest.TheVariants.{Refused, Events, Nothing}
use Rattle.print_output.specs.definitions.Rest.{output_from, is_done}
use Rattle.print_output.specs.definitions.Piece.{piece_of, Puts, Ready, to_go, Onward}
use Rattle.print_output.specs.laws.PieceLaws.{piece_output}

module _ (t : Tree) (g : Grants) (b : List ℕ) (room : ℕ) (rest : Rest) (im : Images) (old : List ℕ) {new : List ℕ} where
  pub puts_refused : {number offset len : ℕ} → rest ≡ Refused number offset → new ≡ over_start old (refused_line number offset)
      → len ≡ length (refused_line number offset) → Puts (record { len = len; rest = Nothing }) old new im (piece_of t g b room rest im)
  unfolding piece_of
  puts_refused e o l = rw e (record { out = o; len = l; rest = refl; after = refl })

  pub puts_events : {at : Cursor} {f : Filled} {after : Images} → rest ≡ Events at → Fills f old new after (part_of t g b room at im)
      → Puts (record { len = f.len; rest = Events f.next }) old new after (piece_of t g b room rest im)
  unfolding piece_of
  puts_events e f = rw e (record { out = f.out; len = f.len; rest = ap Events f.next; after = f.after })

  pub puts_nothing : rest ≡ Nothing → new ≡ old → Puts (record { len = 0; rest = Nothing }) old new im (piece_of t g b room rest im)
  unfolding piece_of
  puts_nothing e o = rw e (record { out = o; len = refl; rest = refl; after = refl })

  -- it and what is left after it are what was left before it
  puts_text : (r : Put) {after : Images} → Puts r old new after (piece_of t g b room rest im)
      → take r.len new ++ output_from t g b r.rest after ≡ output_from t g b rest im
  puts_text r p =
      let piece = piece_of t g b room rest im in
      rw (p.rest, p.after, p.out, take_at piece.text (drop (length piece.text) old) r.len (sym p.len))
      (piece_output t g b room rest im)

  pub text_refused : {number offset len : ℕ} → rest ≡ Refused number offset → new ≡ over_start old (refused_line number offset)
      → len ≡ length (refused_line number offset) → take len new ++ output_from t g b Nothing im ≡ output_from t g b rest im
  text_refused {len = len} e o l = puts_text (record { len = len; rest = Nothing }) (puts_refused e o l)

  pub text_events : {at : Cursor} (f : Filled) {after : Images} → rest ≡ Events at → Fills f old new after (part_of t g b room at im)
      → take f.len new ++ output_from t g b (Events f.next) after ≡ output_from t g b rest im
  text_events f e p = puts_text (record { len = f.len; rest = Events f.next }) (puts_events e p)

-- of nothing, nothing is put
pub text_nothing : (t : Tree) (g : Grants) (b : List ℕ) (im : Images) (new : List ℕ) {rest : Rest} → rest ≡ Nothing
    → take 0 new ++ output_from t g b Nothing im ≡ output_from t g b rest im
text_nothing t g b im new e = rw e

module _ (b : List ℕ) (t : Tree) {rest : Rest} where
  -- what `fill` asks for
  module _ {at : Cursor} (e : rest ≡ Events at) (p : Ready b t rest) where
    ready : Ready b t (Events at)
    ready = rw e at p

    pub ready_rack : rack_refusal t ≡ 0
    unfolding Ready
    ready_rack = ready.0

    pub ready_long : length b ≤ 65536
    unfolding Ready
    ready_long = ready.1

    pub ready_counted : at.number ≤ at.offset + 1
    unfolding Ready
    ready_counted = ready.2

  pub onward_refused : (room : ℕ) {number offset len : ℕ} → rest ≡ Refused number offset → len ≤ 96 → 96 ≤ room
      → Onward b t room rest (record { len = len; rest = Nothing })
  unfolding Ready to_go
  onward_refused room e l r = rw e (record { inside = omega arith; ready = tt; less = λ q. omega arith })

  pub onward_events : (room : ℕ) {at : Cursor} {f : Filled} → rest ≡ Events at → Ready b t rest → filling.Onward b room at f → 96 ≤ room
      → Onward b t room rest (record { len = f.len; rest = Events f.next })
  unfolding Ready to_go is_done
  onward_events room {at} {f} e p o r =
      rw e
      (record {
        inside = o.inside;
        ready = (ready_rack e p, ready_long e p, o.counted);
        less = λ q. let i = leb-false (length b) at.offset q in omega (arith, i, o.forward r i);
      })

  pub onward_nothing : (room : ℕ) → rest ≡ Nothing → Onward b t room rest (record { len = 0; rest = Nothing })
  unfolding Ready is_done
  onward_nothing room e = rw e (record { inside = omega arith; ready = tt; less = λ q. absurd (true≢false q) })
