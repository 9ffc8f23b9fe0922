-- The bytes that the program writes are the next of the output, and each part brings it further.
use mathlib.Core.Path.{◌≡◌, refl, sym, ap, ◌∙◌}
use mathlib.Core.Bool.{true, false}
use mathlib.Core.List.{List, ◌++◌}
use Prim.Native.Nat.{ℕ, ◌+◌, ◌≤◌, ◌<◌}
use native.Mathlib.Omega.{arith}
use lib.ListN.{length, take, drop, length-append, length-drop}
use lib.Seq.{take_at, drop_at, drop-drop}
use Rattle.std.specs.Prelude.{Result, Ok, Err}
use Rattle.rack.specs.definitions.Tree.{Tree}
use Rattle.seat.specs.definitions.Grants.{Grants}
use Rattle.register_image.specs.definitions.Image.{Images}
use Rattle.print_file.specs.definitions.Output.{output_of}
use Rattle.print_output.specs.declared.Put.{Put}
use Rattle.print_output.specs.declared.Rest.{Rest}
use Rattle.print_output.specs.definitions.Rest.{Standing, standing, output_from, is_done, end_from}
use Rattle.print_output.specs.definitions.Piece.{piece_of, Puts, to_go, Onward}
use Rattle.print_output.specs.laws.RestLaws.{done_nothing}
use Rattle.rackrun.specs.declared.Progress.{Progress}
use Rattle.rackrun.specs.definitions.Run.{Prints, PrintsPiece}
use Rattle.rackrun.specs.definitions.Written.{IsNext, Stands, Writes, Later, WritesPart, WritesAll}
use Rattle.rackrun.proofs.Ends.{piece_end, done_end}

-- a part of the output that stands in a buffer
module _ (b : List ℕ) (t : Tree) (g : Grants) (p : Progress) (im : Images) (r : Put) {room : ℕ} (s : Stands b t g p im)
    (goes : is_done b p.rest ≡ false) (on : Onward b t room p.rest r) (full : 65536 ≡ room) where
  pub next_fits : p.done + r.len ≤ 4294967296
  next_fits = omega (arith, s.fits, on.inside, on.less goes)

  module _ (old new : List ℕ) (after : Images) (puts : Puts r old new after (piece_of t g b room p.rest im))
      (text : take r.len new ++ output_from t g b r.rest after ≡ output_from t g b p.rest im) where
    long : length (take r.len new) ≡ r.len
    long =
        let part = (piece_of t g b room p.rest im).text in
        ap length (ap (take r.len) puts.out ∙ take_at part (drop (length part) old) r.len (sym puts.len))
        ∙ sym puts.len

    -- the bytes from `done` on
    from_here : drop p.done (output_of b) ≡ take r.len new ++ output_from t g b r.rest after
    from_here = s.left ∙ sym text

    stands_next : Stands b t g (record { done = p.done + r.len; rest = r.rest }) after
    stands_next =
        let left = output_from t g b r.rest after in
        record {
          inside =
              omega (
                arith,
                ap length from_here,
                length-append (take r.len new) left,
                long,
                length-drop p.done (output_of b),
                s.inside,
              );
          left =
              sym (drop-drop r.len p.done (output_of b))
              ∙ ap (drop r.len) from_here
              ∙ drop_at (take r.len new) left r.len long;
          ready = on.ready;
          fits = omega (arith, s.fits, on.inside, on.less goes);
        }

    later : Later b t g p im (record { done = p.done + r.len; rest = r.rest }) after
    later =
        record {
          stands = stands_next;
          less = on.less goes;
          same = rw (puts.rest, puts.after) (piece_end t g b room p.rest im);
        }

    pub part_later : {E : Type 0} (w : Result Progress E) → Writes w (p.done + r.len) r.rest → WritesPart b t g p im w after
    part_later (Ok q) e = rw e later
    part_later (Err x) e = tt

    pub part_printed : {E : Type 0} (w : Result Progress E) → Writes w (p.done + r.len) r.rest
        → PrintsPiece w after p.done (piece_of t g b 65536 p.rest im)
    part_printed (Ok q) e = rw (e, full, puts.len, puts.rest, puts.after) (refl, refl)
    part_printed (Err x) e = tt

-- its bytes are the next of the output
pub next_bytes : (b : List ℕ) (t : Tree) (g : Grants) (p : Progress) (im : Images) (rest : Rest) (after : Images) (bytes : List ℕ)
    → Stands b t g p im → bytes ++ output_from t g b rest after ≡ output_from t g b p.rest im → IsNext (output_of b) p.done bytes
next_bytes b t g p im rest after bytes s text =
    sym
    (ap (take (length bytes)) (s.left ∙ sym text) ∙ take_at bytes (output_from t g b rest after) (length bytes) refl)

-- the parts one after another
module _ (b : List ℕ) (t : Tree) (g : Grants) (first : Rest) (im₀ : Images) where
  pub record Printing (p : Progress) (im : Images) : Type 0 where
    pub stands : Stands b t g p im
    pub same : end_from t g b first im₀ ≡ end_from t g b p.rest im

  pub printing_none : Stands b t g (record { done = 0; rest = first }) im₀ → Printing (record { done = 0; rest = first }) im₀
  printing_none s = record { stands = s; same = refl }

  module _ {p : Progress} {im : Images} (l : Printing p im) where
    pub printing_stands : Stands b t g p im
    printing_stands = l.stands

    pub printing_done : is_done b p.rest ≡ true → (p.done ≡ length (output_of b)) × (standing p.rest im ≡ end_from t g b first im₀)
    printing_done q =
        let none = ap length (l.stands.left ∙ done_nothing t g b p.rest im q) in (
          omega (arith, none, length-drop p.done (output_of b), l.stands.inside),
          sym (l.same ∙ done_end t g b p.rest im q),
        )

    module _ {q : Progress} (after : Images) (further : Later b t g p im q after) where
      pub printing_next : Printing q after
      printing_next = record { stands = further.stands; same = l.same ∙ further.same }

      pub printing_less : to_go b q.rest < to_go b p.rest
      printing_less = further.less

-- all of it is written
pub printed_all : {E : Type 0} (w : Result Progress E) (im : Images) (text : List ℕ) (s : Standing) → Prints w im (length text) s
    → WritesAll w text
printed_all (Ok p) im text s h = h.0
printed_all (Err x) im text s h = tt
