-- The reading that a saved file leaves, in front of what follows it.
use Rattle.std.specs.Prelude.{◌≡◌, ◌⊎◌, ℕ, zero, suc, ◌+◌, Bool, true, cond, List, [], eqb, length}
use Rattle.rack.specs.definitions.Tree.{Tree}
use Rattle.seat.specs.definitions.Grants.{Grants}
use Rattle.register_image.specs.definitions.Image.{Images, view}
use Rattle.register_image.specs.definitions.Reset.{is_changed}
use Rattle.file_record.specs.declared.Class.TheVariants as class
use Rattle.file_record.specs.definitions.Record.{class_in, is_a}
use Rattle.file_record.specs.definitions.Load.{Reading, Loading}
use Rattle.file_save.specs.definitions.Saved.{rack_of, saved_file}

-- whether a node has a register record
abbrev pub is_saved : Tree → Images → ℕ → Bool
is_saved t im i = is_changed (t.node i) (view t im i)

-- one past the last number below n that passes the test; 0 where none does
unfoldable pub past_last : (ℕ → Bool) → ℕ → ℕ
past_last f zero = 0
past_last f (suc n) = cond (f n) (n + 1) (past_last f n)

-- the offset at which the register records begin, if there are any
abbrev pub registers_at : Tree → Grants → ℕ
registers_at t g = length (rack_of t g)

-- the offset of the first of them in front of an offset o; 0 where o is that of the first itself
abbrev pub first_registers : ℕ → ℕ → ℕ
first_registers start o = cond (eqb o start) 0 start

abbrev pub after_saved : Tree → Grants → Images → Reading
after_saved t g im =
    record {
      offset = length (saved_file t g im);
      registers = first_registers (registers_at t g) (length (saved_file t g im));
      events = 0;
      least = past_last (is_saved t im) t.count;
      tree = t;
      grants = g;
    }

-- what is read of a saved file where nothing or events follow: the rack and its grants, and where the register records and the events
-- begin
abbrev pub saved_loading : Tree → Grants → Images → Loading
saved_loading t g im =
    record { refusal = 0; offset = length (saved_file t g im); registers = registers_at t g; tree = t; grants = g }

-- what may follow a saved file: nothing, or events
abbrev pub Follows : List ℕ → Type 0
Follows rest = (rest ≡ []) ⊎ (is_a class.Event (class_in rest 0) ≡ true)
