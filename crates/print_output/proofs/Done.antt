-- Whether all of a file's output is printed, by what is left.
use mathlib.Core.Path.{◌≡◌}
use mathlib.Core.Bool.{Bool, true, false}
use mathlib.Core.List.{List}
use Prim.Native.Nat.{ℕ}
use lib.Dec.{leb}
use lib.ListN.{length}
use Rattle.print_file.specs.declared.Cursor.{Cursor}
use Rattle.print_output.specs.declared.Rest.{Rest}
use Rattle.print_output.specs.declared.Rest.TheVariants.{Refused, Events, Nothing}
use Rattle.print_output.specs.definitions.Rest.{is_done}

module _ (b : List ℕ) {rest : Rest} where
  pub done_refused : {number offset : ℕ} → rest ≡ Refused number offset → false ≡ is_done b rest
  unfolding is_done
  done_refused e = rw e

  pub done_events : (at : Cursor) → rest ≡ Events at → {r : Bool} → r ≡ leb (length b) at.offset → r ≡ is_done b rest
  unfolding is_done
  done_events at e h = rw (e, h)

  pub done_all : rest ≡ Nothing → true ≡ is_done b rest
  unfolding is_done
  done_all e = rw e
