-- The line of an event, the images and the cursor after it, after the code has read and run the event.
use mathlib.Core.Path.{◌≡◌, ap, ◌∙◌}
use mathlib.Core.List.{List}
use Prim.Native.Nat.{ℕ, ◌+◌}
use Rattle.rack.specs.definitions.Tree.{Tree}
use Rattle.seat.specs.definitions.Grants.{Grants, acting}
use Rattle.register_image.specs.definitions.Image.{Images, images, Result, result_of}
use Rattle.file_record.specs.declared.Event.{Event}
use Rattle.file_record.specs.definitions.Number.{byte_in}
use Rattle.file_record.specs.definitions.Record.{size_of}
use Rattle.file_record.specs.definitions.Events.{event_in, seat_after}
use Rattle.event_run.specs.declared.Answer.{Answer}
use Rattle.event_run.specs.definitions.Run.{event_run}
use Rattle.print_file.specs.declared.Cursor.{Cursor}
use Rattle.print_file.specs.definitions.Output.{answer_line}
use Rattle.print_file.specs.definitions.Filling.{past, ran_at, line_at}

module _ (t : Tree) (g : Grants) (b : List ℕ) (at : Cursor) (im : Images) {event : Event} {a : Answer} {bridges devices : List ℕ}
    (ee : event ≡ event_in b at.offset) (ea : result_of a bridges devices ≡ event_run t (acting g at.seat) im event) where
  ran : result_of a bridges devices ≡ ran_at t g b at im
  ran = ea ∙ ap (event_run t (acting g at.seat) im) ee

  pub ran_line : {text : List ℕ} → text ≡ answer_line at.number a → text ≡ line_at t g b at im
  ran_line e = e ∙ ap (λ (x : Result Answer). answer_line at.number x.answer) ran

  pub ran_images : images bridges devices ≡ (ran_at t g b at im).after
  ran_images = ap (λ (x : Result Answer). x.after) ran

-- the cursor after it
pub went_past : (b : List ℕ) (at : Cursor) {kind size seat : ℕ} {e : Event} → kind ≡ byte_in b at.offset → size ≡ size_of kind
    → e ≡ event_in b at.offset → seat ≡ seat_after at.seat e
    → record { offset = at.offset + size; number = at.number + 1; seat = seat } ≡ past b at
went_past b at ek es ee ea = rw (ea, ee, es, ek)
