-- What is left of a file's output at first, once the file is loaded.
use mathlib.Core.Path.{◌≡◌, sym, ap, ◌∙◌}
use mathlib.Core.List.{List}
use Prim.Native.Nat.{ℕ, ◌≤◌}
use native.Mathlib.Omega.{arith}
use lib.ListN.{length}
use Rattle.rack.specs.definitions.Table.{tree_of}
use Rattle.rack.specs.definitions.Tree.{Tree}
use Rattle.register_image.specs.definitions.Image.{Images}
use Rattle.file_record.specs.declared.Loaded.{Loaded}
use Rattle.file_record.specs.definitions.Load.{file_in}
use Rattle.file_record.specs.declared.Refused.{Refused}
use Rattle.file_record.specs.definitions.Loads.{Accepts, Refuses}
use Rattle.rack.specs.definitions.Refused.{refusal_number}
use Rattle.rack.specs.laws.RefusedLaws.{refusal_not_0}
use Rattle.file_record.specs.definitions.Start.{start_from, start_images}
use Rattle.file_record.specs.laws.LoadLaws.{file_long, file_begun, file_offset}
use Rattle.print_file.specs.declared.Cursor.{Cursor}
use Rattle.print_file.specs.definitions.Output.{first_at}
use Rattle.print_output.specs.declared.Rest.TheVariants as rest
use Rattle.print_output.specs.definitions.Rest.{standing, first_of}
use Rattle.print_output.specs.laws.RestLaws.{first_accepted, first_refused}

module _ (b : List ℕ) {r : Refused} (loads : Refuses r (file_in b)) where
  pub refused_offset : r.offset ≤ 65536
  refused_offset = rw loads.offset (file_offset b)

  pub rest_refused : (im : Images) {number : ℕ} → number ≡ refusal_number r.refusal
      → standing (rest.Refused number r.offset) im ≡ first_of b im
  rest_refused im e =
      let bad : (file_in b).refusal ≡ 0 → ⊥ = λ z. refusal_not_0 r.refusal (loads.refusal ∙ z) in
      rw (e, loads.refusal, loads.offset) (sym (first_refused b im bad))

module _ (b : List ℕ) {l : Loaded} (loads : Accepts l (file_in b)) where
  accepted : (file_in b).refusal ≡ 0
  accepted = sym loads.refusal

  -- the register records and the events begin within the file
  pub registers_fit : l.registers ≤ 65536
  registers_fit = rw loads.registers (omega (arith, (file_begun b accepted).0, file_long b accepted))

  pub events_fit : l.offset ≤ length b
  events_fit = rw loads.offset (file_begun b accepted).1

  pub file_fits : length b ≤ 65536
  file_fits = file_long b accepted

  pub rest_events : (im : Images) {first : Cursor} {after : Images} → first ≡ first_at l.offset
      → after ≡ start_from b (tree_of l.table) l.registers l.offset im → standing (rest.Events first) after ≡ first_of b im
  rest_events im {first} {after} e s =
      let t = (file_in b).tree in
      let start : after ≡ start_images b im =
      s ∙ ap (λ (u : Tree). start_from b u l.registers l.offset im) loads.tree
      ∙ ap (λ (n : ℕ). start_from b t n l.offset im) loads.registers
      ∙ ap (λ (n : ℕ). start_from b t (file_in b).registers n im) loads.offset in
      ap (λ (c : Cursor). standing (rest.Events c) after) (e ∙ ap first_at loads.offset)
      ∙ ap (standing (rest.Events (first_at (file_in b).offset))) start
      ∙ sym (first_accepted b im accepted)
