-- Demand 1 over the calls that write and open rack files: when they refuse and what they accept. Document 02, E2: 'a refusal leaves the
-- buffer untouched, and a file that fits the bytes past it'.
use Rattle.std.specs.Prelude.{◌≡◌, true, false, List, [], ℕ, ◌≤◌, ◌<◌, length, Ok, Err}
use Rattle.std.proofs.Common.{sym, ◌∙◌, arith, lt-ltb, le-ltb}
use Rattle.std.proofs.Math.Path.{ap}
use Rattle.rack.specs.definitions.Buffer.{over_start}
use Rattle.rack.specs.laws.FirstLaws.{or_this, or_next, unless_number, unless_none}
use Rattle.rack.specs.definitions.Tree.{Tree}
use Rattle.seat.specs.definitions.Grants.{Grants}
use Rattle.register_image.specs.definitions.Image.{Images}
use Rattle.register_image.specs.definitions.Fixed.{lengths_wrong}
use Rattle.file_record.specs.definitions.Load.{file_in, rack_alone}
use Rattle.file_record.specs.definitions.Start.{start_images}
use Rattle.file_save.specs.definitions.Saved.{saved_file}
use Rattle.file_save.specs.laws.Length.{saved_most}
use Rattle.call_table.specs.definitions.Call.{Reply, refusal_by, number_code}
use Rattle.call_numbers.specs.definitions.Called.{refused_call}
use Rattle.call_numbers.specs.definitions.Numbers.{zeros, eight, value_numbers}
use Rattle.call_save.specs.definitions.Save.{save_refusal, save_in, buffer_in}
use Rattle.call_file.specs.definitions.Filed.{filed, saved_call, rack_save, sizes, rack_open}
use Rattle.demand_calls.specs.laws.Refusing.{accepted}

module _ (t : Tree) (g : Grants) (im : Images) where
  -- no file is longer
  pub save_most : refusal_by t g im 0 0 ≡ 0 → length (saved_file t g im) ≤ 14609
  save_most z = saved_most t g im (accepted t g im 0 0 z).0

  module _ (old : List ℕ) where
    by_number : {n : ℕ} → save_refusal t g im (length old) ≡ n → (n ≡ 0 → ⊥)
        → (save_in t g im (length old) ≡ Err n) × (buffer_in t g im old ≡ old)
    unfolding save_in buffer_in
    by_number e ne =
        (unless_number _ Err (λ z. ne (sym e ∙ z)) ∙ ap Err e, unless_number _ (λ n. old) (λ z. ne (sym e ∙ z)))

    -- the refusals of every call come first, then a buffer that is too short
    pub save_refused : (refusal_by t g im 0 0 ≡ 0 → ⊥)
        → (save_in t g im (length old) ≡ Err (refusal_by t g im 0 0)) × (buffer_in t g im old ≡ old)
    save_refused ne = by_number (or_this (refusal_by t g im 0 0) _ ne) ne

    pub save_short : refusal_by t g im 0 0 ≡ 0 → length old < length (saved_file t g im)
        → (save_in t g im (length old) ≡ Err 11) × (buffer_in t g im old ≡ old)
    save_short z l =
        by_number (or_next (refusal_by t g im 0 0) _ z ∙ rw (lt-ltb (length old) (length (saved_file t g im)) l)) (λ e. omega (arith, e))

    pub save_answers : refusal_by t g im 0 0 ≡ 0 → length (saved_file t g im) ≤ length old
        → (save_in t g im (length old) ≡ Ok (length (saved_file t g im)))
        × (buffer_in t g im old ≡ over_start old (saved_file t g im))
    unfolding save_in buffer_in
    save_answers z l =
        let e : save_refusal t g im (length old) ≡ 0 =
        or_next (refusal_by t g im 0 0) _ z ∙ rw (le-ltb (length old) (length (saved_file t g im)) l) in
        (unless_none _ Err e, unless_none _ (λ n. old) e)

    -- what rack_save makes of it
    pub saved_as : {r : Reply ℕ} {new : List ℕ} → (save_in t g im (length old) ≡ r) × (buffer_in t g im old ≡ new)
        → saved_call t g im old ≡ filed (number_code r) (value_numbers r) new
    saved_as e = rw (e.0, e.1)

-- rack_save
module _ (b : List ℕ) (im : Images) (old : List ℕ) where
  abbrev t : Tree
  t = (rack_alone b).tree

  abbrev g : Grants
  g = (rack_alone b).grants

  pub c_save_by_rack : ((rack_alone b).refusal ≡ 0 → ⊥) → rack_save b im old ≡ filed (rack_alone b).refusal zeros old
  unfolding rack_save
  c_save_by_rack ne = unless_number _ (λ n. filed n zeros old) ne

  module _ (ok : (rack_alone b).refusal ≡ 0) where
    read : rack_save b im old ≡ saved_call t g im old
    unfolding rack_save
    read = unless_none _ (λ n. filed n zeros old) ok

    pub c_save_refused : (refusal_by t g im 0 0 ≡ 0 → ⊥) → rack_save b im old ≡ filed (refusal_by t g im 0 0) zeros old
    c_save_refused ne = read ∙ saved_as t g im old (save_refused t g im old ne)

    pub c_save_short : refusal_by t g im 0 0 ≡ 0 → length old < length (saved_file t g im) → rack_save b im old ≡ filed 11 zeros old
    c_save_short z l = read ∙ saved_as t g im old (save_short t g im old z l)

    pub c_save_answers : refusal_by t g im 0 0 ≡ 0 → length (saved_file t g im) ≤ length old
        → rack_save b im old ≡ filed 0 (eight (length (saved_file t g im)) []) (over_start old (saved_file t g im))
    c_save_answers z l = read ∙ saved_as t g im old (save_answers t g im old z l)

-- rack_open
module _ (b : List ℕ) (im : Images) where
  pub c_open_by_file : ((file_in b).refusal ≡ 0 → ⊥) → rack_open b im ≡ refused_call (file_in b).refusal im
  unfolding rack_open
  c_open_by_file ne = unless_number _ (λ n. refused_call n im) ne

  module _ (ok : (file_in b).refusal ≡ 0) where
    pub c_open_by_length : lengths_wrong (file_in b).tree im ≡ true
        → rack_open b im ≡ record { code = 11; numbers = sizes 0 (file_in b).tree; after = im }
    unfolding rack_open
    c_open_by_length w = unless_none _ (λ n. refused_call n im) ok ∙ rw w

    pub c_open_answers : lengths_wrong (file_in b).tree im ≡ false
        → rack_open b im ≡ record { code = 0; numbers = sizes (file_in b).registers (file_in b).tree; after = start_images b im }
    unfolding rack_open
    c_open_answers w = unless_none _ (λ n. refused_call n im) ok ∙ rw w
