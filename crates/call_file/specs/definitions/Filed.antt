-- The calls from C that write and open rack files. Sentences are those of document 02, E2.
use Rattle.std.specs.Prelude.{ℕ, cond, List, [], ◌∷◌, length}
use Rattle.rack.specs.definitions.First.{unless}
use Rattle.rack.specs.definitions.Tree.{Tree, bridge_count, device_count}
use Rattle.seat.specs.definitions.Grants.{Grants}
use Rattle.register_image.specs.definitions.Image.{Images}
use Rattle.register_image.specs.definitions.Fixed.{lengths_wrong}
use Rattle.file_record.specs.definitions.Load.{file_in, rack_alone}
use Rattle.file_record.specs.definitions.Start.{start_images}
use Rattle.call_table.specs.definitions.Call.{number_code}
use Rattle.call_numbers.specs.definitions.Called.{Called, refused_call}
use Rattle.call_numbers.specs.definitions.Numbers.{zeros, eight, value_numbers}
use Rattle.call_save.specs.definitions.Save.{save_in, buffer_in}

-- what rack_save leaves behind: what it returns, eight numbers, and the lent buffer. It only reads the images
pub record Filed : Type 0 where
  pub code : ℕ
  pub numbers : List ℕ
  pub buffer : List ℕ

abbrev pub filed : ℕ → List ℕ → List ℕ → Filed
filed code numbers buffer = record { code = code; numbers = numbers; buffer = buffer }

abbrev pub saved_call : Tree → Grants → Images → List ℕ → Filed
saved_call t g im old =
    filed (number_code (save_in t g im (length old))) (value_numbers (save_in t g im (length old))) (buffer_in t g im old)

-- rack_save: 1 to 10 of the rack's bytes, then as over a decoded rack; the file's length is its answer
unfoldable pub rack_save : List ℕ → Images → List ℕ → Filed
rack_save b im old =
    unless (rack_alone b).refusal (saved_call (rack_alone b).tree (rack_alone b).grants im old) (λ n. filed n zeros old)

-- how many bytes stand before the first register record or event, and both node counts
abbrev pub sizes : ℕ → Tree → List ℕ
sizes before t = eight before (bridge_count t ∷ device_count t ∷ [])

-- rack_open: a whole file, refused as a file is, then 11, which gives both counts all the same; both images are then what a run of the
-- file starts from
unfoldable pub rack_open : List ℕ → Images → Called
rack_open b im =
    unless (file_in b).refusal
    (cond (lengths_wrong (file_in b).tree im) (record { code = 11; numbers = sizes 0 (file_in b).tree; after = im })
    (record { code = 0; numbers = sizes (file_in b).registers (file_in b).tree; after = start_images b im }))
    (λ n. refused_call n im)
