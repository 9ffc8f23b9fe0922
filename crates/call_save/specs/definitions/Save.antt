-- The writer as a call: the length of a rack's file, or the refusal, and the lent buffer afterwards. Sentences are those of document 02, E2.
use Rattle.std.specs.Prelude.{ℕ, List, ltb, length, Ok, Err}
use Rattle.rack.specs.definitions.Buffer.{over_start}
use Rattle.rack.specs.definitions.First.{◌when◌, ◌or◌, unless}
use Rattle.rack.specs.definitions.Tree.{Tree}
use Rattle.seat.specs.definitions.Grants.{Grants}
use Rattle.register_image.specs.definitions.Image.{Images}
use Rattle.file_save.specs.definitions.Saved.{saved_file}
use Rattle.call_table.specs.definitions.Call.{Reply, refusal_by}

-- 'a lent buffer too short for the writer's file is 11 too, tested after all others'; no seat is told and no field is given, so there is
-- neither 13 nor 15
abbrev pub save_refusal : Tree → Grants → Images → ℕ → ℕ
save_refusal t g im room = refusal_by t g im 0 0 or 11 when ltb room (length (saved_file t g im))

-- the file's length
unfoldable pub save_in : Tree → Grants → Images → ℕ → Reply ℕ
save_in t g im room = unless (save_refusal t g im room) (Ok (length (saved_file t g im))) Err

-- 'a refusal leaves the buffer untouched, and a file that fits the bytes past it'
unfoldable pub buffer_in : Tree → Grants → Images → List ℕ → List ℕ
buffer_in t g im old = unless (save_refusal t g im (length old)) (over_start old (saved_file t g im)) (λ n. old)
