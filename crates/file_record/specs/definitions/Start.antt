-- The registers that a run of a file starts from. Sentences are those of document 02, E2.
use Rattle.std.specs.Prelude.{ℕ, zero, suc, ◌+◌, cond, List, ltb, length}
use Rattle.rack.specs.definitions.Tree.{Tree}
use Rattle.register_image.specs.definitions.Image.{Images, set_node}
use Rattle.register_image.specs.definitions.Reset.{reset_images}
use Rattle.file_record.specs.definitions.Number.{byte_in}
use Rattle.file_record.specs.definitions.Record.{registers_in}
use Rattle.file_record.specs.definitions.Load.{file_in}

-- both images with the registers of the records from an offset on, as long as one ends by `end`; at most `left` of them
unfoldable pub set_from : ℕ → List ℕ → Tree → ℕ → ℕ → Images → Images
set_from zero b t end o im = im
set_from (suc left) b t end o im =
    cond (ltb end (o + 66)) im (set_from left b t end (o + 66) (set_node t im (byte_in b (o + 1)) (registers_in b o)))

-- 'The run then starts from these registers instead of reset': every node at reset, and then the register records, which stand from
-- `registers` up to `end`
abbrev pub start_from : List ℕ → Tree → ℕ → ℕ → Images → Images
start_from b t registers end im = set_from (length b) b t end registers (reset_images t im)

-- of a file
abbrev pub start_images : List ℕ → Images → Images
start_images b im = start_from b (file_in b).tree (file_in b).registers (file_in b).offset im
