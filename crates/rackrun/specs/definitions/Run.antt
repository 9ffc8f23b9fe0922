-- The run of a file, and what the program has of it.
use Rattle.std.specs.Prelude.{◌≡◌, ℕ, ◌+◌, List, length, Result, IfOk}
use Rattle.register_image.specs.definitions.Image.{Images}
use Rattle.file_record.specs.definitions.Load.{file_in}
use Rattle.print_output.specs.definitions.Rest.{Standing, standing, first_of, end_from}
use Rattle.print_output.specs.definitions.Piece.{Piece}
use Rattle.rackrun.specs.declared.Progress.{Progress}

-- 01: '`rackrun` reads a rack file from standard input, checks all of it, then runs it from reset'; 02, E2: 'The run then starts
-- from these registers instead of reset': where the run of a file ends; of a refused file nothing is run, and its line is printed
abbrev pub run_end : List ℕ → Images → Standing
run_end b im = end_from (file_in b).tree (file_in b).grants b (first_of b im).rest (first_of b im).before

-- what a function that prints has where all could be written: how many bytes of the output are written, what is left of it, and both images
abbrev pub Prints : {E : Type 0} → Result Progress E → Images → ℕ → Standing → Type 0
Prints r im done s = IfOk r (λ p. (p.done ≡ done) × (standing p.rest im ≡ s))

-- a part of it, after `done` bytes
abbrev pub PrintsPiece : {E : Type 0} → Result Progress E → Images → ℕ → Piece → Type 0
PrintsPiece r im done p = Prints r im (done + length p.text) (standing p.rest p.after)
