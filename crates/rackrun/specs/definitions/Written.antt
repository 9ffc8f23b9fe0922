-- What is written of a file's output. No contract can say what the system writes; these say which bytes `write_next` may be given, and how
-- many it has been given.
use Rattle.std.specs.Prelude.{◌≡◌, ℕ, ◌+◌, ◌*◌, ◌≤◌, ◌<◌, List, length, take, drop, Result, IfOk}
use Rattle.rack.specs.definitions.Tree.{Tree}
use Rattle.seat.specs.definitions.Grants.{Grants}
use Rattle.register_image.specs.definitions.Image.{Images}
use Rattle.print_file.specs.definitions.Output.{output_of}
use Rattle.print_output.specs.declared.Rest.{Rest}
use Rattle.print_output.specs.definitions.Rest.{output_from, end_from}
use Rattle.print_output.specs.definitions.Piece.{Ready, to_go}
use Rattle.rackrun.specs.declared.Progress.{Progress}

-- these bytes stand in a text after its first `done`
abbrev pub IsNext : List ℕ → ℕ → List ℕ → Type 0
IsNext text done bytes = bytes ≡ take (length bytes) (drop done text)

-- of a file's output `done` bytes are written, and what is left has the others
pub record Stands (b : List ℕ) (t : Tree) (g : Grants) (p : Progress) (im : Images) : Type 0 where
  pub inside : p.done ≤ length (output_of b)
  pub left : drop p.done (output_of b) ≡ output_from t g b p.rest im
  pub ready : Ready b t p.rest
  -- a part has at most 65,536 bytes, so the count fits
  pub fits : p.done + 65536 * to_go b p.rest ≤ 4294967296

-- written up to here
abbrev pub Writes : {E : Type 0} → Result Progress E → ℕ → Rest → Type 0
Writes r done rest = IfOk r (λ p. p ≡ record { done = done; rest = rest })

-- a part later it stands so again, with less left, and ends where it did
pub record Later (b : List ℕ) (t : Tree) (g : Grants) (p : Progress) (im : Images) (q : Progress) (after : Images) : Type 0 where
  pub stands : Stands b t g q after
  pub less : to_go b q.rest < to_go b p.rest
  pub same : end_from t g b p.rest im ≡ end_from t g b q.rest after

abbrev pub WritesPart : {E : Type 0} → List ℕ → Tree → Grants → Progress → Images → Result Progress E → Images → Type 0
WritesPart b t g p im r after = IfOk r (λ q. Later b t g p im q after)

-- a whole text is written, each of its bytes once
abbrev pub WritesAll : {E : Type 0} → Result Progress E → List ℕ → Type 0
WritesAll r text = IfOk r (λ p. p.done ≡ length text)
