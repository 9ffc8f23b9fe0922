-- What an accepted read tells: the number that was found.
use mathlib.Core.Path.{◌≡◌, ap, ◌∙◌}
use mathlib.Core.List.{List}
use Prim.Native.Nat.{ℕ}
use Rattle.register_header.specs.definitions.Register.{read_register}

pub read_of : (register : ℕ) {part l : List ℕ} {v : ℕ} → part ≡ l → v ≡ read_register part register
    → v ≡ read_register l register
read_of register ep ev = ev ∙ ap (λ (p : List ℕ). read_register p register) ep
