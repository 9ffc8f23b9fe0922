-- What library `bytes` says of a copy, where the target is as long as what is copied: nothing of it is left.
use Rattle.std.specs.Prelude.{◌≡◌, List, [], ◌++◌, ℕ, length, take, drop}
use Rattle.std.proofs.Common.{sym, ap, ◌∙◌, append-nil}
use Rattle.std.proofs.Math.Seq.{take-length, drop-length}

pub copied_whole : (part target : List ℕ) {q : List ℕ} → length target ≡ length part
    → q ≡ take (length part) part ++ drop (length part) target → q ≡ part
copied_whole part target long e =
    let none : drop (length part) target ≡ [] = ap (λ (n : ℕ). drop n target) (sym long) ∙ drop-length target in
    e ∙ rw (take-length part, none) (append-nil part)
