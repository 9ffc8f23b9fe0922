use Rattle.std.proofs.Common.{refl, ◌∙◌}
use Rattle.call_numbers.specs.definitions.Numbers.{ends_code, ends_numbers}
use Rattle.call_numbers.proofs.Told.{made}
use Rattle.call_numbers.proofs.put_ends.Goals as goal

pub returns : goal.returns
returns c =
    let m = made ends_code ends_numbers _ (λ _. refl) (λ _. refl) (λ _. refl) (λ _. refl) c.args.e c.map.result c.map.ensures.cases in
    (c.put.ensures.0 ∙ m.0, c.put.ensures.1 ∙ m.1)
