use Rattle.std.proofs.Common.{refl, ◌∙◌}
use Rattle.std.specs.Prelude.{[]}
use Rattle.call_table.specs.definitions.Call.{number_code}
use Rattle.call_numbers.specs.definitions.Numbers.{eight, value_numbers}
use Rattle.call_numbers.proofs.Told.{made}
use Rattle.call_numbers.proofs.put_value.Goals as goal

pub returns : goal.returns
returns c =
    let m = made number_code value_numbers (λ v. eight v []) (λ _. refl) (λ _. refl) (λ _. refl) (λ _. refl) c.args.n c.map.result c.map.ensures.cases in
    (c.put.ensures.0 ∙ m.0, c.put.ensures.1 ∙ m.1)
