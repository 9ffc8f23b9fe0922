use Rattle.std.proofs.Common.{refl, ◌∙◌}
use Rattle.call_numbers.specs.definitions.Numbers.{numbers_of, code_of, reply_numbers}
use Rattle.call_numbers.proofs.Told.{made}
use Rattle.call_numbers.proofs.put_reply.Goals as goal

pub returns : goal.returns
returns c =
    let m = made code_of reply_numbers numbers_of (λ _. refl) (λ _. refl) (λ _. refl) (λ _. refl) c.args.r c.map.result c.map.ensures.cases in
    (c.put.ensures.0 ∙ m.0, c.put.ensures.1 ∙ m.1)
