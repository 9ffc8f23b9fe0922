use mathlib.Core.Path.{◌≡◌, ap, ◌∙◌}
use mathlib.Core.List.{map}
use Prim.Native.Nat.{◌+◌}
use native.Mathlib.Omega.{arith}
use lib.ListN.{get_or-map}
use Rattle.file_record.specs.definitions.Record.{Form, no_form, forms, form_of}
use Rattle.file_record.specs.laws.RecordLaws.{body_most}
use Rattle.file_record.proofs.Records.{get_else}
use Rattle.file_record.proofs.record.size_of.Goals as goal

pub returns : goal.returns
unfolding form_of
returns c =
    let k = c.args.kind in
    let body : c.unwrap_or-body.result ≡ (form_of k).body =
    get_else (map (λ (f : Form). f.body) forms) k 0 c.get.result c.get.ensures.lookup c.copied.ensures c.unwrap_or-body.ensures
    ∙ get_or-map (λ (f : Form). f.body) forms k no_form in
    (ap (λ n. n + 1) body, omega arith, omega (arith, body_most k))
