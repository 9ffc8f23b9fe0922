use mathlib.Core.Path.{◌∙◌}
use mathlib.Core.List.{map}
use lib.ListN.{get_or-map}
use Rattle.file_record.specs.declared.Class.TheVariants as class
use Rattle.file_record.specs.definitions.Record.{Form, no_form, forms, form_of}
use Rattle.file_record.proofs.Records.{get_else}
use Rattle.file_record.proofs.record.class_of.Goals as goal

pub returns : goal.returns
unfolding form_of
returns c =
    get_else (map (λ (f : Form). f.class) forms) c.args.kind class.Unknown c.get.result c.get.ensures.lookup c.copied.ensures
    c.unwrap_or.ensures
    ∙ get_or-map (λ (f : Form). f.class) forms c.args.kind no_form
