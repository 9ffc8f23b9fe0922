use mathlib.Core.Path.{sym}
use borrow.Author.Tests.{eqb-true, eqb-false}
use Rattle.file_record.specs.laws.LoadsLaws.{loads_over, loads_empty, loads_all}
use Rattle.file_load.proofs.load.Goals as goal

pub returns-then-file-gt65536 : goal.returns-then-file-gt65536
returns-then-file-gt65536 c = loads_over _ _ c.if-file-gt65536.true

pub returns-then-is_empty : goal.returns-then-is_empty
returns-then-is_empty c = loads_empty _ _ (eqb-true _ _ (sym c.if-is_empty.ensures))

pub returns : goal.returns
returns c = loads_all _ _ _ c.if-file-gt65536.false (eqb-false _ _ (sym c.if-is_empty.ensures)) c.read.ensures
