use Rattle.file_record.proofs.record.class_in.Goals as goal

pub returns : goal.returns
returns c = cc
