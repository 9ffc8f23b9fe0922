use Rattle.claim_decode.proofs.Granule.{first_fits, last_fits}
use Rattle.claim_decode.proofs.decode.window_of.Goals as goal

pub overflow_mul-result : goal.overflow_mul-result
overflow_mul-result c = record { fits = first_fits c.args.k c.requires.0 c.args.base c.requires.1 }

pub overflow_mul-result-2 : goal.overflow_mul-result-2
overflow_mul-result-2 c = record { fits = first_fits c.args.k c.requires.0 c.args.limit c.requires.2 }

pub overflow_add-result : goal.overflow_add-result
overflow_add-result c = record { fits = last_fits c.args.k c.requires.0 c.args.limit c.requires.2 }
