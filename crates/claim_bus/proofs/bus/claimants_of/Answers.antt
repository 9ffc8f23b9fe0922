use Rattle.std.proofs.Common.{arith}
use Rattle.claim_bus.proofs.Found.{one_more, found_nobody, found_holder, found_holder_one, found_one, found_two}
use Rattle.claim_bus.proofs.bus.claimants_of.Goals as goal

pub overflow_add-one : goal.overflow_add-one
overflow_add-one c = omega (arith, one_more c.args.registers.now c.args.t c.in-Some.ensures)

pub returns-in-None : goal.returns-in-None
returns-in-None c = found_holder c.args.registers.now c.args.t c.counts-holder.ensures c.in-None.ensures c.if-holder.true

pub returns-in-None-2 : goal.returns-in-None-2
returns-in-None-2 c = found_nobody c.args.registers.now c.args.t c.counts-holder.ensures c.in-None-2.ensures c.if-holder.false

pub returns-in-Some : goal.returns-in-Some
returns-in-Some c = found_holder_one c.args.registers.now c.args.t c.counts-holder.ensures c.in-Some.ensures c.if-holder-2.true

pub returns-in-None-next_claimant : goal.returns-in-None-next_claimant
returns-in-None-next_claimant c =
    found_one c.args.registers.now c.args.t c.counts-holder.ensures c.in-Some.ensures c.if-holder-2.false
    c.in-None-next_claimant.ensures

pub returns-in-Some-next_claimant : goal.returns-in-Some-next_claimant
returns-in-Some-next_claimant c =
    found_two c.args.registers.now c.args.t c.counts-holder.ensures c.in-Some.ensures c.if-holder-2.false
    c.in-Some-next_claimant.ensures
