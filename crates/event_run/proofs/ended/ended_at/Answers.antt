use Rattle.event_run.specs.definitions.Run.{ended_at}
use Rattle.event_run.proofs.Answering.{reaches}
use borrow.Author.Rules.{rules}
use Rattle.event_run.proofs.ended.ended_at.Goals as goal

pub returns-in-Node-clause-leaves : goal.returns-in-Node-clause-leaves
returns-in-Node-clause-leaves c = search (reaches, rules)

pub returns-in-Owner-clause-leaves : goal.returns-in-Owner-clause-leaves
unfolding ended_at
returns-in-Owner-clause-leaves c = rw c.in-Owner.is

pub returns-in-Host-clause-leaves : goal.returns-in-Host-clause-leaves
unfolding ended_at
returns-in-Host-clause-leaves c = rw c.in-Host.is

pub returns-in-Unclaimed-clause-leaves : goal.returns-in-Unclaimed-clause-leaves
unfolding ended_at
returns-in-Unclaimed-clause-leaves c = rw c.in-Unclaimed.is

pub returns-in-Clash-clause-leaves : goal.returns-in-Clash-clause-leaves
unfolding ended_at
returns-in-Clash-clause-leaves c = rw c.in-Clash.is

pub returns-in-Special-clause-leaves : goal.returns-in-Special-clause-leaves
unfolding ended_at
returns-in-Special-clause-leaves c = rw c.in-Special.is

pub returns-in-Silent-clause-leaves : goal.returns-in-Silent-clause-leaves
unfolding ended_at
returns-in-Silent-clause-leaves c = rw c.in-Silent.is
