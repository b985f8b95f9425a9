use Rattle.fabric_core.proofs.OneLoglet.{log-whole, tail-first_chain, gap-whole}
use Rattle.fabric_core.proofs.laws.one_loglet_is_the_log.Goals as goal

pub returns-clause-log : goal.returns-clause-log
returns-clause-log c = log-whole

pub returns-clause-tail : goal.returns-clause-tail
returns-clause-tail c = tail-first_chain

pub returns-clause-gap : goal.returns-clause-gap
returns-clause-gap c = gap-whole
