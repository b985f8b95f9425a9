use Rattle.fitting_run.proofs.Reading.{counted-read, log-read, tail-read, whole-read}
use Rattle.fitting_run.proofs.laws.nothing_else_is_read.Goals as goal

pub returns-clause-tail : goal.returns-clause-tail
returns-clause-tail c = tail-read

pub returns-clause-whole : goal.returns-clause-whole
returns-clause-whole c = whole-read

pub returns-clause-log : goal.returns-clause-log
returns-clause-log c = log-read

pub returns-clause-counted : goal.returns-clause-counted
returns-clause-counted c = counted-read
