use Rattle.journal_laws.proofs.Refusals.{counted, full_still}
use Rattle.journal_laws.proofs.faults.refusals_are_counted.Goals as goal

pub returns-clause-counted : goal.returns-clause-counted
returns-clause-counted c = counted

pub returns-clause-full : goal.returns-clause-full
returns-clause-full c = full_still
