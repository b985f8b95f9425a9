use Rattle.journal_laws.proofs.Lacks.{counted}
use Rattle.journal_laws.proofs.faults.lacks_are_counted.Goals as goal

pub returns : goal.returns
returns c = counted
