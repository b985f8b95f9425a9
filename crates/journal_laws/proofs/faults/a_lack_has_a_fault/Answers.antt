use Rattle.journal_laws.proofs.Calm.{lack_has_fault}
use Rattle.journal_laws.proofs.faults.a_lack_has_a_fault.Goals as goal

pub returns : goal.returns
returns c = lack_has_fault
