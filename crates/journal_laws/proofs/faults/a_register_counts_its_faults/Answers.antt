use Rattle.journal_laws.proofs.Register.{own_counted}
use Rattle.journal_laws.proofs.faults.a_register_counts_its_faults.Goals as goal

pub returns : goal.returns
returns c = own_counted
