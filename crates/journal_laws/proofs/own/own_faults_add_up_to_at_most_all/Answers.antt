use Rattle.journal_laws.proofs.Shares.{add_up}
use Rattle.journal_laws.proofs.own.own_faults_add_up_to_at_most_all.Goals as goal

pub returns : goal.returns
returns c = λ kind users events apart. add_up kind users events apart
