use Rattle.legal_journal.proofs.Legal.{goes_on}
use Rattle.legal_journal.proofs.laws.log_goes_on.Goals as goal

pub returns : goal.returns
returns g c = λ early late h. goes_on g.P.Rules.law early late h
