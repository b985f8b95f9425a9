use Rattle.journal_laws.proofs.Register.{all_counted}
use Rattle.journal_laws.proofs.faults.register_faults_are_counted.Goals as goal

pub returns : goal.returns
returns g c = let p = g.P.Rules in λ events now legal h. all_counted p.law events now legal h
