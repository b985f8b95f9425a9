use Rattle.run_ends.proofs.Sessions.{session_ended}
use Rattle.run_ends.proofs.ends.each_session_has_ended.Goals as goal

pub returns : goal.returns
returns g c = let p = g.P.Rules in let replica = g.S.Replica in λ run lines fault_lines rows journal looks log workers s h are.
    session_ended p.law replica.meaning lines fault_lines journal looks log workers h rows are s
