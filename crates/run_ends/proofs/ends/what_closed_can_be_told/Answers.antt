use Rattle.run_ends.proofs.Lines.{can_tell}
use Rattle.run_ends.proofs.ends.what_closed_can_be_told.Goals as goal

pub returns : goal.returns
returns g c = let p = g.P.Rules in let replica = g.S.Replica in λ run lines fault_lines journal looks log workers h.
    can_tell p.law replica.meaning run lines fault_lines journal looks log workers h
