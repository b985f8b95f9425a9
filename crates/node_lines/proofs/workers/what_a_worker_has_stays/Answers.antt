use Rattle.node_lines.proofs.Staying.{worker_stays}
use Rattle.node_lines.proofs.workers.what_a_worker_has_stays.Goals as goal

pub returns : goal.returns
returns g c = let p = g.P.Rules in let r = g.S.Replica in λ who early more seat desks h legal.
    worker_stays p.law r.meaning who early more seat desks h legal
