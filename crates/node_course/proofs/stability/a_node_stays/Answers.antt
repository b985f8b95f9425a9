use Rattle.node_course.proofs.Staying.{node_stays}
use Rattle.node_course.proofs.stability.a_node_stays.Goals as goal

pub returns : goal.returns
returns g c = let p = g.P.Rules in let replica = g.S.Replica in λ run lines home nodes course looks looks' n from at done more seat desks others legal size same was.
    node_stays p.law replica.meaning run lines home nodes course looks looks' n from at done more seat desks others legal size same was
