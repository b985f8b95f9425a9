use Rattle.node_course.proofs.Opening.{node_opens}
use Rattle.node_course.proofs.stability.a_node_opens.Goals as goal

pub returns : goal.returns
returns g c = let p = g.P.Rules in let replica = g.S.Replica in λ lines home nodes looks n seat desks size none nodes_is new ok.
    node_opens p.law replica.meaning lines home nodes looks n seat desks size none nodes_is new ok
