use Rattle.node_course.proofs.Arming.{node_armed, rests_armed}
use Rattle.node_course.proofs.stability.a_node_is_armed.Goals as goal

pub returns-clause-node : goal.returns-clause-node
returns-clause-node g c = let p = g.P.Rules in let replica = g.S.Replica in λ lines home nodes course looks n from at done after seat desks was.
    node_armed p.law replica.meaning lines home nodes course looks n from seat desks after at done was

pub returns-clause-rests : goal.returns-clause-rests
returns-clause-rests g c = let p = g.P.Rules in let replica = g.S.Replica in λ lines home nodes course looks n from done after seat desks was.
    rests_armed p.law replica.meaning lines home nodes course looks n from seat desks after done was
