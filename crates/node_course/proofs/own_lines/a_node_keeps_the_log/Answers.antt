use Rattle.node_course.proofs.Turning.{goes_on}
use Rattle.node_course.proofs.own_lines.a_node_keeps_the_log.Goals as goal

pub returns : goal.returns
returns g c = let p = g.P.Rules in let replica = g.S.Replica in λ run lines home nodes course looks n from at done seat desks is least most w none.
    goes_on p.law replica.meaning run lines home nodes course looks n from at done seat desks is w least most none
