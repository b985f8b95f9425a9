use Rattle.node_course.proofs.Asking.{line_next}
use Rattle.node_course.proofs.own_lines.a_line_is_next.Goals as goal

pub returns : goal.returns
returns g c = let p = g.P.Rules in let replica = g.S.Replica in λ lines home nodes course looks n from i done line seat desks are at own w.
    line_next p.law replica.meaning lines home nodes course looks n from i done line seat desks are at own w
