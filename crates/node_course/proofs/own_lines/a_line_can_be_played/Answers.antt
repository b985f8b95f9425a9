use Rattle.node_course.proofs.Turning.{can_play}
use Rattle.node_course.proofs.own_lines.a_line_can_be_played.Goals as goal

pub returns : goal.returns
returns g c = let p = g.P.Rules in let replica = g.S.Replica in λ run lines home nodes course looks n from i done line seat desks is are at own w.
    can_play p.law replica.meaning run lines home nodes course looks n from i done seat desks is w are line at own
