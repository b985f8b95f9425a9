use Rattle.node_course.proofs.Beginning.{rests_then}
use Rattle.node_course.proofs.stability.a_phase_begins.Goals as goal

pub returns : goal.returns
returns g c = let p = g.P.Rules in let replica = g.S.Replica in λ lines home nodes course looks n from seat desks begins r.
    rests_then p.law replica.meaning lines home nodes course looks n from seat desks begins r
