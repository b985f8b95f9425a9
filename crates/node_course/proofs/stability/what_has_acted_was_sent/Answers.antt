use Rattle.node_course.proofs.Legal.{worker_within}
use Rattle.node_course.proofs.Sent.{acted_low}
use Rattle.node_course.proofs.stability.what_has_acted_was_sent.Goals as goal

pub returns : goal.returns
returns g c = let p = g.P.Rules in let replica = g.S.Replica in λ lines home nodes course looks n from at done s d log seat desks is get front was.
    acted_low p.law n desks course.seen (worker_within p.law replica.meaning n course.seen seat desks was.ok) s d get is log front
