use Rattle.node_course.proofs.Faulting.{all_events, of_nodes, own_stores, came_run}
use Rattle.node_course.proofs.joined.faults_add_up.Goals as goal

pub returns-clause-events : goal.returns-clause-events
returns-clause-events g c = let p = g.P.Rules in λ lines home nodes run looks courses kind store are join.
    all_events p.law lines home nodes run looks courses join kind store are

pub returns-clause-nodes : goal.returns-clause-nodes
returns-clause-nodes g c = let p = g.P.Rules in λ lines home nodes run looks courses join.
    of_nodes p.law lines home nodes run looks courses join

pub returns-clause-stores : goal.returns-clause-stores
returns-clause-stores g c = let p = g.P.Rules in λ lines home nodes run looks courses n join least most.
    own_stores p.law lines home nodes run looks courses join n least most

pub returns-clause-came : goal.returns-clause-came
returns-clause-came g c = let p = g.P.Rules in λ lines home nodes run looks courses n phase k join least most h.
    came_run p.law lines home nodes run looks courses join n n phase k least most h
