use Rattle.node_course.proofs.Parts.{run_legal, run_rises}
use Rattle.node_course.proofs.joined.a_run_goes_by_moments.Goals as goal

pub returns-clause-legal : goal.returns-clause-legal
returns-clause-legal g c = let p = g.P.Rules in λ lines home nodes run looks courses join some.
    run_legal p.law lines home nodes run looks courses join some

pub returns-clause-rise : goal.returns-clause-rise
returns-clause-rise g c = let p = g.P.Rules in λ lines home nodes run looks courses q join some.
    run_rises p.law lines home nodes run looks courses join some q
