use Rattle.node_course.proofs.Segments.{all_counted, all_segments, all_told, each_told}
use Rattle.node_course.proofs.joined.the_chain_is_told.Goals as goal

pub returns-clause-each : goal.returns-clause-each
returns-clause-each g c = let p = g.P.Rules in λ lines home nodes run looks courses n join least most.
    each_told p.law lines home nodes run looks courses join n least most

pub returns-clause-most : goal.returns-clause-most
returns-clause-most g c = let p = g.P.Rules in λ lines home nodes run looks courses join some there calm.
    all_told p.law lines home nodes run looks courses join some there calm

pub returns-clause-segments : goal.returns-clause-segments
returns-clause-segments g c = let p = g.P.Rules in λ lines home nodes run looks courses join some none.
    all_segments p.law lines home nodes run looks courses join some none

pub returns-clause-versions : goal.returns-clause-versions
returns-clause-versions g c = let p = g.P.Rules in λ lines home nodes run looks courses join some.
    all_counted p.law lines home nodes run looks courses join some
