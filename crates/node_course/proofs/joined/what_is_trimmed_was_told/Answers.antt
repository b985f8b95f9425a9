use Rattle.node_course.proofs.Trimmed.{each_told, some_told}
use Rattle.node_course.proofs.joined.what_is_trimmed_was_told.Goals as goal

pub returns-clause-each : goal.returns-clause-each
returns-clause-each g c = let p = g.P.Rules in λ may lines home nodes run looks courses k is join least most.
    each_told p.law may lines home nodes run looks courses join k is least most

pub returns-clause-some : goal.returns-clause-some
returns-clause-some g c = let p = g.P.Rules in λ nodes seen cursors is legal upto.
    some_told p.law nodes seen cursors is legal upto
