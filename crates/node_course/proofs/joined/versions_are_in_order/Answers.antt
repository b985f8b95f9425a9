use Rattle.node_course.proofs.Versions.{begins_in_phase, passed_by, stands_now, versions_apart, versions_rise}
use Rattle.node_course.proofs.joined.versions_are_in_order.Goals as goal

pub returns-clause-stand : goal.returns-clause-stand
returns-clause-stand g c = let p = g.P.Rules in λ lines home nodes run looks courses n i l x are join come.
    stands_now p.law lines home nodes run looks courses are join n i l x come

pub returns-clause-apart : goal.returns-clause-apart
returns-clause-apart g c = let p = g.P.Rules in λ lines home nodes run looks courses a b i j l m v w start other are join come come' low.
    versions_apart p.law lines home nodes run looks courses are join a b i j l m v w start other come come' low

pub returns-clause-rise : goal.returns-clause-rise
returns-clause-rise g c = let p = g.P.Rules in λ lines home nodes run looks courses a b i j l m x y are join come come' low first.
    versions_rise p.law lines home nodes run looks courses are join a b i j l m x y come come' low first

pub returns-clause-passed : goal.returns-clause-passed
returns-clause-passed g c = let p = g.P.Rules in λ lines home nodes run looks courses n i l v are join come.
    passed_by p.law lines home nodes run looks courses are join n i l v come

pub returns-clause-begins : goal.returns-clause-begins
returns-clause-begins g c = let p = g.P.Rules in λ lines home nodes run looks courses n i l v start are join come.
    begins_in_phase p.law lines home nodes run looks courses are join n i l v start come
