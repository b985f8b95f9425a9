use Rattle.node_course.proofs.Trimmed.{had_lowest, report_behind, told_stands, trim_stands}
use Rattle.node_course.proofs.joined.what_lines_came_to_stands.Goals as goal

pub returns-clause-told : goal.returns-clause-told
returns-clause-told g c = let p = g.P.Rules in λ lines home nodes run looks courses n i l look are join come.
    told_stands p.law lines home nodes run looks courses are join n i l look come

pub returns-clause-behind : goal.returns-clause-behind
returns-clause-behind g c = let p = g.P.Rules in λ may lines home nodes run looks courses n i l position are join come.
    report_behind p.law lines home nodes run looks courses are join may n i l position come

pub returns-clause-trims : goal.returns-clause-trims
returns-clause-trims g c = let p = g.P.Rules in λ lines home nodes run looks courses n j l trim are join come.
    trim_stands p.law lines home nodes run looks courses are join n j l trim come

pub returns-clause-lowest : goal.returns-clause-lowest
returns-clause-lowest g c = let p = g.P.Rules in λ lines home nodes run looks courses n j l trim are join come.
    had_lowest p.law lines home nodes run looks courses are join n j l trim come
