use Rattle.node_course.proofs.Trimmed.{told_clean}
use Rattle.node_course.proofs.joined.what_is_told_is_clean.Goals as goal

pub returns : goal.returns
returns g c = let p = g.P.Rules in λ may lines home nodes run looks courses e q of some join there among.
    told_clean p.law may lines home nodes run looks courses join of some e q there among
