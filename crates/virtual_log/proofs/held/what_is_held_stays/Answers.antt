use Rattle.std.proofs.Common.{◌++◌}
use Rattle.legal_journal.proofs.Legal.{legal_front, goes_on}
use Rattle.virtual_log.proofs.Holding.{holds_later}
use Rattle.virtual_log.proofs.held.what_is_held_stays.Goals as goal

pub returns : goal.returns
returns g c = λ early more pos e legal h.
    let p = g.P.Rules in
    holds_later p.law early (early ++ more) pos e (legal_front p.law early more legal) (goes_on p.law early more legal) h
