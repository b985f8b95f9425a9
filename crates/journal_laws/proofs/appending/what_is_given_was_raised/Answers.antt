use Rattle.journal_laws.proofs.Changes.{given_raised, trim_raised, trimmed_raised}
use Rattle.journal_laws.proofs.appending.what_is_given_was_raised.Goals as goal

pub returns-clause-given : goal.returns-clause-given
returns-clause-given g c = let p = g.P.Rules in λ seen version chain legal h. given_raised p.law seen version chain legal h

pub returns-clause-trim : goal.returns-clause-trim
returns-clause-trim g c = let p = g.P.Rules in λ seen legal. trim_raised p.law seen legal

pub returns-clause-trimmed : goal.returns-clause-trimmed
returns-clause-trimmed g c = let p = g.P.Rules in λ seen pos legal t. trimmed_raised p.law seen pos legal t
