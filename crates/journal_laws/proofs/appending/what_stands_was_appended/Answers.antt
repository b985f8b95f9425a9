use Rattle.journal_laws.proofs.Changes.{held_appended, shown_appended}
use Rattle.journal_laws.proofs.appending.what_stands_was_appended.Goals as goal

pub returns-clause-held : goal.returns-clause-held
returns-clause-held g c = let p = g.P.Rules in λ seen pos e legal h. held_appended p.law seen pos e legal h

pub returns-clause-shown : goal.returns-clause-shown
returns-clause-shown g c = let p = g.P.Rules in λ seen pos e legal h. shown_appended p.law seen pos e legal h
