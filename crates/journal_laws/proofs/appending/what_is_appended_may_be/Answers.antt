use Rattle.journal_laws.proofs.Changes.{appended_may}
use Rattle.journal_laws.proofs.appending.what_is_appended_may_be.Goals as goal

pub returns : goal.returns
returns g c = let p = g.P.Rules in λ events e legal h. appended_may p.law events e legal h
