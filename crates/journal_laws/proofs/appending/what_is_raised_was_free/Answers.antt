use Rattle.journal_laws.proofs.Changes.{raised_free}
use Rattle.journal_laws.proofs.appending.what_is_raised_was_free.Goals as goal

pub returns : goal.returns
returns g c = let p = g.P.Rules in λ seen n legal h. raised_free p.law seen n legal h
