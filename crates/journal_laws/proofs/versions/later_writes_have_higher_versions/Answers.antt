use Rattle.journal_laws.proofs.Writing.{differ}
use Rattle.journal_laws.proofs.versions.later_writes_have_higher_versions.Goals as goal

pub returns : goal.returns
returns g c = let p = g.P.Rules in λ who other expected wanted version second chain next before between after legal. differ p.law who other expected wanted version second chain next before between after legal
