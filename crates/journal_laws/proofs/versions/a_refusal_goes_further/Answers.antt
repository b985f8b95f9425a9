use Rattle.journal_laws.proofs.Writing.{refused}
use Rattle.journal_laws.proofs.versions.a_refusal_goes_further.Goals as goal

pub returns : goal.returns
returns g c = let p = g.P.Rules in λ who expected version asked chain looked before after legal behind. refused p.law who expected version asked chain looked before after legal behind
