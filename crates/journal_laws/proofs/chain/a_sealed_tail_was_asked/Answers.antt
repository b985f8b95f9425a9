use Rattle.journal_laws.proofs.Asked.{tail_asked}
use Rattle.journal_laws.proofs.chain.a_sealed_tail_was_asked.Goals as goal

pub returns : goal.returns
returns g c = let p = g.P.Rules in λ events i tail legal h. tail_asked p.law events i tail legal h
