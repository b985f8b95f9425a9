use Rattle.journal_laws.proofs.Reaching.{is_sealed, one_each, as_far}
use Rattle.journal_laws.proofs.seals.a_chain_goes_as_far_as_seals.Goals as goal

pub returns-clause-each : goal.returns-clause-each
returns-clause-each g c = let p = g.P.Rules in λ events id legal below. is_sealed p.law events id legal below

pub returns-clause-one_each : goal.returns-clause-one_each
returns-clause-one_each g c = λ events. one_each events

pub returns-clause-most : goal.returns-clause-most
returns-clause-most g c = let p = g.P.Rules in λ events legal. as_far p.law events legal
