use Rattle.std.proofs.Common.{length}
use Rattle.legal_journal.specs.Journal.{state_of}
use Rattle.legal_journal.proofs.Legal.{sound}
use Rattle.legal_journal.proofs.Chains.{chain_ok, closed_at}
use Rattle.legal_journal.proofs.laws.chains_are_joined.Goals as goal

pub returns-clause-joined : goal.returns-clause-joined
returns-clause-joined g c = λ events v x h k.
    chain_ok (length g.P.Rules.law.shelf) (state_of events) v x (sound g.P.Rules.law events h) k

pub returns-clause-closed : goal.returns-clause-closed
returns-clause-closed g c = λ events v x h k.
    closed_at (length g.P.Rules.law.shelf) (state_of events) v x (sound g.P.Rules.law events h) k
