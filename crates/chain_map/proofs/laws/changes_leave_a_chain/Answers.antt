use Rattle.chain_map.proofs.Changes.{is_chain-extended, is_chain-dropped}
use Rattle.chain_map.proofs.laws.changes_leave_a_chain.Goals as goal

pub returns-clause-extended : goal.returns-clause-extended
returns-clause-extended c = is_chain-extended

pub returns-clause-dropped : goal.returns-clause-dropped
returns-clause-dropped c = is_chain-dropped
