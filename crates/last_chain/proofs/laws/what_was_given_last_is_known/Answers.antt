use Rattle.last_chain.proofs.Gifts.{knows_last}
use Rattle.last_chain.proofs.laws.what_was_given_last_is_known.Goals as goal

pub returns-clause-version : goal.returns-clause-version
returns-clause-version c = λ events. (knows_last events).0

pub returns-clause-chain : goal.returns-clause-chain
returns-clause-chain c = λ events. (knows_last events).1
