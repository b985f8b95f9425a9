use Rattle.chain_map.proofs.Spellings.{chain_takes, chain_again, chain_alike}
use Rattle.chain_map.proofs.laws.one_chain_spelling.Goals as goal

pub returns-clause-reads : goal.returns-clause-reads
returns-clause-reads c = λ bytes d fits. (chain_takes bytes d fits, chain_again bytes d)

pub returns-clause-alike : goal.returns-clause-alike
returns-clause-alike c = chain_alike
