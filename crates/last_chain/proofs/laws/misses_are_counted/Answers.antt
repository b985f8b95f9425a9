use Rattle.last_chain.proofs.Misses.{counted}
use Rattle.last_chain.proofs.laws.misses_are_counted.Goals as goal

pub returns : goal.returns
returns c = counted
