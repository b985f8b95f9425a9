use Rattle.native_ties.proofs.Beginning.{begins}
use Rattle.native_ties.proofs.laws.operations_begin.Goals as goal

pub returns : goal.returns
returns c = λ cell aim start known p law k odd few starts are b. begins cell aim start known law k odd few starts are p b
