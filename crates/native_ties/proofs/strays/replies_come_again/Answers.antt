use Rattle.native_ties.proofs.Straying.{heard_again, goes_as_again}
use Rattle.native_ties.proofs.strays.replies_come_again.Goals as goal

pub returns-clause-heard : goal.returns-clause-heard
returns-clause-heard c = λ cell k t i e z p new law part waiting here reply asked h. heard_again cell k t i e z p new law part waiting here reply asked h

pub returns-clause-goes : goal.returns-clause-goes
returns-clause-goes c = λ cell k t i e z p new law part waiting here reply h. goes_as_again cell k t i e z p new law part waiting here reply h
