use Rattle.native_ties.proofs.Remaining.{no_more}
use Rattle.native_ties.proofs.strays.no_more_is_left.Goals as goal

pub returns : goal.returns
returns c = λ cell k t i e z p new law part waiting here reply h. no_more cell k t i e z p new law part waiting here reply h
