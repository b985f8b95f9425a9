use Rattle.native_ties.proofs.Lessening.{answered_less, heard_less, lost_less}
use Rattle.native_ties.proofs.Bounds.{bounded}
use Rattle.native_ties.proofs.laws.less_is_left.Goals as goal

pub returns-clause-answered : goal.returns-clause-answered
returns-clause-answered c = λ cell t i p new e told part waiting here message a. answered_less cell t i p new e told part waiting here message a

pub returns-clause-heard : goal.returns-clause-heard
returns-clause-heard c = λ cell t i p new e told law part waiting here message h. heard_less cell t i p new e told law part waiting here message h

pub returns-clause-lost : goal.returns-clause-lost
returns-clause-lost c = λ cell t i p new law part waiting here out h. lost_less cell t i p new law part waiting here out h

pub returns-clause-bounded : goal.returns-clause-bounded
returns-clause-bounded c = λ cell t p part waiting small. bounded cell t p part waiting small
