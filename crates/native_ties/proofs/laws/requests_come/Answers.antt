use Rattle.native_ties.proofs.Answering.{comes_as, stops_as}
use Rattle.native_ties.proofs.laws.requests_come.Goals as goal

pub returns-clause-answered : goal.returns-clause-answered
returns-clause-answered c = λ cell t i p new errand ask law part waiting here message asks answers. comes_as cell t i p new errand ask law part waiting here message asks answers

pub returns-clause-failed : goal.returns-clause-failed
returns-clause-failed c = λ cell t i p new errand ask law part waiting here message asks wanted answers. stops_as cell t i p new errand ask law part waiting here message asks wanted answers
