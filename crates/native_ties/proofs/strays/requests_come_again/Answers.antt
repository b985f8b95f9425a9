use Rattle.native_ties.proofs.Repeating.{comes_again, stops_again, comes_to, stops_at}
use Rattle.native_ties.proofs.strays.requests_come_again.Goals as goal

pub returns-clause-answered : goal.returns-clause-answered
returns-clause-answered c = λ cell k t i a p new law part waiting here is h. comes_again cell k t i a p new law part waiting here is h

pub returns-clause-failed : goal.returns-clause-failed
returns-clause-failed c = λ cell k t i a p new law part waiting here is wanted h. stops_again cell k t i a p new law part waiting here is wanted h

pub returns-clause-dropped : goal.returns-clause-dropped
returns-clause-dropped c = λ cell k t i a is. comes_to cell k t i a is

pub returns-clause-stopped : goal.returns-clause-stopped
returns-clause-stopped c = λ cell k t i a is wanted. stops_at cell k t i a is wanted
