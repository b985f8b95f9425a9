use Rattle.native_ties.proofs.Hearers.{hears_as}
use Rattle.native_ties.proofs.laws.answers_come.Goals as goal

pub returns : goal.returns
returns c = λ cell t i p new errand told law part waiting here message h. hears_as cell t i p new errand told law part waiting here message h
