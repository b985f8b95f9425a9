use Rattle.native_ties.proofs.Asking.{allowed}
use Rattle.native_ties.proofs.laws.requests_are_allowed.Goals as goal

pub returns : goal.returns
returns c = λ cell t i p errand part waiting here message. allowed cell t i p errand part waiting here message
