use Rattle.native_ties.proofs.Losers.{loses_as}
use Rattle.native_ties.proofs.laws.messages_are_lost.Goals as goal

pub returns : goal.returns
returns c = λ cell t i p new law part waiting here out h. loses_as cell t i p new law part waiting here out h
