use Rattle.outside_ends.proofs.Moves.{loses_more}
use Rattle.outside_ends.proofs.whole.read_up_to.Goals as goal

pub returns-in_err-take_more-clause-rest : goal.returns-in_err-take_more-clause-rest
returns-in_err-take_more-clause-rest g c = loses_more c.from_residual.result _ _ _ _ c.loop-buf.invariant.came c.in_err-take_more.ensures.rest
