use Rattle.std.proofs.Common.{length}
use Rattle.fitting_run.proofs.faulting.+left_by_refusals.Given as goal

abbrev pub decreases-left_by_refusals : goal.decreases-left_by_refusals
decreases-left_by_refusals l = length l.cells.now
