use Rattle.std.proofs.Common.{length}
use Rattle.fitting_run.proofs.faulting.+left_by_lacks.Given as goal

abbrev pub decreases-left_by_lacks : goal.decreases-left_by_lacks
decreases-left_by_lacks l = length l.cells.now
