use Rattle.std.proofs.Common.{length}
use Rattle.fitting_run.proofs.fitting.+keeps_barriers.Given as goal

abbrev pub decreases-keeps_barriers : goal.decreases-keeps_barriers
decreases-keeps_barriers l = length l.told.now
