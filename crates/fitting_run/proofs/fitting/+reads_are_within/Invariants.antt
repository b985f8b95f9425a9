use Rattle.std.proofs.Common.{length}
use Rattle.fitting_run.proofs.fitting.+reads_are_within.Given as goal

abbrev pub decreases-reads_are_within : goal.decreases-reads_are_within
decreases-reads_are_within l = length l.told.now
