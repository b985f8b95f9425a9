use Rattle.std.proofs.Common.{length}
use Rattle.fitting_run.proofs.fitting.+reads_dont_fall.Given as goal

abbrev pub decreases-reads_dont_fall : goal.decreases-reads_dont_fall
decreases-reads_dont_fall l = length l.told.now
