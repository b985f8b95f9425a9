use Rattle.std.proofs.Common.{length}
use Rattle.fitting_run.proofs.fitting.+reads_are_kept_open.Given as goal

abbrev pub decreases-reads_are_kept_open : goal.decreases-reads_are_kept_open
decreases-reads_are_kept_open l = length l.told.now
