use Rattle.std.proofs.Common.{length}
use Rattle.fitting_run.proofs.fitting.+reads_keep_order.Given as goal

abbrev pub decreases-reads_keep_order : goal.decreases-reads_keep_order
decreases-reads_keep_order l = length l.told.now
