use Rattle.std.proofs.Common.{length}
use Rattle.fitting_run.proofs.fitting.+all_keep_barrier.Given as goal

abbrev pub decreases-all_keep_barrier : goal.decreases-all_keep_barrier
decreases-all_keep_barrier l = length l.rest.now
