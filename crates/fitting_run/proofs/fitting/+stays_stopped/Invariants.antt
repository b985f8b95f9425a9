use Rattle.std.proofs.Common.{length}
use Rattle.fitting_run.proofs.fitting.+stays_stopped.Given as goal

abbrev pub decreases-stays_stopped : goal.decreases-stays_stopped
decreases-stays_stopped l = length l.told.now
