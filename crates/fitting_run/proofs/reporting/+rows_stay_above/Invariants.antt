use Rattle.std.proofs.Common.{length}
use Rattle.fitting_run.proofs.reporting.+rows_stay_above.Given as goal

abbrev pub decreases-rows_stay_above : goal.decreases-rows_stay_above
decreases-rows_stay_above l = length l.told.now
