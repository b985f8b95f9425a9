use Rattle.std.proofs.Common.{length}
use Rattle.fitting_run.proofs.fitting.+all_stopped_by.Given as goal

abbrev pub decreases-all_stopped_by : goal.decreases-all_stopped_by
decreases-all_stopped_by l = length l.rest.now
