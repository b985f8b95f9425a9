use Rattle.std.proofs.Common.{length}
use Rattle.fitting_run.proofs.counting.+some_logs_beside.Given as goal

abbrev pub decreases-some_logs_beside : goal.decreases-some_logs_beside
decreases-some_logs_beside l = length l.before.now
