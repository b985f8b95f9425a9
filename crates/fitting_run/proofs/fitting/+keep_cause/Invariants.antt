use Rattle.std.proofs.Common.{length}
use Rattle.fitting_run.proofs.fitting.+keep_cause.Given as goal

abbrev pub decreases-keep_cause : goal.decreases-keep_cause
decreases-keep_cause l = length l.some.now
