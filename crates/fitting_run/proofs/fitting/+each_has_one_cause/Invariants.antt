use Rattle.std.proofs.Common.{length}
use Rattle.fitting_run.proofs.fitting.+each_has_one_cause.Given as goal

abbrev pub decreases-each_has_one_cause : goal.decreases-each_has_one_cause
decreases-each_has_one_cause l = length l.some.now
