use Rattle.std.proofs.Common.{length}
use Rattle.fitting_run.proofs.fitting.+have_one_cause.Given as goal

abbrev pub decreases-have_one_cause : goal.decreases-have_one_cause
decreases-have_one_cause l = length l.some.now
