use Rattle.std.proofs.Common.{length}
use Rattle.fitting_run.proofs.acting.+all_show.Given as goal

abbrev pub decreases-all_show : goal.decreases-all_show
decreases-all_show l = length l.some.now
