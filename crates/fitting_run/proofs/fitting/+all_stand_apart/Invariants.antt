use Rattle.std.proofs.Common.{length}
use Rattle.fitting_run.proofs.fitting.+all_stand_apart.Given as goal

abbrev pub decreases-all_stand_apart : goal.decreases-all_stand_apart
decreases-all_stand_apart l = length l.rest.now
