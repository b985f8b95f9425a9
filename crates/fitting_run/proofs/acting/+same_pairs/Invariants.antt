use Rattle.std.proofs.Common.{length}
use Rattle.fitting_run.proofs.acting.+same_pairs.Given as goal

abbrev pub decreases-same_pairs : goal.decreases-same_pairs
decreases-same_pairs l = length l.some.now
