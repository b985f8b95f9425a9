use Rattle.std.proofs.Common.{length}
use Rattle.fitting_run.proofs.replacing.+shelf_stays_spent.Given as goal

abbrev pub decreases-shelf_stays_spent : goal.decreases-shelf_stays_spent
decreases-shelf_stays_spent l = length l.told.now
