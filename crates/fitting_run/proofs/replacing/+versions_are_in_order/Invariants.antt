use Rattle.std.proofs.Common.{length}
use Rattle.fitting_run.proofs.replacing.+versions_are_in_order.Given as goal

abbrev pub decreases-versions_are_in_order : goal.decreases-versions_are_in_order
decreases-versions_are_in_order l = length l.told.now
