use Rattle.std.proofs.Common.{length}
use Rattle.fitting_run.proofs.asking.+all_are_asked.Given as goal

abbrev pub decreases-all_are_asked : goal.decreases-all_are_asked
decreases-all_are_asked l = length l.items.now
