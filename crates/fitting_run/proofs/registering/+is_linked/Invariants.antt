use Rattle.std.proofs.Common.{length}
use Rattle.fitting_run.proofs.registering.+is_linked.Given as goal

abbrev pub decreases-is_linked : goal.decreases-is_linked
decreases-is_linked l = length l.segments.now
