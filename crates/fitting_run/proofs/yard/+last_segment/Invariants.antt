use Rattle.std.proofs.Common.{length}
use Rattle.fitting_run.proofs.yard.+last_segment.Given as goal

abbrev pub decreases-last_segment : goal.decreases-last_segment
decreases-last_segment l = length l.segments.now
