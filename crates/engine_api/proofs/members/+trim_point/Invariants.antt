use Rattle.std.proofs.Common.{length}
use Rattle.engine_api.proofs.members.+trim_point.Given as goal

abbrev pub decreases-trim_point : goal.decreases-trim_point
decreases-trim_point l = length l.placed.now
