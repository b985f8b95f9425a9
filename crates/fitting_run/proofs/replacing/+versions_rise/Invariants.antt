use Rattle.std.proofs.Common.{length}
use Rattle.fitting_run.proofs.replacing.+versions_rise.Given as goal

abbrev pub decreases-versions_rise : goal.decreases-versions_rise
decreases-versions_rise l = length l.told.now
