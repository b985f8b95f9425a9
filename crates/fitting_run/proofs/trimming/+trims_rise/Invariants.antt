use Rattle.std.proofs.Common.{length}
use Rattle.fitting_run.proofs.trimming.+trims_rise.Given as goal

abbrev pub decreases-trims_rise : goal.decreases-trims_rise
decreases-trims_rise l = length l.told.now
