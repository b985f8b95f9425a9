use Rattle.std.proofs.Common.{length}
use Rattle.fitting_run.proofs.fitting.+ranks_rise.Given as goal

abbrev pub decreases-ranks_rise : goal.decreases-ranks_rise
decreases-ranks_rise l = length l.acts.now
