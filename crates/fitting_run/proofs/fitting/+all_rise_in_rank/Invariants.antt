use Rattle.std.proofs.Common.{length}
use Rattle.fitting_run.proofs.fitting.+all_rise_in_rank.Given as goal

abbrev pub decreases-all_rise_in_rank : goal.decreases-all_rise_in_rank
decreases-all_rise_in_rank l = length l.rest.now
