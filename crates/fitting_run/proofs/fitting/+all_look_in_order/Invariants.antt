use Rattle.std.proofs.Common.{length}
use Rattle.fitting_run.proofs.fitting.+all_look_in_order.Given as goal

abbrev pub decreases-all_look_in_order : goal.decreases-all_look_in_order
decreases-all_look_in_order l = length l.rest.now
