use Rattle.std.proofs.Common.{length}
use Rattle.fitting_run.proofs.counting.+some_late_in_turn.Given as goal

abbrev pub decreases-some_late_in_turn : goal.decreases-some_late_in_turn
decreases-some_late_in_turn l = length l.told.now
