use Rattle.std.proofs.Common.{length}
use Rattle.fitting_run.proofs.fitting.+are_among_first.Given as goal

abbrev pub decreases-are_among_first : goal.decreases-are_among_first
decreases-are_among_first l = length l.some.now
