use Rattle.std.proofs.Common.{length}
use Rattle.fitting_run.proofs.faulting.+left_by_disks.Given as goal

abbrev pub decreases-left_by_disks : goal.decreases-left_by_disks
decreases-left_by_disks l = length l.disks.now
