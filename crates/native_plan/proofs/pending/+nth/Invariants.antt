use Rattle.std.proofs.Common.{length}
use Rattle.native_plan.proofs.pending.+nth.Given as goal

abbrev pub decreases-nth : goal.decreases-nth
decreases-nth l = length l.members.now
