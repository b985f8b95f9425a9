use Rattle.std.proofs.Common.{length}
use Rattle.native_plan.proofs.judge.+greatest_sealed.Given as goal

abbrev pub decreases-greatest_sealed : goal.decreases-greatest_sealed
decreases-greatest_sealed l = length l.members.now
