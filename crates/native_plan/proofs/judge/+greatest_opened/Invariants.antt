use Rattle.std.proofs.Common.{length}
use Rattle.native_plan.proofs.judge.+greatest_opened.Given as goal

abbrev pub decreases-greatest_opened : goal.decreases-greatest_opened
decreases-greatest_opened l = length l.members.now
