use Rattle.std.proofs.Common.{length}
use Rattle.base_engine.proofs.outbox.+cause_of.Given as goal

abbrev pub decreases-cause_of : goal.decreases-cause_of
decreases-cause_of l = length l.given.now
