use Rattle.std.proofs.Common.{length}
use Rattle.batch_engine.proofs.+are_sound.Given as goal

abbrev pub decreases-are_sound : goal.decreases-are_sound
decreases-are_sound l = length l.items.now
