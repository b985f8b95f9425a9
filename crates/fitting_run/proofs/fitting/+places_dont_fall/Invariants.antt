use Rattle.std.proofs.Common.{length}
use Rattle.fitting_run.proofs.fitting.+places_dont_fall.Given as goal

abbrev pub decreases-places_dont_fall : goal.decreases-places_dont_fall
decreases-places_dont_fall l = length l.told.now
