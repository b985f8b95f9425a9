use Rattle.std.proofs.Common.{refl}
use Rattle.fitting_run.proofs.Turning.{none-counted, no-more}
use Rattle.fitting_run.proofs.acting.numbers_of.Goals as goal

pub loop-act-init : goal.loop-act-init
loop-act-init c = (none-counted 64, refl, no-more 64)
