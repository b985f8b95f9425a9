use Rattle.fitting_run.proofs.Counted.{stores-counted}
use Rattle.fitting_run.proofs.faulting.stores_are_counted.Goals as goal

pub returns : goal.returns
returns c = rw c.all_stores_suffice.ensures (stores-counted c.args.told.now c.args.disks.now)
