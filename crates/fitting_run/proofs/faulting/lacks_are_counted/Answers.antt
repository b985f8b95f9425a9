use Rattle.std.proofs.Common.{map}
use Rattle.fitting_run.specs.Cells.{cell_of}
use Rattle.fitting_run.proofs.Counted.{lacks-counted}
use Rattle.fitting_run.proofs.faulting.lacks_are_counted.Goals as goal

pub returns : goal.returns
returns c = rw c.all_lacks_suffice.ensures (lacks-counted c.args.told.now (map cell_of c.args.cells.now))
