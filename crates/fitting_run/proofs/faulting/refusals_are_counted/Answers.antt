use Rattle.std.proofs.Common.{map}
use Rattle.fitting_run.specs.Cells.{cell_of}
use Rattle.fitting_run.proofs.Counted.{refusals-counted}
use Rattle.fitting_run.proofs.faulting.refusals_are_counted.Goals as goal

pub returns : goal.returns
returns c = rw c.all_refusals_suffice.ensures (refusals-counted c.args.told.now (map cell_of c.args.cells.now))
