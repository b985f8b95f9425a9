use Rattle.striped_cells.proofs.Striping.{striped_kind}
use Rattle.striped_cells.proofs.laws.striped_cells_are_loglets.Goals as goal

pub returns : goal.returns
returns g c = striped_kind g.C.AnyCell.ways
