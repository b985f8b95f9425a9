use Rattle.std.proofs.Common.{refl}
use Rattle.striped_cells.proofs.Starting.{fresh_lawful, fresh_shown}
use Rattle.striped_cells.proofs.laws.fresh_stripes_are_lawful.Goals as goal

pub returns : goal.returns
returns g c = λ m x h. (fresh_lawful g.C.AnyCell.ways x m h, fresh_shown g.C.AnyCell.ways x m h, refl)
