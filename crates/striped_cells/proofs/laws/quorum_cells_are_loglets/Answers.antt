use Rattle.striped_cells.proofs.Quorate.{quorum_kind}
use Rattle.striped_cells.proofs.laws.quorum_cells_are_loglets.Goals as goal

pub returns : goal.returns
returns c = quorum_kind
