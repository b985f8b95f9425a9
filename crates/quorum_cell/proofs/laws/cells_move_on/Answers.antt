use Rattle.quorum_cell.proofs.Runs.{run_later}
use Rattle.quorum_cell.proofs.laws.cells_move_on.Goals as goal

pub returns : goal.returns
returns c = run_later
