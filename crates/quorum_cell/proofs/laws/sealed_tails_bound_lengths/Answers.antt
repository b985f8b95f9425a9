use Rattle.quorum_cell.specs.Cells.{start}
use Rattle.quorum_cell.specs.Steps.{run_cell}
use Rattle.quorum_cell.proofs.Runs.{quorum_law as law}
use Rattle.quorum_cell.proofs.Conclusions.{tails_bound}
use Rattle.quorum_cell.proofs.laws.sealed_tails_bound_lengths.Goals as goal

pub returns : goal.returns
returns c = λ n room limit steps some. tails_bound (run_cell steps (start n room limit)) (law n room limit steps some)
