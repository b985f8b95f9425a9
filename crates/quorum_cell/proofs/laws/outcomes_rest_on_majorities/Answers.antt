use Rattle.quorum_cell.specs.Cells.{start}
use Rattle.quorum_cell.specs.Steps.{run_cell}
use Rattle.quorum_cell.proofs.Runs.{quorum_law as law}
use Rattle.quorum_cell.proofs.Grounds.{outcome_rests}
use Rattle.quorum_cell.proofs.laws.outcomes_rest_on_majorities.Goals as goal

pub returns : goal.returns
returns c = λ n room limit steps some. outcome_rests (run_cell steps (start n room limit)) (law n room limit steps some)
