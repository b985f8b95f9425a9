use Rattle.quorum_cell.specs.Cells.{start}
use Rattle.quorum_cell.specs.Steps.{run_cell}
use Rattle.quorum_cell.proofs.Seals.{cell_law_starts, cell_law_runs, shut_has_seal}
use Rattle.quorum_cell.proofs.laws.not_shut_without_a_seal.Goals as goal

pub returns : goal.returns
returns c = λ n room limit steps some. shut_has_seal (run_cell steps (start n room limit)) (cell_law_runs steps (start n room limit) (cell_law_starts n room limit some))
