use Rattle.quorum_cell.specs.Cells.{start}
use Rattle.quorum_cell.proofs.Seals.{cell_law_starts, cell_law_runs, cell_law_kept}
use Rattle.quorum_cell.proofs.Lawful.{step_lawful}
use Rattle.quorum_cell.proofs.laws.quorum_law.Goals as goal

pub returns-clause-every : goal.returns-clause-every
returns-clause-every c = λ n room limit steps some. cell_law_runs steps (start n room limit) (cell_law_starts n room limit some)

pub returns-clause-kept : goal.returns-clause-kept
returns-clause-kept c = cell_law_kept

pub returns-clause-lawful : goal.returns-clause-lawful
returns-clause-lawful c = step_lawful
